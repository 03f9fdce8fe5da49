-- A live event goes, or one comes in: what a removal and a seated record do to the live events on a way and off it.
-- Assumes nothing.
use Prim.Native.Nat.{ℕ, zero, suc, ◌+◌, ◌*◌, ◌<◌}
use mathlib.Core.Bool.{Bool, true, false, true≢false}
use mathlib.Core.List.Memᴰ
use mathlib.Core.List.{List, [], ◌∷◌, ◌++◌, Memᴰ}
use mathlib.Core.Logic.{⊎_elim, ◌⊎◌, inl, inr}
use mathlib.Core.Path.{◌≡◌, refl, sym, ◌∙◌}
use native.Mathlib.Decide.{ℕ_discrete}
use native.Mathlib.Omega.{arith}
use lib.ListN.{length, get_or, set, length-set}
use lib.Seq.{get_or-set_same, get_or-set_other, set_out}
use borrow.Author.Tests.{ltb-true, ltb-false, lt-ltb}
use Rattle.record.specs.declared.Leaf.{Leaf}
use Rattle.record.specs.declared.Record.{Record}
use Rattle.record.specs.Standing.{dummy, is_dummy}
use Rattle.record.proofs.StandingLaws.{is-dummy, dummy-is}
use Rattle.path.specs.declared.sizes.Sizes.{Sizes}
use Rattle.way.specs.Evict.{seek}
use Rattle.clearing.specs.Removal.{found, removed}
use Rattle.pair.specs.PairWork.{seated}
use Rattle.tree.specs.Tree.{Tree}
use Rattle.good.proofs.OnceLaws.{Shares, Alone, Once, more, set-mem, once-set, dummy-shares}
use Rattle.good.proofs.FitLaws.{seek-passes, at_place}
use Rattle.good.proofs.PartsLaws.{Parts}

-- ---- one place of a list
module _ (v : Record) {x : Record} where
  -- what stood elsewhere stands there still
  pub set_keeps : (w : List Record) (k : ℕ) → Memᴰ x w → (x ≡ get_or w k dummy → ⊥) → Memᴰ x (set w k v)
  set_keeps [] k m n = m
  set_keeps (y ∷ w) zero m n = ⊎_elim (λ e. absurd (n e)) Memᴰ.tail (Memᴰ.cases_cons m)
  set_keeps (y ∷ w) (suc k) m n =
      ⊎_elim (λ e. Memᴰ.head e) (λ i. Memᴰ.tail (set_keeps w k i n)) (Memᴰ.cases_cons m)

pub set-in : (v : Record) (w : List Record) (k : ℕ) → k < length w → Memᴰ v (set w k v)
set-in v [] k l = absurd (omega arith)
set-in v (y ∷ w) zero l = Memᴰ.head refl
set-in v (y ∷ w) (suc k) l = Memᴰ.tail (set-in v w k (omega arith))

-- where no stamp stands twice, what is left shares its stamp with what went
pub set-others : {x : Record} (w : List Record) (k : ℕ) → k < length w → Once w → Memᴰ x (set w k dummy)
    → (x ≡ dummy) ⊎ (Memᴰ x w × (Shares (get_or w k dummy) x → ⊥))
set-others [] k l o m = absurd (omega arith)
set-others {x} (y ∷ w) zero l (more f o) m =
    ⊎_elim inl (λ i. inr (Memᴰ.tail i, λ s. f x i s)) (Memᴰ.cases_cons m)
set-others {x} (y ∷ w) (suc k) l (more f o) m =
    ⊎_elim
    (λ e. inr (
      Memᴰ.head e,
      λ s. f (get_or w k dummy) (at_place w k (omega arith))
          (record { one = rw e at s.two; two = s.one; stamp = rw e at (sym s.stamp) }),
    ))
    (λ i. ⊎_elim inl (λ r. inr (Memᴰ.tail r.0, r.1)) (set-others w k (omega arith) o i))
    (Memᴰ.cases_cons m)

-- ---- a live event goes: `live'` are the others
module _ (s : Sizes) (q : Leaf) (T : Tree) (live live' w : List Record) (P : Parts s q T live w) (k : ℕ) (here : k < length w)
    (real : is_dummy (get_or w k dummy) ≡ false)
    (out : (x : Record) → Memᴰ x live' → Memᴰ x live × (Shares (get_or w k dummy) x → ⊥))
    (stay : (x : Record) → Memᴰ x live → (Shares (get_or w k dummy) x → ⊥) → Memᴰ x live') where
  pub parts-cleared : Parts s q T live' (set w k dummy)
  parts-cleared =
      record {
        long = length-set w k dummy ∙ P.long;
        stands = λ x m. ⊎_elim inl (λ r. ⊎_elim inl (λ i. inr (stay x i r.1)) (P.stands x r.0)) (set-others w k here P.once m);
        fit = λ d i l n. elim (ℕ_discrete (s.r + s.z * d + i) k) [
          | yes e ↦ inl (rw e (get_or-set_same w k dummy dummy here))
          | no e ↦ rw (get_or-set_other w k (s.r + s.z * d + i) dummy dummy e) (P.fit d i l n)
        ];
        once = once-set dummy w k (λ y m n. dummy-shares n) P.once;
        rest = λ b t o x m. ⊎_elim inl
            (λ r. inr (stay x r.0 (P.across b t o _ x (at_place w k here) m), r.1)) (P.rest b t o x m);
        seated = λ x m.
            let r = out x m in
            ⊎_elim (λ i. inl (set_keeps dummy w k i (λ e. r.1 (record { one = real; two = rw e real; stamp = rw e refl })))) inr
            (P.seated x r.0);
        across = λ b t o x y i j n. ⊎_elim (λ e. dummy-shares (rw e at n)) (λ m. P.across b t o x y m j n) (set-mem dummy w k i);
      }

-- ---- one comes in, where the dummy stood in the root
module _ (s : Sizes) (q : Leaf) (T : Tree) (live w : List Record) (P : Parts s q T live w) (new : Record) (k : ℕ) (here : k < s.r)
    (void : get_or w k dummy ≡ dummy) (real : is_dummy new ≡ false) (others : (x : Record) → Memᴰ x live → is_dummy x ≡ false)
    (fresh : Alone new live) where
  room : k < length w
  room = omega (arith, P.long)

  alone : Alone new w
  alone y m n = ⊎_elim (λ e. true≢false (sym is-dummy ∙ (rw e at n.two))) (λ i. fresh y i n) (P.stands y m)

  pub parts-seated : Parts s q T (live ++ (new ∷ [])) (set w k new)
  parts-seated =
      record {
        long = length-set w k new ∙ P.long;
        stands = λ x m. ⊎_elim (λ e. inr (Memᴰ.append_right live (Memᴰ.head e)))
            (λ i. ⊎_elim inl (λ j. inr (Memᴰ.append_left (new ∷ []) j)) (P.stands x i)) (set-mem new w k m);
        fit = λ d i l n. rw (get_or-set_other w k (s.r + s.z * d + i) new dummy (omega arith)) (P.fit d i l n);
        once = once-set new w k alone P.once;
        rest = λ b t o x m. ⊎_elim inl (λ r. inr (Memᴰ.append_left (new ∷ []) r.0, r.1)) (P.rest b t o x m);
        seated = λ x m. ⊎_elim
            (λ i. ⊎_elim
            (λ j. inl (set_keeps new {x = x} w k j (λ e. true≢false (sym is-dummy ∙ (rw (e ∙ void) at (others x i)))))) inr (P.seated x i))
            (λ i. inl (Memᴰ.cast (Memᴰ.eq_of_singleton i) (set-in new w k room))) (Memᴰ.append_cases live m);
        across = λ b t o x y i j n. ⊎_elim
            (λ e. ⊎_elim (λ d. true≢false (sym is-dummy ∙ (rw d at n.two))) (λ r. fresh y r.0 (rw e at n)) (P.rest b t o y j))
            (λ m. P.across b t o x y m j n) (set-mem new w k i);
      }

-- ---- as the work does it
module _ (s : Sizes) (q : Leaf) (T : Tree) (live w : List Record) (P : Parts s q T live w) where
  -- "or answers Absent and removes nothing"
  pub parts-absent : (f : Record → Bool) → found f w ≡ false → Parts s q T live (removed f w)
  unfolding found removed
  parts-absent f e = rw (set_out w (seek f (length w) w) dummy (ltb-false _ _ e)) P

  module _ (f : Record → Bool) (there : found f w ≡ true) (live' : List Record) where
    pub parts-removed : is_dummy (get_or w (seek f (length w) w) dummy) ≡ false
        → ((x : Record) → Memᴰ x live' → Memᴰ x live × (Shares (get_or w (seek f (length w) w) dummy) x → ⊥))
        → ((x : Record) → Memᴰ x live → (Shares (get_or w (seek f (length w) w) dummy) x → ⊥) → Memᴰ x live')
        → Parts s q T live' (removed f w)
    unfolding found removed
    parts-removed real out stay = parts-cleared s q T live live' w P (seek f (length w) w) (ltb-true _ _ there) real out stay

  -- "puts the record .. into the lowest dummy slot of the root"
  pub parts-inserted : (new : Record) → seek is_dummy s.r w < s.r → is_dummy new ≡ false
      → ((x : Record) → Memᴰ x live → is_dummy x ≡ false) → Alone new live → Parts s q T (live ++ (new ∷ [])) (seated s.r new w)
  unfolding seated
  parts-inserted new l real others fresh =
      let void = dummy-is _ (seek-passes is_dummy s.r w (omega (arith, P.long)) l) in
      rw (lt-ltb _ _ l) (parts-seated s q T live w P new (seek is_dummy s.r w) l void real others fresh)
