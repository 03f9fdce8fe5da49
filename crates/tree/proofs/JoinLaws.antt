-- A way level by level: its records are those of its levels, and a list as long as a way is the join of its levels.
-- Assumes nothing.
use Prim.Native.Nat.{ℕ, zero, suc, ◌+◌, ◌*◌, ◌-◌, ◌≤◌}
use mathlib.Core.List.Memᴰ
use mathlib.Core.List.{List, [], ◌++◌, append_assoc, append-nil, Memᴰ}
use mathlib.Core.Logic.{⊎_elim}
use mathlib.Core.Path.{◌≡◌, sym, ◌∙◌}
use native.Mathlib.Decide.{dec_le}
use native.Mathlib.Nat.{mul-suc}
use native.Mathlib.Omega.{arith}
use lib.ListN.{length, take, length-append}
use lib.Seq.{take-add, take_all, take_at, drop_at}
use Rattle.record.specs.declared.Record.{Record}
use Rattle.least.specs.Least.{slots_at}
use Rattle.tree.specs.Tree.{joined}

-- ---- records of a way
module _ (f : ℕ → List Record) {x : Record} where
  pub level-joined : (d h : ℕ) → d ≤ h → Memᴰ x (f d) → Memᴰ x (joined f h)
  unfolding joined
  level-joined d zero l m = let e : d ≡ 0 = omega arith in rw e at m
  level-joined d (suc h) l m = elim (dec_le d h) [
    | yes k ↦ Memᴰ.append_left (f (suc h)) (level-joined d h k m)
    | no k ↦ let e : d ≡ suc h = omega arith in Memᴰ.append_right (joined f h) (rw e at m)
  ]

  pub joined-level : (h : ℕ) → Memᴰ x (joined f h) → (d : ℕ) × (d ≤ h) × Memᴰ x (f d)
  unfolding joined
  joined-level zero m = (0, omega arith, m)
  joined-level (suc h) m =
      ⊎_elim (λ i. let r = joined-level h i in (r.0, omega (arith, r.1), r.2)) (λ i. (suc h, omega arith, i))
      (Memᴰ.append_cases (joined f h) m)

pub joined_same : (f g : ℕ → List Record) (h : ℕ) → ((d : ℕ) → d ≤ h → f d ≡ g d) → joined f h ≡ joined g h
unfolding joined
joined_same f g zero same = same 0 (omega arith)
joined_same f g (suc h) same = rw (joined_same f g h (λ d l. same d (omega arith)), same (suc h) (omega arith))

-- ---- levels of r slots, then z at each
-- the slots of a way at each level, the root's at level 0
unfoldable pub level_of : ℕ → ℕ → List Record → ℕ → List Record
level_of r z w zero = take r w
level_of r z w (suc d) = slots_at r z w (suc d)

pub record Sized (r z h : ℕ) (f : ℕ → List Record) : Type 0 where
  pub root : length (f 0) ≡ r
  pub below : (d : ℕ) → 1 ≤ d → d ≤ h → length (f d) ≡ z

pub joined_length : (r z h : ℕ) (f : ℕ → List Record) → Sized r z h f → (d : ℕ) → d ≤ h → length (joined f d) ≡ r + z * d
unfolding joined
joined_length r z h f n zero l = n.root ∙ omega arith
joined_length r z h f n (suc d) l =
    rw (length-append, joined_length r z h f n d (omega arith), n.below (suc d) (omega arith) l, mul-suc) (omega arith)

-- some levels, the next one, and the rest
joined-splits : (f : ℕ → List Record) (d k : ℕ) → (more : List Record) × (joined f (suc (d + k)) ≡ joined f d ++ (f (suc d) ++ more))
unfolding joined
joined-splits f d zero = let e : d + 0 ≡ d = omega arith in ([], rw (e, append-nil))
joined-splits f d (suc k) =
    let e : d + suc k ≡ suc (d + k) = omega arith in
    let r = joined-splits f d k in
    (r.0 ++ f (suc (suc (d + k))), rw (e, r.1, append_assoc, append_assoc))

joined-root : (f : ℕ → List Record) (h : ℕ) → (more : List Record) × (joined f h ≡ f 0 ++ more)
unfolding joined
joined-root f zero = ([], sym (append-nil (f 0)))
joined-root f (suc h) = let r = joined-root f h in (r.0 ++ f (suc h), rw (r.1, append_assoc))

pub joined-levels : (r z h : ℕ) (f : ℕ → List Record) → Sized r z h f → (d : ℕ) → d ≤ h → level_of r z (joined f h) d ≡ f d
unfolding level_of slots_at
joined-levels r z h f n zero l = let s = joined-root f h in rw (s.1, take_at (f 0) _ r n.root)
joined-levels r z h f n (suc d) l =
    let e : h ≡ suc (d + (h - suc d)) = omega arith in
    let s = joined-splits f d (h - suc d) in
    let b : suc d - 1 ≡ d = omega arith in
    rw (
      e,
      s.1,
      b,
      drop_at (joined f d) _ (r + z * d) (joined_length r z h f n d (omega arith)),
      take_at (f (suc d)) _ z
          (n.below (suc d) (omega arith) l),
    )

-- ---- any list as long as a way
module _ (r z : ℕ) (w : List Record) where
  first-levels : (d : ℕ) → joined (level_of r z w) d ≡ take (r + z * d) w
  unfolding joined level_of slots_at
  first-levels zero = let e : r + z * 0 ≡ r = omega arith in rw e
  first-levels (suc d) =
      let b : suc d - 1 ≡ d = omega arith in
      let e : r + z * suc d ≡ r + z * d + z = omega (arith, mul-suc z d) in
      rw (first-levels d, b, e, take-add (r + z * d) z w)

  pub levels-joined : (h : ℕ) → length w ≡ r + z * h → joined (level_of r z w) h ≡ w
  levels-joined h n = first-levels h ∙ take_all (r + z * h) w (omega arith)
