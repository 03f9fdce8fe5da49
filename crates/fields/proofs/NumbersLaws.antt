-- The numbers of a line, gathered field by field. Assumes nothing.
use Prim.Native.Nat.{ℕ, suc, ◌+◌, ◌≤◌, ◌<◌}
use mathlib.Core.Bool.{Bool, true, false, cond, ◌&&◌, and-false, and-eq-true_iff as both}
use mathlib.Core.List.{List, [], ◌∷◌, ◌++◌, map, append_assoc}
use mathlib.Core.Path.{◌≡◌, refl, sym, ap, ◌∙◌}
use native.Mathlib.Omega.{arith}
use native.Mathlib.Numerals.{add-one}
use lib.Dec.{eqb}
use lib.ListN.{length, get_or, take, drop, set, take-append-drop, drop_of_length-le}
use lib.Seq.{drop-cons, take-suc-set, drop-set-lt}
use borrow.Author.Tests.{eq-eqb, ne_eqb, eqb-true}
use Rattle.std.specs.Prelude.{Some, None}
use Rattle.std.specs.Bool.{then_some}
use Rattle.decimal.specs.Digits.{value}
use Rattle.decimal.specs.Field.{is_number, reads}
use Rattle.decimal.proofs.FieldLaws.{read_number, read_none}
use Rattle.fields.specs.Behind.{all_numbers, spelled, numbered, Numbered}

-- of these fields the first k are numbers, which stand in the first k places; `rest` are those not looked at
pub record Gathering (fields rest : List (List ℕ)) (old : List ℕ) (k : ℕ) (out : List ℕ) : Type 0 where
  pub counted : length fields ≡ k + length rest
  pub passed : all_numbers fields ≡ all_numbers rest
  pub values : spelled fields old ≡ take k out ++ spelled rest (drop k out)

pub gathering-starts : (fields : List (List ℕ)) (old : List ℕ) → Gathering fields fields old 0 old
gathering-starts fields old = record { counted = omega arith; passed = refl; values = refl }

module _ (fields : List (List ℕ)) (old : List ℕ) (k : ℕ) (out : List ℕ) where
  -- where the rest writes nothing, what stands there is all
  stopped :
      (rest : List (List ℕ)) → Gathering fields rest old k out → spelled rest (drop k out) ≡ drop k out → out ≡ spelled fields old
  stopped rest g e =
      sym (g.values ∙ ap (λ (l : List ℕ). take k out ++ l) e ∙ take-append-drop k out)

  module _ (field : List ℕ) (rest : List (List ℕ)) (g : Gathering fields (field ∷ rest) old k out) (l : k < length out) where
    -- the next place
    next : drop k out ≡ get_or out k 0 ∷ drop (suc k) out
    next = drop-cons out k 0 l

    next-written : is_number field ≡ true → spelled (field ∷ rest) (drop k out) ≡ value field ∷ spelled rest (drop (suc k) out)
    unfolding spelled
    next-written is = rw (next, is)

    pub gathering-turns : (n : ℕ) → reads field ≡ Some n → Gathering fields rest old (k + 1) (set out k n)
    unfolding all_numbers
    gathering-turns n r =
        let (is, v) = read_number field n r in
        record {
          counted = omega (arith, g.counted);
          passed = g.passed ∙ rw is;
          values =
              g.values
              ∙ rw (add-one, take-suc-set out k n l, drop-set-lt (suc k) out k n (omega arith), append_assoc, next-written is, v);
        }

    pub no_number : reads field ≡ None → Numbered fields old false out
    unfolding all_numbers spelled
    no_number r =
        record {
          told = sym (rw (g.passed, read_none field r, and-false));
          these = stopped (field ∷ rest) g (rw (next, read_none field r));
        }

  module _ (size : length out ≡ length old) where
    pub too_few : Gathering fields [] old k out → k < length out → Numbered fields old false out
    unfolding spelled
    too_few g l =
        record {
          told = rw (ne_eqb (length fields) (length old) (λ e. omega (arith, g.counted, size)));
          these = stopped [] g refl;
        }

    pub too_many : (field : List ℕ) (rest : List (List ℕ)) → Gathering fields (field ∷ rest) old k out → length out ≤ k → Numbered fields old false out
    unfolding spelled
    too_many field rest g l =
        record {
          told = rw (ne_eqb (length fields) (length old) (λ e. omega (arith, g.counted, size)));
          these = stopped (field ∷ rest) g (rw (drop_of_length-le out {i = k} l));
        }

    pub just-these : Gathering fields [] old k out → k ≡ length out → Numbered fields old true out
    unfolding all_numbers spelled
    just-these g e =
        record {
          told = rw (eq-eqb (length fields) (length old) (omega (arith, g.counted, size)), g.passed);
          these = stopped [] g refl;
        }

-- ---- just as many numbers as places: these stand there
filled :
    (fields : List (List ℕ)) (places : List ℕ) → length fields ≡ length places → all_numbers fields ≡ true
    → spelled fields places ≡ map value fields
unfolding all_numbers spelled
filled [] [] l a = refl
filled [] (p ∷ ps) l a = absurd (omega arith)
filled (f ∷ fs) [] l a = absurd (omega arith)
filled (f ∷ fs) (p ∷ ps) l a =
    let (is, more) = (both (is_number f) (all_numbers fs)).0 a in
    rw (is, filled fs ps (omega arith) more)

pub all-written :
    (fields : List (List ℕ)) (places : List ℕ) → (eqb (length fields) (length places) && all_numbers fields) ≡ true
    → spelled fields places ≡ map value fields
all-written fields places e =
    let (l, a) = (both (eqb (length fields) (length places)) (all_numbers fields)).0 e in
    filled fields places (eqb-true (length fields) (length places) l) a

-- what is read into places is all of so many numbers, or of no account
module _ (fields : List (List ℕ)) (places : List ℕ) where
  all-or-none :
      (t : Bool) → (eqb (length fields) (length places) && all_numbers fields) ≡ t
      → then_some t (spelled fields places) ≡ cond t (Some (map value fields)) None
  all-or-none true e = ap Some (all-written fields places e)
  all-or-none false e = refl

  pub numbered-read :
      (answer : Bool) (after : List ℕ) → Numbered fields places answer after → then_some answer after ≡ numbered (length places) fields
  unfolding numbered
  numbered-read answer after p = rw (p.told, p.these) (all-or-none _ refl)
