-- Line after line, from a desk that has accepted no `size`. Assumes nothing.
use Prim.Native.Nat.{ℕ, ◌<◌, ◌^◌}
use mathlib.Core.Bool.{Bool, true, false, cond, ◌&&◌, and-eq-true_iff}
use mathlib.Core.List.{List, [], ◌∷◌, map}
use mathlib.Core.Option.{Option, none}
use mathlib.Core.Path.{◌≡◌, refl}
use native.Mathlib.Omega.{arith}
use lib.Dec.{eqb, leb}
use lib.ListN.{length}
use Rattle.std.specs.Prelude.{None}
use Rattle.decimal.specs.Digits.{value}
use Rattle.decimal.specs.Field.{is_number}
use Rattle.decimal.proofs.DecimalLaws.{number-plain}
use Rattle.demands.specs.Queue.{Queue}
use Rattle.lines.specs.declared.Line.{Line}
use Rattle.lines.specs.declared.Line.TheVariants.{Unreadable}
use Rattle.fields.specs.Pieces.{same_bytes, fields_of}
use Rattle.lines.specs.Says.{lines_of}
use Rattle.lines.specs.Says.{Kind, said_of, said_by, fields_say, line_most, line_says, at, size_kind, insert_kind, min_kind, extract_kind, delete_kind}
use Rattle.fields.specs.Behind.{all_numbers}
use Rattle.steps.specs.Step.{Desk}
use Rattle.steady.specs.Steady.{Keeps, SitsBeside, ended, turned}
use Rattle.steady.proofs.LineLaws.{WordLine, one_line}

-- ---- "numbers are plain decimal below 2^64": so is an Insert's key
first_word : (fields : List (List ℕ)) → all_numbers fields ≡ true → at (map value fields) 0 < 2 ^ 64
unfolding all_numbers
first_word [] e = omega arith
first_word (f ∷ fs) e = (number-plain f ((and-eq-true_iff (is_number f) (all_numbers fs)).0 e).0).small

either-word : (b : Bool) (x y : Line) → WordLine x → WordLine y → WordLine (cond b x y)
either-word true x y p q = p
either-word false x y p q = q

said-word : (k : Kind) (fields : List (List ℕ)) → ((ns : List ℕ) → at ns 0 < 2 ^ 64 → WordLine (k.says ns)) → WordLine (said_of k fields)
unfolding said_of
said-word k fields w = said (eqb (length fields) k.count && all_numbers fields) refl
  where
    said : (b : Bool) → (eqb (length fields) k.count && all_numbers fields) ≡ b → WordLine (cond b (k.says (map value fields)) Unreadable)
    said true e = w (map value fields) (first_word fields ((and-eq-true_iff (eqb (length fields) k.count) _).0 e).1)
    said false e = tt

fields-word : (fields : List (List ℕ)) → WordLine (fields_say fields)
unfolding said_by
fields-word [] = tt
fields-word (word ∷ fields) =
    either-word (same_bytes word size_kind.word) _ _ (said-word size_kind fields (λ ns l. tt))
    (either-word (same_bytes word insert_kind.word) _ _ (said-word insert_kind fields (λ ns l. omega arith))
    (either-word (same_bytes word min_kind.word) _ _ (said-word min_kind fields (λ ns l. tt))
    (either-word (same_bytes word extract_kind.word) _ _ (said-word extract_kind fields (λ ns l. tt))
    (either-word (same_bytes word delete_kind.word) _ _ (said-word delete_kind fields (λ ns l. tt)) tt))))

line_word : (line : List ℕ) → WordLine (line_says line)
unfolding line_says
line_word line = either-word (leb (length line) line_most) (fields_say (fields_of line)) Unreadable (fields-word (fields_of line)) tt

-- ---- line after line
follow : (lines : List (List ℕ)) (desk : Desk) (tree : List ℕ) (q : Option Queue) → Keeps desk tree q → SitsBeside desk tree q (map line_says lines)
follow [] desk tree q k = ended k
follow (line ∷ lines) desk tree q k =
    let p = one_line desk tree q k (line_says line) (line_word line) in
    turned k p.turns (follow lines _ _ p.held p.keeps)

-- Whatever bytes come in: a desk with no size yet, and any words lent.
pub steady : (desk : Desk) (tree input : List ℕ) → desk ≡ None → SitsBeside desk tree none (map line_says (lines_of input))
steady desk tree input e = follow (lines_of input) desk tree none e
