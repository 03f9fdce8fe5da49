-- Dummies written record by record: where the loop begins, what a turn does, and what it comes to. Assumes nothing.
use Prim.Native.Nat.{ℕ, ◌+◌, ◌*◌, ◌≤◌}
use mathlib.Core.List.{List, [], ◌∷◌, ◌++◌, append-nil}
use mathlib.Core.Path.{◌≡◌, refl, ap, ◌∙◌}
use native.Mathlib.Omega.{arith}
use lib.ListN.{length, drop, replicate, length-replicate, length-drop, drop_of_length-le, replicate-append-replicate}
use lib.Seq.{drop-drop}
use Rattle.record.specs.Standing.{dummy}
use Rattle.record.specs.Words.{words_of, written}
use Rattle.record.proofs.WordsLaws.{length-written, written_next, words-one, words_append, words-length}

-- the first i places of `old` hold the dummy
pub record Filling (old now : List ℕ) (i : ℕ) : Type 0 where
  pub room : length now ≡ length old
  pub done : now ≡ words_of (replicate i dummy) ++ drop (4 * i) old

pub filling-starts : (old : List ℕ) → Filling old old 0
unfolding words_of
filling-starts old = record { room = refl; done = refl }

dummies-length : (i : ℕ) → length (words_of (replicate i dummy)) ≡ 4 * i
dummies-length i = words-length (replicate i dummy) ∙ ap (λ (n : ℕ). 4 * n) (length-replicate i dummy)

dummies-next : (i : ℕ) → words_of (replicate (i + 1) dummy) ≡ words_of (replicate i dummy) ++ words_of (dummy ∷ [])
dummies-next i = rw (← replicate-append-replicate i 1 dummy, words_append)

pub filling-turns :
    (old now : List ℕ) (i : ℕ) → Filling old now i → 4 * i + 4 ≤ length old → Filling old (written now i dummy) (i + 1)
filling-turns old now i f l =
    let rest : 4 ≤ length (drop (4 * i) old) = rw length-drop (omega arith) in
    let next : 4 * (i + 1) ≡ 4 * i + 4 = omega arith in
    record {
      room = length-written now i dummy ∙ f.room;
      done =
          rw (
            f.done,
            written_next (words_of (replicate i dummy)) (drop (4 * i) old) i dummy (dummies-length i) rest,
            drop-drop 4 (4 * i) old,
            dummies-next i,
            words-one,
            next,
          );
    }

pub filling-ends :
    (old now : List ℕ) (i : ℕ) → Filling old now i → length old ≤ 4 * i → now ≡ words_of (replicate i dummy)
filling-ends old now i f l = f.done ∙ rw (drop_of_length-le old {i = 4 * i} l, append-nil)
