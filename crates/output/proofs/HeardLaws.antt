-- What a call of `take_line` adds to the lines heard in a chunk: the one that ended, or some bytes of an open one. Assumes nothing.
use Prim.Native.Nat.{ℕ, suc, ◌+◌, ◌≤◌}
use mathlib.Core.Bool.{true, false}
use mathlib.Core.List.{List, [], ◌∷◌, ◌++◌, append-nil}
use mathlib.Core.Path.{◌≡◌, sym, ap, ◌∙◌}
use native.Mathlib.Omega.{arith}
use lib.ListN.{length, take, drop, length-drop, drop_of_length-le}
use lib.Seq.{take-add, take_all, take-append-add}
use Rattle.fields.specs.Pieces.{before}
use Rattle.frames.specs.declared.Taken.{Taken}
use Rattle.frames.specs.Framing.{ended_in, begun_by, has_end, Takes, taken_of}
use Rattle.frames.proofs.FramingLaws.{free-before, ended, has, all-open, ended-joined, begun-joined, ended-first, begun_first, ended-none, begun-none}

module _
    (begun chunk : List ℕ) (from : ℕ) (buffer after : List ℕ) (held : ℕ) (r : Taken)
    (t : Takes buffer held chunk from r after)
  where
    head : take r.next chunk ≡ take from chunk ++ take (taken_of (drop from chunk)) (drop from chunk)
    head = ap (λ (n : ℕ). take n chunk) t.next ∙ take-add from (taken_of (drop from chunk)) chunk

    module _ (e : r.ended ≡ true) where
      ended-head : take r.next chunk ≡ take from chunk ++ (before 10 (drop from chunk) ++ 10 ∷ [])
      ended-head =
          let bs = drop from chunk in
          let h = has begun chunk from buffer after held r t e in
          let n : taken_of bs ≡ length (before 10 bs) + 1 = rw h in
          head
          ∙ ap (λ (l : List ℕ). take from chunk ++ l)
          (ap (λ (k : ℕ). take k bs) n
          ∙ ap (take (length (before 10 bs) + 1)) (ended bs h)
          ∙ take-append-add (before 10 bs) (10 ∷ drop (suc (length (before 10 bs))) bs) 1)

      pub heard-more :
          ended_in begun (take r.next chunk)
          ≡ ended_in begun (take from chunk) ++ (begun_by begun (take from chunk) ++ before 10 (drop from chunk)) ∷ []
      unfolding ended_in
      heard-more =
          ap (ended_in begun) ended-head
          ∙ ended-joined begun (take from chunk) _
          ∙ ap (λ (l : List (List ℕ)). ended_in begun (take from chunk) ++ l)
          (ended-first (begun_by begun (take from chunk)) (before 10 (drop from chunk)) [] (free-before (drop from chunk)))

      pub begun-anew : begun_by begun (take r.next chunk) ≡ []
      unfolding begun_by
      begun-anew =
          ap (begun_by begun) ended-head
          ∙ begun-joined begun (take from chunk) _
          ∙ begun_first (begun_by begun (take from chunk)) (before 10 (drop from chunk)) [] (free-before (drop from chunk))

    module _ (e : r.ended ≡ false) where
      abbrev whole : before 10 (drop from chunk) ≡ drop from chunk
      whole = all-open begun chunk from buffer after held r t e

      open-head : take r.next chunk ≡ take from chunk ++ before 10 (drop from chunk)
      open-head =
          let bs = drop from chunk in
          let h : has_end bs ≡ false = sym t.ended ∙ e in
          let n : length bs ≤ taken_of bs = rw whole (omega arith) in
          head ∙ ap (λ (l : List ℕ). take from chunk ++ l) (take_all (taken_of bs) bs n ∙ sym whole)

      pub heard-same : ended_in begun (take r.next chunk) ≡ ended_in begun (take from chunk)
      heard-same =
          ap (ended_in begun) open-head
          ∙ ended-joined begun (take from chunk) _
          ∙ ap (λ (l : List (List ℕ)). ended_in begun (take from chunk) ++ l)
          (ended-none (begun_by begun (take from chunk)) (before 10 (drop from chunk)) (free-before (drop from chunk)))
          ∙ append-nil (ended_in begun (take from chunk))

      pub begun_more : begun_by begun (take r.next chunk) ≡ begun_by begun (take from chunk) ++ before 10 (drop from chunk)
      begun_more =
          ap (begun_by begun) open-head
          ∙ begun-joined begun (take from chunk) _
          ∙ begun-none (begun_by begun (take from chunk)) (before 10 (drop from chunk)) (free-before (drop from chunk))

      pub none_left : drop r.next chunk ≡ []
      none_left =
          let bs = drop from chunk in
          let n : length bs ≤ taken_of bs = rw whole (omega arith) in
          drop_of_length-le chunk {i = r.next} (omega (arith, t.next, length-drop from chunk))
