-- Lines cut out of bytes as they come are the lines of the whole input, however the bytes are parted into chunks: a chunk after
-- another ends the lines that both end together, and in the end these are the lines of the input. `Keeps` says what the buffer
-- holds of the line begun. Assumes nothing.
use Prim.Native.Nat.{ℕ, zero, suc, ◌≤◌, ◌<◌}
use mathlib.Core.Bool.{true, false, cond, true≢false}
use mathlib.Core.List.{List, [], ◌∷◌, ◌++◌, append_assoc, append-nil}
use mathlib.Core.Path.{◌≡◌, refl, sym, ap, ◌∙◌}
use native.Mathlib.Omega.{arith}
use lib.Dec.{ltb, eqb}
use lib.ListN.{length, take, drop, length-take}
use lib.Seq.{take_all, take-nil, take_at, drop-drop}
use borrow.Author.Tests.{ltb-true, ltb-false, lt-ltb, eqb-true}
use Rattle.frames.specs.declared.Taken.{Taken}
use Rattle.fields.specs.Pieces.{before}
use Rattle.lines.specs.Says.{lines_of, line_says}
use Rattle.frames.specs.Framing.{ended_in, begun_by, last_of, has_end, taken_of, kept_of, Takes}
use Rattle.fields.proofs.PiecesLaws.{before_head}
use Rattle.lines.proofs.LinesLaws.{Free, free-head, no_line, lines-ended, last_line}
use Rattle.lines.proofs.SaysLaws.{over-long}
use Rattle.frames.proofs.TakeLaws.{takes-within, takes-room}

-- ---- bytes with no line end
pub free-before : (bs : List ℕ) → Free (before 10 bs)
unfolding before
free-before [] = refl
free-before (b ∷ bs) = (elim (eqb b 10) as (λ t. eqb b 10 ≡ t → before 10 (cond t [] (b ∷ before 10 bs)) ≡ cond t [] (b ∷ before 10 bs)) [
  | true ↦ λ e. refl
  | false ↦ λ e. rw (e, free-before bs)
]) refl

free-append : (xs bs : List ℕ) → Free xs → Free bs → Free (xs ++ bs)
unfolding before
free-append [] bs f g = g
free-append (a ∷ xs) bs f g =
    let h = free-head a xs f in
    rw (h.other, free-append xs bs h.rest g)

lines-open : (xs : List ℕ) → Free xs → lines_of xs ≡ last_of xs
lines-open [] f = no_line
lines-open (a ∷ xs) f = last_line a xs f

-- ---- bytes with a line end, or without
pub unended : (bs : List ℕ) → has_end bs ≡ false → before 10 bs ≡ bs
unended bs e =
    let all : length bs ≤ length (before 10 bs) = ltb-false _ _ e in
    sym (before_head 10 bs) ∙ take_all (length (before 10 bs)) bs all

pub ended : (bs : List ℕ) → has_end bs ≡ true → bs ≡ before 10 bs ++ 10 ∷ drop (suc (length (before 10 bs))) bs
unfolding before
ended [] = λ e. absurd (true≢false (sym e))
ended (b ∷ bs) = (elim (eqb b 10) as (λ t. eqb b 10 ≡ t → ltb (length (cond t [] (b ∷ before 10 bs))) (suc (length bs)) ≡ true → b ∷ bs ≡ cond t [] (b ∷ before 10 bs) ++ 10 ∷ drop (suc (length (cond t [] (b ∷ before 10 bs)))) (b ∷ bs)) [
  | true ↦ λ e h. rw (eqb-true b 10 e)
  | false ↦ λ e h.
      let inner : has_end bs ≡ true = lt-ltb (length (before 10 bs)) (length bs) (omega (arith, ltb-true (suc (length (before 10 bs))) (suc (length bs)) h)) in
      ap (λ (l : List ℕ). b ∷ l) (ended bs inner)
]) refl

-- ---- the lines that end in some bytes
-- a chunk behind another
pub ended-joined :
    (begun xs ys : List ℕ) → ended_in begun (xs ++ ys) ≡ ended_in begun xs ++ ended_in (begun_by begun xs) ys
unfolding ended_in begun_by
ended-joined begun [] ys = refl
ended-joined begun (x ∷ xs) ys = (elim (eqb x 10) as (λ t. cond t (begun ∷ ended_in [] (xs ++ ys)) (ended_in (begun ++ x ∷ []) (xs ++ ys)) ≡ cond t (begun ∷ ended_in [] xs) (ended_in (begun ++ x ∷ []) xs) ++ ended_in (cond t (begun_by [] xs) (begun_by (begun ++ x ∷ []) xs)) ys) [
  | true ↦ ap (λ (l : List (List ℕ)). begun ∷ l) (ended-joined [] xs ys)
  | false ↦ ended-joined (begun ++ x ∷ []) xs ys
])

pub begun-joined : (begun xs ys : List ℕ) → begun_by begun (xs ++ ys) ≡ begun_by (begun_by begun xs) ys
unfolding begun_by
begun-joined begun [] ys = refl
begun-joined begun (x ∷ xs) ys = (elim (eqb x 10) as (λ t. cond t (begun_by [] (xs ++ ys)) (begun_by (begun ++ x ∷ []) (xs ++ ys)) ≡ begun_by (cond t (begun_by [] xs) (begun_by (begun ++ x ∷ []) xs)) ys) [
  | true ↦ begun-joined [] xs ys
  | false ↦ begun-joined (begun ++ x ∷ []) xs ys
])

-- the whole input
lines-heard : (begun bs : List ℕ) → Free begun → lines_of (begun ++ bs) ≡ ended_in begun bs ++ last_of (begun_by begun bs)
unfolding ended_in begun_by before
lines-heard begun [] f = rw (append-nil, lines-open begun f)
lines-heard begun (b ∷ bs) f = (elim (eqb b 10) as (λ t. eqb b 10 ≡ t → lines_of (begun ++ b ∷ bs) ≡ cond t (begun ∷ ended_in [] bs) (ended_in (begun ++ b ∷ []) bs) ++ last_of (cond t (begun_by [] bs) (begun_by (begun ++ b ∷ []) bs))) [
  | true ↦ λ e.
      rw (eqb-true b 10 e)
      (lines-ended begun bs f ∙ ap (λ (l : List (List ℕ)). begun ∷ l) (lines-heard [] bs refl))
  | false ↦ λ e.
      ap lines_of (sym (append_assoc begun (b ∷ []) bs))
      ∙ lines-heard (begun ++ b ∷ []) bs (free-append begun (b ∷ []) f (rw e))
]) refl

pub input-heard : (input : List ℕ) → lines_of input ≡ ended_in [] input ++ last_of (begun_by [] input)
unfolding before
input-heard input = lines-heard [] input refl

-- up to the first line end
pub ended-first : (begun xs ys : List ℕ) → Free xs → ended_in begun (xs ++ 10 ∷ ys) ≡ (begun ++ xs) ∷ ended_in [] ys
unfolding ended_in
ended-first begun [] ys f = rw append-nil
ended-first begun (x ∷ xs) ys f =
    let h = free-head x xs f in
    rw h.other (ended-first (begun ++ x ∷ []) xs ys h.rest ∙ rw append_assoc)

pub begun_first : (begun xs ys : List ℕ) → Free xs → begun_by begun (xs ++ 10 ∷ ys) ≡ begun_by [] ys
unfolding begun_by
begun_first begun [] ys f = refl
begun_first begun (x ∷ xs) ys f =
    let h = free-head x xs f in
    rw h.other (begun_first (begun ++ x ∷ []) xs ys h.rest)

pub ended-none : (begun xs : List ℕ) → Free xs → ended_in begun xs ≡ []
unfolding ended_in
ended-none begun [] f = refl
ended-none begun (x ∷ xs) f =
    let h = free-head x xs f in
    rw h.other (ended-none (begun ++ x ∷ []) xs h.rest)

pub begun-none : (begun xs : List ℕ) → Free xs → begun_by begun xs ≡ begun ++ xs
unfolding begun_by
begun-none begun [] f = sym (append-nil begun)
begun-none begun (x ∷ xs) f =
    let h = free-head x xs f in
    rw h.other (begun-none (begun ++ x ∷ []) xs h.rest ∙ append_assoc begun (x ∷ []) xs)

-- what a call of `take_line` does
module _
    (begun chunk : List ℕ) (from : ℕ) (buffer after : List ℕ) (held : ℕ) (r : Taken)
    (t : Takes buffer held chunk from r after)
  where
    module _ (e : r.ended ≡ true) where
      pub has : has_end (drop from chunk) ≡ true
      has = sym t.ended ∙ e

      pub past : drop r.next chunk ≡ drop (suc (length (before 10 (drop from chunk)))) (drop from chunk)
      past =
          let n : taken_of (drop from chunk) ≡ suc (length (before 10 (drop from chunk))) = rw has (omega arith) in
          rw (t.next, n) (sym (drop-drop (suc (length (before 10 (drop from chunk)))) from chunk))

      pub line-ended :
          ended_in begun (drop from chunk)
          ≡ (begun ++ before 10 (drop from chunk)) ∷ ended_in [] (drop r.next chunk)
      line-ended =
          ap (ended_in begun) (ended (drop from chunk) has)
          ∙ ended-first begun (before 10 (drop from chunk)) _ (free-before (drop from chunk))
          ∙ rw past

      pub line-gone : begun_by begun (drop from chunk) ≡ begun_by [] (drop r.next chunk)
      line-gone =
          ap (begun_by begun) (ended (drop from chunk) has)
          ∙ begun_first begun (before 10 (drop from chunk)) _ (free-before (drop from chunk))
          ∙ rw past

    module _ (e : r.ended ≡ false) where
      pub all-open : before 10 (drop from chunk) ≡ drop from chunk
      all-open = unended (drop from chunk) (sym t.ended ∙ e)

      pub none-ended : ended_in begun (drop from chunk) ≡ []
      none-ended = ended-none begun (drop from chunk) all-open

      pub line-goes-on : begun_by begun (drop from chunk) ≡ begun ++ before 10 (drop from chunk)
      line-goes-on = begun-none begun (drop from chunk) all-open ∙ rw all-open

-- ---- what the buffer holds of the line begun
pub record Keeps (buffer : List ℕ) (held : ℕ) (begun : List ℕ) : Type 0 where
  pub within : held ≤ length buffer
  pub head : take held buffer ≡ take (length buffer) begun

pub keeps-nothing : (buffer : List ℕ) → Keeps buffer 0 []
keeps-nothing buffer = record { within = omega arith; head = sym (take-nil (length buffer)) }

-- of a line that is too long, its head says the same
pub cut-says : (n : ℕ) (line : List ℕ) → 128 < n → line_says (take n line) ≡ line_says line
cut-says n line m = (elim (ltb n (length line)) as (λ t. ltb n (length line) ≡ t → line_says (take n line) ≡ line_says line) [
  | true ↦ λ e.
      let long = ltb-true n (length line) e in
      sym (over-long (take n line) (omega (arith, length-take n line))) ∙ over-long line (omega arith)
  | false ↦ λ e. rw (take_all n line (ltb-false n (length line) e))
]) refl

pub take_twice : (n : ℕ) (xs ys : List ℕ) → take n (take n xs ++ ys) ≡ take n (xs ++ ys)
take_twice zero xs ys = refl
take_twice (suc n) [] ys = refl
take_twice (suc n) (x ∷ xs) ys = ap (λ (l : List ℕ). x ∷ l) (take_twice n xs ys)

module _ (buffer : List ℕ) (held : ℕ) (begun : List ℕ) (k : Keeps buffer held begun) where
  -- after a call of `take_line`
  pub keeps-more :
      (chunk : List ℕ) (from : ℕ) (r : Taken) (after : List ℕ) → Takes buffer held chunk from r after
      → Keeps after r.held (begun ++ before 10 (drop from chunk))
  keeps-more chunk from r after t =
      let bs = drop from chunk in
      let kept = kept_of (length buffer) (take held buffer) bs in
      let size = takes-room buffer held chunk from r after t in
      record {
        within = omega (arith, size, takes-within buffer held chunk from r after t);
        head =
            rw (t.lent, take_at kept (drop r.held buffer) r.held (sym t.held), ← t.lent, size, k.head)
            (take_twice (length buffer) begun (before 10 bs));
      }

  -- with room for one byte more than a line may have, what is held says what the line says
  pub keeps-says : 128 < length buffer → line_says (take held buffer) ≡ line_says begun
  keeps-says l = rw k.head (cut-says (length buffer) begun l)

  -- at the end of the input: a last line stands there exactly if some of it is held
  pub keeps-none : 0 < length buffer → held ≡ 0 → last_of begun ≡ []
  keeps-none l e = none begun (rw e at k.head)
    where
      none : (line : List ℕ) → take 0 buffer ≡ take (length buffer) line → last_of line ≡ []
      none [] h = refl
      none (b ∷ line) h = absurd (some (length buffer) l h)
        where
          some : (n : ℕ) → 0 < n → [] ≡ take n (b ∷ line) → ⊥
          some zero m h = omega arith
          some (suc n) m h =
              let no : ◌≡◌ {A = ℕ} 0 1 = cc in
              omega arith

  pub keeps-some : 0 < held → last_of begun ≡ begun ∷ []
  keeps-some l = some begun k.head
    where
      some : (line : List ℕ) → take held buffer ≡ take (length buffer) line → last_of line ≡ line ∷ []
      some [] h =
          let e = ap length (h ∙ take-nil (length buffer)) in
          absurd (omega (arith, e, length-take held buffer, k.within))
      some (b ∷ line) h = refl
