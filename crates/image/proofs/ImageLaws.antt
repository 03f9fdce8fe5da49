-- A card's words against the card that words stand for: what is written is read back, and words that are read and written
-- again stay, but for the fields that no one looks at. Assumes nothing.
use Prim.Native.Nat.{ℕ, ◌+◌, ◌*◌, ◌-◌, ◌≤◌}
use mathlib.Core.Bool.{false}
use mathlib.Core.List.{List, [], ◌∷◌, ◌++◌, append_assoc, append-nil}
use mathlib.Core.Path.{◌≡◌, refl, ap, ◌∙◌}
use native.Mathlib.Omega.{arith}
use lib.ListN.{length, get_or, take, drop, length-append, length-drop, drop_of_length-le}
use lib.Seq.{take_at, take_all, drop-cons}
use borrow.Rule.Slice.PartMut.{mid_of, put_mid, mid_len, Post-is}
use Rattle.std.specs.Prelude.{Option, None, Some}
use Rattle.record.specs.declared.Record.{Record}
use Rattle.record.specs.Standing.{dummy}
use Rattle.record.specs.Words.{record_at, written, records, words_of}
use Rattle.record.proofs.WordsLaws.{words_append, words-length, words-records, records-words, records-length, records-drop, records-at}
use Rattle.path.specs.declared.sizes.Sizes.{Sizes}
use Rattle.gather.specs.Laid.{laid_over}
use Rattle.gather.proofs.LaidLaws.{laid-length, laid_more, written-laid}
use Rattle.parts.specs.declared.Parts.{Parts}
use Rattle.card.specs.declared.Card.{Card}
use Rattle.request.specs.declared.Request.{Request}
use Rattle.request.specs.declared.Request.TheVariants.{Insert, Extract, Delete}
use Rattle.card.specs.Tables.{parts_of, card_of}
use Rattle.kinds.specs.Kinds.{request_words, waiting_of}
use Rattle.kinds.proofs.KindLaws.{request-length, even-request}
use Rattle.image.specs.Image.{card_words, head_of, image_of}
use Rattle.image.specs.Reading.{waiting_in, card_in, odd_kind}

head-length : (s : Sizes) (t c : ℕ) (w : Option Request) → length (head_of s t c w) ≡ 12
head-length s t c w = omega (arith, request-length w)

-- ---- written piece by piece: the head as three records, the least record, the root in the part behind them
module _ (k : Card) (full : length k.root ≡ 64) where
  abbrev head : List ℕ
  head = head_of k.sizes k.t k.c k.waiting

  pub image-length : length (image_of k) ≡ card_words
  unfolding image_of
  image-length =
      rw (length-append, words-length) (omega (arith, head-length k.sizes k.t k.c k.waiting))

  module _ (ws : List ℕ) (room : length ws ≡ card_words) where
    abbrev front : List Record
    front = records head ++ k.least ∷ []

    head-count : length (records head) ≡ 3
    head-count = records-length head 3 (head-length k.sizes k.t k.c k.waiting)

    front-count : length front ≡ 4
    front-count = rw length-append (omega (arith, head-count))

    front-words : words_of front ≡ head ++ words_of (k.least ∷ [])
    front-words = rw (words_append, words-records head 3 (head-length k.sizes k.t k.c k.waiting))

    front-laid : laid_over ws 0 front ≡ words_of front ++ drop 16 ws
    unfolding laid_over
    front-laid = rw front-count

    -- the words once head and least record stand there
    module _ (w : List ℕ) (e : w ≡ written (laid_over ws 0 (take 3 (drop 0 (records head)))) 3 k.least) where
      front-written : w ≡ laid_over ws 0 front
      front-written =
          let n = laid-length ws 0 (records head) (omega (arith, head-count)) in
          let m = laid_more ws 0 (records head) (omega (arith, head-count)) (k.least ∷ []) in
          let fits : 4 * 3 + 4 ≤ length (laid_over ws 0 (records head)) = omega arith in
          e ∙ rw (take_all 3 (records head) (omega (arith, head-count)), written-laid (laid_over ws 0 (records head)) 3 k.least fits) (rw head-count at m)

      whole : length w ≡ card_words
      whole = ap length front-written ∙ laid-length ws 0 front (omega (arith, front-count)) ∙ room

      pub image-written :
          (part : List ℕ) → part ≡ laid_over (mid_of 16 256 w) 0 (take 64 k.root)
          → put_mid 16 256 w part ≡ image_of k
      unfolding image_of laid_over words_of
      image-written part f =
          let n = mid_len 16 272 w (omega (arith, whole)) in
          let none = drop_of_length-le (mid_of 16 256 w) {i = 4 * (0 + length k.root)} (omega (arith, whole)) in
          let past : drop 256 (drop 16 w) ≡ [] = Post-is 16 272 w (omega (arith, whole)) ∙ drop_of_length-le w {i = 272} (omega (arith, whole)) in
          let size : length (words_of front) ≡ 16 = words-length front ∙ omega (arith, front-count) in
          let before : take 16 w ≡ words_of front = rw (front-written, front-laid, take_at _ _ 16 size) in
          let behind : part ≡ words_of k.root = f ∙ rw (take_all 64 k.root (omega arith), none, append-nil) in
          rw (before, behind, past, append-nil, front-words, append_assoc)

-- ---- read back
-- the root's places, as many as the words behind the least record hold
pub root-read :
    (ws : List ℕ) (none : List Record) → length ws ≡ card_words → length none ≡ 64
    → take 64 (records (mid_of 16 256 ws)) ++ drop 64 none ≡ records (drop 16 ws)
root-read ws none room few =
    let n = records-length (drop 16 ws) 64 (length-drop 16 ws ∙ omega arith) in
    let behind : mid_of 16 256 ws ≡ drop 16 ws = take_all 256 (drop 16 ws) (omega (arith, length-drop 16 ws)) in
    rw (behind, take_all 64 (records (drop 16 ws)) (omega arith), drop_of_length-le none {i = 64} (omega arith), append-nil)

parts-read : (p : Parts) (root : List Record) (w : Option Request) → card_in (image_of (card_of p root w)) ≡ card_of p root w
unfolding card_in image_of request_words words_of waiting_of
parts-read p root None = ap (λ (l : List Record). card_of p l None) (records-words root)
parts-read p root (Some (Insert key value label first second)) = ap (λ (l : List Record). card_of p l (Some (Insert key value label first second))) (records-words root)
parts-read p root (Some Extract) = ap (λ (l : List Record). card_of p l (Some Extract)) (records-words root)
parts-read p root (Some (Delete label stamp)) = ap (λ (l : List Record). card_of p l (Some (Delete label stamp))) (records-words root)

-- what was written is read back, whatever the card holds
pub card-image : (k : Card) → card_in (image_of k) ≡ k
card-image k = parts-read (parts_of k) k.root k.waiting

-- its kind is one of the four
pub image-even : (k : Card) → odd_kind (image_of k) ≡ false
unfolding image_of
image-even k = even-request k.waiting _

-- ---- read and written again
front-six : (ws : List ℕ) → 6 ≤ length ws
    → take 6 ws ≡ get_or ws 0 0 ∷ get_or ws 1 0 ∷ get_or ws 2 0 ∷ get_or ws 3 0 ∷ get_or ws 4 0 ∷ get_or ws 5 0 ∷ []
front-six (a ∷ b ∷ c ∷ d ∷ e ∷ f ∷ ws) h = refl
front-six [] h = absurd (omega arith)
front-six (a ∷ []) h = absurd (omega arith)
front-six (a ∷ b ∷ []) h = absurd (omega arith)
front-six (a ∷ b ∷ c ∷ []) h = absurd (omega arith)
front-six (a ∷ b ∷ c ∷ d ∷ []) h = absurd (omega arith)
front-six (a ∷ b ∷ c ∷ d ∷ e ∷ []) h = absurd (omega arith)

records-kept : (ws : List ℕ) → length ws ≡ card_words → words_of (record_at ws 3 ∷ records (drop 16 ws)) ≡ drop 12 ws
records-kept ws room =
    let n = records-length ws 68 (omega arith) in
    let first = records-at ws 3 dummy (omega arith) in
    let split : records (drop 12 ws) ≡ record_at ws 3 ∷ records (drop 16 ws) = records-drop ws 3 ∙ rw (drop-cons (records ws) 3 dummy (omega arith), first, ← records-drop ws 4) in
    rw (← split) (words-records (drop 12 ws) 65 (length-drop 12 ws ∙ omega arith))

-- words that are read and written again stay, but for the six of the request, where a field that no one looks at is 0
pub image-kept : (ws : List ℕ) → length ws ≡ card_words
    → image_of (card_in ws) ≡ take 6 ws ++ request_words (waiting_in ws) ++ drop 12 ws
unfolding image_of card_in
image-kept ws room = rw (front-six ws (omega arith), ← records-kept ws room)
