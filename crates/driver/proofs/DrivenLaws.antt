-- The entrance against the calls by value: the kind first, then as the call itself. Assumes nothing.
use Prim.Native.Nat.{ℕ, zero, suc}
use mathlib.Core.Bool.{Bool, true, false}
use mathlib.Core.List.{List}
use mathlib.Core.Path.{◌≡◌, refl, sym, ap, ◌∙◌}
use lib.ListN.{length}
use Rattle.lists.specs.BucketList.{laid}
use Rattle.refusal.specs.Refusal.{Refusal, first_given, afterwards}
use Rattle.refusal.proofs.RefusalLaws.{left-done}
use Rattle.card.specs.declared.Card.{Card}
use Rattle.card.specs.declared.Done.{Done}
use Rattle.request.specs.declared.Request.{Request}
use Rattle.checks.specs.declared.Call.TheVariants.{Begin}
use Rattle.answers.specs.Answers.{number_of, values_of, no_values}
use Rattle.card.specs.Answers.{or_refused, Answered}
use Rattle.card.specs.Calls.{list_of, begin_table, begun, Begins, min_table, found_min}
use Rattle.card.specs.Finish.{finish_table, finished, words_for, Finishes}
use Rattle.image.specs.Image.{image_of}
use Rattle.image.specs.Reading.{card_in, odd_kind}
use Rattle.image.proofs.ImageLaws.{card-image, image-even}
use Rattle.held.specs.Held.{no_card, held_in}
use Rattle.held.proofs.HeldLaws.{none-called, none-finishes, held-odd, held-even}
use Rattle.std.specs.Prelude.{Result, ⊤}
use Rattle.refusal.specs.declared.Reason.{Reason}
use Rattle.refusal.specs.Reason.{refusal_in}
use Rattle.rack.specs.Promises.{Answers}
use Rattle.told.specs.Told.{Said, Answering, Called, Settled, Zeroed}
use Rattle.told.proofs.ToldLaws.{answering, answered, called, card-left}
use Rattle.driver.specs.Driven.{on_card, BeginsAt, FindsMin, FinishesAt, Racked, EqualsFirst}

-- ---- the kind comes first
module _ (ws : List ℕ) (table : Card → List Refusal) where
  odd-card : odd_kind ws ≡ true → on_card ws table ≡ 13
  unfolding first_given
  odd-card h = rw h

  even-card : odd_kind ws ≡ false → on_card ws table ≡ first_given (table (card_in ws))
  unfolding first_given
  even-card h = rw h

-- ---- a call on the card that is held
module _ (ws : List ℕ) (table : Card → List Refusal) (none : first_given (table no_card) ≡ 13) where
  -- the same refusal
  held_number : (b : Bool) → odd_kind ws ≡ b → first_given (table (held_in ws)) ≡ on_card ws table
  held_number true h = ap (λ (k : Card). first_given (table k)) (held-odd ws h) ∙ none ∙ sym (odd-card ws table h)
  held_number false h = ap (λ (k : Card). first_given (table k)) (held-even ws h) ∙ sym (even-card ws table h)

  -- what comes of a call that is done, and else stays
  module _ (done : Card → List ℕ) (before after : List ℕ) where
    lent-on :
        (b : Bool) → odd_kind ws ≡ b → after ≡ afterwards (first_given (table (held_in ws))) (done (held_in ws)) before
        → after ≡ afterwards (on_card ws table) (done (card_in ws)) before
    lent-on true h l =
        let e : first_given (table (held_in ws)) ≡ 13 = rw (held-odd ws h) none in
        let p = rw e at l in
        rw (odd-card ws table h) p
    lent-on false h l = rw (even-card ws table h, ← held-even ws h) l

    held-lent :
        (k : Card) → k ≡ held_in ws → after ≡ afterwards (first_given (table k)) (done k) before
        → after ≡ afterwards (on_card ws table) (done (card_in ws)) before
    held-lent k e l =
        lent-on (odd_kind ws) refl (rw e at l)

  module _
      (done : Card → Done) (d : Done) (n : ℕ) (told' : List ℕ) (k : Card) (e : k ≡ held_in ws)
      (a : Answered k (first_given (table k)) (done k) d)
    where
      pub held-said :
          Said (number_of d.answer) (values_of d.answer) n told' → Answering (on_card ws table) (done (card_in ws)).answer n told'
      held-said s =
          let g = answering k _ (done k) d n told' a s in
          let same : first_given (table k) ≡ on_card ws table = ap (λ (x : Card). first_given (table x)) e ∙ held_number (odd_kind ws) refl in
          record {
            number = g.number ∙ same;
            answer = held-lent (λ x. values_of (done x).answer) no_values told' k e g.answer;
          }

      pub held-called :
          (ws' : List ℕ) → Settled d ws n ws' told' → Called (on_card ws table) (done (card_in ws)) ws n ws' told'
      held-called ws' s =
          record {
            said = held-said s.said;
            card = held-lent (λ x. image_of (done x).card) ws ws' k e (called k _ (done k) d ws n ws' told' a s).card;
          }

-- ---- a begin
pub held-begin :
    (r : Request) (ws list : List ℕ) (k : Card) (d : Done) (n : ℕ) (ws' told' list' : List ℕ) → k ≡ held_in ws
    → Begins k r list list' d → Settled d ws n ws' told' → BeginsAt r ws list n ws' told' list'
held-begin r ws list k d n ws' told' list' e b s =
    let table : Card → List Refusal = λ x. begin_table x r (length list) in
    record {
      call = held-called ws table (none-called (Begin r (length list))) (λ x. begun x r) d n told' k e b.call ws' s;
      places = held-lent ws table (none-called (Begin r (length list))) (λ x. laid (list_of x r) list) list list' k e b.places;
    }

-- ---- a finish
pub held-finish :
    (ws fetched : List ℕ) (k : Card) (d : Done) (n : ℕ) (ws' told' after : List ℕ) → k ≡ held_in ws
    → Finishes k fetched after d → Settled d ws n ws' told' → FinishesAt ws fetched n ws' told' after
held-finish ws fetched k d n ws' told' after e f s =
    let table : Card → List Refusal = λ x. finish_table x fetched in
    record {
      call = held-called ws table (none-finishes fetched) (λ x. finished x fetched) d n told' k e f.call ws' s;
      words = held-lent ws table (none-finishes fetched) (λ x. words_for x x.waiting fetched) fetched after k e f.words;
    }

-- ---- a rack's call
pub racked :
    (refusal : ℕ) (due before : List ℕ) (a : Result ⊤ Reason) (n : ℕ) (told' after : List ℕ) → Answers refusal due before a after
    → Zeroed (refusal_in a) n told' → Racked refusal due before n told' after
racked refusal due before a n told' after p t = record { call = rw p.number at t; lent = p.lent }

-- ---- the entrance equals the first: on a card's image, a call leaves the number, the six values and the image of the card that
-- the call by value hands back, refused or not; and what is lent to it is as the call by value leaves it
module _ (k : Card) (table : Card → List Refusal) where
  image-number : on_card (image_of k) table ≡ first_given (table k)
  image-number = even-card (image_of k) table (image-even k) ∙ ap (λ (x : Card). first_given (table x)) (card-image k)

  module _ (done : Card → Done) (d : Done) (n : ℕ) (a : Answered k (first_given (table k)) (done k) d) where
    image_said :
        (told' : List ℕ) → Answering (on_card (image_of k) table) (done (card_in (image_of k))).answer n told'
        → Said (number_of d.answer) (values_of d.answer) n told'
    image_said told' s = answered k _ (done k) d n told' a (rw (image-number, card-image k) at s)

    pub image-called :
        (held' told' : List ℕ) → Called (on_card (image_of k) table) (done (card_in (image_of k))) (image_of k) n held' told'
        → EqualsFirst d n held' told'
    image-called held' told' c =
        let f : held' ≡ afterwards (first_given (table k)) (image_of (done k).card) (image_of k) = rw (image-number, card-image k) at c.card in
        record { said = image_said told' c.said; card = f ∙ card-left k (first_given (table k)) (done k) d a.whole }

unchanged : (k : Card) (number : ℕ) (d : Done) → d ≡ or_refused k number (found_min k) → d.card ≡ k
unfolding or_refused
unchanged k zero d e = ap (λ (x : Done). x.card) e
unchanged k (suc number) d e = ap (λ (x : Done). x.card) e

-- FindMin: the words that were lent to be read are the image of the card that the call by value hands back
pub image-finds :
    (k : Card) (d : Done) (n : ℕ) (told' : List ℕ) → Answered k (first_given (min_table k)) (found_min k) d
    → FindsMin (image_of k) n told' → EqualsFirst d n (image_of k) told'
image-finds k d n told' a s =
    record {
      said = image_said k min_table found_min d n a told' s;
      card = sym (ap image_of (unchanged k (first_given (min_table k)) d a.whole));
    }

pub image-begins :
    (k : Card) (r : Request) (list after : List ℕ) (d : Done) (n : ℕ) (held' told' list' : List ℕ) → Begins k r list after d
    → BeginsAt r (image_of k) list n held' told' list' → EqualsFirst d n held' told' × (list' ≡ after)
image-begins k r list after d n held' told' list' b c =
    let table : Card → List Refusal = λ x. begin_table x r (length list) in
    let p : list' ≡ afterwards (first_given (table k)) (laid (list_of k r) list) list = rw (image-number k table, card-image k) at c.places in
    (image-called k table (λ x. begun x r) d n b.call held' told' c.call, p ∙ sym b.places)

pub image-finishes :
    (k : Card) (fetched after : List ℕ) (d : Done) (n : ℕ) (held' told' words' : List ℕ) → Finishes k fetched after d
    → FinishesAt (image_of k) fetched n held' told' words' → EqualsFirst d n held' told' × (words' ≡ after)
image-finishes k fetched after d n held' told' words' f c =
    let table : Card → List Refusal = λ x. finish_table x fetched in
    let p : words' ≡ afterwards (first_given (table k)) (words_for k k.waiting fetched) fetched = rw (image-number k table, card-image k) at c.words in
    (image-called k table (λ x. finished x fetched) d n f.call held' told' c.call, p ∙ sym f.words)

-- a start is given no card: where it is refused the lent words stay, and where it is not they are those of the card that the call by
-- value makes
pub start-called :
    (k : Card) (number : ℕ) (done d : Done) (held : List ℕ) (n : ℕ) (held' told' : List ℕ) → Answered k number done d
    → Called number done held n held' told' → n ≡ 0 → EqualsFirst d n held' told'
start-called k number done d held n held' told' a c e =
    let z : number ≡ 0 = sym c.said.number ∙ e in
    let made = sym (left-done number _ (image_of k) z) ∙ card-left k number done d a.whole in
    record { said = answered k number done d n told' a c.said; card = c.card ∙ left-done number _ held z ∙ made }
