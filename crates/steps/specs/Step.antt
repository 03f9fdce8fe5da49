-- What the desk does with a line: document 01, "What the desk sees". Assumes nothing.
use Rattle.std.specs.Prelude.{ℕ, min, Bool, cond, ◌||◌, Option, Some, None, List, ◌++◌, ◌≡◌, ltb, length, take, drop}
use Rattle.path.specs.declared.sizes.Sizes.{Sizes}
use Rattle.path.specs.Sizes.{sizes_of, tree_in, in_range}
use Rattle.path.specs.Layout.{tree_words, fresh_tree}
use Rattle.refusal.specs.Refusal.{first_given}
use Rattle.card.specs.declared.Card.{Card}
use Rattle.request.specs.declared.Request.{Request}
use Rattle.answers.specs.declared.Answer.{Answer}
use Rattle.answers.specs.declared.Answer.TheVariants.{Refused}
use Rattle.card.specs.declared.Done.{Done}
use Rattle.card.specs.Answers.{or_refused}
use Rattle.card.specs.Calls.{started, min_table, found_min}
use Rattle.lines.specs.declared.Line.{Line}
use Rattle.lines.specs.declared.Line.TheVariants.{Unreadable, Size, Min, Ask}
use Rattle.rounds.specs.Round.{round_done, round_tree}
use Rattle.steps.specs.declared.Turn.{Turn}

-- the desk between two lines: its card, or none until a `size` is accepted
abbrev pub Desk : Type 0
Desk = Option Card

-- the desk behind a line, and its reply
abbrev pub turn_of : Desk → Option Answer → Turn
turn_of desk reply = record { desk = desk; reply = reply }

-- ---- the reply: an answer, or none, which prints `?`
-- "prints `?` and changes nothing"
abbrev pub unread : Desk → Turn
unread desk = record { desk = desk; reply = None }

-- an answer that leaves the desk as it was
abbrev pub kept : Desk → Answer → Turn
kept desk answer = record { desk = desk; reply = Some answer }

-- an answer, and the card that came of it
abbrev pub tells : Done → Turn
tells d = kept (Some d.card) d.answer

-- ---- the tree at the head of the lent words
-- "The tree has exactly 4(Z+1)(2N-2) words"; none for sizes out of range
unfoldable pub tree_words_used : ℕ → ℕ → ℕ
tree_words_used h z = cond (tree_in h z) (tree_words h z) 0

abbrev pub used_of : ℕ → ℕ → ℕ → ℕ
used_of h z lent = min (tree_words_used h z) lent

abbrev pub tree_most : ℕ
tree_most = 8192

-- "a `size` within its ranges whose tree is over 8,192 words", or over what is lent
abbrev pub too_large : ℕ → Sizes → Bool
too_large lent s = ltb tree_most (tree_words_used s.h s.z) || ltb lent (tree_words_used s.h s.z)

-- ---- what a line leaves: the desk with its reply, and every lent word
pub record LineLeft : Type 0 where
  pub turn : Turn
  pub tree : List ℕ

module _ (desk : Desk) (tree : List ℕ) where
  abbrev pub nothing : LineLeft
  nothing = record { turn = unread desk; tree = tree }

  abbrev pub fresh : Sizes → LineLeft
  fresh s =
      record { turn = tells (started s); tree = fresh_tree s.h s.z ++ drop (tree_words_used s.h s.z) tree }

  -- "`size h Z R T` starts afresh"; one that is refused leaves the heap that was
  unfoldable pub sized_to : Sizes → LineLeft
  sized_to s =
      cond (in_range s) (cond (too_large (length tree) s) nothing (fresh s))
      (record { turn = kept desk (Refused 1); tree = tree })

-- a request played on the card and on its tree
module _ (k : Card) (tree : List ℕ) where
  abbrev pub head : List ℕ
  head = take (used_of k.sizes.h k.sizes.z (length tree)) tree

  abbrev pub rest : List ℕ
  rest = drop (used_of k.sizes.h k.sizes.z (length tree)) tree

  abbrev pub played : Request → LineLeft
  played r =
      record { turn = tells (round_done k r head); tree = round_tree k r head ++ rest }

-- "one other than `size` before any accepted `size` .. prints `?`"
unfoldable pub asked_for : Desk → List ℕ → Request → LineLeft
asked_for None tree r = nothing None tree
asked_for (Some k) tree r = played k tree r

-- FindMin: no bucket is fetched
abbrev pub min_done : Card → Done
min_done k = or_refused k (first_given (min_table k)) (found_min k)

unfoldable pub min_of : Desk → Turn
min_of None = unread None
min_of (Some k) = tells (min_done k)

unfoldable pub step_of : Desk → Line → List ℕ → LineLeft
step_of desk Unreadable tree = nothing desk tree
step_of desk (Size h z r t) tree = sized_to desk tree (sizes_of h z r t)
step_of desk Min tree = record { turn = min_of desk; tree = tree }
step_of desk (Ask r) tree = asked_for desk tree r

-- the promise of a step
pub record Steps (desk : Desk) (line : Line) (tree after : List ℕ) (turn : Turn) : Type 0 where
  pub said : turn ≡ (step_of desk line tree).turn
  pub lent : after ≡ (step_of desk line tree).tree
