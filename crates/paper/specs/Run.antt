-- Lines played one after another, and what is looked at behind each: document 01, "Input, then whole output". Assumes nothing.
use Rattle.std.specs.Prelude.{ℕ, Some, None, List, [], ◌∷◌, ◌++◌, replicate, drop}
use Rattle.path.specs.Path.{bucket}
use Rattle.path.specs.Layout.{record_words}
use Rattle.lists.specs.BucketList.{counts, numbers}
use Rattle.copies.specs.Copy.{bucket_part}
use Rattle.request.specs.declared.Request.{Request}
use Rattle.card.specs.Calls.{list_of}
use Rattle.lines.specs.Says.{line_says}
use Rattle.steps.specs.Step.{Desk, LineLeft, nothing, step_of}
use Rattle.replies.specs.Reply.{bytes_of}
use Rattle.output.specs.Output.{shut}

-- a line in bytes, without its end, and what it prints; then something that is looked at after it, and what that shows
pub record Row : Type 0 where
  pub line : List ℕ
  pub prints : List ℕ
  pub look : LineLeft → List ℕ
  pub shows : List ℕ

-- the desk before the first line, with 8,192 words lent
abbrev pub started_desk : LineLeft
started_desk = nothing shut (replicate 8192 0)

abbrev pub next_of : LineLeft → Row → LineLeft
next_of l r = step_of l.turn.desk (line_says r.line) l.tree

-- what is given, row by row, and what the paper states
unfoldable pub given : LineLeft → List Row → List (List ℕ)
given l [] = []
given l (r ∷ rs) = bytes_of (next_of l r).turn.reply ∷ r.look (next_of l r) ∷ given (next_of l r) rs

unfoldable pub stated : List Row → List (List ℕ)
stated [] = []
stated (r ∷ rs) = r.prints ∷ r.shows ∷ stated rs

-- ---- whole bytes: "Input, then whole output"
-- each line with its end
unfoldable pub input_of : List Row → List ℕ
input_of [] = []
input_of (r ∷ rs) = r.line ++ 10 ∷ input_of rs

unfoldable pub prints_of : List Row → List ℕ
prints_of [] = []
prints_of (r ∷ rs) = r.prints ++ prints_of rs

-- ---- what may be looked at
abbrev pub none : LineLeft → List ℕ
none l = []

-- the words of a bucket's slots, Z being 1
abbrev pub slots_of_bucket : ℕ → LineLeft → List ℕ
slots_of_bucket n l = drop record_words (bucket_part 1 l.tree (bucket n))

-- those of one bucket, then those of another
abbrev pub slots_of_both : ℕ → ℕ → LineLeft → List ℕ
slots_of_both m n l = slots_of_bucket m l ++ slots_of_bucket n l

-- how many buckets a request asks for whole and how many for least records, and their numbers; nothing on a desk with no card
abbrev pub asked_by : Desk → Request → List ℕ
asked_by None w = []
asked_by (Some k) w =
    (counts (list_of k w)).whole
    ∷ (counts (list_of k w)).least
    ∷ numbers (list_of k w)

abbrev pub asks_for : Request → LineLeft → List ℕ
asks_for w l = asked_by l.turn.desk w
