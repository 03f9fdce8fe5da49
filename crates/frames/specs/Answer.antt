-- A line of an answer: document 01, "Otherwise: 0 for size; 0, label, stamp, words for insert; ..". Assumes nothing.
use Rattle.std.specs.Prelude.{ℕ, List, [], ◌∷◌, ◌++◌}
use Rattle.decimal.specs.Digits.{decimal}

-- behind the last number stands the line's end, behind any other a space
abbrev pub mark_of : List ℕ → ℕ
mark_of [] = 10
mark_of (n ∷ ns) = 32

-- the numbers in plain decimal, parted by one space, and the line's end; no numbers are no line
unfoldable pub answer_line : List ℕ → List ℕ
answer_line [] = []
answer_line (n ∷ ns) = decimal n ++ mark_of ns ∷ answer_line ns

-- what is printed for a line that says nothing: "prints `?`"
abbrev pub unreadable_line : List ℕ
unreadable_line = 63 ∷ 10 ∷ []
