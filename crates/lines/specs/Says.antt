-- What a line says: document 01, "What the desk sees". Assumes nothing.
use Rattle.std.specs.Prelude.{ℕ, cond, ◌&&◌, List, [], ◌∷◌, map, eqb, leb, length, get_or}
use Rattle.record.specs.declared.Leaf.{Leaf}
use Rattle.record.specs.declared.Stamp.{Stamp}
use Rattle.request.specs.declared.Request.TheVariants.{Insert, Extract, Delete}
use Rattle.decimal.specs.Digits.{value}
use Rattle.fields.specs.Pieces.{pieces, fields_of, same_bytes}
use Rattle.fields.specs.Behind.{all_numbers}
use Rattle.lines.specs.declared.Line.{Line}
use Rattle.lines.specs.declared.Line.TheVariants.{Unreadable, Size, Min, Ask}

-- the lines of an input: "A line ends at byte 10", "the last line may lack its line end"; what stands behind the last byte 10 is a line
-- only if it is not empty
abbrev pub lines_of : List ℕ → List (List ℕ)
lines_of = pieces 10 []

-- "A line it can't read, one over 128 bytes"
abbrev pub line_most : ℕ
line_most = 128

-- a kind of line: its word, how many numbers follow, and what it says with these
pub record Kind : Type 0 where
  pub word : List ℕ
  pub count : ℕ
  pub says : List ℕ → Line

abbrev pub at : List ℕ → ℕ → ℕ
at numbers i = get_or numbers i 0

abbrev pub leaf_at : List ℕ → ℕ → Leaf
leaf_at numbers i = record { 0 = at numbers i }

abbrev pub stamp_at : List ℕ → ℕ → Stamp
stamp_at numbers i = record { 0 = at numbers i }

-- "`size h Z R T` starts afresh"
abbrev pub size_kind : Kind
size_kind = record {
  word = 115 ∷ 105 ∷ 122 ∷ 101 ∷ [];
  count = 4;
  says = λ n. Size (at n 0) (at n 1) (at n 2) (at n 3);
}

-- "`insert key value label leaf leaf`"
abbrev pub insert_kind : Kind
insert_kind = record {
  word = 105 ∷ 110 ∷ 115 ∷ 101 ∷ 114 ∷ 116 ∷ [];
  count = 5;
  says = λ n. Ask (Insert (at n 0) (at n 1) (leaf_at n 2) (leaf_at n 3) (leaf_at n 4));
}

-- "`min`"
abbrev pub min_kind : Kind
min_kind = record { word = 109 ∷ 105 ∷ 110 ∷ []; count = 0; says = λ n. Min }

-- "`extract`"
abbrev pub extract_kind : Kind
extract_kind = record { word = 101 ∷ 120 ∷ 116 ∷ 114 ∷ 97 ∷ 99 ∷ 116 ∷ []; count = 0; says = λ n. Ask Extract }

-- "`delete label stamp`"
abbrev pub delete_kind : Kind
delete_kind = record {
  word = 100 ∷ 101 ∷ 108 ∷ 101 ∷ 116 ∷ 101 ∷ [];
  count = 2;
  says = λ n. Ask (Delete (leaf_at n 0) (stamp_at n 1));
}

abbrev pub kinds : List Kind
kinds = size_kind ∷ insert_kind ∷ min_kind ∷ extract_kind ∷ delete_kind ∷ []

-- the fields behind the word are numbers, and just as many as the word asks for
unfoldable pub said_of : Kind → List (List ℕ) → Line
said_of k fields = cond (eqb (length fields) k.count && all_numbers fields) (k.says (map value fields)) Unreadable

unfoldable pub said_by : List Kind → List ℕ → List (List ℕ) → Line
said_by [] word fields = Unreadable
said_by (k ∷ ks) word fields = cond (same_bytes word k.word) (said_of k fields) (said_by ks word fields)

abbrev pub fields_say : List (List ℕ) → Line
fields_say [] = Unreadable
fields_say (word ∷ fields) = said_by kinds word fields

-- "A line it can't read, one over 128 bytes .. prints `?`"
unfoldable pub line_says : List ℕ → Line
line_says line = cond (leb (length line) line_most) (fields_say (fields_of line)) Unreadable
