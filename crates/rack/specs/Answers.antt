-- When the rack refuses: document 01, "Refusal numbers". Assumes nothing.
use Rattle.std.specs.Prelude.{ℕ, ◌+◌, ◌*◌, ◌-◌, Bool, false, not, ◌||◌, List, [], ◌∷◌, ltb, eqb, length, take}
use Rattle.path.specs.Sizes.{between, leaves_of, tree_in}
use Rattle.path.specs.Layout.{tree_words}
use Rattle.lists.specs.BucketList.{fetched_for}
use Rattle.refusal.specs.Refusal.{Refusal, row, first_given}

-- BadSize: "a size is outside its range". The rack is given h and Z.
abbrev pub bad_size : ℕ → ℕ → Bool
bad_size h z = not (tree_in h z)

-- ShortRoom: "a lent slice too short, or a tree of another length". `tree` and `words` are lengths.
abbrev pub other_tree : ℕ → ℕ → ℕ → Bool
other_tree h z tree = not (eqb tree (tree_words h z))

-- "counts that together exceed the list are 11"
abbrev pub over_counted : List ℕ → ℕ → ℕ → Bool
over_counted list whole least = ltb (length list) (whole + least)

-- "Fetch and store both .. need words for all of them"
abbrev pub words_covered : ℕ → ℕ → ℕ → ℕ
words_covered z whole least = fetched_for z (record { whole = whole; least = least })

abbrev pub few_words : ℕ → ℕ → ℕ → ℕ → Bool
few_words z whole least words = ltb words (words_covered z whole least)

-- BadBucket: "the rack is given a number outside 2 to 2N-1"
abbrev pub outside : ℕ → ℕ → Bool
outside h n = not (between 2 (2 * leaves_of h - 1) n)

unfoldable pub any_outside : ℕ → List ℕ → Bool
any_outside h [] = false
any_outside h (n ∷ ns) = outside h n || any_outside h ns

-- "On the rack: 1, 11, 14". Fill is given no list.
abbrev pub fill_table : ℕ → ℕ → ℕ → List Refusal
fill_table h z tree = row 1 (bad_size h z) ∷ row 11 (other_tree h z tree) ∷ []

-- "Fetch and store both check every number that the counts cover"
abbrev pub copy_table : ℕ → ℕ → ℕ → List ℕ → ℕ → ℕ → ℕ → List Refusal
copy_table h z tree list whole least words =
    row 1 (bad_size h z)
    ∷ row 11 (other_tree h z tree)
    ∷ row 11 (over_counted list whole least)
    ∷ row 11 (few_words z whole least words)
    ∷ row 14 (any_outside h (take (whole + least) list))
    ∷ []

abbrev pub fill_refusal : ℕ → ℕ → List ℕ → ℕ
fill_refusal h z tree = first_given (fill_table h z (length tree))

abbrev pub copy_refusal : ℕ → ℕ → List ℕ → List ℕ → ℕ → ℕ → List ℕ → ℕ
copy_refusal h z tree list whole least words = first_given (copy_table h z (length tree) list whole least (length words))
