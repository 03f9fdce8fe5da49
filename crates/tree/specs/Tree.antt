-- The heap on buckets: document 01, "Records and numbering". A Tree says what each bucket holds, the root included, which
-- the card keeps. Assumes nothing.
use Rattle.std.specs.Prelude.{ℕ, zero, suc, ◌*◌, ◌≤◌, ◌<◌, cond, List, [], ◌∷◌, ◌++◌, ◌≡◌, eqb}
use Rattle.record.specs.declared.Leaf.{Leaf}
use Rattle.record.specs.declared.Bucket.{Bucket}
use Rattle.record.specs.declared.Record.{Record}
use Rattle.path.specs.Sizes.{leaves_of}
use Rattle.path.specs.Path.{number, root, path_bucket, sibling_of, path}
use Rattle.path.specs.Layout.{Contents}
use Rattle.copies.specs.BucketAt.{bucket_at}

abbrev pub Tree : Type 0
Tree = Bucket → Contents

-- "The root is bucket 1", and a leaf's bucket is below 2N
pub record InTree (h : ℕ) (b : Bucket) : Type 0 where
  pub some : 1 ≤ number b
  pub most : number b < 2 * leaves_of h

-- ---- a way
-- the lists of levels 0 to d, one behind the other
unfoldable pub joined : (ℕ → List Record) → ℕ → List Record
joined level zero = level zero
joined level (suc d) = joined level d ++ level (suc d)

-- the way of leaf q: the root's slots, then those of the path's bucket at each level
abbrev pub slots_on : ℕ → Leaf → Tree → ℕ → List Record
slots_on h q T d = (T (path_bucket h q d)).slots

abbrev pub way_of : ℕ → Leaf → Tree → List Record
way_of h q T = joined (slots_on h q T) h

-- the least records beside it, the sibling's at each level
abbrev pub beside_of : ℕ → Leaf → Tree → ℕ → Record
beside_of h q T d = (T (sibling_of (path_bucket h q d))).least

-- ---- buckets replaced
unfoldable pub put : Bucket → Contents → Tree → Tree
put b c T = λ a. cond (eqb (number a) (number b)) c (T a)

-- "in list order, so that of one number named twice the later store stands"
unfoldable pub put_all : List Bucket → List Contents → Tree → Tree
put_all [] cs T = T
put_all (b ∷ bs) [] T = T
put_all (b ∷ bs) (c ∷ cs) T = put_all bs cs (put b c T)

-- a way laid back: the path's buckets at levels 1 to h, and the root
abbrev pub laid_back : ℕ → Leaf → List Contents → Contents → Tree → Tree
laid_back h q buckets top T = put root top (put_all (path h q 1) buckets T)

-- ---- the Tree that card and rack hold: the root's slots and least record, and the tree's words
abbrev pub contents : Record → List Record → Contents
contents least slots = record { least = least; slots = slots }

abbrev pub tree_of : ℕ → List Record → Record → List ℕ → Tree
tree_of z slots least words = put root (contents least slots) (bucket_at z words)

-- two Trees that hold the same in every bucket
abbrev pub Alike : ℕ → Tree → Tree → Type 0
Alike h T U = (b : Bucket) → InTree h b → T b ≡ U b
