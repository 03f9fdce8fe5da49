-- A bucket as the heap sees it, out of the tree's words: document 01, "Records and numbering". Assumes nothing.
use Rattle.std.specs.Prelude.{ℕ, List, [], ◌∷◌}
use Rattle.record.specs.declared.Bucket.{Bucket}
use Rattle.record.specs.declared.Record.{Record}
use Rattle.record.specs.Standing.{dummy}
use Rattle.record.specs.Words.{records}
use Rattle.path.specs.Layout.{Contents}
use Rattle.copies.specs.Copy.{bucket_part}

-- "first its least record, then its slots"
abbrev pub contents_of : List Record → Contents
contents_of [] = record { least = dummy; slots = [] }
contents_of (r ∷ rs) = record { least = r; slots = rs }

abbrev pub bucket_at : ℕ → List ℕ → Bucket → Contents
bucket_at z tree b = contents_of (records (bucket_part z tree b))
