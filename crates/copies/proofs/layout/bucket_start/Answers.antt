-- `copies::layout::bucket_start` meets its contract. Assumes nothing.
use Rattle.copies.proofs.layout.bucket_start.Goals as goal

pub overflow_mul-result : goal.overflow_mul-result
overflow_mul-result c = rw c.bucket_words.ensures (record { fits = c.requires.1.1 })

pub returns : goal.returns
returns c = rw c.bucket_words.ensures
