-- `mending::write_bucket`: the least record's words, then those of the slots. Assumes nothing.
use Rattle.mend.proofs.BucketLaws.{bucket-laid}
use Rattle.mend.proofs.mending.write_bucket.Goals as goal

pub returns : goal.returns
returns c =
    let s = c.args in
    bucket-laid s.part.now _ _ s.slots.now s.least c.requires c.write.ensures
    c.write_part.ensures
