-- `write_path`: the buckets of the turns so far are stored, and their words counted twice. Assumes nothing.
use mathlib.Core.Path.{refl}
use Rattle.writing.proofs.StoreLaws.{storing-starts, storing-turns, storing-ends}
use Rattle.writing.proofs.write_path.Goals as goal

pub loop-init : goal.loop-init
loop-init c = storing-starts _ _ _ _

pub loop-preserved : goal.loop-preserved
loop-preserved c =
    storing-turns _ _ _ _ (rw c.bucket_words-size.ensures c.requires.buckets) _ _ _ _ c.loop.invariant _ c.loop-test.true
    c.write_part.auto.part c.write_part.ensures

pub returns : goal.returns
returns c =
    storing-ends _ _ _ _ (rw c.bucket_words-size.ensures c.requires.buckets) _ _ _ _ c.loop.invariant c.args.sizes c.loop-test.false refl c.bucket_words-size.ensures
