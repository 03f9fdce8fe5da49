use Rattle.finishes.proofs.settle_job.Goals as goal

pub settle_removal-requires : goal.settle_removal-requires
settle_removal-requires c = rw c.in-Path.is at c.requires
