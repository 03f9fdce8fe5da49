-- What a request, on a card of these parts, asks of the tree: document 01, "A request, step by step". Assumes nothing.
use Rattle.record.specs.Standing.{record_of}
use Rattle.parts.specs.declared.Parts.{Parts}
use Rattle.parts.specs.Parts.{next_stamp}
use Rattle.request.specs.declared.Request.{Request}
use Rattle.request.specs.declared.Request.TheVariants.{Insert, Extract, Delete}
use Rattle.request.specs.declared.job.Job.{Job}
use Rattle.request.specs.declared.job.Job.TheVariants.{Path, Pair}

-- "Insert puts the record, with stamp t"; "ExtractMin uses the label of the root's least record", and takes out the record with that
-- label and the least record's stamp, which is the root's least record itself (`TakesLeast` in card/specs/Finish.antt); "Delete takes
-- label and stamp."
abbrev pub job_of : Parts → Request → Job
job_of p (Insert key value label first second) = Pair first second (record_of key value label (next_stamp p))
job_of p Extract = Path p.least.label p.least.label p.least.stamp
job_of p (Delete label stamp) = Path label label stamp
