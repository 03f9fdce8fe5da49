use Rattle.request.proofs.job.job_of.Goals as goal

pub returns-in-Insert : goal.returns-in-Insert
returns-in-Insert c = rw (c.in-Insert.is, c.proper-new.ensures)

pub returns-in-Extract : goal.returns-in-Extract
returns-in-Extract c = rw c.in-Extract.is

pub returns-in-Delete : goal.returns-in-Delete
returns-in-Delete c = rw c.in-Delete.is
