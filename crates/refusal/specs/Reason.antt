-- The number of each reason: document 01, "Refusal numbers". Assumes nothing.
use Rattle.std.specs.Prelude.{ℕ, Result, Ok, Err}
use Rattle.refusal.specs.declared.Reason.{Reason}
use Rattle.refusal.specs.declared.Reason.TheVariants.{BadSize, Busy, Idle, Spent, BadKey, BadLeaf, BadStamp, Empty, Full, Overflow, ShortRoom, Damaged, BadCard, BadBucket}

-- "1 BadSize", "2 Busy", ..
abbrev pub reason_number : Reason → ℕ
reason_number BadSize = 1
reason_number Busy = 2
reason_number Idle = 3
reason_number Spent = 4
reason_number BadKey = 5
reason_number BadLeaf = 6
reason_number BadStamp = 7
reason_number Empty = 8
reason_number Full = 9
reason_number Overflow = 10
reason_number ShortRoom = 11
reason_number Damaged = 12
reason_number BadCard = 13
reason_number BadBucket = 14

-- the number of what a check answers: its reason's, or 0 where nothing is refused
abbrev pub refusal_in : {A : Type 0} → Result A Reason → ℕ
refusal_in (Ok x) = 0
refusal_in (Err r) = reason_number r
