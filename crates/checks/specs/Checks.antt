-- When a call on the card's parts is refused, but for Damaged: document 01, "Refusal numbers". Assumes nothing.
use Rattle.std.specs.Prelude.{ℕ, Bool, not, ◌||◌, List, [], ◌∷◌, ◌++◌, ltb, eqb, Option, None, Some}
use Rattle.record.specs.declared.Record.{Record}
use Rattle.refusal.specs.Refusal.{Refusal, row, first_given}
use Rattle.parts.specs.declared.Parts.{Parts}
use Rattle.judge.specs.BadParts.{bad_parts}
use Rattle.request.specs.declared.Request.{Request}
use Rattle.request.specs.Tables.{request_rows, waiting_rows, waits}
use Rattle.request.specs.Job.{job_of}
use Rattle.listing.specs.Listing.{places_asked, words_asked}
use Rattle.checks.specs.declared.Call.{Call}
use Rattle.checks.specs.declared.Call.TheVariants.{Min, Withdraw, Begin, Finish}

-- "a waiting request that begin would refuse (numbers 4 to 10)"
abbrev pub bad_waiting : Parts → List Record → Option Request → Bool
bad_waiting p root w = not (eqb (first_given (waiting_rows p root w)) 0)

-- BadCard: the clauses on the other parts are those of judge/specs/BadParts.antt
abbrev pub bad_with : Parts → List Record → Option Request → Bool
bad_with p root w = bad_parts p root || bad_waiting p root w

-- "13, 2 or 3", where `bad` is whether the card is a BadCard and `w` waits
abbrev pub busy_rows : Bool → Option Request → List Refusal
busy_rows bad w = row 13 bad ∷ row 2 (waits w) ∷ []

abbrev pub idle_rows : Bool → Option Request → List Refusal
idle_rows bad w = row 13 bad ∷ row 3 (not (waits w)) ∷ []

-- "a lent slice too short": fewer words than are fetched for the request that waits
abbrev pub short_rows : Parts → Option Request → ℕ → List Refusal
short_rows p None room = []
short_rows p (Some request) room = row 11 (ltb room (words_asked p.sizes (job_of p request))) ∷ []

-- "Order on the card: 13, 2 or 3, 4, 5, 6, 7, 8, 9, 10, 11, 12, each where it applies; finish checks 13, 3, 11, 12 only, withdraw 13,
-- 3"; FindMin "checks 13, 2 and 8 only". 12 stands in card/specs/Finish.antt.
unfoldable pub call_rows : Bool → Parts → List Record → Option Request → Call → List Refusal
call_rows bad p root w Min = busy_rows bad w ++ (row 8 (eqb p.c 0) ∷ [])
call_rows bad p root w Withdraw = idle_rows bad w
call_rows bad p root w (Begin request room) =
    busy_rows bad w
    ++ (request_rows p root request ++ (row 11 (ltb room (places_asked p.sizes.h (job_of p request))) ∷ []))
call_rows bad p root w (Finish room) = idle_rows bad w ++ short_rows p w room
