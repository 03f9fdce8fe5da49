-- What a caller's loop needs to know of a feeding: it stays within the chunk and the room, and takes some byte where there is room. Assumes nothing.
use Prim.Native.Nat.{ℕ, ◌≤◌, ◌<◌}
use mathlib.Core.List.{List}
use mathlib.Core.Path.{ap}
use native.Mathlib.Omega.{arith}
use lib.ListN.{length, drop, length-append}
use Rattle.output.specs.Output.{replies_to}
use Rattle.output.specs.Room.{reply_most}
use Rattle.output.proofs.TakenLaws.{taken-within, taken-some}
use Rattle.sitting.specs.declared.Sitting.{Sitting}
use Rattle.sitting.specs.declared.Fed.{Fed}
use Rattle.sitting.specs.Sitting.{state_of, open_line, heard_in, Feeds}

module _ (s : Sitting) (tree later chunk out : List ℕ) (r : Fed) (printed : List ℕ) (f : Feeds s tree later chunk out r printed) where
  pub feeds-within : r.taken ≤ length chunk
  feeds-within = omega (arith, f.taken, taken-within (state_of s tree) (open_line s) (length out) chunk)

  pub feeds-some : reply_most ≤ length out → 0 < length chunk → 0 < r.taken
  feeds-some l m = omega (arith, f.taken, taken-some (state_of s tree) (open_line s) (length out) chunk l m)

  pub written-within : r.written ≤ length printed
  written-within = omega (arith, f.written, ap length f.bytes, length-append (replies_to (state_of s tree) (heard_in s chunk r.taken)) (drop r.written out))
