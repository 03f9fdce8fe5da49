-- The numbers that a round gives: document 01, "Refusal numbers". 0, or one of 4 to 10: those of the request itself. Assumes nothing.
use Rattle.std.specs.Prelude.{ℕ, Bool, ◌&&◌, ◌||◌, eqb, leb}

abbrev pub own_number : ℕ → Bool
own_number n = eqb n 0 || (leb 4 n && leb n 10)
