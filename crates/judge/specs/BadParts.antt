-- BadCard, clause by clause, but for the waiting request: document 01, "Refusal numbers". A forged card may hold any
-- 64-bit numbers. Assumes nothing.
use Rattle.std.specs.Prelude.{ℕ, Bool, not, ◌&&◌, ◌||◌, List, ltb, eqb, take}
use Rattle.record.specs.declared.Record.{Record}
use Rattle.record.specs.declared.Rule.{Rule}
use Rattle.record.specs.Standing.{is_dummy, may_stand}
use Rattle.path.specs.Sizes.{leaves_of, in_range}
use Rattle.parts.specs.declared.Parts.{Parts}
use Rattle.parts.specs.Parts.{rule_of}
use Rattle.root.specs.Root.{strange_slot, used_past, stamp_shared, root_records, greater_than_some, slots_fine}

-- "root's least dummy while c is above 0, or other than the dummy while c = 0, or neither the dummy nor proper"
unfoldable pub odd_least : Rule → ℕ → Record → Bool
odd_least rule c least =
    (is_dummy least && ltb 0 c) || ((not (is_dummy least) && eqb c 0) || not (may_stand rule least))

-- "sizes out of range"
abbrev pub bad_sizes : Parts → Bool
bad_sizes p = not (in_range p.sizes)

-- "t above T"
abbrev pub over_spent : Parts → Bool
over_spent p = ltb p.sizes.t p.t

-- "c above N or t"
abbrev pub over_live : Parts → Bool
over_live p = ltb (leaves_of p.sizes.h) p.c || ltb p.t p.c

-- "a root slot that is neither proper nor dummy; slots past R not dummy; two root records with one stamp; more root
-- records than c"
abbrev pub bad_root : Parts → List Record → Bool
bad_root p root =
    strange_slot p.sizes.r root (rule_of p)
    || (used_past p.sizes.r root || (stamp_shared p.sizes.r root || ltb p.c (root_records p.sizes.r root)))

-- "root's least .. greater than some root record", and the clauses of `odd_least`
abbrev pub bad_least : Parts → List Record → Bool
bad_least p root = odd_least (rule_of p) p.c p.least || greater_than_some p.sizes.r root (rule_of p) p.least

unfoldable pub bad_parts : Parts → List Record → Bool
bad_parts p root = bad_sizes p || (over_spent p || (over_live p || (bad_root p root || bad_least p root)))

-- the root fails in one of the clauses of `bad_root`, or in that the least record is greater than some record of the root:
-- what the passes over the root find out
abbrev pub root_fails : ℕ → List Record → Rule → ℕ → Record → Bool
root_fails r root rule c least =
    not (slots_fine rule least c (take r root)) || (used_past r root || stamp_shared r root)
