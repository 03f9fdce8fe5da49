-- ExtractMin takes out the record with the label and stamp of the root's least. On a path that is not Damaged that is the root's
-- least record itself, and it is there. Assumes nothing.
use Prim.Native.Nat.{ℕ, zero, suc, ◌*◌, ◌+◌, ◌≤◌}
use mathlib.Core.Bool.{Bool, true, false}
use mathlib.Core.List.{List, [], ◌∷◌, Memᴰ}
use mathlib.Core.Logic.{inl, inr}
use mathlib.Core.Path.{◌≡◌, refl}
use mathlib.Mathlib.Data.Bool.Basic.{dichotomy}
use native.Mathlib.Omega.{arith}
use lib.ListN.{length}
use Rattle.record.specs.declared.Record.{Record}
use Rattle.record.specs.Standing.{same, is_proper}
use Rattle.way.specs.Evict.{seek}
use Rattle.clearing.specs.Removal.{named, found, removed}
use Rattle.damage.proofs.Found.{shown-extract-by-name, shown-extract-found}
use Rattle.parts.specs.declared.Parts.{Parts}
use Rattle.parts.specs.Parts.{rule_of}
use Rattle.settle.specs.Left.{path_way, removal, path_bad, removal_damaged}
use Rattle.settle.specs.Room.{RemovalRoom}

-- a search sees records through its test alone
seek-same : (f g : Record → Bool) (n : ℕ) (w : List Record) → ((x : Record) → Memᴰ x w → f x ≡ g x) → seek f n w ≡ seek g n w
unfolding seek
seek-same f g zero w alike = refl
seek-same f g (suc n) [] alike = refl
seek-same f g (suc n) (x ∷ xs) alike =
    rw (alike x (Memᴰ.head refl), seek-same f g n xs (λ y i. alike y (Memᴰ.tail i)))

module _ (p : Parts) (root : List Record) (ws : List ℕ) (full : p.sizes.r ≤ length root)
    (proper : is_proper (rule_of p) p.least ≡ true) (room : RemovalRoom p p.least.label ws) where
  abbrev m : Record
  m = p.least

  abbrev way : List Record
  way = path_way p.sizes root ws

  abbrev by_name : Record → Bool
  by_name = named m.label m.stamp

  given : 4 * (p.sizes.h * (p.sizes.z + 1)) ≤ length ws
  given = let k = room.fetched in omega arith

  found-same : path_bad p root ws m.label ≡ false → seek by_name (length way) way ≡ seek (same m) (length way) way
  found-same good =
      seek-same by_name (same m) _ way
      (shown-extract-by-name p.sizes.h p.sizes.z p.sizes.r root ws full given (rule_of p) refl m room.parts.sizes.height.0 proper good)

  left-same : path_bad p root ws m.label ≡ false → removal p root ws m.label by_name ≡ removal p root ws m.label (same m)
  unfolding removal removed found
  left-same good = rw (found-same good)

  fetched-good : (x : Bool) → path_bad p root ws m.label ≡ x → removal_damaged p root ws m.label by_name ≡ false → x ≡ false
  unfolding removal_damaged
  fetched-good false e f = refl
  fetched-good true e f = rw e at f

  -- it is Damaged exactly where the removal of the root's least record itself is
  pub extract-damaged : removal_damaged p root ws m.label by_name ≡ removal_damaged p root ws m.label (same m)
  unfolding removal_damaged
  extract-damaged = elim (dichotomy (path_bad p root ws m.label)) [ inl f ↦ rw (f, left-same f) | inr b ↦ rw b ]

  module _ (good : removal_damaged p root ws m.label by_name ≡ false) where
    -- what an ExtractMin leaves is what the paper says: "replaces the root's least record .. by the dummy"
    pub extract-same : removal p root ws m.label by_name ≡ removal p root ws m.label (same m)
    extract-same = left-same (fetched-good (path_bad p root ws m.label) refl good)

    -- and the record that it takes out was found: "wherever it is on the path"
    pub extract-found : (removal p root ws m.label by_name).found ≡ true
    unfolding removal
    extract-found =
        shown-extract-found p.sizes.h p.sizes.z p.sizes.r root ws full given (rule_of p) refl m room.parts.sizes.height.0 proper
        (fetched-good (path_bad p root ws m.label) refl good)
