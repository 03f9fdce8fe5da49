-- The root's 64 places in words. Assumes nothing.
use Prim.Native.Nat.{ℕ}
use mathlib.Core.List.{List, map}
use mathlib.Core.Path.{◌≡◌, sym, ◌∙◌}
use native.Mathlib.Omega.{arith}
use lib.ListN.{length, take, length-map}
use lib.Seq.{take_all}
use Rattle.record.specs.declared.Record.{Record}
use Rattle.record.specs.Words.{records}
use Rattle.gather.specs.Laid.{laid_over}
use Rattle.gather.proofs.LaidLaws.{laid-last}

-- the length of a field that is an array of structs, from what owning the struct tells
pub length-mapped : (X Y : Type 0) (f : X → Y) (l : List X) (n : ℕ) → length (map f l) ≡ n → length l ≡ n
length-mapped X Y f l n p = sym (length-map l f) ∙ p

-- the root's 64 places, laid over as many words
pub root-laid : (ws : List ℕ) (root : List Record) → length root ≡ 64 → length ws ≡ 256
    → records (laid_over ws 0 (take 64 root)) ≡ root
root-laid ws root h l =
    rw (take_all 64 root (omega arith)) (laid-last ws 0 root (omega arith) (omega arith))
