-- Where nothing is refused, each number that the counts cover names a bucket that stands in the tree. Assumes nothing.
use Prim.Native.Nat.{ℕ, ◌+◌}
use mathlib.Core.Bool.{false}
use mathlib.Core.List.Memᴰ
use mathlib.Core.List.{List, [], ◌∷◌, map}
use mathlib.Core.Path.{◌≡◌}
use mathlib.Mathlib.Data.Bool.Basic.{or-eq-false-eq-eq-false-and-eq-false as neither}
use lib.ListN.{take}
use Rattle.path.specs.Path.{bucket}
use Rattle.path.specs.Layout.{tree_words}
use Rattle.path.proofs.SizesLaws.{tree-in}
use Rattle.copies.specs.Copy.{AllStand, Covered}
use Rattle.copies.proofs.LayoutLaws.{in_tree}
use Rattle.rack.specs.Answers.{outside, any_outside}
use Rattle.rack.proofs.RefusalLaws.{CopyPasses, inside}

inside-stand : (h z : ℕ) (ns : List ℕ) → any_outside h ns ≡ false → AllStand z (tree_words h z) (map bucket ns)
unfolding any_outside
inside-stand h z [] e b m = absurd (Memᴰ.not-nil m)
inside-stand h z (n ∷ ns) e b (Memᴰ.head i) =
    let range = inside h n ((neither (outside h n) _).0 e).0 in
    rw i (in_tree h z n range.0 range.1)
inside-stand h z (n ∷ ns) e b (Memᴰ.tail m) = inside-stand h z ns ((neither (outside h n) _).0 e).1 b m

pub copy_covered :
    {h z tree : ℕ} {list : List ℕ} {whole least words : ℕ} → CopyPasses h z tree list whole least words
    → Covered z tree list (whole + least)
copy_covered {h} {z} {tree} {list} {whole} {least} p =
    record {
      slots = (tree-in h z p.passes.sizes).slots.1;
      counted = p.counted;
      stand = rw p.passes.whole-tree (inside-stand h z (take (whole + least) list) p.inside);
    }
