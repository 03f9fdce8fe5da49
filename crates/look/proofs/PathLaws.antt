-- ExtractMin's and Delete's fetched words: what the checks are lent is what was fetched, so that their verdict is the paper's.
-- Assumes nothing.
use Prim.Native.Nat.{ℕ, ◌+◌, ◌*◌, ◌-◌, ◌≤◌}
use mathlib.Core.Bool.{Bool, cond}
use mathlib.Core.List.{List}
use mathlib.Core.Path.{◌≡◌, refl, ap, ◌∙◌}
use native.Mathlib.Omega.{arith}
use lib.ListN.{length, take}
use lib.Seq.{length-take-le}
use Rattle.std.specs.Prelude.{Ok}
use Rattle.record.specs.declared.Leaf.{Leaf}
use Rattle.record.specs.declared.Record.{Record}
use Rattle.record.specs.declared.Rule.{Rule}
use Rattle.record.specs.Standing.{dummy}
use Rattle.record.specs.Words.{records}
use Rattle.path.specs.declared.sizes.Sizes.{Sizes}
use Rattle.path.specs.Layout.{bucket_words}
use Rattle.gather.proofs.ShownLaws.{whole-of-part, siblings-at}
use Rattle.sound.specs.Room.{Room}
use Rattle.sound.specs.Fetched.{fetched_in, path_fetched}
use Rattle.damage.specs.Damaged.{path_damaged}
use Rattle.damage.proofs.FetchedLaws.{Alike, path-alike}
use Rattle.parts.specs.Parts.{parts_for, rule_of}
use Rattle.settle.specs.Left.{path_bad}
use Rattle.settle.specs.Settled.{unsettled}
use Rattle.shown.specs.PathShown.{PathShown}
use Rattle.look.specs.declared.Looked.{Looked}
use Rattle.look.specs.Look.{PathLookRoom, PathLooks}

-- the words of the path's buckets, n, are there, and are long enough for the checks
pub path-given : (s : Sizes) (q : Leaf) (ws w sibs : List ℕ) (n : ℕ) → PathLookRoom s q ws w sibs → n ≡ s.h * bucket_words s.z
    → n ≤ length ws
path-given s q ws w sibs n room e = let k = room.fetched in omega arith

pub lent-room : (s : Sizes) (q : Leaf) (ws w sibs : List ℕ) (n k : ℕ) → PathLookRoom s q ws w sibs → n ≡ s.h * bucket_words s.z
    → k ≡ n → Room s q (take k ws)
lent-room s q ws w sibs n k room e f =
    let g = path-given s q ws w sibs n room e in
    let l : length (take k ws) ≡ k = length-take-le k ws (omega arith) in
    record { height = room.sizes.height; slots = room.sizes.width; inside = room.leaf; buckets = omega arith }

-- what the checks are lent is what was fetched
module _ (s : Sizes) (q : Leaf) (ws w₀ sibs₀ : List ℕ) (room : PathLookRoom s q ws w₀ sibs₀) (n k : ℕ) (cut : n ≡ s.h * bucket_words s.z)
    (whole : k ≡ n) (root : List Record) (w sibs : List ℕ) (moved : ℕ) (shown : PathShown s root ws w sibs moved) where
  lent : Alike s.h 1 (fetched_in s.z q (take k ws) sibs) (path_fetched s.h s.z q ws)
  lent =
      let g = room.fetched in
      let given : 4 * ((0 + s.h) * (s.z + 1)) ≤ length ws = omega arith in
      let head : 4 * (0 * (s.z + 1)) ≡ 0 = omega arith in
      let same : s.h * bucket_words s.z ≡ 4 * (s.h * (s.z + 1)) = omega arith in
      record {
        leaf = refl;
        shown = λ d l m. rw (whole ∙ cut ∙ same) (rw head at (whole-of-part s.z ws 0 s.h given (d - 1) (omega arith)));
        beside = λ d l m. rw shown.siblings (siblings-at s.z ws s.h 0 s.h (d - 1) dummy (omega arith));
      }

  pub path-looks : (t c : ℕ) (least : Record) (rule : Rule) → rule ≡ rule_of (parts_for s t c least) → (x : Bool)
      → x ≡ path_damaged s.h s.r rule least (fetched_in s.z q (take k ws) sibs) (records w)
      → (out : Looked) → out ≡ record { moved = moved; fit = cond x unsettled (Ok tt) }
      → PathLooks (parts_for s t c least) root ws q w sibs out
  path-looks t c least rule told x v out e =
      let verdict : x ≡ path_bad (parts_for s t c least) root ws q =
      rw (← told) (v
      ∙ path-alike s.h s.r room.sizes.height.0 rule least (records w) _ _ lent
      ∙ ap (path_damaged s.h s.r rule least (path_fetched s.h s.z q ws)) shown.way) in
      record {
        way = shown.way;
        siblings = shown.siblings;
        counted = ap (λ (o : Looked). o.moved) e ∙ shown.counted;
        verdict = rw (← verdict) (ap (λ (o : Looked). o.fit) e);
      }
