-- An Insert's fetched words: what the checks are lent is what was fetched, so that their verdict is the paper's. Assumes nothing.
use Prim.Native.Nat.{ℕ, suc, ◌+◌, ◌*◌, ◌-◌, ◌≤◌}
use mathlib.Core.Bool.{Bool, cond}
use mathlib.Core.List.{List}
use mathlib.Core.Path.{◌≡◌, refl, ap, ◌∙◌}
use native.Mathlib.Omega.{arith}
use lib.ListN.{length, take, drop, get_or, length-drop}
use lib.Seq.{length-take-le}
use Rattle.std.specs.Prelude.{Ok}
use Rattle.record.specs.declared.Leaf.{Leaf}
use Rattle.record.specs.declared.Record.{Record}
use Rattle.record.specs.declared.Rule.{Rule}
use Rattle.record.specs.Standing.{dummy}
use Rattle.record.specs.Words.{records}
use Rattle.path.specs.declared.sizes.Sizes.{Sizes}
use Rattle.path.specs.Layout.{bucket_words}
use Rattle.gather.specs.Shown.{sibling_at}
use Rattle.gather.proofs.ShownLaws.{whole-of-part, siblings-at}
use Rattle.sound.specs.Room.{Room}
use Rattle.sound.specs.Fetched.{fetched_in, first_fetched, second_fetched}
use Rattle.damage.specs.Damaged.{pair_damaged}
use Rattle.damage.proofs.FetchedLaws.{Alike, pair-alike}
use Rattle.parts.specs.Parts.{parts_for, rule_of}
use Rattle.settle.specs.Left.{pair_bad}
use Rattle.settle.specs.Settled.{unsettled}
use Rattle.shown.specs.PairShown.{below_first, PairShown}
use Rattle.look.specs.declared.Looked.{Looked}
use Rattle.look.specs.Look.{PairLookRoom, PairLooks}

-- the siblings of one of the two paths, level by level
pub below_at : (s : Sizes) (ws : List ℕ) (skip : ℕ) (sibs : List Record) → sibs ≡ below_first s ws skip → (d : ℕ) → 2 ≤ d → d ≤ s.h
    → get_or sibs (d - 1) dummy ≡ sibling_at s.z ws (2 * s.h) (skip + (d - 2))
below_at s ws skip sibs e d l m =
    let f : d - 1 ≡ suc (d - 2) = omega arith in
    rw (e, f) (siblings-at s.z ws (2 * s.h) skip (s.h - 1) (d - 2) dummy (omega arith))

-- the words of a path's buckets, n, as the layout counts them; both paths' are there
module _ (s : Sizes) (first second : Leaf) (ws w₀ beside₀ : List ℕ) (room : PairLookRoom s first second ws w₀ beside₀) (n : ℕ)
    (cut : n ≡ s.h * bucket_words s.z) where
  same : n ≡ 4 * (s.h * (s.z + 1))
  same = cut ∙ omega arith

  pub both-given : n + n ≤ length ws
  both-given =
      let k = room.fetched in
      let e = same in
      omega arith

  -- the paths' parts of the words are long enough for the checks
  pub first-room : (k : ℕ) → k ≡ n → Room s first (take k ws)
  first-room k f =
      let g = both-given in
      let e = same in
      let l : length (take k ws) ≡ k = length-take-le k ws (omega arith) in
      record { height = room.sizes.height; slots = room.sizes.width; inside = room.lower; buckets = omega arith }

  pub second-room : (m : ℕ) → m ≡ n → Room s second (take m (drop n ws))
  second-room m f =
      let g = both-given in
      let e = same in
      let d = length-drop n ws in
      let l : length (take m (drop n ws)) ≡ m = length-take-le m (drop n ws) (omega arith) in
      record { height = room.sizes.height; slots = room.sizes.width; inside = room.upper; buckets = omega arith }

  module _ (root : List Record) (w one two all : List ℕ) (moved : ℕ) (shown : PairShown s root ws w one two all moved) where
    lent-first : (k : ℕ) → k ≡ n → Alike s.h 2 (fetched_in s.z first (take k ws) one) (first_fetched s.h s.z first ws)
    lent-first k f =
        let g = both-given in
        let e = same in
        let head : 4 * (0 * (s.z + 1)) ≡ 0 = omega arith in
        let given : 4 * ((0 + s.h) * (s.z + 1)) ≤ length ws = omega arith in
        record {
          leaf = refl;
          shown = λ d l m. rw (f, e) (rw head at (whole-of-part s.z ws 0 s.h given (d - 1) (omega arith)));
          beside = λ d l m. below_at s ws 0 (records one) shown.first d l m;
        }

    lent-second : (m : ℕ) → m ≡ n → Alike s.h 2 (fetched_in s.z second (take m (drop n ws)) two) (second_fetched s.h s.z second ws)
    lent-second m f =
        let g = both-given in
        let e = same in
        let given : 4 * ((s.h + s.h) * (s.z + 1)) ≤ length ws = omega arith in
        record {
          leaf = refl;
          shown = λ d l k. rw (f, e) (whole-of-part s.z ws s.h s.h given (d - 1) (omega arith));
          beside = λ d l k. below_at s ws (s.h - 1) (records two) shown.second d l k;
        }

    pub pair-looks : (t c : ℕ) (least : Record) (rule : Rule) → rule ≡ rule_of (parts_for s t c least) → (k m : ℕ) (x : Bool) → k ≡ n → m ≡ n
        → x ≡ pair_damaged s.h s.r rule least (fetched_in s.z first (take k ws) one)
        (fetched_in s.z second (take m (drop n ws)) two) (records all)
        → (out : Looked) → out ≡ record { moved = moved; fit = cond x unsettled (Ok tt) }
        → PairLooks (parts_for s t c least) root ws first second w one out
    pair-looks t c least rule told k m x e f v out g =
        let verdict : x ≡ pair_bad (parts_for s t c least) root ws first second =
        rw (← told) (v
        ∙ pair-alike s.h s.r room.sizes.height.0 rule least (records all) _ _ _ _ (lent-first k e) (lent-second m f)
        ∙ ap (pair_damaged s.h s.r rule least (first_fetched s.h s.z first ws) (second_fetched s.h s.z second ws)) shown.slots) in
        record {
          way = shown.way;
          siblings = shown.first;
          counted = ap (λ (o : Looked). o.moved) g ∙ shown.counted;
          verdict = rw (← verdict) (ap (λ (o : Looked). o.fit) g);
        }
