-- Numbers written one after the other into a list: what a loop that names buckets level by level has done so far.
-- Assumes nothing.
use Prim.Native.Nat.{ℕ, suc, ◌+◌, ◌-◌, ◌≤◌, ◌<◌}
use mathlib.Core.Path.{◌≡◌, sym, ap, ◌∙◌}
use mathlib.Core.List.{List, ◌++◌, map, map-map, append_assoc, append-nil}
use native.Mathlib.Omega.{arith}
use lib.ListN.{length, set, take, length-map, length-append, take-append-drop}
use lib.Seq.{length-take-le, set_at, drop-cons}
use Rattle.std.proofs.lemmas.List.{map-id}
use Rattle.record.specs.declared.Leaf.{Leaf}
use Rattle.record.specs.declared.Bucket.{Bucket}
use Rattle.path.specs.Path.{number, path_bucket, sibling_of, up_from, path}
use Rattle.path.proofs.LevelLaws.{length-up_from, map-up_from-next}
use Rattle.lists.specs.BucketList.{laid_from}

-- f named of the levels from `from` on, as far as those before `level`, from place `at` of a list on
abbrev pub named_to : (ℕ → ℕ) → ℕ → ℕ → List ℕ → ℕ → List ℕ
named_to f from at old level = laid_from at (map f (up_from from (level - from))) old

module _ (f : ℕ → ℕ) (from at : ℕ) (old : List ℕ) where
  length-levels : (n : ℕ) → length (map f (up_from from n)) ≡ n
  length-levels n = length-map (up_from from n) f ∙ length-up_from from n

  named-next : (n : ℕ) → at + n < length old
      → set (laid_from at (map f (up_from from n)) old) (at + n) (f (from + n)) ≡ laid_from at (map f (up_from from (suc n))) old
  unfolding laid_from
  named-next n l =
      let m = length-levels n in
      let front : length (take at old ++ map f (up_from from n)) ≡ at + n =
      length-append (take at old) _ ∙ rw (length-take-le at old (omega arith), m) in
      let next : at + suc n ≡ suc (at + n) = omega arith in
      rw (m, length-levels (suc n), next, drop-cons old (at + n) 0 l, set_at _ _ _ (f (from + n)) (at + n) front, map-up_from-next f from n, append_assoc, append_assoc, append_assoc)

  pub naming-starts : old ≡ named_to f from at old from
  unfolding laid_from up_from
  naming-starts =
      let none : from - from ≡ 0 = omega arith in
      let here : at + 0 ≡ at = omega arith in
      sym (rw (none, here, append-nil) (take-append-drop at old))

  pub naming-turns : (now : List ℕ) (level v : ℕ) → from ≤ level → at + (level - from) < length old → now ≡ named_to f from at old level
      → v ≡ f level → set now (at + (level - from)) v ≡ named_to f from at old (level + 1)
  naming-turns now level v l room n e =
      let next : level + 1 - from ≡ suc (level - from) = omega arith in
      let same : from + (level - from) ≡ level = omega arith in
      rw (next, e, n) (rw same at (named-next (level - from) room))

-- what is named level by level, by the definitions that the lists are made of
module _ (h : ℕ) (q : Leaf) (d : ℕ) where
  all-named : (g : Bucket → Bucket) → map (λ e. number (g (path_bucket h q e))) (up_from d (suc h - d)) ≡ map number (map g (path h q d))
  unfolding path
  all-named g =
      let all = up_from d (suc h - d) in
      sym (ap (map number) (map-map g (path_bucket h q) all) ∙ map-map number (λ e. g (path_bucket h q e)) all)

  pub path-named : map (λ e. number (path_bucket h q e)) (up_from d (suc h - d)) ≡ map number (path h q d)
  path-named = simp map-id at (all-named (λ bucket. bucket))

  pub siblings-named : map (λ e. number (sibling_of (path_bucket h q e))) (up_from d (suc h - d)) ≡ map number (map sibling_of (path h q d))
  siblings-named = all-named sibling_of

-- A function of buckets named along a path.
module _ (g : Bucket → Bucket) (h : ℕ) (q : Leaf) (from at : ℕ) (old now : List ℕ) (level : ℕ) where
  -- the list when the levels before this one are named
  abbrev pub PathNamed : Type 0
  PathNamed = now ≡ named_to (λ d. number (g (path_bucket h q d))) from at old level

  pub path-turns : (b r : Bucket) → PathNamed → from ≤ level → at + (level - from) < length old → b ≡ path_bucket h q level → r ≡ g b
      → set now (at + (level - from)) r.0 ≡ named_to (λ d. number (g (path_bucket h q d))) from at old (level + 1)
  path-turns b r n l room e v = naming-turns _ from at old now level r.0 l room n (ap number (v ∙ ap g e))

  -- behind the leaf's level nothing is left to name
  pub path-ends : level ≡ suc h → PathNamed → now ≡ laid_from at (map number (map g (path h q from))) old
  path-ends e n = n ∙ rw e (ap (λ ns. laid_from at ns old) (all-named h q from g))
