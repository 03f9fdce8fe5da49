-- How long a job's list is, by the height alone; and what it depends on. Assumes nothing.
use Prim.Native.Nat.{ℕ, ◌+◌, ◌≤◌}
use mathlib.Core.List.{List}
use mathlib.Core.Path.{◌≡◌, refl, sym, ap, subst, ◌∙◌}
use native.Mathlib.Omega.{arith}
use Rattle.record.specs.declared.Leaf.{Leaf}
use Rattle.record.specs.declared.Stamp.{Stamp}
use Rattle.path.specs.declared.sizes.Sizes.{Sizes}
use Rattle.lists.specs.declared.Listed.{Listed as Counts}
use Rattle.lists.specs.BucketList.{counts, pair_counts, path_counts, fetched_for, Names}
use Rattle.lists.proofs.ListLaws.{length-numbers, pair-counts, path-counts, length-path-numbers}
use Rattle.parts.specs.declared.Parts.{Parts}
use Rattle.request.specs.declared.Request.{Request}
use Rattle.request.specs.declared.Request.TheVariants.{Insert, Extract, Delete}
use Rattle.request.specs.declared.job.Job.{Job}
use Rattle.request.specs.declared.job.Job.TheVariants.{Path, Pair}
use Rattle.request.specs.Job.{job_of}
use Rattle.listing.specs.Listing.{list_for, places_asked, words_asked, Listable}

-- how many numbers it has, whole and least-record only
unfoldable pub counts_for : ℕ → Job → Counts
counts_for h (Path leaf label stamp) = path_counts h
counts_for h (Pair first second new) = pair_counts h

pub counts-for : (h : ℕ) (j : Job) → 1 ≤ h → counts (list_for h j) ≡ counts_for h j
unfolding counts_for
counts-for h (Path leaf label stamp) l = path-counts h leaf
counts-for h (Pair first second new) l = pair-counts h first second l

few-counted : (h : ℕ) (j : Job) → h ≤ 16 → ((counts_for h j).whole ≤ 32) × ((counts_for h j).least ≤ 30)
unfolding counts_for
few-counted h (Path leaf label stamp) l = (omega arith, omega arith)
few-counted h (Pair first second new) l = (omega arith, omega arith)

pub counts-few : (h : ℕ) (j : Job) → (1 ≤ h) × (h ≤ 16) → ((counts (list_for h j)).whole ≤ 32) × ((counts (list_for h j)).least ≤ 30)
counts-few h j l = subst (λ (n : Counts). (n.whole ≤ 32) × (n.least ≤ 30)) (sym (counts-for h j l.0)) (few-counted h j l.1)

-- so the room is
pub places-for : (h : ℕ) (j : Job) → 1 ≤ h → places_asked h j ≡ (counts_for h j).whole + (counts_for h j).least
places-for h j l = length-numbers (list_for h j) ∙ ap (λ (n : Counts). n.whole + n.least) (counts-for h j l)

-- a request's list has as many numbers on whatever parts it is begun
pub same-counts : (h : ℕ) (p p' : Parts) (r : Request) → 1 ≤ h → counts (list_for h (job_of p r)) ≡ counts (list_for h (job_of p' r))
same-counts h p p' (Insert key value label first second) l = refl
same-counts h p p' Extract l = path-counts h p.least.label ∙ sym (path-counts h p'.least.label)
same-counts h p p' (Delete label stamp) l = refl

pub same-places : (h : ℕ) (p p' : Parts) (r : Request) → 1 ≤ h → places_asked h (job_of p r) ≡ places_asked h (job_of p' r)
same-places h p p' r l =
    length-numbers (list_for h (job_of p r)) ∙ ap (λ (n : Counts). n.whole + n.least) (same-counts h p p' r l) ∙ sym (length-numbers (list_for h (job_of p' r)))

-- and one path's as many as another's
module _ (s : Sizes) (q q' l l' : Leaf) (a a' : Stamp) where
  pub path-places : places_asked s.h (Path q l a) ≡ places_asked s.h (Path q' l' a')
  path-places = length-path-numbers s.h q ∙ sym (length-path-numbers s.h q')

  pub path-words : words_asked s (Path q l a) ≡ words_asked s (Path q' l' a')
  path-words = ap (fetched_for s.z) (path-counts s.h q ∙ sym (path-counts s.h q'))

-- told of the job that is done
module _ (s : Sizes) (i j : Job) (e : i ≡ j) where
  pub listable-for : (room : ℕ) → Listable s i room → Listable s j room
  listable-for room p = subst (λ (x : Job). Listable s x room) e p

  pub names-for : (before after : List ℕ) (n : Counts) → Names (list_for s.h j) before after n
      → Names (list_for s.h i) before after n
  names-for before after n p = subst (λ (x : Job). Names (list_for s.h x) before after n) (sym e) p
