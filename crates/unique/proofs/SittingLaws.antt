-- A sitting at the desk leaves one outcome: what is held, how far it came, every word of the tree and every byte of the slice that is printed
-- to. How many bytes are taken of a chunk is known, and with it all else. Assumes nothing.
use Prim.Native.Nat.{ℕ}
use mathlib.Core.List.{List, ◌++◌}
use mathlib.Core.Path.{◌≡◌, refl, ◌∙◌, ap}
use lib.ListN.{length, take, drop}
use Rattle.frames.specs.Framing.{begun_by}
use Rattle.output.specs.Output.{replies_to, behind_all}
use Rattle.output.specs.Room.{piece_taken}
use Rattle.sitting.specs.declared.Sitting.{Sitting}
use Rattle.sitting.specs.declared.Fed.{Fed}
use Rattle.sitting.specs.Sitting.{state_of, open_line, heard_in, sitting_of, Feeds}
use Rattle.unique.specs.One.{Determines}
use Rattle.unique.proofs.OneLaws.{one-answer}
use Rattle.output.proofs.goes_on.Kinds as goes-on-kinds
use Rattle.output.proofs.goes_on.Reads as goes-on
use Rattle.output.proofs.clear.Kinds as clear-kinds
use Rattle.output.proofs.clear.Reads as clear
use Rattle.sitting.proofs.open.Kinds as opening-kinds
use Rattle.sitting.proofs.open.Reads as opening
use Rattle.sitting.proofs.feed.Kinds as feed-kinds
use Rattle.sitting.proofs.feed.Reads as feed
use Rattle.sitting.proofs.close.Kinds as close-kinds
use Rattle.sitting.proofs.close.Reads as close

module _ (s : Sitting) (tree chunk out : List ℕ) where
  -- what is handed back and what stands in the lent slices where n bytes are taken; and how many are
  abbrev fed_at : ℕ → Fed
  fed_at n =
      record {
        sitting = sitting_of (behind_all (state_of s tree) (heard_in s chunk n)).desk (begun_by (open_line s) (take n chunk));
        taken = n;
        written = length (replies_to (state_of s tree) (heard_in s chunk n));
      }

  abbrev tree_at : ℕ → List ℕ
  tree_at n = (behind_all (state_of s tree) (heard_in s chunk n)).tree

  abbrev printed_at : ℕ → ℕ → List ℕ
  printed_at n written = replies_to (state_of s tree) (heard_in s chunk n) ++ drop written out

  abbrev all : ℕ
  all = piece_taken (state_of s tree) (open_line s) (length out) chunk

  module _ (r : Fed) (later printed : List ℕ) (p : Feeds s tree later chunk out r printed) where
    fed-whole : r ≡ fed_at all
    fed-whole = (λ i. record { sitting = p.sitting i; taken = r.taken; written = p.written i }) ∙ ap fed_at p.taken

    fed-tree : later ≡ tree_at all
    fed-tree = p.lent ∙ ap tree_at p.taken

    fed-bytes : printed ≡ printed_at all (fed_at all).written
    fed-bytes =
        p.bytes ∙ ap (printed_at r.taken) p.written ∙ ap (λ (n : ℕ). printed_at n (fed_at n).written) p.taken

pub one-goes-on : Determines 0 goes-on-kinds.ps goes-on-kinds.r goes-on.Asked goes-on.Learnt
one-goes-on =
    one-answer 0 goes-on-kinds.ps goes-on-kinds.r goes-on.Asked goes-on.Learnt _ _
    (λ κs a ok x xs f p. (p, refl))

pub one-clear : Determines 1 clear-kinds.ps clear-kinds.r clear.Asked clear.Learnt
one-clear =
    one-answer 1 clear-kinds.ps clear-kinds.r clear.Asked clear.Learnt _ _
    (λ κs a ok x xs f p. (refl, λ i. (p i, (tt, tt))))

pub one-opening : Determines 0 opening-kinds.ps opening-kinds.r opening.Asked opening.Learnt
one-opening =
    one-answer 0 opening-kinds.ps opening-kinds.r opening.Asked opening.Learnt _ _
    (λ κs a ok x xs f p. (p, refl))

pub one-feed : Determines 3 feed-kinds.ps feed-kinds.r feed.Asked feed.Learnt
one-feed =
    one-answer 3 feed-kinds.ps feed-kinds.r feed.Asked feed.Learnt _ _
    (λ κs a ok x xs f p. (fed-whole _ _ _ _ _ _ _ p, λ i. (tt, (fed-tree _ _ _ _ _ _ _ p i, (tt, (fed-bytes _ _ _ _ _ _ _ p i, tt))))))

pub one-close : Determines 2 close-kinds.ps close-kinds.r close.Asked close.Learnt
one-close =
    one-answer 2 close-kinds.ps close-kinds.r close.Asked close.Learnt _ _
    (λ κs a ok x xs f p. (p.bytes.counted, λ i. (tt, (p.lent i, (p.bytes.lent i, tt)))))
