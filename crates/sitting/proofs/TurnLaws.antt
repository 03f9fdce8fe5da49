-- The loop over a chunk, by what its calls promise: each turn, and what it comes to. Assumes nothing.
use Prim.Native.Nat.{ℕ, ◌+◌, ◌-◌, ◌≤◌, ◌<◌, min}
use mathlib.Core.Bool.{Bool, true, false, ◌&&◌, and-eq-true_iff as both}
use mathlib.Core.List.{List, ◌++◌}
use mathlib.Core.Path.{◌≡◌, sym, ap, subst, ◌∙◌}
use native.Mathlib.Omega.{arith}
use lib.Dec.{ltb, leb}
use lib.ListN.{length, take, drop, replicate}
use lib.Seq.{take_all}
use borrow.Author.Tests.{ltb-true, leb-true}
use borrow.Rule.Slice.PartMut.{mid_of, put_mid}
use Rattle.frames.specs.declared.Taken.{Taken}
use Rattle.frames.specs.Framing.{Takes}
use Rattle.frames.proofs.TakeLaws.{take_min, takes-some}
use Rattle.frames.proofs.AnswerLaws.{rest-lent, put_back}
use Rattle.steps.specs.Step.{Desk}
use Rattle.replies.specs.declared.Printed.{Printed}
use Rattle.replies.specs.Reply.{Prints}
use Rattle.output.specs.Output.{State}
use Rattle.output.specs.Room.{reply_most}
use Rattle.sitting.specs.declared.Sitting.{Sitting}
use Rattle.sitting.specs.Sitting.{state_of, open_line, Feeds}
use Rattle.output.proofs.FeedLaws.{Feeding, feeding-room, feeding-open, feeding-ended, none_more, held-is, line-is}

module _
    (s₀ : State) (begun₀ chunk out₀ : List ℕ) (s : State) (line : List ℕ) (held taken written : ℕ) (out : List ℕ)
    (f : Feeding s₀ begun₀ chunk out₀ s line held taken written out)
  where
    pub room-left : written ≤ length out
    room-left = omega (arith, f.fits, feeding-room s₀ begun₀ chunk out₀ s line held taken written out f)

    module _
        (g : Bool) (is : g ≡ (ltb taken (length chunk) && leb reply_most (length out - written))) (on : g ≡ true) (r : Taken)
        (line' : List ℕ) (t : Takes line held chunk taken r line')
      where
        more : taken < length chunk
        more = ltb-true taken (length chunk) ((both (ltb taken (length chunk)) (leb reply_most (length out - written))).0 (sym is ∙ on)).0

        room : reply_most ≤ length out₀ - written
        room =
            let own = leb-true reply_most (length out - written) ((both (ltb taken (length chunk)) (leb reply_most (length out - written))).0 (sym is ∙ on)).1 in
            omega (arith, own, feeding-room s₀ begun₀ chunk out₀ s line held taken written out f)

        pub turn-takes : (taken < r.next) × (r.next ≤ length chunk)
        turn-takes = takes-some line held chunk taken r line' t more

        pub turn-open : r.ended ≡ false → Feeding s₀ begun₀ chunk out₀ s line' r.held r.next written out
        turn-open = feeding-open s₀ begun₀ chunk out₀ s line held taken written out f r line' t more room

        -- what is printed goes behind what was printed
        module _
            (e : r.ended ≡ true) (tree' part : List ℕ) (q : Printed)
            (p : Prints s.desk (take r.held line') s.tree tree' (mid_of written (length out - written) out) part q)
          where
            printed : Prints s.desk (take r.held line') s.tree tree' (drop written out) part q
            printed = subst (λ (x : List ℕ). Prints s.desk (take r.held line') s.tree tree' x part q) (rest-lent written out) p

            pub turn-ended :
                length tree' ≡ length s.tree
                → Feeding s₀ begun₀ chunk out₀ (record { desk = q.desk; tree = tree' }) line' 0 r.next (written + q.bytes) (put_mid written (length out - written) out part)
            turn-ended k =
                rw (put_back written out part)
                (feeding-ended s₀ begun₀ chunk out₀ s line held taken written out f r line' t more room e tree' part q printed k)

pub feeding-ends :
    (sit : Sitting) (tree chunk out₀ : List ℕ) (n : ℕ) → length sit.line ≡ 129 → n ≡ min sit.held 129
    → (desk : Desk) (later line : List ℕ) (held taken written : ℕ) (out line' : List ℕ)
    → Feeding (state_of sit tree) (take n sit.line) chunk out₀ (record { desk = desk; tree = later }) line held taken written out
    → (g : Bool) → g ≡ (ltb taken (length chunk) && leb reply_most (length out - written)) → g ≡ false
    → line' ≡ take held line ++ replicate (length line - held) 0
    → Feeds sit tree later chunk out₀ (record { sitting = record { desk = desk; line = line'; held = held }; taken = taken; written = written }) out
feeding-ends sit tree chunk out₀ n long m desk later line held taken written out line' f' g is stop cleared =
    let s : State = record { desk = desk; tree = later } in
    let all : take 129 sit.line ≡ sit.line = take_all 129 sit.line (omega arith) in
    let shown : take n sit.line ≡ open_line sit =
    rw m (sym (take_min sit.held 129 sit.line) ∙ ap (take sit.held) all) in
    let f = subst (λ (b : List ℕ). Feeding (state_of sit tree) b chunk out₀ s line held taken written out) shown f' in
    let none = none_more (state_of sit tree) (open_line sit) chunk out₀ s line held taken written out f (sym is ∙ stop) in
    let size = held-is (state_of sit tree) (open_line sit) chunk out₀ s line held taken written out f in
    let text = line-is (state_of sit tree) (open_line sit) chunk out₀ s line held taken written out f in
    record {
      taken = omega (arith, f.rest, none);
      sitting = rw (← f.state, cleared, text, f.line_room, size);
      lent = ap (λ (x : State). x.tree) f.state;
      written = f.count;
      bytes = f.done;
    }
