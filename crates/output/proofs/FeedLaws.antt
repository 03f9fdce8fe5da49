-- The loop over a chunk: where it begins, a line that ends, an open line, and what it comes to. Assumes nothing.
use Prim.Native.Nat.{ℕ, suc, ◌+◌, ◌-◌, ◌≤◌, ◌<◌}
use mathlib.Core.Bool.{true, false, ◌&&◌}
use mathlib.Core.List.{List, [], ◌∷◌, ◌++◌, append_assoc}
use mathlib.Core.Path.{◌≡◌, refl, sym, ap, ◌∙◌}
use native.Mathlib.Omega.{arith}
use lib.Dec.{ltb, leb}
use lib.ListN.{length, take, drop, length-append, length-take, length-drop, drop_of_length-le}
use lib.Seq.{length-take-le, take_at, drop_at, drop-drop, take_all}
use borrow.Author.Tests.{ltb-false, leb-false}
use Rattle.fields.specs.Pieces.{before}
use Rattle.lines.specs.Says.{line_says}
use Rattle.steps.specs.Step.{Desk, step_of}
use Rattle.replies.specs.declared.Printed.{Printed}
use Rattle.replies.specs.Reply.{Prints}
use Rattle.decimal.proofs.PrintLaws.{laid-in-room}
use Rattle.frames.specs.declared.Taken.{Taken}
use Rattle.frames.specs.Framing.{ended_in, begun_by, Takes}
use Rattle.frames.proofs.TakeLaws.{takes-room, takes-some}
use Rattle.frames.proofs.FramingLaws.{Keeps, keeps-nothing, keeps-more, keeps-says, free-before, ended, has, past, all-open}
use Rattle.output.specs.Output.{State, reply_to, behind_line, replies_to, behind_all}
use Rattle.output.specs.Room.{reply_most, piece_taken, held_of}
use Rattle.output.proofs.OutputLaws.{replies-joined, behind-joined, replies-one, behind-one}
use Rattle.output.proofs.ShortLaws.{reply-short}
use Rattle.output.proofs.TakenLaws.{taken_none, taken-stops, taken-ended, taken-open}
use Rattle.output.proofs.HeardLaws.{heard-more, begun-anew, heard-same, begun_more, none_left}

-- after `taken` bytes: the state, the held line and the bytes printed are those of the lines heard, and the rest will be taken as
-- from here
pub record Feeding (s₀ : State) (begun₀ chunk out₀ : List ℕ) (s : State) (line : List ℕ) (held taken written : ℕ) (out : List ℕ) : Type 0 where
  pub place : taken ≤ length chunk
  pub line_room : length line ≡ 129
  pub keeps : Keeps line held (begun_by begun₀ (take taken chunk))
  pub state : s ≡ behind_all s₀ (ended_in begun₀ (take taken chunk))
  pub tree_room : length s.tree ≡ length s₀.tree
  pub fits : written ≤ length out₀
  pub count : written ≡ length (replies_to s₀ (ended_in begun₀ (take taken chunk)))
  pub done : out ≡ replies_to s₀ (ended_in begun₀ (take taken chunk)) ++ drop written out₀
  pub rest :
      piece_taken s₀ begun₀ (length out₀) chunk
      ≡ taken + piece_taken s (begun_by begun₀ (take taken chunk)) (length out₀ - written) (drop taken chunk)

-- ---- where it begins
pub feeding-starts :
    (desk : Desk) (tree line : List ℕ) (held : ℕ) (chunk out : List ℕ) → length line ≡ 129 → held ≤ 129
    → Feeding (record { desk = desk; tree = tree }) (take held line) chunk out (record { desk = desk; tree = tree }) line held 0 0 out
unfolding ended_in begun_by replies_to behind_all
feeding-starts desk tree line held chunk out long small =
    let s : State = record { desk = desk; tree = tree } in
    let z : length out - 0 ≡ length out = omega arith in
    record {
      place = omega arith;
      line_room = long;
      keeps =
          record {
            within = omega arith;
            head = sym (take_all (length line) (take held line) (omega (arith, length-take held line)));
          };
      state = refl;
      tree_room = refl;
      fits = omega arith;
      count = refl;
      done = refl;
      rest = rw z (omega arith);
    }

module _
    (s₀ : State) (begun₀ chunk out₀ : List ℕ) (s : State) (line : List ℕ) (held taken written : ℕ) (out : List ℕ)
    (f : Feeding s₀ begun₀ chunk out₀ s line held taken written out)
  where
    pub feeding-room : length out ≡ length out₀
    feeding-room =
        rw (f.done, length-append, length-drop) (omega (arith, f.count, f.fits))

    module _ (r : Taken) (line' : List ℕ) (t : Takes line held chunk taken r line') (l : taken < length chunk) (m : reply_most ≤ length out₀ - written) where
      -- ---- an open line
      pub feeding-open : r.ended ≡ false → Feeding s₀ begun₀ chunk out₀ s line' r.held r.next written out
      feeding-open e =
          let same = heard-same begun₀ chunk taken line line' held r t e in
          let more = begun_more begun₀ chunk taken line line' held r t e in
          let none = none_left begun₀ chunk taken line line' held r t e in
          let all = all-open begun₀ chunk taken line line' held r t e in
          let far : r.next ≡ taken + length (drop taken chunk) =
          omega (arith, (takes-some line held chunk taken r line' t l).1, ap length none, length-drop r.next chunk, length-drop taken chunk) in
          let here = taken-open s (length out₀ - written) m (begun_by begun₀ (take taken chunk)) (drop taken chunk) all in
          record {
            place = (takes-some line held chunk taken r line' t l).1;
            line_room = takes-room line held chunk taken r line' t ∙ f.line_room;
            keeps = rw more (keeps-more line held (begun_by begun₀ (take taken chunk)) f.keeps chunk taken r line' t);
            state = f.state ∙ ap (behind_all s₀) (sym same);
            tree_room = f.tree_room;
            fits = f.fits;
            count = rw same f.count;
            done = rw same f.done;
            rest =
                f.rest
                ∙ rw (here, none, taken_none s (begun_by begun₀ (take r.next chunk)) (length out₀ - written)) (omega (arith, far));
          }

      -- ---- a line that ends
      module _
          (e : r.ended ≡ true) (tree' part : List ℕ) (q : Printed)
          (p : Prints s.desk (take r.held line') s.tree tree' (drop written out) part q)
        where
          abbrev whole : List ℕ
          whole = begun_by begun₀ (take taken chunk) ++ before 10 (drop taken chunk)

          says : line_says (take r.held line') ≡ line_says whole
          says =
              keeps-says line' r.held whole
              (keeps-more line held (begun_by begun₀ (take taken chunk)) f.keeps chunk taken r line' t)
              (omega (arith, takes-room line held chunk taken r line' t, f.line_room))

          head-out : take written out ≡ replies_to s₀ (ended_in begun₀ (take taken chunk))
          head-out = rw f.done (take_at (replies_to s₀ (ended_in begun₀ (take taken chunk))) (drop written out₀) written (sym f.count))

          rest_out : drop written out ≡ drop written out₀
          rest_out = rw f.done (drop_at (replies_to s₀ (ended_in begun₀ (take taken chunk))) (drop written out₀) written (sym f.count))

          laid :
              (q.bytes ≡ length (reply_to s whole))
              × (part ≡ reply_to s whole ++ drop (length (reply_to s whole)) (drop written out₀))
          laid =
              laid-in-room (reply_to s whole) (drop written out₀) q.bytes part (rw (says, rest_out) at p.bytes)
              (omega (arith, reply-short (step_of s.desk (line_says whole) s.tree).turn.reply, length-drop written out₀))

          state-next : (record { desk = q.desk; tree = tree' }) ≡ behind_line s whole
          state-next = rw (p.state, p.lent, says)

          heard : ended_in begun₀ (take r.next chunk) ≡ ended_in begun₀ (take taken chunk) ++ whole ∷ []
          heard = heard-more begun₀ chunk taken line line' held r t e

          printed-next :
              replies_to s₀ (ended_in begun₀ (take r.next chunk))
              ≡ replies_to s₀ (ended_in begun₀ (take taken chunk)) ++ reply_to s whole
          printed-next =
              ap (replies_to s₀) heard
              ∙ replies-joined s₀ (ended_in begun₀ (take taken chunk)) (whole ∷ [])
              ∙ ap (λ (l : List ℕ). replies_to s₀ (ended_in begun₀ (take taken chunk)) ++ l)
              (ap (λ (x : State). replies_to x (whole ∷ [])) (sym f.state) ∙ replies-one s whole)

          behind-next : behind_all s₀ (ended_in begun₀ (take r.next chunk)) ≡ behind_line s whole
          behind-next =
              ap (behind_all s₀) heard
              ∙ behind-joined s₀ (ended_in begun₀ (take taken chunk)) (whole ∷ [])
              ∙ ap (λ (x : State). behind_all x (whole ∷ [])) (sym f.state)
              ∙ behind-one s whole

          taken_next :
              piece_taken s (begun_by begun₀ (take taken chunk)) (length out₀ - written) (drop taken chunk)
              ≡ suc (length (before 10 (drop taken chunk)))
              + piece_taken (behind_line s whole) [] (length out₀ - written - length (reply_to s whole)) (drop r.next chunk)
          taken_next =
              ap (piece_taken s (begun_by begun₀ (take taken chunk)) (length out₀ - written))
              (ended (drop taken chunk) (has begun₀ chunk taken line line' held r t e))
              ∙ taken-ended s (length out₀ - written) m (begun_by begun₀ (take taken chunk)) (before 10 (drop taken chunk)) _
              (free-before (drop taken chunk))
              ∙ rw (past begun₀ chunk taken line line' held r t e)

          far : r.next ≡ taken + suc (length (before 10 (drop taken chunk)))
          far = t.next ∙ rw (has begun₀ chunk taken line line' held r t e) (omega arith)

          pub feeding-ended :
              length tree' ≡ length s.tree
              → Feeding s₀ begun₀ chunk out₀ (record { desk = q.desk; tree = tree' }) line' 0 r.next (written + q.bytes) (take written out ++ part)
          feeding-ended k =
              let anew = begun-anew begun₀ chunk taken line line' held r t e in
              let room : length out₀ - written - length (reply_to s whole) ≡ length out₀ - (written + q.bytes) =
              omega (arith, laid.0) in
              record {
                place = (takes-some line held chunk taken r line' t l).1;
                line_room = takes-room line held chunk taken r line' t ∙ f.line_room;
                keeps = rw anew (keeps-nothing line');
                state = state-next ∙ sym behind-next;
                tree_room = k ∙ f.tree_room;
                fits = omega (arith, laid.0, reply-short (step_of s.desk (line_says whole) s.tree).turn.reply);
                count = rw (printed-next, length-append) (omega (arith, laid.0, f.count));
                done =
                    rw (printed-next, head-out, laid.1, drop-drop, laid.0)
                    (sym (append_assoc (replies_to s₀ (ended_in begun₀ (take taken chunk))) (reply_to s whole) (drop (written + length (reply_to s whole)) out₀)));
                rest = f.rest ∙ rw (taken_next, anew, state-next, ← room, far) (omega arith);
              }

    -- ---- what it comes to
    pub none_more : (ltb taken (length chunk) && leb reply_most (length out - written)) ≡ false → piece_taken s (begun_by begun₀ (take taken chunk)) (length out₀ - written) (drop taken chunk) ≡ 0
    none_more = (elim (ltb taken (length chunk)) as (λ b. ltb taken (length chunk) ≡ b → (b && leb reply_most (length out - written)) ≡ false → piece_taken s (begun_by begun₀ (take taken chunk)) (length out₀ - written) (drop taken chunk) ≡ 0) [
      | true ↦ λ e g. taken-stops s _ _ _ (omega (arith, leb-false reply_most (length out - written) g, feeding-room))
      | false ↦ λ e g.
          rw (drop_of_length-le chunk {i = taken} (ltb-false taken (length chunk) e)) (taken_none s (begun_by begun₀ (take taken chunk)) (length out₀ - written))
    ]) refl

    pub held-is : held ≡ length (held_of (begun_by begun₀ (take taken chunk)))
    held-is =
        let n : length (take held line) ≡ held = length-take-le held line f.keeps.within in
        sym n ∙ ap length f.keeps.head ∙ ap (λ (k : ℕ). length (take k (begun_by begun₀ (take taken chunk)))) f.line_room

    pub line-is : take held line ≡ held_of (begun_by begun₀ (take taken chunk))
    line-is = f.keeps.head ∙ ap (λ (k : ℕ). take k (begun_by begun₀ (take taken chunk))) f.line_room
