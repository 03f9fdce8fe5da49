-- However an input is parted into chunks, what is printed is the whole output. Assumes nothing.
use Prim.Native.Nat.{ℕ, ◌-◌, ◌≤◌}
use mathlib.Core.Bool.{true, false, cond}
use mathlib.Core.List.{List, [], ◌∷◌, ◌++◌, append_assoc, append-nil}
use mathlib.Core.Path.{◌≡◌, refl, sym, ap, ◌∙◌}
use native.Mathlib.Omega.{arith}
use lib.Dec.{eqb}
use lib.ListN.{length, take, replicate}
use lib.Seq.{take_at, take-take}
use Rattle.lines.specs.declared.Line.{Line}
use Rattle.fields.specs.Pieces.{pieces}
use Rattle.lines.specs.Says.{line_says}
use Rattle.steps.specs.Step.{Desk, step_of}
use Rattle.decimal.proofs.PrintLaws.{laid-in-room}
use Rattle.frames.specs.Framing.{ended_in, begun_by, last_of}
use Rattle.frames.proofs.FramingLaws.{cut-says, take_twice, ended-joined, begun-joined, input-heard}
use Rattle.output.specs.Output.{State, replies_to, behind_all, shut, output_of}
use Rattle.output.specs.Room.{reply_most, held_of}
use Rattle.sitting.specs.declared.Sitting.{Sitting}
use Rattle.sitting.specs.Sitting.{sitting_of, begins, state_of, open_line, heard_in}
use Rattle.sitting.specs.Run.{Sits}
use Rattle.sitting.specs.Run.{closed, fed}
use Rattle.output.proofs.OutputLaws.{replies-joined, replies-none}
use Rattle.output.proofs.ShortLaws.{reply-short}

-- ---- what is held stands for the line
says_same : (a b : List ℕ) → held_of a ≡ held_of b → line_says a ≡ line_says b
says_same a b e = sym (cut-says 129 a (omega arith)) ∙ ap line_says e ∙ cut-says 129 b (omega arith)

held_more : (a b more : List ℕ) → held_of a ≡ held_of b → held_of (a ++ more) ≡ held_of (b ++ more)
held_more a b more e =
    sym (take_twice 129 a more) ∙ ap (λ (l : List ℕ). take 129 (l ++ more)) e ∙ take_twice 129 b more

-- two lines begun of which the same is held: what comes behind them is answered in the same way
replies-alike :
    (s : State) (bytes a b : List ℕ) → held_of a ≡ held_of b → replies_to s (ended_in a bytes) ≡ replies_to s (ended_in b bytes)
unfolding ended_in replies_to
replies-alike s [] a b e = refl
replies-alike s (x ∷ xs) a b e = (elim (eqb x 10) as (λ t. replies_to s (cond t (a ∷ ended_in [] xs) (ended_in (a ++ x ∷ []) xs)) ≡ replies_to s (cond t (b ∷ ended_in [] xs) (ended_in (b ++ x ∷ []) xs))) [
  | true ↦ rw (says_same a b e)
  | false ↦ replies-alike s xs (a ++ x ∷ []) (b ++ x ∷ []) (held_more a b (x ∷ []) e)
])

behind-alike :
    (s : State) (bytes a b : List ℕ) → held_of a ≡ held_of b → behind_all s (ended_in a bytes) ≡ behind_all s (ended_in b bytes)
unfolding ended_in behind_all
behind-alike s [] a b e = refl
behind-alike s (x ∷ xs) a b e = (elim (eqb x 10) as (λ t. behind_all s (cond t (a ∷ ended_in [] xs) (ended_in (a ++ x ∷ []) xs)) ≡ behind_all s (cond t (b ∷ ended_in [] xs) (ended_in (b ++ x ∷ []) xs))) [
  | true ↦ ap (λ (l : Line). behind_all (record { desk = (step_of s.desk l s.tree).turn.desk; tree = (step_of s.desk l s.tree).tree }) (ended_in [] xs)) (says_same a b e)
  | false ↦ behind-alike s xs (a ++ x ∷ []) (b ++ x ∷ []) (held_more a b (x ∷ []) e)
])

held-alike : (bytes a b : List ℕ) → held_of a ≡ held_of b → held_of (begun_by a bytes) ≡ held_of (begun_by b bytes)
unfolding begun_by
held-alike [] a b e = e
held-alike (x ∷ xs) a b e = (elim (eqb x 10) as (λ t. held_of (cond t (begun_by [] xs) (begun_by (a ++ x ∷ []) xs)) ≡ held_of (cond t (begun_by [] xs) (begun_by (b ++ x ∷ []) xs))) [
  | true ↦ refl
  | false ↦ held-alike xs (a ++ x ∷ []) (b ++ x ∷ []) (held_more a b (x ∷ []) e)
])

last-alike : (s : State) (begun : List ℕ) → replies_to s (last_of (held_of begun)) ≡ replies_to s (last_of begun)
unfolding replies_to
last-alike s [] = refl
last-alike s (b ∷ bs) = rw (cut-says 129 (b ∷ bs) (omega arith))

held-shown : (desk : Desk) (begun : List ℕ) → open_line (sitting_of desk begun) ≡ held_of begun
held-shown desk begun = take_at (held_of begun) (replicate (129 - length (held_of begun)) 0) (length (held_of begun)) refl

last-short : (s : State) (begun : List ℕ) → length (replies_to s (last_of begun)) ≤ reply_most
unfolding replies_to
last-short s [] = omega arith
last-short s (b ∷ bs) =
    rw (append-nil) (reply-short (step_of s.desk (line_says (b ∷ bs)) s.tree).turn.reply)

-- ---- from a sitting on
sits_on :
    {s : Sitting} {tree input output : List ℕ} → Sits s tree input output → (begun : List ℕ) → open_line s ≡ held_of begun
    → output ≡ replies_to (state_of s tree) (ended_in begun input ++ last_of (begun_by begun input))
unfolding ended_in begun_by
sits_on (closed {s} {tree} {later} {out} {printed} {n} room c) begun h =
    let st = state_of s tree in
    let laid = laid-in-room (replies_to st (last_of (open_line s))) out n printed c.bytes (omega (arith, last-short st (open_line s))) in
    rw laid.1
    (take_at (replies_to st (last_of (open_line s))) _ n (sym laid.0)
    ∙ ap (λ (l : List ℕ). replies_to st (last_of l)) h
    ∙ last-alike st begun)
sits_on (fed {s} {tree} {later} {chunk} {out} {printed} {input} {output} {r} f rest) begun h =
    let st = state_of s tree in
    let bytes = take r.taken chunk in
    let same : held_of (open_line s) ≡ held_of begun = rw h (take-take 129 129 begun (omega arith)) in
    let desk : r.sitting ≡ sitting_of (behind_all st (ended_in begun bytes)).desk (begun_by (open_line s) bytes) =
    rw (← behind-alike st bytes (open_line s) begun same) f.sitting in
    let lent : later ≡ (behind_all st (ended_in begun bytes)).tree = rw (← behind-alike st bytes (open_line s) begun same) f.lent in
    let state : state_of r.sitting later ≡ behind_all st (ended_in begun bytes) = rw (desk, lent) in
    let shown : open_line r.sitting ≡ held_of (begun_by begun bytes) =
    ap open_line f.sitting ∙ held-shown (behind_all st (heard_in s chunk r.taken)).desk (begun_by (open_line s) bytes) ∙ held-alike bytes (open_line s) begun same in
    let next = sits_on rest (begun_by begun bytes) shown in
    let first : take r.written printed ≡ replies_to st (ended_in begun bytes) =
    rw f.bytes (take_at _ _ r.written (sym f.written)) ∙ replies-alike st bytes (open_line s) begun same in
    rw (first, next, state)
    (sym (replies-joined st (ended_in begun bytes) (ended_in (begun_by begun bytes) input ++ last_of (begun_by (begun_by begun bytes) input)))
    ∙ rw (ended-joined begun bytes input, begun-joined begun bytes input, append_assoc))

-- ---- the theorem
-- the whole output of an input, whatever the chunks and the room of each
pub whole :
    {tree input output : List ℕ} → Sits begins tree input output → output ≡ output_of (record { desk = shut; tree = tree }) input
whole {tree} {input} w =
    sits_on w [] refl ∙ ap (replies_to (record { desk = shut; tree = tree })) (sym (input-heard input))

pub empty-input : (s : State) → output_of s [] ≡ []
unfolding pieces
empty-input s = replies-none s
