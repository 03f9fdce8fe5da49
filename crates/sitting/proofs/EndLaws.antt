-- The last of a sitting: a last line that lacks its end. Assumes nothing.
use Prim.Native.Nat.{ℕ, ◌<◌, min}
use mathlib.Core.List.{List, [], ◌∷◌, append-nil}
use mathlib.Core.Path.{◌≡◌, refl, sym, ap, ◌∙◌}
use native.Mathlib.Omega.{arith}
use lib.ListN.{length, take, length-take}
use lib.Seq.{take_all}
use Rattle.replies.specs.declared.Printed.{Printed}
use Rattle.replies.specs.Reply.{Prints}
use Rattle.decimal.proofs.PrintLaws.{in-room}
use Rattle.frames.specs.Framing.{last_of}
use Rattle.frames.proofs.TakeLaws.{take_min}
use Rattle.sitting.specs.declared.Sitting.{Sitting}
use Rattle.output.specs.Output.{replies_to, behind_all}
use Rattle.sitting.specs.Sitting.{open_line, Closes}

pub closes-none : (s : Sitting) (tree out : List ℕ) → s.held ≡ 0 → Closes s tree tree out 0 out
unfolding replies_to behind_all
closes-none s tree out e =
    let none : open_line s ≡ [] = rw e in
    record {
      lent = rw none;
      bytes = rw none (in-room [] out 0 out refl (omega arith) refl);
    }

last_some : (line : List ℕ) → 0 < length line → last_of line ≡ line ∷ []
last_some [] l = absurd (omega arith)
last_some (b ∷ bs) l = refl

pub closes-some :
    (s : Sitting) (tree later out printed : List ℕ) (n : ℕ) (r : Printed) → length s.line ≡ 129 → (s.held ≡ 0 → ⊥)
    → n ≡ min s.held 129 → Prints s.desk (take n s.line) tree later out printed r → Closes s tree later out r.bytes printed
unfolding replies_to behind_all
closes-some s tree later out printed n r long some e p =
    let all : take 129 s.line ≡ s.line = take_all 129 s.line (omega arith) in
    let shown : take n s.line ≡ open_line s =
    rw e (sym (take_min s.held 129 s.line) ∙ ap (take s.held) all) in
    let last : last_of (open_line s) ≡ open_line s ∷ [] =
    last_some (open_line s) (omega (arith, length-take s.held s.line, some)) in
    record {
      lent = rw (last, ← shown) p.lent;
      bytes = rw (last, append-nil, ← shown) p.bytes;
    }
