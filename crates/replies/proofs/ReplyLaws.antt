-- A line is printed by what it says. Assumes nothing.
use Prim.Native.Nat.{ℕ}
use mathlib.Core.List.{List}
use mathlib.Core.Path.{◌≡◌, ap, subst}
use Rattle.decimal.specs.Promises.{Laid}
use Rattle.lines.specs.declared.Line.{Line}
use Rattle.lines.specs.Says.{line_says}
use Rattle.steps.specs.declared.Turn.{Turn}
use Rattle.steps.specs.Step.{Desk, Steps}
use Rattle.replies.specs.Reply.{bytes_of, Prints}

module _ (out : List ℕ) (n : ℕ) (printed : List ℕ) where
  pub line-printed :
      (desk : Desk) (line tree later : List ℕ) (said : Line) (turn : Turn) → said ≡ line_says line → Steps desk said tree later turn
      → Laid (bytes_of turn.reply) out n printed → Prints desk line tree later out printed (record { desk = turn.desk; bytes = n })
  line-printed desk line tree later said turn m s l =
      let p = subst (λ (x : Line). Steps desk x tree later turn) m s in
      record {
        state = ap (λ (x : Turn). x.desk) p.said;
        lent = p.lent;
        bytes = subst (λ (x : Turn). Laid (bytes_of x.reply) out n printed) p.said l;
      }
