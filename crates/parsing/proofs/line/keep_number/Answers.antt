-- `parsing::line::keep_number` meets its contract: where a separator ends the number it is set at its place, or lies past the buffer.
use mathlib.Core.Bool.{not}
use mathlib.Core.Path.{sym, ap, subst}
use mathlib.Core.List.{List}
use lib.Ieee.{Float}
use Prim.Native.Nat.{◌+◌}
use Rattle.parsing.specs.Steps.{number_by}
use Rattle.parsing.specs.Bytes.{Kept, past_end, stored}
use Rattle.parsing.proofs.line.keep_number.Goals as goal
use Rattle.parsing.proofs.line.keep_number.Goals.{then-count-out, else-count-out}

pub returns : goal.returns
returns c = let a = c.args in
    elim c.if-count-out.branch [
      | then-count-out w ↦ subst (λ (o : List Float). Kept a.negative a.size a.c a.out.now a.count (number_by a.negative a.size a.c) (a.count + 1) o) (sym w.out-is) (stored a.negative a.size a.c a.out.now a.count c.separates.ensures (ap not c.if-not-separates.false) w.value.ensures)
      | else-count-out w ↦ subst (λ (o : List Float). Kept a.negative a.size a.c a.out.now a.count (number_by a.negative a.size a.c) (a.count + 1) o) (sym w.out-is) (past_end a.negative a.size a.c a.out.now a.count c.separates.ensures (ap not c.if-not-separates.false) w.if-count-out.false)
    ]
