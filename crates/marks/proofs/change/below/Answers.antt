-- `below`: the lowest bits, as many as there are places below i (`below_some`); 64 and more are all of them (`below_all`).
use native.Mathlib.Omega.{arith}
use Rattle.marks.proofs.CutLaws.{below_all, below_some}
use Rattle.marks.proofs.change.below.Goals as goal

pub returns-then-past-lt64 : goal.returns-then-past-lt64
returns-then-past-lt64 c j _ = rw c.saturating_sub-past.ensures (below_some _ _ (omega (arith, c.saturating_sub-past.ensures, c.if-past-lt64.true)) j)

pub returns-else-past-lt64 : goal.returns-else-past-lt64
returns-else-past-lt64 c = below_all _ _ (omega (arith, c.saturating_sub-past.ensures, c.if-past-lt64.false))
