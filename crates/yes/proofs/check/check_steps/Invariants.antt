-- `check_steps`: before step i the rows hold what is known, and what is left of the search is the whole of it (`GoodBefore`).
use mathlib.Core.Path.{◌≡◌}
use Prim.Native.Nat.{◌/◌}
use lib.ListN.{length}
use Rattle.pack.specs.Record.{lines_of}
use Rattle.pack.specs.Question.{counted}
use Rattle.yes.proofs.YesLaws.{GoodBefore}
use Rattle.yes.proofs.check.check_steps.Given as goal

abbrev pub invariant-loop-i : goal.invariant-loop-i
invariant-loop-i l =
    (l.steps ≡ length l.sheet / 8) × GoodBefore (lines_of l.q.pack.now) (counted l.q.pack.now l.q.marks.now) l.q.n l.sheet l.tables.concepts l.tables.links l.i
