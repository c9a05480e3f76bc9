-- `next_kept`: the range has the next one (`Between`).
use Prim.Native.Nat.{◌-◌}
use Rattle.pack.specs.Record.{lines_of}
use Rattle.pack.specs.World.{Follows}
use Rattle.pack.specs.Question.{counted}
use Rattle.reasons.specs.Inner.{Between}
use Rattle.reasons.proofs.halve.next_kept.Given as goal

abbrev pub invariant-loop-middle : goal.invariant-loop-middle
invariant-loop-middle l = Between (λ P. Follows (lines_of l.q.pack.now) P l.q.a l.q.b) (counted l.q.pack.now l.q.marks.now) l.i l.range.from l.range.to

abbrev pub decreases-loop-middle : goal.decreases-loop-middle
decreases-loop-middle l = l.range.to - l.range.from
