-- `pick`: of the rest the places before `from` are settled (`Picking`).
use Prim.Native.Nat.{◌-◌}
use Rattle.reasons.proofs.AskLaws.{Picking}
use Rattle.reasons.proofs.halve.pick.Given as goal

abbrev pub invariant-loop-i : goal.invariant-loop-i
invariant-loop-i l = Picking l.q.pack.now l.q.marks.now l.q.a l.q.b l.rest l.from

abbrev pub decreases-loop-i : goal.decreases-loop-i
decreases-loop-i l = 1025 - l.from
