-- `halfway`: half is a place inside; whole is marked, inside and not before it.
use mathlib.Core.Path.{◌≡◌}
use mathlib.Core.Bool.{true}
use Prim.Native.Nat.{◌<◌, ◌≤◌, ◌-◌}
use Rattle.marks.specs.Marks.{marked}
use Rattle.reasons.proofs.halve.halfway.Given as goal

abbrev pub invariant-loop-next : goal.invariant-loop-next
invariant-loop-next l = (l.range.from < l.half) × (l.half ≤ l.whole) × (l.whole < l.end) × (marked l.marks l.whole ≡ true)

abbrev pub decreases-loop-next : goal.decreases-loop-next
decreases-loop-next l = l.end - l.whole
