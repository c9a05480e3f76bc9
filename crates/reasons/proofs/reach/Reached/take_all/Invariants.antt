-- `take_all`: the marked records before the place that the walk has come to are done (`Walked`).
use mathlib.Core.Path.{◌≡◌}
use Rattle.marks.specs.Marks.{marked}
use Rattle.pack.specs.Record.{lines_of}
use Rattle.reasons.specs.Names.{Walked}
use Rattle.reasons.proofs.reach.Reached.take_all.Given as goal

abbrev pub invariant-loop-i : goal.invariant-loop-i
invariant-loop-i l = (l.i-iterator.marks.now ≡ l.marks) × Walked (lines_of l.pack) (marked l.marks) l.i-iterator.from l.initial.self l.self
