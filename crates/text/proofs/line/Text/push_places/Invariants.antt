-- `push_places`: the places that the walk has passed are written (`Listed`).
use mathlib.Core.Path.{◌≡◌}
use Rattle.marks.specs.Marks.{marked}
use Rattle.text.proofs.PlaceLaws.{Listed}
use Rattle.text.proofs.line.Text.push_places.Given as goal

abbrev pub invariant-loop-i : goal.invariant-loop-i
invariant-loop-i l = (l.i-iterator.marks.now ≡ l.marks) × Listed (marked l.marks) l.i-iterator.from l.initial.self l.self
