-- `check_lines`: no place before the walk's counts with a line that the world breaks.
use mathlib.Core.Path.{◌≡◌}
use mathlib.Core.Bool.{false}
use Prim.Native.Nat.{ℕ, ◌<◌}
use Rattle.pack.specs.Question.{counted}
use Rattle.pack.specs.Record.{lines_of}
use Rattle.no.specs.NoSheet.{world_of}
use Rattle.no.proofs.NoLaws.{broken_at}
use Rattle.no.proofs.check.check_lines.Given as goal

abbrev pub invariant-loop-place : goal.invariant-loop-place
invariant-loop-place l =
    (l.place-iterator.marks.now ≡ l.q.marks.now)
    × ((j : ℕ) → j < l.place-iterator.from → broken_at (world_of l.world.things l.world.sheet.now) (lines_of l.q.pack.now) (counted l.q.pack.now l.q.marks.now) j ≡ false)
