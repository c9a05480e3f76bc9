-- `column_of`: before thing y the column has the things below y that are in a; y adds its own bit (`column_on`).
use mathlib.Core.Path.{◌≡◌}
use mathlib.Core.Bool.{◌&&◌}
use Prim.Native.Nat.{ℕ}
use lib.Dec.{ltb}
use Rattle.bits.specs.Bit.{has}
use Rattle.no.specs.NoSheet.{row_at}
use Rattle.no.proofs.world.World.column_of.Given as goal

abbrev pub invariant-loop-y : goal.invariant-loop-y
invariant-loop-y l = (j : ℕ) → has l.column j ≡ (ltb j l.y && has (row_at l.self.sheet.now j) l.a)
