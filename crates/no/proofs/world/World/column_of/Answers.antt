-- `column_of`: before thing y the column has the things below y that are in a; y adds its own bit (`column_on`).
use mathlib.Core.Path.{ap, ◌∙◌}
use Prim.Native.Nat.{ℕ}
use native.Mathlib.Omega.{arith}
use borrow.Author.Tests.{le-ltb}
use Rattle.bits.specs.Bit.{has}
use Rattle.bits.proofs.RowLaws.{column_on}
use Rattle.bits.proofs.BitLaws.{has_zero, column_bits}
use Rattle.no.specs.NoSheet.{row_at}
use Rattle.no.proofs.world.World.column_of.Goals as goal

pub loop-y-init : goal.loop-y-init
loop-y-init c = λ j. has_zero j ∙ rw (le-ltb j 0 (omega arith))

pub loop-y-preserved : goal.loop-y-preserved
loop-y-preserved c =
    let a = c.args in
    let w = a.self.now in
    column_on (λ j. has (row_at w.sheet.now j) a.a) _ _ c.loop-y.y (ap (λ (v : ℕ). has v a.a) c.row.ensures) c.loop-y.invariant (column_bits _ _ _ _ c.requires (omega (arith, w.few)) c.column_with-column.ensures)
