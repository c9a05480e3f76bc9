-- `with_bit`: 1 shifted up by less than 64 is that power of two (`one_shl`), and `with_bit` is the or with it.
use mathlib.Core.Path.{ap}
use Prim.Native.Nat.{◌%◌}
use native.Mathlib.Omega.{arith}
use lib.Bits.{bit_or}
use Rattle.bits.specs.Bit.{with_bit}
use Rattle.bits.proofs.BitLaws.{one_shl}
use Rattle.bits.proofs.with_bit.Goals as goal

pub returns : goal.returns
unfolding with_bit
returns c = ap (bit_or c.args.w) (one_shl (c.args.j % 64) (omega arith))
