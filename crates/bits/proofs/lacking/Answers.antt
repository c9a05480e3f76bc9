-- `lacking`: w & !v, bit by bit: the bits of w that v lacks (`lacking_bits`).
use native.Mathlib.Omega.{arith}
use Rattle.bits.proofs.BitLaws.{lacking_bits}
use Rattle.bits.proofs.lacking.Goals as goal

pub returns : goal.returns
returns c = lacking_bits _ _ (omega arith) (omega arith)
