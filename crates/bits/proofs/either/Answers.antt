-- `either`: w | v, bit by bit: the bits of either word (`has_or`).
use Rattle.bits.proofs.BitLaws.{has_or}
use Rattle.bits.proofs.either.Goals as goal

pub returns : goal.returns
returns c = has_or c.args.w c.args.v
