-- `test_bit`: the word shifted down by j mod 64, its lowest bit compared with 1: `has` as it is defined.
use mathlib.Core.Path.{refl}
use Rattle.bits.specs.Bit.{has}
use Rattle.bits.proofs.test_bit.Goals as goal

pub returns : goal.returns
unfolding has
returns c = refl
