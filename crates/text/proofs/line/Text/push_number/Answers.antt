-- `push_number`: what the library prints of a number are its digits in decimal (`decimal_is`).
use mathlib.Core.Path.{◌∙◌}
use native.Mathlib.Omega.{arith}
use Rattle.text.proofs.DigitLaws.{decimal_is}
use Rattle.text.proofs.line.Text.push_number.Goals as goal

pub push_word-requires : goal.push_word-requires
push_word-requires c = let e = decimal_is c.args.k (omega arith) in rw (c.as_bytes.ensures.value ∙ c.format.ensures.text, ← e) c.requires

pub returns : goal.returns
returns c = let e = decimal_is c.args.k (omega arith) in rw (e, ← c.format.ensures.text, ← c.as_bytes.ensures.value) c.push_word.ensures
