-- `number_line`: the word, the number, the newline (`added_then`); there is room, for a number has at most 10 digits (`decimal_most`).
use native.Mathlib.Omega.{arith}
use Rattle.text.specs.Text.{number_line}
use Rattle.text.proofs.BufferLaws.{added_then}
use Rattle.text.proofs.DigitLaws.{decimal_most}
use Rattle.text.proofs.line.Text.number_line.Goals as goal

pub push_number-requires : goal.push_number-requires
push_number-requires c = omega (arith, decimal_most 9 c.args.k (omega arith))

pub push_word-requires-2 : goal.push_word-requires-2
push_word-requires-2 c = omega (arith, decimal_most 9 c.args.k (omega arith))

pub returns : goal.returns
unfolding number_line
returns c = added_then (added_then c.push_word.ensures c.push_number.ensures) c.push_word-2.ensures
