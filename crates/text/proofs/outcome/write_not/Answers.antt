-- `write_not`: two lines, one behind the other; the first is so short that the second fits (`number_line_end`).
use native.Mathlib.Omega.{arith}
use borrow.Author.Rules.{rules}
use Rattle.text.specs.Text.{text_of}
use Rattle.text.proofs.BufferLaws.{added_then}
use Rattle.text.proofs.LineLaws.{number_line_end, added_text}
use Rattle.text.proofs.outcome.write_not.Goals as goal

pub list_line-requires : goal.list_line-requires
list_line-requires c = omega (arith, number_line_end _ _ (omega arith) c.number_line.ensures)

pub returns : goal.returns
unfolding text_of
returns c = added_text _ (omega arith) c.new-text.ensures.buffer c.new-text.ensures.start (added_then c.number_line.ensures c.list_line.ensures) (search rules)
