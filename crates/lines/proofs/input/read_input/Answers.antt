-- `read_input`: the four bytes of the last 8 that must be zero are (`all_zero`).
use borrow.Author.Rules.{rules}
use Rattle.lines.proofs.InputLaws.{all_zero}
use Rattle.lines.proofs.input.read_input.Goals as goal

pub returns : goal.returns
returns c = all_zero _ c.if-too_long.false c.in-0.len_at_least (search rules) (search rules) (search rules) (search rules) (search rules)
