-- `write_refused_at`: its one line is the text (`added_text`).
use native.Mathlib.Omega.{arith}
use borrow.Author.Rules.{rules}
use Rattle.text.specs.Text.{text_of}
use Rattle.text.proofs.LineLaws.{added_text}
use Rattle.text.proofs.outcome.write_refused_at.Goals as goal

pub returns : goal.returns
unfolding text_of
returns c = added_text _ (omega arith) c.new-text.ensures.buffer c.new-text.ensures.start c.number_line.ensures (search rules)
