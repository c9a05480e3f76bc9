-- `refusal_text`: RECORD by its place (`writes_record`), any other by its number (`writes_refusal`).
use borrow.Author.Rules.{rules}
use Rattle.lines.proofs.PrintLaws.{writes_record, writes_refusal}
use Rattle.lines.proofs.question.refusal_text.Goals as goal

pub returns-in-Refused-Record : goal.returns-in-Refused-Record
returns-in-Refused-Record c = writes_record c.args.q.now (search rules) c.write_refused_at.ensures

pub returns-in_default : goal.returns-in_default
returns-in_default c = writes_refusal c.args.q.now c.args.why c.number.ensures (search rules) c.requires c.write_refused.ensures
