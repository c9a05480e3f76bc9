-- `question_text`: where a verdict is given (`given_as`) the question is taken, so the parts are what the lines tell.
use mathlib.Core.Path.{refl}
use borrow.Author.Rules.{rules}
use Rattle.std.proofs.Common.{Ok}
use Rattle.engine.specs.declared.answer.Verdict.TheVariants.{Follows, Not}
use Rattle.lines.proofs.TakenLaws.{given_as, given_taken, given_taken_first, given_follows, given_not}
use Rattle.lines.proofs.PrintLaws.{writes_follows, writes_not}
use Rattle.lines.proofs.question.question_text.Goals as goal

pub module_marks-module-requires : goal.module_marks-module-requires
module_marks-module-requires c = given_taken_first c.args.q.now (given_as c.args.q.now (Ok Follows) (search rules) c.verdict.ensures)

pub set_marks-set-requires-clause-taken : goal.set_marks-set-requires-clause-taken
set_marks-set-requires-clause-taken c = given_taken c.args.q.now (given_as c.args.q.now (Ok Follows) (search rules) c.verdict.ensures)

pub set_marks-set-requires-clause-follows : goal.set_marks-set-requires-clause-follows
set_marks-set-requires-clause-follows c = given_follows c.args.q.now (given_as c.args.q.now (Ok Follows) (search rules) c.verdict.ensures) refl

pub sheet_parts-requires : goal.sheet_parts-requires
sheet_parts-requires c = given_taken c.args.q.now (given_as c.args.q.now (Ok Follows) (search rules) c.verdict.ensures)

pub returns-in-Ok-Follows : goal.returns-in-Ok-Follows
returns-in-Ok-Follows c =
    let g = given_as c.args.q.now (Ok Follows) (search rules) c.verdict.ensures in
    writes_follows c.args.q.now g (c.sheet_parts.ensures.0 (given_follows c.args.q.now g refl)) c.module_marks-module.ensures c.set_marks-set.ensures c.write_follows.ensures

pub returns-in-Ok-Not : goal.returns-in-Ok-Not
returns-in-Ok-Not c =
    let g = given_as c.args.q.now (Ok Not) (search rules) c.verdict.ensures in
    writes_not c.args.q.now g (c.sheet_parts-in-Ok-Not.ensures.1 (given_not c.args.q.now g refl)) c.module_marks.ensures c.write_not.ensures
