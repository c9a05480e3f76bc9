-- `noolukask_check_question`: what the check of the question that C asks gives, coded.
use Rattle.pack.specs.Question.{GivesQuestion}
use Rattle.desk.proofs.CodeLaws.{checked_small, coded}
use Rattle.desk.proofs.ask.noolukask_check_question.Goals as goal

pub returns : goal.returns
returns c =
    let q = c.from_c-question.ensures in
    coded (GivesQuestion _ _ _ _ _ _) _ _ (checked_small c.check.result) c.coded.ensures
    (rw (q.sizes.0, q.sizes.1, q.pack, q.marks, q.goal.0, q.goal.1) at c.check.ensures)
