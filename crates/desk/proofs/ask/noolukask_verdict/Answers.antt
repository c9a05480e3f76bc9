-- `noolukask_verdict`: what the verdict on the question that C asks gives, coded.
use Rattle.engine.specs.Verdict.{GivesVerdict}
use Rattle.desk.proofs.CodeLaws.{verdict_small, coded}
use Rattle.desk.proofs.ask.noolukask_verdict.Goals as goal

pub returns : goal.returns
returns c =
    let q = c.from_c-question.ensures in
    coded (GivesVerdict _ _ _ _ _ _) _ _ (verdict_small c.verdict.result) c.coded.ensures
    (rw (q.sizes.0, q.sizes.1, q.pack, q.marks, q.goal.0, q.goal.1) at c.verdict.ensures)
