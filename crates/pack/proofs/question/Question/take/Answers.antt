-- `Question::take`: the check's count is the number of records, and its refusal is handed on.
use mathlib.Core.Path.{sym, ◌∙◌}
use Rattle.std.proofs.lemmas.Result.{err_from_is_err_and}
use Rattle.pack.proofs.Promises.{question_taken, question_is}
use Rattle.pack.proofs.question.Question.take.Goals as goal

pub invariant_of-result : goal.invariant_of-result
invariant_of-result c = record { admitted = question_taken _ _ _ _ _ _ c.check.ensures c.in_ok-_count.was }

pub returns-in_err-_count-clause-refused : goal.returns-in_err-_count-clause-refused
returns-in_err-_count-clause-refused c =
    let p = err_from_is_err_and c.from_residual.result c.from_residual.ensures.1 in
    rw (p.1, p.2) (sym (question_is _ _ _ _ _ _ c.check.ensures) ∙ c.in_err-_count.was)
