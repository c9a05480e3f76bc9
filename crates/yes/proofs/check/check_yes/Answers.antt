-- `check_yes`: the question's refusal as it is; for a question that is taken, which is the one asked, what the length and the
-- steps give.
use Rattle.yes.proofs.Promises.{question_refused, length_unfit, steps_checked, yes_told_lem}
use Rattle.yes.proofs.check.check_yes.Goals as goal

pub returns-in_err-q : goal.returns-in_err-q
returns-in_err-q c = yes_told_lem _ _ _ _ _ _ _ (question_refused _ _ _ _ _ _ _ c.in_err-q.ensures.refused c.from_residual.ensures.1)

pub returns-then-not-length_fits : goal.returns-then-not-length_fits
returns-then-not-length_fits c =
    let same = c.in_ok-q.ensures.same in
    let taken = rw (same.0, same.1, same.2, same.3, same.4, same.5) at c.in_ok-q.q.admitted in
    yes_told_lem _ _ _ _ _ _ _ (length_unfit _ _ _ _ _ _ _ taken c.if-not-length_fits.true)

pub returns : goal.returns
returns c =
    let same = c.in_ok-q.ensures.same in
    let taken = rw (same.0, same.1, same.2, same.3, same.4, same.5) at c.in_ok-q.q.admitted in
    let steps = rw (same.0, same.2, same.3, same.4, same.5) at c.check_steps.ensures in
    yes_told_lem _ _ _ _ _ _ _ (steps_checked _ _ _ _ _ _ _ taken c.if-not-length_fits.false steps)
