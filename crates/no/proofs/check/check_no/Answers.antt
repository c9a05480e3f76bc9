-- `check_no`: the question's refusal as it is (`no_refused`), or what the sheet gives (`no_told_lem`).
use Rattle.std.proofs.lemmas.Result.{err_from_is_err_and}
use Rattle.no.proofs.Promises.{no_refused, no_told_lem}
use Rattle.no.proofs.check.check_no.Goals as goal

pub returns-in_err-taken : goal.returns-in_err-taken
returns-in_err-taken c =
    let p = err_from_is_err_and c.from_residual.result c.from_residual.ensures.1 in
    rw (p.1, p.2) (no_refused _ _ _ _ _ _ c.args.sheet.now c.in_err-taken.ensures.refused)

pub returns : goal.returns
returns c =
    let s = c.in_ok-taken.ensures.same in
    no_told_lem _ _ _ _ _ _ _ (rw (s.0, s.1, s.2, s.3, s.4, s.5) at c.check_taken.ensures)
