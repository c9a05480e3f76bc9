-- `module_for`: the question's refusal, out marks as they were (`module_refused`), or the module (`module_taken`).
use mathlib.Core.Path.{◌∙◌}
use Rattle.std.proofs.lemmas.Result.{err_from_is_err_and}
use Rattle.reasons.proofs.OutLaws.{reason_asked}
use Rattle.reasons.proofs.Promises.{module_taken, module_refused}
use Rattle.reasons.proofs.module.module_for.Goals as goal

pub returns-in_err-taken : goal.returns-in_err-taken
returns-in_err-taken c =
    let a = c.args.q.now in
    let p = err_from_is_err_and c.from_residual.result c.from_residual.ensures.1 in
    rw (p.1, p.2) (module_refused a.n a.m a.pack.now a.marks.now a.a c.args.out.now c.in_err-taken.ensures.refused)

pub returns : goal.returns
returns c =
    let a = c.args.q.now in
    let same = c.in_ok-taken.ensures.same in
    let taken = rw (same.0, same.1, same.2, same.3, same.4, same.5) at c.in_ok-taken.taken.admitted in
    let words = rw (same.0, same.1, same.2, same.3, same.4) at c.module_of.ensures in
    rw (c.give.ensures.0, words) (module_taken a.n a.m a.pack.now a.marks.now a.a c.args.out.now (reason_asked _ _ _ _ _ _ _ same.6 ∙ taken) (c.give.ensures.1 ∙ words))
