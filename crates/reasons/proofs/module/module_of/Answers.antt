-- `module_of`: words that mark the module are the module's (`module_found`).
use native.Mathlib.Omega.{arith}
use Rattle.pack.proofs.QuestionLaws.{asked}
use Rattle.reasons.proofs.ModuleLaws.{lines_widest, module_found}
use Rattle.reasons.proofs.module.module_of.Goals as goal

pub overflow_cast-q : goal.overflow_cast-q
overflow_cast-q c = let q = asked _ _ _ _ _ _ c.args.q.now.admitted in omega (arith, q.goal_a, q.pack.n_most)

pub reached_records-requires : goal.reached_records-requires
reached_records-requires c =
    let taken = c.args.q.now.admitted in
    let q = asked _ _ _ _ _ _ taken in
    (lines_widest _ _ _ _ _ _ taken, q.pack.size, q.marks.sixteen, omega (arith, q.goal_a, q.pack.n_most))

pub returns : goal.returns
returns c = module_found _ _ _ _ _ _ c.args.q.now.admitted _ c.reached_records.ensures
