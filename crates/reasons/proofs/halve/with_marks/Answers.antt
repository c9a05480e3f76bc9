-- `with_marks`: with fewer marks the question is taken (`fewer_taken`).
use Rattle.reasons.proofs.AskLaws.{fewer_taken}
use Rattle.reasons.proofs.halve.with_marks.Goals as goal

pub invariant_of-result : goal.invariant_of-result
invariant_of-result c = let pre = c.requires in record { admitted = fewer_taken _ _ _ _ _ _ c.args.q.now.admitted _ pre.0 pre.1 }
