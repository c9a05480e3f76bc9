-- `check_steps`: a bad step ends it (`step_bad`), past the last the goal decides (`goal_shown`, `goal_not_shown`).
use mathlib.Core.Path.{refl}
use native.Mathlib.Omega.{arith}
use Rattle.pack.specs.Record.{record_count}
use Rattle.pack.proofs.RecordLaws.{lines_valid}
use Rattle.pack.proofs.QuestionLaws.{Asked, asked}
use Rattle.yes.proofs.YesLaws.{good_none, good_more, step_bad, goal_shown, goal_not_shown}
use Rattle.yes.proofs.check.check_steps.Goals as goal
use Rattle.yes.proofs.check.check_steps.Goals.{Start}

-- the question is taken, so that its sizes, its lines and its goal are right
question : (c : Start) → let q = c.args.q.now in Asked q.n q.m q.pack.now q.marks.now q.a q.b (record_count q.pack.now)
question c = asked _ _ _ _ _ _ c.args.q.now.admitted

pub loop-i-init : goal.loop-i-init
loop-i-init c =
    let q = question (goal.at.loop-i-init c).Start in
    (refl, rw c.start-tables.ensures (good_none _ _ _ _ q.pack.n_most))

pub returns-then-not-check_step : goal.returns-then-not-check_step
returns-then-not-check_step c =
    let same = c.asked-asked.ensures in
    let step = rw (same.0, same.2, same.3, c.part_at.ensures) at c.if-not-check_step.ensures in
    step_bad _ _ _ _ c.loop-i.invariant.1 (omega arith) step.good _ _ refl

pub loop-i-preserved : goal.loop-i-preserved
loop-i-preserved c =
    let same = c.asked-asked.ensures in
    let step = rw (same.0, same.2, same.3, c.part_at.ensures) at c.if-not-check_step.ensures in
    let q = (question (goal.at.loop-i-preserved c).Start).pack in
    (refl, good_more _ _ _ _ c.loop-i.invariant.1 (omega arith) step.good q.n_most q.m_most (lines_valid _ _ _ q.all) refl step.concepts step.links)

pub overflow_cast-q : goal.overflow_cast-q
overflow_cast-q c = let q = question (goal.at.overflow_cast-q c).Start in omega arith

pub overflow_cast-q-2 : goal.overflow_cast-q-2
overflow_cast-q-2 c = let q = question (goal.at.overflow_cast-q-2 c).Start in omega arith

pub returns-then-not-holds_in : goal.returns-then-not-holds_in
returns-then-not-holds_in c = goal_not_shown _ _ _ _ c.loop-i.invariant.1 (omega arith) _ _ c.holds_in.ensures c.if-not-holds_in.true

pub returns : goal.returns
returns c = goal_shown _ _ _ _ c.loop-i.invariant.1 (omega arith) _ _ c.holds_in.ensures c.if-not-holds_in.false
