-- `set_taken`: the set where the goal follows, what is written being what is counted; else 7, and the out words stay.
use mathlib.Core.Path.{refl, ap, ◌∙◌}
use mathlib.Core.Logic.{inl, inr}
use Rattle.std.specs.Prelude.{Ok}
use Rattle.bits.proofs.Truth.{never}
use Rattle.marks.specs.Marks.{mark_count}
use Rattle.pack.specs.Question.{counted}
use Rattle.pack.specs.Record.{lines_of}
use Rattle.pack.specs.World.{Follows}
use Rattle.reasons.proofs.AskLaws.{held_follows}
use Rattle.reasons.proofs.set.set_taken.Goals as goal
use Rattle.reasons.proofs.set.set_taken.Goals.{Else-not-goal_follows}

follows : (c : Else-not-goal_follows) → Follows (lines_of c.args.q.now.pack.now) (counted c.args.q.now.pack.now c.args.q.now.marks.now) c.args.q.now.a c.args.q.now.b
follows c = (held_follows _ _ _ _ _ _ c.args.q.now.admitted c.goal_follows.ensures).0 c.if-not-goal_follows.false

pub returns-then-not-goal_follows : goal.returns-then-not-goal_follows
returns-then-not-goal_follows c = inr (λ f. never ((held_follows _ _ _ _ _ _ c.args.q.now.admitted c.goal_follows.ensures).1 f) c.if-not-goal_follows.true, refl, refl)

pub set_of-requires : goal.set_of-requires
set_of-requires c = follows (goal.at.set_of-requires c).Else-not-goal_follows

pub returns : goal.returns
returns c =
    let e = c.set_of.ensures in
    inl (follows (goal.at.returns c).Else-not-goal_follows, ap Ok (c.give.ensures.0 ∙ ap mark_count e), c.give.ensures.1 ∙ e)
