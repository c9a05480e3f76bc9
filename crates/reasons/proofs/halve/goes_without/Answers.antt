-- `goes_without`: with fewer marks the question is taken (`cut_fewer`), and what is asked of what is left is answered (`held_follows`).
use mathlib.Core.Path.{ap, ◌∙◌}
use lib.ListN.{length}
use Rattle.marks.proofs.CutLaws.{cut_fewer}
use Rattle.marks.proofs.WordLaws.{marks_length}
use Rattle.reasons.proofs.AskLaws.{cut_same, held_follows}
use Rattle.reasons.proofs.halve.goes_without.Goals as goal

pub with_marks-requires : goal.with_marks-requires
with_marks-requires c =
    let e = c.cut_marks-trial.ensures in
    (ap length e ∙ marks_length _, λ i h. cut_fewer _ _ _ i (rw (cut_same _ _ _ _ _ _ c.args.q.now.admitted _ _ _ e) at h))

pub returns : goal.returns
returns c =
    let x = c.with_marks.result in
    let words = c.with_marks.ensures.words in
    let goal = c.with_marks.ensures.goal in
    rw (words.0, words.1, goal.0, goal.1, cut_same _ _ _ _ _ _ c.args.q.now.admitted _ _ _ c.cut_marks-trial.ensures) at (held_follows x.n x.m x.pack.now x.marks.now x.a x.b x.admitted c.goal_follows.ensures)
