-- `set_of`: for a equal to b no record is needed (`same_words`); else the goal follows from the module (`inside_follows`), and what is
-- picked from the module is the printed set (`inside_set`).
use mathlib.Core.Path.{ap, ◌∙◌}
use lib.ListN.{length}
use Rattle.marks.proofs.WordLaws.{marks_length}
use Rattle.reasons.proofs.AnswerLaws.{same_words, inside_fewer, inside_follows, inside_set}
use Rattle.reasons.proofs.set.set_of.Goals as goal

pub returns-then-q : goal.returns-then-q
returns-then-q c = same_words _ _ _ _ _ _ c.args.q.now.admitted c.requires c.if-q.true

pub with_marks-requires : goal.with_marks-requires
with_marks-requires c =
    let e = c.module_of-inside.ensures in
    (ap length e ∙ marks_length _, inside_fewer _ _ _ _ _ _ c.args.q.now.admitted c.requires _ e)

pub pick-requires : goal.pick-requires
pick-requires c =
    let words = c.with_marks.ensures.words in
    let goal = c.with_marks.ensures.goal in
    rw (words.0, words.1, goal.0, goal.1) (inside_follows _ _ _ _ _ _ c.args.q.now.admitted c.requires _ c.module_of-inside.ensures)

pub returns : goal.returns
returns c =
    let words = c.with_marks.ensures.words in
    let goal = c.with_marks.ensures.goal in
    let picked = c.pick.ensures in
    inside_set _ _ _ _ _ _ c.args.q.now.admitted c.requires _ c.module_of-inside.ensures _ (rw words.1 at picked.words) (rw (words.0, words.1, goal.0, goal.1) at picked.picked)
