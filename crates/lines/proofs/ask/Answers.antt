-- `ask`: the marks are those of everything.
use Rattle.lines.proofs.ask.Goals as goal

pub returns : goal.returns
returns c = rw (← c.mark_all-marks.ensures) c.question_text.ensures
