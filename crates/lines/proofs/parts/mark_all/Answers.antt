-- `mark_all`: of 16 full words, the places below the record count (`everything`).
use Rattle.lines.proofs.EverythingLaws.{everything}
use Rattle.lines.proofs.parts.mark_all.Goals as goal

pub returns : goal.returns
returns c = everything _ c.cut_marks.ensures
