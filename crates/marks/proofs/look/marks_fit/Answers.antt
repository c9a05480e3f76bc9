-- `marks_fit`: other than 16 words do not fit; 16 do where no place from the count on is marked.
use mathlib.Core.Path.{ap, ◌∙◌}
use mathlib.Core.Bool.{not}
use borrow.Author.Tests.{ne_eqb}
use Rattle.bits.proofs.FoundLaws.{none_below}
use Rattle.bits.proofs.SetLaws.{lowest_past}
use Rattle.marks.specs.Marks.{marks_fit}
use Rattle.marks.proofs.look.marks_fit.Goals as goal

pub returns-then-marks-eq16 : goal.returns-then-marks-eq16
unfolding marks_fit
returns-then-marks-eq16 c = rw c.if-marks-eq16.true (none_below 1024 _ c.next_marked.ensures c.is_none.ensures ∙ ap not (lowest_past _ _ 1024))

pub returns-else-marks-eq16 : goal.returns-else-marks-eq16
unfolding marks_fit
returns-else-marks-eq16 c = rw (ne_eqb _ _ c.if-marks-eq16.false)
