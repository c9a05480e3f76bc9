-- `is_marked`: bit i mod 64 of word i div 64, by `mark_word` and `test_bit`: `marked` as it is defined.
use Rattle.marks.specs.Marks.{marked}
use Rattle.marks.proofs.look.is_marked.Goals as goal

pub returns : goal.returns
unfolding marked
returns c = rw c.mark_word.ensures at c.test_bit.ensures
