-- `cut_marks`: the words before j mark what is left of their places (`Filled`); a turn is one `cut_word`.
use mathlib.Core.Path.{refl}
use native.Mathlib.Omega.{arith}
use Rattle.marks.proofs.WordLaws.{filled_start, filled_on, filled_end}
use Rattle.marks.proofs.CutLaws.{cut_mark}
use Rattle.marks.proofs.change.cut_marks.Goals as goal

pub loop-j-init : goal.loop-j-init
loop-j-init c = filled_start _ _ refl

pub loop-j-preserved : goal.loop-j-preserved
loop-j-preserved c =
    let l = c.loop-j in
    filled_on _ _ _ _ (omega arith) l.invariant (omega arith) (cut_mark _ _ _ _ _ _ c.mark_word.ensures c.cut_word.ensures)

pub returns : goal.returns
returns c = let l = c.loop-j in filled_end _ _ _ (omega arith) l.invariant
