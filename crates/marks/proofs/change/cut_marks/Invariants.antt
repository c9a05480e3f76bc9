-- `cut_marks`: the words before j mark what is left of their places (`Filled`); a turn is one `cut_word`.
use Rattle.marks.specs.Marks.{marked, cut_out}
use Rattle.marks.proofs.WordLaws.{Filled}
use Rattle.marks.proofs.change.cut_marks.Given as goal

abbrev pub invariant-loop-j : goal.invariant-loop-j
invariant-loop-j l = Filled (cut_out (marked l.marks) l.i l.k) l.words l.j
