-- `cut_word`: what is below k and not below i goes, which is what is from i on and below k (`from_on`).
use mathlib.Core.Path.{ap, ◌∙◌}
use mathlib.Core.Bool.{Bool, not, ◌&&◌}
use Prim.Native.Nat.{◌+◌}
use Rattle.bits.specs.Bit.{has}
use Rattle.marks.proofs.CutLaws.{from_on}
use Rattle.marks.proofs.change.cut_word.Goals as goal

pub returns : goal.returns
returns c j l =
    let a = c.args in
    c.lacking.ensures j
    ∙ ap (λ (t : Bool). has a.w j && not t) (c.lacking-cut.ensures j ∙ rw (c.below.ensures j l, c.below-2.ensures j l) (from_on a.i a.k (a.at + j)))
