-- `read_marks`: one word more (`fill_on`); 16 are all (`fill_end`).
use Rattle.std.proofs.Common.{◌≡◌, refl, arith, length-set}
use Rattle.bits.specs.Lists.{listed}
use Rattle.bits.proofs.ListLaws.{fill_on, fill_end}
use Rattle.pack.specs.Bytes.{words_in}
use Rattle.pack.proofs.bytes.read_marks.Goals as goal

pub loop-j-init : goal.loop-j-init
unfolding listed
loop-j-init c = (refl, refl)

pub loop-j-preserved : goal.loop-j-preserved
loop-j-preserved c =
    let l = c.loop-j.invariant in
    (simp length-set l.0, fill_on _ _ _ _ (omega arith) l.1 (rw c.part_at.ensures at c.read_word.ensures))

pub returns : goal.returns
unfolding words_in
returns c =
    let l = c.loop-j in
    let e : l.j ≡ 16 = omega arith in
    fill_end _ _ 16 (omega arith) (rw e at l.invariant.1)
