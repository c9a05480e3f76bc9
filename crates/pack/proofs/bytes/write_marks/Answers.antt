-- `write_marks`: one word more (`filled_more`); 16 are all.
use Rattle.std.proofs.Common.{◌≡◌, refl, ◌∙◌, arith, get_or}
use mathlib.Core.List.{append-nil}
use lib.ListN.{drop_of_length-le}
use Rattle.bits.proofs.ListLaws.{listed_is}
use Rattle.pack.proofs.BytesLaws.{filled_start, filled_more}
use Rattle.pack.proofs.bytes.write_marks.Goals as goal

pub loop-j-init : goal.loop-j-init
loop-j-init c = filled_start _ _

pub loop-j-preserved : goal.loop-j-preserved
loop-j-preserved c =
    let l = c.loop-j in
    let pre = c.requires in
    filled_more _ _ l.out l.j (omega arith) l.invariant refl c.write_word.ensures

pub returns : goal.returns
returns c =
    let l = c.loop-j in
    let a = c.args in
    let pre = c.requires in
    let e : l.j ≡ 16 = omega arith in
    l.invariant ∙ rw (e, listed_is (λ i. get_or a.words.now i 0) 0 16 a.words.now pre.0 (λ i h. refl), drop_of_length-le a.out.now {i = 128} (omega arith)) (append-nil _)
