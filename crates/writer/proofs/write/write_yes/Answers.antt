-- `write_yes`: NO ROOM (`yes_short`), or the passes again, on a part of the sheet as long as the steps (`yes_full`).
use native.Mathlib.Omega.{arith, by_contra}
use lib.ListN.{length-take}
use Rattle.engine.proofs.VerdictLaws.{end_few}
use Rattle.writer.proofs.WriteLaws.{yes_short, yes_full}
use Rattle.writer.proofs.write.write_yes.Goals as goal

pub returns-then-sheet-need : goal.returns-then-sheet-need
returns-then-sheet-need c = yes_short _ _ _ _ _ _ c.args.q.now.admitted _ c.requires.1 _ c.requires.2 c.if-sheet-need.true

pub overflow_cast-result-2 : goal.overflow_cast-result-2
overflow_cast-result-2 c = omega (arith, by_contra c.settle-written.result.count 36800 (λ l. end_few _ _ _ _ _ _ c.args.q.now.admitted c.requires.0 _ _ _ _ _ c.settle-written.ensures l))

pub returns : goal.returns
returns c =
    let a = c.args in
    let q = a.q.now in
    let pre = c.requires in
    yes_full q.n q.m q.pack.now q.marks.now q.a q.b q.admitted a.sheet.now pre.1 a.steps pre.2 pre.0 _ _ _ _ _ c.if-sheet-need.false (simp length-take (omega arith)) c.settle-written.ensures
