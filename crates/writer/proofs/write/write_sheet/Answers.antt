-- `write_sheet`: the question's refusal, with the sheet as it was, or what `write_taken` writes.
use Rattle.std.proofs.lemmas.Result.{err_from_is_err_and}
use Rattle.writer.proofs.Promises.{sheet_refused, sheet_told_lem}
use Rattle.writer.proofs.write.write_sheet.Goals as goal

pub returns-in_err-taken : goal.returns-in_err-taken
returns-in_err-taken c =
    let p = err_from_is_err_and c.from_residual.result c.from_residual.ensures.1 in
    rw (p.1, p.2) (sheet_refused _ _ _ _ _ _ c.args.sheet.now c.in_err-taken.ensures.refused)

pub returns : goal.returns
returns c =
    let q = c.in_ok-taken.taken in
    let same = c.in_ok-taken.ensures.same in
    rw (same.0, same.1, same.2, same.3, same.4, same.5) at
    (sheet_told_lem q.n q.m q.pack.now q.marks.now q.a q.b c.args.sheet.now c.write_taken.ensures)
