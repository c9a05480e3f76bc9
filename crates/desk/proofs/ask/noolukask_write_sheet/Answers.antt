-- `noolukask_write_sheet`: what the writer gives of the question that C asks, coded; the sheet is as the writer leaves it.
use Rattle.writer.specs.Sheet.{GivesSheet}
use Rattle.desk.proofs.CodeLaws.{sheet_small, coded}
use Rattle.desk.proofs.ask.noolukask_write_sheet.Goals as goal

pub returns : goal.returns
returns c =
    let q = c.from_c-question.ensures in
    coded (GivesSheet _ _ _ _ _ _ _ _) _ _ (sheet_small c.write_sheet.result) c.coded.ensures
    (rw (q.sizes.0, q.sizes.1, q.pack, q.marks, q.goal.0, q.goal.1) at c.write_sheet.ensures)
