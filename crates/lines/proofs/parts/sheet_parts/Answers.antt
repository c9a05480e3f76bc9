-- `sheet_parts`: what the writer answers tells the number of our steps or rows (`parts_tell`).
use borrow.Author.Rules.{rules}
use Rattle.lines.proofs.PartsLaws.{parts_tell}
use Rattle.lines.proofs.parts.sheet_parts.Goals as goal

pub returns-in-Ok-Follows : goal.returns-in-Ok-Follows
returns-in-Ok-Follows c = parts_tell c.args.q.now c.write_sheet.result c.requires c.write_sheet.ensures (search rules)

pub returns-in-Ok-Not : goal.returns-in-Ok-Not
returns-in-Ok-Not c = parts_tell c.args.q.now c.write_sheet.result c.requires c.write_sheet.ensures (search rules)

pub returns-in-Err-NoRoom : goal.returns-in-Err-NoRoom
returns-in-Err-NoRoom c = parts_tell c.args.q.now c.write_sheet.result c.requires c.write_sheet.ensures (search rules)

pub returns-in-Err : goal.returns-in-Err
returns-in-Err c = parts_tell c.args.q.now c.write_sheet.result c.requires c.write_sheet.ensures (search rules)
