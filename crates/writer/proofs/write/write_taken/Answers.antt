-- `write_taken`: a equal to b is FOLLOWS with 0 steps and nothing written (`same_sheet`); else `write_settled`.
use Rattle.writer.proofs.WriteLaws.{same_sheet}
use Rattle.writer.proofs.write.write_taken.Goals as goal

pub returns-then-q : goal.returns-then-q
returns-then-q c = same_sheet _ _ _ _ _ _ c.args.q.now.admitted _ c.if-q.true
