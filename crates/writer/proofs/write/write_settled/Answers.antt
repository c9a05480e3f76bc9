-- `write_settled`: held, the goal follows and the count is that of our steps (`end_held`); not held, the rows are ours (`no_sheet`).
use mathlib.Core.Path.{sym, ap, ◌∙◌}
use native.Mathlib.Omega.{arith}
use lib.ListN.{length, length-reverse}
use Rattle.tables.specs.Tables.{held}
use Rattle.engine.proofs.VerdictLaws.{end_held}
use Rattle.writer.proofs.WriteLaws.{no_sheet}
use Rattle.writer.proofs.write.write_settled.Goals as goal

pub write_yes-requires : goal.write_yes-requires
unfolding held
write_yes-requires c =
    let same = c.of-goal.ensures in
    let h = rw (same.0, same.1) at (sym c.holds_in.ensures ∙ c.if-holds_in.true) in
    let e = end_held _ _ _ _ _ _ c.args.q.now.admitted c.requires _ _ _ _ _ c.settle-end.ensures h in (
      c.requires,
      e.0,
      e.1.3.counts ∙ sym (length-reverse e.1.0) ∙ ap length (sym e.1.1),
      omega (arith, e.1.2, e.1.3.counts),
    )

pub returns : goal.returns
unfolding held
returns c =
    let same = c.of-goal.ensures in
    let w = c.write_no.ensures in
    let h = rw (same.0, same.1) at (sym c.holds_in.ensures ∙ c.if-holds_in.false) in
    no_sheet _ _ _ _ _ _ c.args.q.now.admitted _ c.requires _ _ _ _ _ c.settle-end.ensures h w.answer w.sheet w.words
