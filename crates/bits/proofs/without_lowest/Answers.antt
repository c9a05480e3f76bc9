-- `without_lowest`: bit by bit, w & (w - 1) lacks the lowest set bit alone (`without`); 0 has none (`without_none`).
use Rattle.bits.proofs.SearchLaws.{without, without_none}
use Rattle.bits.proofs.without_lowest.Goals as goal

pub returns-then-w-eq0 : goal.returns-then-w-eq0
returns-then-w-eq0 c j = without_none c.args.w j c.if-w-eq0.true

pub returns : goal.returns
returns c j = without c.args.w j c.ranges.w.fits c.if-w-eq0.false
