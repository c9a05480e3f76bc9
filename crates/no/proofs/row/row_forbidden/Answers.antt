-- `row_forbidden`: the limit is n in the first k rows, and k in the others; then `past_limit` of the row.
use borrow.Author.Tests.{lt-ltb, le-ltb}
use Rattle.no.specs.NoSheet.{forbidden}
use Rattle.no.proofs.row.row_forbidden.Goals as goal
use Rattle.no.proofs.row.row_forbidden.Goals.{then-i-k, else-i-k}

pub returns : goal.returns
unfolding forbidden
returns c =
    elim c.if-i-k.branch [
      | then-i-k w ↦ rw (lt-ltb _ _ w.if-i-k.true) (rw (c.row_at.ensures, w.limit-is) at c.past_limit.ensures)
      | else-i-k w ↦ rw (le-ltb _ _ w.if-i-k.false) (rw (c.row_at.ensures, w.limit-is) at c.past_limit.ensures)
    ]
