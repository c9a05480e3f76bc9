-- `next_bit`: the lowest set bit of the shifted word, by trailing zeros; none where that word is 0, nor past 63.
use native.Mathlib.Omega.{arith}
use Rattle.bits.proofs.FoundLaws.{gives_found, gives_none}
use Rattle.bits.proofs.SearchLaws.{next_none, next_found}
use Rattle.bits.proofs.next_bit.Goals as goal
use Rattle.bits.proofs.next_bit.Goals.{then-j-ge64-via-then-j-ge64, then-j-ge64-via-else-j-ge64+then-w-j-eq0}

pub returns-then-j-ge64 : goal.returns-then-j-ge64
returns-then-j-ge64 c =
    gives_none
    (elim c.then-j-ge64.branch [
      | then-j-ge64-via-then-j-ge64 w ↦ record { none = λ j h g. absurd (omega (arith, w.if-j-ge64.true)) }
      | then-j-ge64-via-else-j-ge64+then-w-j-eq0 w ↦ next_none _ _ c.ranges.w.fits (omega (arith, w.if-j-ge64.false)) w.if-w-j-eq0.true
    ])

pub returns : goal.returns
returns c = gives_found (next_found _ _ c.ranges.w.fits (omega (arith, c.if-j-ge64.false)) c.if-w-j-eq0.false)
