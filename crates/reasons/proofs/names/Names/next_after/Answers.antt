-- `next_after`: the lowest bit that is not done, of the concepts, then of the roles (`next_there`); or all are done (`next_none`).
use native.Mathlib.Omega.{arith}
use Rattle.bits.proofs.FoundLaws.{found, missing}
use Rattle.reasons.proofs.NameLaws.{next_there, next_none, fresh_some, fresh_none}
use Rattle.reasons.proofs.names.Names.next_after.Goals as goal

pub returns-in-Some : goal.returns-in-Some
returns-in-Some c = let f = found c.in-Some.ensures in fresh_some _ _ _ f.there (next_there _ _ _ c.lacking.ensures f)

pub returns-in_err-r : goal.returns-in_err-r
returns-in_err-r c =
    rw c.from_residual.ensures
    (fresh_none _ _ (next_none _ _ _ c.lacking.ensures (omega arith) (missing c.in_default.ensures)) (next_none _ _ _ c.lacking-2.ensures (omega arith) (missing c.in_err-r.ensures)))

pub returns : goal.returns
returns c = let f = found c.in_ok-r.ensures in fresh_some _ _ _ f.there (next_there _ _ _ c.lacking-2.ensures f)
