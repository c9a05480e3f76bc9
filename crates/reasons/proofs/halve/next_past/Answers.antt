-- `next_past`: the next marked place, where it is below the end (`gives_found`); else there is none (`gives_none`).
use native.Mathlib.Omega.{arith}
use Rattle.bits.proofs.FoundLaws.{found, missing, gives_found, gives_none}
use Rattle.reasons.proofs.halve.next_past.Goals as goal

pub returns-in_err-k : goal.returns-in_err-k
returns-in_err-k c =
    let m = missing c.in_err-k.ensures in
    rw c.from_residual.ensures (gives_none (record { none = λ j h l. m.none j h (omega (arith, c.requires)) }))

pub returns-then-k-end : goal.returns-then-k-end
returns-then-k-end c =
    let f = found c.in_ok-k.ensures in
    gives_found (record { from = f.from; there = c.if-k-end.true; here = f.here; before = f.before })

pub returns : goal.returns
returns c =
    let f = found c.in_ok-k.ensures in
    gives_none (record { none = λ j h l. f.before j h (omega (arith, c.if-k-end.false)) })
