-- `halfway`: whole is ahead of half, so there is a next half, and it is not past whole.
use native.Mathlib.Decide.{dec_lt}
use native.Mathlib.Omega.{arith}
use Prim.Native.Nat.{◌≤◌}
use Rattle.bits.proofs.FoundLaws.{found, missing}
use Rattle.bits.proofs.Truth.{never}
use Rattle.reasons.proofs.halve.halfway.Goals as goal

pub returns-in_err-half-clause-none : goal.returns-in_err-half-clause-none
returns-in_err-half-clause-none c = let m = missing c.in_err-half.ensures in rw c.from_residual.ensures (λ j h l. m.none j (omega arith) l)

pub loop-next-init : goal.loop-next-init
loop-next-init c = let f = found c.in_ok-half.ensures in (omega (arith, f.from), omega arith, f.there, f.here)

pub returns-in_err-half-2-clause-none : goal.returns-in_err-half-2-clause-none
returns-in_err-half-2-clause-none c =
    let l = c.loop-next.invariant in
    let next = found c.in-Some.ensures in
    let m = missing c.in_err-half-2.ensures in
    rw c.from_residual-in_err-half-2.ensures (never next.here (m.none _ (omega (arith, l.1, next.from)) next.there))

pub loop-next-smaller : goal.loop-next-smaller
loop-next-smaller c = omega (arith, (found c.in-Some.ensures).from, (found c.in-Some-next_past.ensures).from, (found c.in-Some-next_past.ensures).there)

pub loop-next-preserved : goal.loop-next-preserved
loop-next-preserved c =
    let l = c.loop-next.invariant in
    let next = found c.in-Some.ensures in
    let whole = found c.in-Some-next_past.ensures in
    let half = found c.in_ok-half-2.ensures in
    let most : c.in_ok-half-2.half ≤ c.in-Some-next_past.next = elim (dec_lt c.in-Some-next_past.next c.in_ok-half-2.half) [
      | yes h ↦ never whole.here (half.before _ (omega (arith, l.1, next.from, whole.from)) h)
      | no h ↦ omega arith
    ] in
    (omega (arith, l.0, half.from), most, whole.there, whole.here)
