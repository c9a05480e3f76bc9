-- `next` of `Ones`: a bit given is at or past `from`, so that fewer are left past it.
use native.Mathlib.Omega.{arith}
use Rattle.bits.proofs.FoundLaws.{found}
use Rattle.bits.proofs.walk.OnesIterator.next.Goals as goal

pub returns-clause-goes : goal.returns-clause-goes
returns-clause-goes c =
    let f = found c.in_ok-j.ensures in
    let b = f.from in
    let t = f.there in
    record { on = λ _. (tt, tt, omega arith); keeps = tt; rests = λ _. tt }
