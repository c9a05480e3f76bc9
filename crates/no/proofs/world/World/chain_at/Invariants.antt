-- `chain_at`: a walk over the things that x is linked to by r, bit after bit taken off: those that are gone are okay (`Walked`).
use mathlib.Core.Bool.{Bool}
use mathlib.Core.List.{List}
use Prim.Native.Nat.{ℕ, ◌+◌, ◌*◌}
use Rattle.bits.specs.Sets.{every, count_to}
use Rattle.bits.specs.Bit.{has}
use Rattle.pack.specs.Computed.{implies}
use Rattle.no.specs.NoSheet.{row_at}
use Rattle.no.proofs.ThingLaws.{Walked}
use Rattle.no.proofs.world.World.chain_at.Given as goal

-- the links of y by s are all among those of x by t
abbrev pub Okay : List ℕ → ℕ → ℕ → ℕ → ℕ → ℕ → Bool
Okay sheet k x s t y = every 64 (λ z. implies (has (row_at sheet (k + (s * k + y))) z) (has (row_at sheet (k + (t * k + x))) z))

abbrev pub invariant-loop-y : goal.invariant-loop-y
invariant-loop-y l =
    let w = l.self in
    Walked (row_at w.sheet.now (w.things + (l.r * w.things + l.x))) (Okay w.sheet.now w.things l.x l.s l.t) l.rest

abbrev pub decreases-loop-y : goal.decreases-loop-y
decreases-loop-y l = count_to (has l.rest) 64
