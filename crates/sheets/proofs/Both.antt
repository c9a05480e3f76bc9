-- The two checks together: no two sheets of different sorts are ever both accepted, whoever wrote them.
use mathlib.Core.List.{List}
use Prim.Native.Nat.{ℕ}
use Rattle.yes.specs.Answers.{GivesYes}
use Rattle.yes.proofs.Promises.{yes_right}
use Rattle.no.specs.Answers.{GivesNo}
use Rattle.no.proofs.Promises.{no_right}

-- NEVER BOTH: an accepted yes sheet means that the goal follows, an accepted no sheet that it does not
pub never_both : (n m : ℕ) (s ws : List ℕ) (a b : ℕ) (one other : List ℕ) → GivesYes n m s ws a b one 0 0 → GivesNo n m s ws a b other 0 0 → ⊥
never_both n m s ws a b one other p q = no_right n m s ws a b other q (yes_right n m s ws a b one p)
