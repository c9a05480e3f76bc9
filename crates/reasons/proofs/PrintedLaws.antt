-- The printed set: it is the picked one of those from which the goal follows, and no record of it can be spared.
use mathlib.Core.Path.{◌≡◌}
use mathlib.Core.Logic.{◌↔◌}
use mathlib.Core.Bool.{Bool, true}
use mathlib.Core.List.{List}
use Prim.Native.Nat.{ℕ, ◌≤◌, ◌<◌}
use lib.ListN.{length}
use Rattle.pack.specs.declared.line.Line.{Line}
use Rattle.pack.specs.World.{Follows}
use Rattle.pack.specs.Record.{Valid}
use Rattle.passes.specs.Passes.{goal_at_end}
use Rattle.passes.proofs.PassLaws.{decides}
use Rattle.reasons.specs.Printed.{Subset, IsMinimal, IsPrinted, without}
use Rattle.reasons.specs.Computed.{printed}
use Rattle.reasons.proofs.PickLaws.{picked_one, picked_needs, picked_minimal, picked_is, picked_exists}

-- WHAT FOLLOWS FROM A SET FOLLOWS FROM A LARGER ONE
pub follows_more : (ls : List Line) (a b : ℕ) (P Q : ℕ → Bool) → Subset (length ls) P Q → Follows ls P a b → Follows ls Q a b
follows_more ls a b P Q h f = λ w k o. f w k (λ i l p. o i l (h i l p))

module _ (ls : List Line) (S : ℕ → Bool) (a b : ℕ) (P : ℕ → Bool) (p : IsPrinted ls S a b P) where
  -- IF ANY ONE RECORD IS TAKEN OUT THE GOAL NO LONGER FOLLOWS
  pub printed_needs : (i : ℕ) → i < length ls → P i ≡ true → Follows ls (without P i) a b → ⊥
  printed_needs = picked_needs (length ls) (λ P. Follows ls P a b) S P p

  pub printed_minimal : IsMinimal (length ls) (λ P. Follows ls P a b) P
  printed_minimal = picked_minimal (length ls) (λ P. Follows ls P a b) (follows_more ls a b) S P p

  -- THERE IS ONE, however it was found
  pub printed_one : (Q : ℕ → Bool) → IsPrinted ls S a b Q → (i : ℕ) → i < length ls → P i ≡ Q i
  printed_one = picked_one (length ls) (λ P. Follows ls P a b) S P p

module _ (ls : List Line) (n m a b : ℕ) (valid : Valid n m ls) (pos : 1 ≤ n) (ha : a < n) (S : ℕ → Bool) where
  -- DELETION WITH THE VERDICT FINDS IT
  pub printed_is : Follows ls S a b → IsPrinted ls S a b (printed ls S n m a b)
  unfolding printed
  printed_is = picked_is (length ls) (λ P. Follows ls P a b) (follows_more ls a b) (λ P. goal_at_end ls P n m a b) (λ P. decides ls P n m valid pos a b ha) S

  -- THERE IS ONE EXACTLY WHEN THE GOAL FOLLOWS
  pub printed_exists : ((P : ℕ → Bool) × IsPrinted ls S a b P) ↔ Follows ls S a b
  printed_exists = picked_exists (length ls) (λ P. Follows ls P a b) (follows_more ls a b) (λ P. goal_at_end ls P n m a b) (λ P. decides ls P n m valid pos a b ha) S
