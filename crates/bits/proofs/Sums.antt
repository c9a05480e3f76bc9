-- Sums over the numbers below c.
use mathlib.Core.Path.{◌≡◌}
use Prim.Native.Nat.{ℕ, zero, suc, ◌+◌, ◌*◌, ◌≤◌, ◌<◌}
use native.Mathlib.Decide.{ℕ_discrete}
use native.Mathlib.Nat.{suc-mul, zero-mul}
use native.Mathlib.Omega.{arith}

unfoldable pub sum : ℕ → (ℕ → ℕ) → ℕ
sum zero f = 0
sum (suc c) f = sum c f + f c

module _ (f g : ℕ → ℕ) (h : (j : ℕ) → f j ≤ g j) where
  pub sum_le : (c : ℕ) → sum c f ≤ sum c g
  unfolding sum
  sum_le zero = omega arith
  sum_le (suc c) = omega (arith, sum_le c, h c)

  pub sum_lt : (c k : ℕ) → k < c → f k < g k → sum c f < sum c g
  unfolding sum
  sum_lt zero k l r = absurd (omega arith)
  sum_lt (suc c) k l r = go (ℕ_discrete k c) (λ l. sum_lt c k l r)
    where
      go : Dec (k ≡ c) → (k < c → sum c f < sum c g) → sum c f + f c < sum c g + g c
      go (yes e) below = let b : f c < g c = rw (← e) r in omega (arith, sum_le c)
      go (no e) below = omega (arith, below (omega arith), h c)

-- each is at most b, with d to spare
pub sum_most : (f : ℕ → ℕ) (b d c : ℕ) → ((j : ℕ) → j < c → f j + d ≤ b) → sum c f + c * d ≤ c * b
unfolding sum
sum_most f b d zero h = simp zero-mul (omega arith)
sum_most f b d (suc c) h = simp suc-mul (omega (arith, sum_most f b d c (λ j l. h j (omega arith)), h c (omega arith)))
