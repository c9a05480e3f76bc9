-- Sets of numbers, a yes or no for each: the one search, the one count and the two tests that all definitions use.
use Rattle.std.specs.Prelude.{Bool, true, false, cond, ◌&&◌, ◌||◌, ℕ, zero, suc, ◌+◌, ltb, Option, Some, None}

-- the lowest of the c numbers from i on that is in p, or i + c where none is
unfoldable pub lowest : (ℕ → Bool) → ℕ → ℕ → ℕ
lowest p i zero = i
lowest p i (suc c) = let later : ℕ = lowest p (i + 1) c in cond (p i) i later

-- what a search among the numbers below c has found: i where it came to i below c, and else nothing
abbrev pub found_below : ℕ → ℕ → Option ℕ
found_below c i = cond (ltb i c) (Some i) None

-- how many of the numbers below c are in p
unfoldable pub count_to : (ℕ → Bool) → ℕ → ℕ
count_to p zero = 0
count_to p (suc c) = count_to p c + cond (p c) 1 0

-- every number below c, some number below c is in p
unfoldable pub every : ℕ → (ℕ → Bool) → Bool
every zero p = true
every (suc c) p = every c p && p c

unfoldable pub some : ℕ → (ℕ → Bool) → Bool
some zero p = false
some (suc c) p = some c p || p c
