-- A walk over a set of numbers below c, the lowest first: the set is `set` of what a state holds, and the walk goes on from `from`.
use Rattle.std.specs.Prelude.{◌≡◌, Bool, ℕ, ◌+◌, ◌-◌, List, filter, Option, MatchOption}
use Rattle.std.specs.List.{range_with_len}
use Rattle.bits.specs.Sets.{lowest, found_below}

-- a step gives the lowest from there on, and the next one goes on past it
pub record WalkStep {S K : Type 0} (c : ℕ) (set : K → ℕ → Bool) (holds : S → K) (from : S → ℕ) (s : S) (r : Option ℕ) (t : S) : Type 0 where
  pub gives : r ≡ found_below c (lowest (set (holds s)) (from s) (c - from s))
  pub keeps : holds t ≡ holds s
  pub goes_on : MatchOption r (from t ≡ from s) (λ j. from t ≡ j + 1)

-- what is left of a walk
abbrev pub walk_left : {S K : Type 0} → ℕ → (K → ℕ → Bool) → (S → K) → (S → ℕ) → S → List ℕ
walk_left c set holds from s = filter (set (holds s)) (range_with_len (from s) (c - from s))
