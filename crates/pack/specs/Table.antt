-- What comes back from a call: document 01's table for one input, its rows in the order in which they are judged, each with its number.
use Rattle.std.specs.Prelude.{◌≡◌, ◌⊎◌, List, [], ◌∷◌, ℕ, ◌<◌}

-- a row: a number, when it applies, and the value that comes with it; or a number, and the lowest of so many that have a property
pub data Row : Type 1 where
  refuse_with : ℕ → Type 0 → ℕ → Row
  refuse_at : ℕ → ℕ → (ℕ → Type 0) → Row

-- a number that comes alone
abbrev pub refuse : ℕ → Type 0 → Row
refuse number applies = refuse_with number applies 0

-- the row applies, with this number and this value
abbrev pub Gives : Row → ℕ → ℕ → Type 0
Gives (refuse_with k applies v) number value = applies × (number ≡ k) × (value ≡ v)
Gives (refuse_at k count P) number value = (number ≡ k) × (value < count) × P value × ((i : ℕ) → i < value → P i → ⊥)

-- WHAT IS GIVEN: the first row that applies, with what a refusal keeps; where none does 0, with what comes back otherwise
abbrev pub Given : Type 0 → List Row → (ℕ → Type 0) → ℕ → ℕ → Type 0
Given kept [] otherwise number value = (number ≡ 0) × otherwise value
Given kept (row ∷ rows) otherwise number value =
    (Gives row number value × kept)
    ⊎ (((k v : ℕ) → Gives row k v → ⊥) × Given kept rows otherwise number value)
