-- Lists by a rule.
use Rattle.std.specs.Prelude.{List, [], ◌∷◌, ℕ, zero, suc, ◌+◌}

-- f i, f (i + 1), and so on: c of them
unfoldable pub listed : {A : Type 0} → ℕ → ℕ → (ℕ → A) → List A
listed zero i f = []
listed (suc c) i f = f i ∷ listed c (i + 1) f
