-- Packs of document 01's cases, as bytes.
use mathlib.Core.List.{List, [], ◌∷◌, ◌++◌}
use Prim.Native.Nat.{ℕ}

-- a record of statement 0
unfoldable pub record_bytes : ℕ → ℕ → ℕ → ℕ → List ℕ
record_bytes kind a b c = kind ∷ a ∷ b ∷ c ∷ 0 ∷ 0 ∷ 0 ∷ 0 ∷ []

-- the valve pack
unfoldable pub valve : List ℕ
valve = record_bytes 3 0 0 2 ++ record_bytes 3 2 1 3 ++ record_bytes 6 0 1 0 ++ record_bytes 4 0 3 1 ++ record_bytes 1 0 4 0 ++ record_bytes 1 4 1 0

-- one record "0 under 1"
unfoldable pub one_under : List ℕ
one_under = record_bytes 1 0 1 0
