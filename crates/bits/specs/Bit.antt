-- Bit j of a word, the word with bit j set, and the word of a set of bits.
use Rattle.std.specs.Prelude.{Bool, cond, ℕ, zero, suc, ◌/◌, ◌%◌, ◌^◌, eqb}
use Rattle.std.specs.Int.Bits.{bit_or}

-- bit j of w is set
unfoldable pub has : ℕ → ℕ → Bool
has w j = eqb (w / 2 ^ j % 2) 1

-- w with bit j set
unfoldable pub with_bit : ℕ → ℕ → ℕ
with_bit w j = bit_or w (2 ^ j)

-- the word of n bits whose bit j is set where p j
unfoldable pub row : ℕ → (ℕ → Bool) → ℕ
row zero p = 0
row (suc n) p = let low : ℕ = row n p in cond (p n) (with_bit low n) low
