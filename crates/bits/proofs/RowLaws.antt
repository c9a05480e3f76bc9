-- Laws of words given bit by bit: the word of a set of bits, and a column made row by row.
use mathlib.Core.Path.{◌≡◌, refl, sym, ap, ◌∙◌}
use mathlib.Core.Bool.{Bool, true, false, cond, ◌&&◌, ◌||◌, and-false, and-true, or-false}
use Prim.Native.Nat.{ℕ, zero, suc, ◌+◌, ◌^◌, ◌≤◌, ◌<◌}
use native.Mathlib.Decide.{ℕ_discrete, dec_lt}
use native.Mathlib.Nat.{pow-suc}
use native.Mathlib.Omega.{arith}
use lib.Bits.{or_lt}
use lib.Dec.{eqb, ltb}
use lib.Pow.{pow_pos, pow_mono}
use borrow.Author.Tests.{eq-eqb, ne_eqb, lt-ltb, le-ltb}
use Rattle.bits.specs.Bit.{has, with_bit, row}
use Rattle.bits.proofs.BitLaws.{has_high, has_ext, has_with}

-- the word of n bits has n bits
pub row_lt : (n : ℕ) (p : ℕ → Bool) → row n p < 2 ^ n
unfolding row with_bit
row_lt zero p = omega arith
row_lt (suc n) p = go (p n) (row_lt n p)
  where
    go : (t : Bool) → row n p < 2 ^ n → cond t (with_bit (row n p) n) (row n p) < 2 ^ suc n
    go true h = or_lt (suc n) (row n p) (2 ^ n) (omega (arith, pow-suc 2 n)) (omega (arith, pow-suc 2 n, pow_pos n))
    go false h = omega (arith, pow-suc 2 n)

row_high : (n : ℕ) (p : ℕ → Bool) (j : ℕ) → n ≤ j → has (row n p) j ≡ false
row_high n p j h = has_high n (row n p) j (row_lt n p) h

-- BIT j IS SET where p j
pub row_has : (n : ℕ) (p : ℕ → Bool) (j : ℕ) → j < n → has (row n p) j ≡ p j
unfolding row
row_has zero p j h = absurd (omega arith)
row_has (suc n) p j h = go (ℕ_discrete n j) (p n) refl (λ l. row_has n p j l)
  where
    go : Dec (n ≡ j) → (t : Bool) → p n ≡ t → (j < n → has (row n p) j ≡ p j) → has (cond t (with_bit (row n p) n) (row n p)) j ≡ p j
    go (yes e) true g rest = rw (has_with, row_high n p j (omega arith), eq-eqb n j e) (sym g ∙ ap p e)
    go (yes e) false g rest = row_high n p j (omega arith) ∙ sym g ∙ ap p e
    go (no e) true g rest = rw (has_with, ne_eqb n j e) (or-false (has (row n p) j) ∙ rest (omega arith))
    go (no e) false g rest = rest (omega arith)

-- and there is one such word
pub row_only : (k n : ℕ) (p : ℕ → Bool) (w : ℕ) → n ≤ k → w < 2 ^ k → ((j : ℕ) → j < n → has w j ≡ p j) → ((j : ℕ) → n ≤ j → has w j ≡ false) → w ≡ row n p
row_only k n p w h l f g = has_ext k w (row n p) l (omega (arith, row_lt n p, pow_mono h)) (λ j _. at j (dec_lt j n))
  where
    at : (j : ℕ) → Dec (j < n) → has w j ≡ has (row n p) j
    at j (yes i) = f j i ∙ sym (row_has n p j i)
    at j (no i) = g j (omega arith) ∙ sym (row_high n p j (omega arith))

-- a column that has the rows below y of a set, one row further
pub column_on : (is_in : ℕ → Bool) (column next y : ℕ) {v : Bool} → v ≡ is_in y → ((j : ℕ) → has column j ≡ (ltb j y && is_in j)) → ((j : ℕ) → has next j ≡ (has column j || (v && eqb y j))) → (j : ℕ) → has next j ≡ (ltb j (y + 1) && is_in j)
column_on is_in column next y {v} e f g j = g j ∙ rw (f j, e) (go (dec_lt j y) (dec_lt y j))
  where
    go : Dec (j < y) → Dec (y < j) → ((ltb j y && is_in j) || (is_in y && eqb y j)) ≡ (ltb j (y + 1) && is_in j)
    go (yes a) b = rw (lt-ltb j y a, lt-ltb j (y + 1) (omega arith), ne_eqb y j (λ q. omega arith), and-false (is_in y)) (or-false (is_in j))
    go (no a) (yes b) = rw (le-ltb j y (omega arith), le-ltb j (y + 1) (omega arith), ne_eqb y j (λ q. omega arith)) (and-false (is_in y))
    go (no a) (no b) =
        let same : y ≡ j = omega arith in
        rw (le-ltb j y (omega arith), lt-ltb j (y + 1) (omega arith), eq-eqb y j same, same) (and-true (is_in j))
