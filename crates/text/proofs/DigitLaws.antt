-- Laws of numbers in decimal: they are the library's, the last digit stands behind the others, and how many there are at most.
use mathlib.Core.Path.{◌≡◌, sym, ap, ◌∙◌}
use mathlib.Core.List.{List, [], ◌∷◌, ◌++◌}
use Prim.Native.Nat.{ℕ, zero, suc, ◌+◌, ◌/◌, ◌%◌, ◌^◌, ◌≤◌, ◌<◌}
use native.Mathlib.Decide.{dec_lt}
use native.Mathlib.Nat.{pow-suc}
use native.Mathlib.Omega.{arith}
use lib.ListN.{length, length-append}
use borrow.Author.Tests.{lt-ltb, le-ltb}
use Rattle.std.specs.Fmt as library
use Rattle.std.proofs.lemmas.Fmt.{decimal_from_appends, length-decimal-le_succ}
use Rattle.text.specs.Text.{digits, decimal}

-- a number below 10, and any other, with digits to spare
digits_one : (most k : ℕ) → k < 10 → digits (suc most) k ≡ (48 + k) ∷ []
unfolding digits
digits_one most k h = rw (lt-ltb k 10 h)

digits_more : (most k : ℕ) → 10 ≤ k → digits (suc most) k ≡ digits most (k / 10) ++ ((48 + k % 10) ∷ [])
unfolding digits
digits_more most k h = rw (le-ltb k 10 h)

-- A NUMBER IN DECIMAL is what the library prints of it
pub decimal_is : (k : ℕ) → k < 2 ^ 64 → decimal k ≡ library.decimal k
unfolding decimal
decimal_is k h = decimal_from_appends digits (record { one = digits_one; more = digits_more }) (k + 1) k h (length-decimal-le_succ k h)

-- room for more digits than the number has changes nothing
digits_enough : (a b k : ℕ) → k < a → k < b → digits a k ≡ digits b k
digits_enough zero b k h g = absurd (omega arith)
digits_enough (suc a) zero k h g = absurd (omega arith)
digits_enough (suc a) (suc b) k h g = go (dec_lt k 10) (λ l l'. digits_enough a b (k / 10) l l')
  where
    go : Dec (k < 10) → (k / 10 < a → k / 10 < b → digits a (k / 10) ≡ digits b (k / 10)) → digits (suc a) k ≡ digits (suc b) k
    go (yes l) rest = digits_one a k l ∙ sym (digits_one b k l)
    go (no l) rest =
        digits_more a k (omega arith)
        ∙ ap (λ (d : List ℕ). d ++ ((48 + k % 10) ∷ [])) (rest (omega arith) (omega arith))
        ∙ sym (digits_more b k (omega arith))

-- THE TWO RULES of a number in decimal
pub decimal_one : (k : ℕ) → k < 10 → decimal k ≡ (48 + k) ∷ []
unfolding decimal
decimal_one k h = digits_enough (k + 1) (suc k) k (omega arith) (omega arith) ∙ digits_one k k h

pub decimal_more : (k : ℕ) → 10 ≤ k → decimal k ≡ decimal (k / 10) ++ ((48 + k % 10) ∷ [])
unfolding decimal
decimal_more k h =
    digits_enough (k + 1) (suc k) k (omega arith) (omega arith)
    ∙ digits_more k k h
    ∙ ap (λ (d : List ℕ). d ++ ((48 + k % 10) ∷ [])) (digits_enough k (k / 10 + 1) (k / 10) (omega arith) (omega arith))

pub decimal_length : (k : ℕ) → 10 ≤ k → length (decimal k) ≡ length (decimal (k / 10)) + 1
decimal_length k h = ap length (decimal_more k h) ∙ length-append (decimal (k / 10)) ((48 + k % 10) ∷ [])

-- any number below 10 ^ (d + 1) has at most d + 1 digits
pub decimal_most : (d k : ℕ) → k < 10 ^ suc d → length (decimal k) ≤ suc d
decimal_most zero k h = omega (arith, ap length (decimal_one k (omega arith)))
decimal_most (suc d) k h = go (dec_lt k 10) (decimal_most d (k / 10))
  where
    go : Dec (k < 10) → (k / 10 < 10 ^ suc d → length (decimal (k / 10)) ≤ suc d) → length (decimal k) ≤ suc (suc d)
    go (yes l) rest = omega (arith, ap length (decimal_one k l))
    go (no l) rest = omega (arith, decimal_length k (omega arith), rest (omega (arith, pow-suc 10 (suc d))))
