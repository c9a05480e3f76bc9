-- Laws of the lowest set bit, of a word without it, and of the count of set bits, as the machine finds them.
use mathlib.Core.Path.{◌≡◌, refl, sym, ap, ◌∙◌}
use mathlib.Core.Bool.{Bool, true, false, cond, not, ◌&&◌}
use Prim.Native.Nat.{ℕ, zero, suc, ◌+◌, ◌-◌, ◌/◌, ◌%◌, ◌^◌, ◌≤◌, ◌<◌}
use native.Mathlib.Decide.{dec_lt}
use native.Mathlib.Nat.{pow-suc, not-suc-le-zero, zero-add}
use native.Mathlib.Numerals.{one-add}
use native.Mathlib.Omega.{arith, by_contra}
use lib.Arith.{lt-one}
use lib.Bits.{bit_and}
use lib.Count.{ones, ones_step, count_trailing_zeros, under}
use lib.Dec.{eqb}
use lib.Pow.{shr_le}
use borrow.Author.Tests.{eq-eqb, ne_eqb}
use Rattle.bits.specs.Bit.{has}
use Rattle.bits.specs.Sets.{lowest, count_to}
use Rattle.bits.proofs.SetLaws.{Lowest, lowest_is, count_add, count_same}
use Rattle.bits.proofs.FoundLaws.{Found, Missing}
use Rattle.bits.proofs.BitLaws.{bit, has_one, one_has, not_has, has_not, bit_zero, bit_suc, bit_shr, bit_of_zero, has_zero, bit_high, by_bits, bit_has, has_and, has_none}

-- the lowest set bit, by trailing zeros
tz_at : (k a : ℕ) → a < 2 ^ k → (a ≡ 0 → ⊥) → bit a (count_trailing_zeros k a) ≡ 1
unfolding count_trailing_zeros
tz_at zero a h n = absurd (n (lt-one h))
tz_at (suc k) a h n =
    under_at (a % 2) (count_trailing_zeros k (a / 2)) refl
    (λ e. tz_at k (a / 2) (omega (arith, pow-suc 2 k)) (λ z. n (omega arith)))
  where
    under_at : (d t : ℕ) → a % 2 ≡ d → (d ≡ 0 → bit (a / 2) t ≡ 1) → bit a (under d t) ≡ 1
    under_at zero t e h = bit_suc a t ∙ h refl
    under_at (suc d) t e h = bit_zero a ∙ omega arith

tz_below : (k a j : ℕ) → j < count_trailing_zeros k a → bit a j ≡ 0
unfolding count_trailing_zeros
tz_below zero a j l = absurd (not-suc-le-zero l)
tz_below (suc k) a j l = go (a % 2) (count_trailing_zeros k (a / 2)) j refl (λ i h. tz_below k (a / 2) i h) l
  where
    go : (d t i : ℕ) → a % 2 ≡ d → ((i : ℕ) → i < t → bit (a / 2) i ≡ 0) → i < under d t → bit a i ≡ 0
    go zero t zero e ih l = bit_zero a ∙ e
    go zero t (suc i) e ih l = bit_suc a i ∙ ih i (omega arith)
    go (suc d) t i e ih l = absurd (not-suc-le-zero l)

-- in the word shifted down by y, the lowest set bit is the lowest from y on
module _ (w y : ℕ) (hw : w < 2 ^ 64) (hy : y < 64) where
  shifted : (i : ℕ) → y ≤ i → bit w i ≡ bit (w / 2 ^ y) (i - y)
  shifted i l =
      let e : y + (i - y) ≡ i = omega arith in
      ap (bit w) (sym e) ∙ sym (bit_shr w y (i - y))

  pub next_none : w / 2 ^ y ≡ 0 → Missing (has w) y 64
  next_none e = record { none = λ i l h. not_has w i (shifted i l ∙ ap (λ (x : ℕ). bit x (i - y)) e ∙ bit_of_zero (i - y)) }

  pub next_found : (w / 2 ^ y ≡ 0 → ⊥) → Found (has w) y 64 (y + count_trailing_zeros 64 (w / 2 ^ y))
  next_found n =
      let t : ℕ = count_trailing_zeros 64 (w / 2 ^ y) in
      let one : bit w (y + t) ≡ 1 = sym (bit_shr w y t) ∙ tz_at 64 (w / 2 ^ y) (omega (arith, shr_le w y)) n in
      let in_word : suc (y + t) ≤ 64 =
      by_contra (suc (y + t)) 64 (λ l. omega (arith, one, bit_high 64 w (y + t) hw (omega arith))) in
      record {
        from = omega arith;
        there = omega arith;
        here = one_has w (y + t) one;
        before = λ i l h. not_has w i (shifted i l ∙ tz_below 64 (w / 2 ^ y) (i - y) (omega arith));
      }

-- one less: the lowest set bit t turns to 0, and the bits above it stay
abbrev Bottom : ℕ → ℕ → Type 0
Bottom w t = (bit w t ≡ 1) × ((i : ℕ) → i < t → bit w i ≡ 0)

half_bottom : (w t : ℕ) → Bottom w (suc t) → Bottom (w / 2) t
half_bottom w t b =
    (sym (bit_suc w t) ∙ b.0, λ i l. sym (bit_suc w i) ∙ b.1 (suc i) (omega arith))

-- above an even word's lowest bit, one less is one less in the half
half_pred : (w t : ℕ) → Bottom w (suc t) → (w - 1) / 2 ≡ w / 2 - 1
half_pred w t b = go (w / 2) refl
  where
    go : (h : ℕ) → w / 2 ≡ h → (w - 1) / 2 ≡ w / 2 - 1
    go zero e = absurd (omega (arith, (half_bottom w t b).0, ap (λ (x : ℕ). bit x t) e, bit_of_zero t))
    go (suc h) e = omega (arith, bit_zero w, b.1 0 (omega arith))

pred_at : (t w : ℕ) → Bottom w t → bit (w - 1) t ≡ 0
pred_at zero w b = bit_zero (w - 1) ∙ omega (arith, bit_zero w, b.0)
pred_at (suc t) w b =
    bit_suc (w - 1) t ∙ ap (λ (x : ℕ). bit x t) (half_pred w t b) ∙ pred_at t (w / 2) (half_bottom w t b)

pred_above : (t w j : ℕ) → Bottom w t → t < j → bit (w - 1) j ≡ bit w j
pred_above t w zero b l = absurd (not-suc-le-zero l)
pred_above zero w (suc j) b l =
    let half : (w - 1) / 2 ≡ w / 2 = omega (arith, bit_zero w, b.0) in
    bit_suc (w - 1) j ∙ ap (λ (x : ℕ). bit x j) half ∙ sym (bit_suc w j)
pred_above (suc t) w (suc j) b l =
    bit_suc (w - 1) j ∙ ap (λ (x : ℕ). bit x j) (half_pred w t b)
    ∙ pred_above t (w / 2) j (half_bottom w t b) (omega arith) ∙ sym (bit_suc w j)

-- w & (w - 1) is w without its lowest set bit
pub without : (w j : ℕ) → w < 2 ^ 64 → (w ≡ 0 → ⊥) → has (bit_and w (w - 1)) j ≡ (has w j && not (eqb (lowest (has w) 0 64) j))
without w j h n = has_and w (w - 1) j ∙ go (dec_lt j t) (dec_lt t j)
  where
    t : ℕ
    t = lowest (has w) 0 64

    first : Lowest (has w) 0 64 t
    first = lowest_is (has w) 0 64

    in_word : t < 64
    in_word = by_contra (suc t) 64 (λ l. n (has_none 64 w h (λ i k. first.none i (omega arith) (omega arith))))

    bottom : Bottom w t
    bottom = (has_one w t (first.found (omega (arith, in_word))), λ i l. has_not w i (first.none i (omega arith) l))

    same : (x y : ℕ) → bit x j ≡ bit y j → has x j ≡ has y j
    same x y e = by_bits x j (has y j) (λ a. e ∙ has_one y j a) (λ a. e ∙ has_not y j a)

    twice : (a : Bool) → (a && a) ≡ (a && true)
    twice true = refl
    twice false = refl

    go : Dec (j < t) → Dec (t < j) → (has w j && has (w - 1) j) ≡ (has w j && not (eqb t j))
    go (yes a) b = rw (first.none j (omega arith) a)
    go (no a) (yes b) =
        rw (same (w - 1) w (pred_above t w j bottom b), ne_eqb t j (λ q. omega arith)) (twice (has w j))
    go (no a) (no b) =
        let e : t ≡ j = omega arith in
        let low : has (w - 1) j ≡ false = not_has (w - 1) j (rw e at (pred_at t w bottom)) in
        rw (low, eq-eqb t j e)

pub without_none : (w j : ℕ) → w ≡ 0 → has 0 j ≡ (has w j && not (eqb (lowest (has w) 0 64) j))
without_none w j e =
    let none : has w j ≡ false = ap (λ (x : ℕ). has x j) e ∙ has_zero j in
    has_zero j ∙ rw none

-- the count of set bits
pub ones_count : (k a : ℕ) → a < 2 ^ k → ones a ≡ count_to (has a) k
unfolding count_to ones
ones_count zero a h = ap ones (lt-one h)
ones_count (suc k) a h =
    let one : suc k ≡ 1 + k = omega arith in
    let low : count_to (has a) 1 ≡ a % 2 = rw zero-add first in
    omega (
      arith,
      ones_step a,
      ones_count k (a / 2) (omega (arith, pow-suc 2 k)),
      ap (count_to (has a)) one,
      count_add (has a) 1 k,
      count_same (λ j. has a (1 + j)) (has (a / 2)) k (λ j l. shift j),
    )
  where
    first : cond (has a 0) 1 0 ≡ a % 2
    first = sym (bit_has a 0) ∙ bit_zero a

    shift : (j : ℕ) → has a (1 + j) ≡ has (a / 2) j
    shift j = by_bits a (1 + j) (has (a / 2) j) (λ e. next j ∙ has_one (a / 2) j e) (λ e. next j ∙ has_not (a / 2) j e)
      where
        next : (j : ℕ) → bit a (1 + j) ≡ bit (a / 2) j
        next j = ap (bit a) (one-add j) ∙ bit_suc a j
