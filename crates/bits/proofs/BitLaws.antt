-- Laws of bit j of a number. `bit` is 0 or 1, so that each law is an equation that omega reads; `has` is the same as yes or no.
use mathlib.Core.Path.{◌≡◌, refl, sym, ap, ◌∙◌}
use mathlib.Core.Bool.{Bool, true, false, cond, not, ◌&&◌, ◌||◌, or-false}
use Prim.Native.Nat.{ℕ, zero, suc, ◌+◌, ◌-◌, ◌*◌, ◌/◌, ◌%◌, ◌^◌, ◌≤◌, ◌<◌, min, max}
use native.Mathlib.Decide.{ℕ_discrete, dec_lt}
use native.Mathlib.Nat.{mod-lt, mod-eq_of_lt, zero-lt-suc, pow-suc, not-suc-le-zero, div-one, one-mul}
use native.Mathlib.Numerals.{one-add}
use native.Mathlib.Omega.{arith}
use lib.Arith.{lt-one}
use lib.Bits.{bit_and, bit_or, and_shr, or_shr, and_step, or_step, and_le_l}
use lib.Dec.{lit<, eqb}
use lib.Pow.{shr-shr, pow_pos, shl_exact}
use borrow.Author.Tests.{eqb-true, eq-eqb, ne_eqb, not-false}
use Rattle.bits.specs.Bit.{has, with_bit}
use Rattle.bits.proofs.Truth.{true_both, never}

-- bit j of w, as a number
unfoldable pub bit : ℕ → ℕ → ℕ
bit w j = w / 2 ^ j % 2

-- a bit as a number and as yes or no
bit_lt : (w j : ℕ) → bit w j < 2
unfolding bit
bit_lt w j = mod-lt (w / 2 ^ j) (zero-lt-suc 1)

pub has_one : (w j : ℕ) → has w j ≡ true → bit w j ≡ 1
unfolding bit has
has_one w j h = eqb-true (w / 2 ^ j % 2) 1 h

pub one_has : (w j : ℕ) → bit w j ≡ 1 → has w j ≡ true
unfolding bit has
one_has w j h = eq-eqb (w / 2 ^ j % 2) 1 h

pub not_has : (w j : ℕ) → bit w j ≡ 0 → has w j ≡ false
unfolding bit has
not_has w j h = ne_eqb (w / 2 ^ j % 2) 1 (λ e. omega arith)

pub has_not : (w j : ℕ) → has w j ≡ false → bit w j ≡ 0
has_not w j h = by_lt (bit w j) refl (bit_lt w j)
  where
    by_lt : (b : ℕ) → bit w j ≡ b → b < 2 → b ≡ 0
    by_lt zero e l = refl
    by_lt (suc zero) e l = never (one_has w j e) h
    by_lt (suc (suc b)) e l = absurd (omega arith)

-- the lowest bit, and the bits above it
pub bit_zero : (w : ℕ) → bit w 0 ≡ w % 2
unfolding bit
bit_zero w = ap (λ (x : ℕ). x % 2) (div-one w)

pub bit_suc : (w j : ℕ) → bit w (suc j) ≡ bit (w / 2) j
unfolding bit
bit_suc w j = ap (λ (x : ℕ). x % 2) (ap (λ (k : ℕ). w / 2 ^ k) (sym (one-add j)) ∙ sym (shr-shr w 1 j))

pub bit_shr : (w i j : ℕ) → bit (w / 2 ^ i) j ≡ bit w (i + j)
unfolding bit
bit_shr w i j = ap (λ (x : ℕ). x % 2) (shr-shr w i j)

pub bit_of_zero : (j : ℕ) → bit 0 j ≡ 0
bit_of_zero zero = bit_zero 0
bit_of_zero (suc j) = bit_suc 0 j ∙ bit_of_zero j

pub has_zero : (j : ℕ) → has 0 j ≡ false
has_zero j = not_has 0 j (bit_of_zero j)

pub bit_high : (k a j : ℕ) → a < 2 ^ k → k ≤ j → bit a j ≡ 0
bit_high zero a j h l = ap (λ (x : ℕ). bit x j) (lt-one h) ∙ bit_of_zero j
bit_high (suc k) a zero h l = absurd (not-suc-le-zero l)
bit_high (suc k) a (suc j) h l = bit_suc a j ∙ bit_high k (a / 2) j (omega (arith, pow-suc 2 k)) (omega arith)

-- a word of k bits has none from k on
pub has_high : (k a j : ℕ) → a < 2 ^ k → k ≤ j → has a j ≡ false
has_high k a j h l = not_has a j (bit_high k a j h l)

-- and, or, not
bit-and : (a b j : ℕ) → bit (bit_and a b) j ≡ min (bit a j) (bit b j)
unfolding bit
bit-and a b j = rw and_shr (omega (arith, and_step (a / 2 ^ j) (b / 2 ^ j)))

bit-or : (a b j : ℕ) → bit (bit_or a b) j ≡ max (bit a j) (bit b j)
unfolding bit
bit-or a b j = rw or_shr (omega (arith, or_step (a / 2 ^ j) (b / 2 ^ j)))

bit_not : (k a j : ℕ) → a < 2 ^ k → j < k → bit ((2 ^ k - 1) - a) j ≡ 1 - bit a j
bit_not zero a j h l = absurd (not-suc-le-zero l)
bit_not (suc k) a zero h l = simp bit_zero (omega (arith, pow-suc 2 k, pow_pos k))
bit_not (suc k) a (suc j) h l =
    simp bit_suc
    (ap (λ (x : ℕ). bit x j) half ∙ bit_not k (a / 2) j (omega (arith, pow-suc 2 k)) (omega arith))
  where
    half : ((2 ^ suc k - 1) - a) / 2 ≡ (2 ^ k - 1) - a / 2
    half = omega (arith, pow-suc 2 k, pow_pos k)

-- the answers of `has` follow those of `bit` through any of the three
pub by_bits : (w j : ℕ) (t : Bool) → (t ≡ true → bit w j ≡ 1) → (t ≡ false → bit w j ≡ 0) → has w j ≡ t
by_bits w j true f g = one_has w j (f refl)
by_bits w j false f g = not_has w j (g refl)

pub bit_has : (w j : ℕ) → bit w j ≡ cond (has w j) 1 0
bit_has w j = go (has w j) refl
  where
    go : (t : Bool) → has w j ≡ t → bit w j ≡ cond t 1 0
    go true e = has_one w j e
    go false e = has_not w j e

pub has_and : (a b j : ℕ) → has (bit_and a b) j ≡ (has a j && has b j)
has_and a b j = go (has a j) (has b j) (bit_has a j) (bit_has b j)
  where
    go : (p q : Bool) → bit a j ≡ cond p 1 0 → bit b j ≡ cond q 1 0 → has (bit_and a b) j ≡ (p && q)
    go true true e f = one_has (bit_and a b) j (omega (arith, bit-and a b j))
    go true false e f = not_has (bit_and a b) j (omega (arith, bit-and a b j))
    go false q e f = not_has (bit_and a b) j (omega (arith, bit-and a b j))

pub has_or : (a b j : ℕ) → has (bit_or a b) j ≡ (has a j || has b j)
has_or a b j = go (has a j) (has b j) (bit_has a j) (bit_has b j)
  where
    go : (p q : Bool) → bit a j ≡ cond p 1 0 → bit b j ≡ cond q 1 0 → has (bit_or a b) j ≡ (p || q)
    go true q e f = one_has (bit_or a b) j (omega (arith, bit-or a b j, bit_lt b j))
    go false true e f = one_has (bit_or a b) j (omega (arith, bit-or a b j))
    go false false e f = not_has (bit_or a b) j (omega (arith, bit-or a b j))

pub has_not_word : (k a j : ℕ) → a < 2 ^ k → j < k → has ((2 ^ k - 1) - a) j ≡ not (has a j)
has_not_word k a j h l = go (has a j) (bit_has a j)
  where
    go : (p : Bool) → bit a j ≡ cond p 1 0 → has ((2 ^ k - 1) - a) j ≡ not p
    go true e = not_has ((2 ^ k - 1) - a) j (omega (arith, bit_not k a j h l))
    go false e = one_has ((2 ^ k - 1) - a) j (omega (arith, bit_not k a j h l))

-- words that are equal by their bits
bit_ext : (k a b : ℕ) → a < 2 ^ k → b < 2 ^ k → ((j : ℕ) → j < k → bit a j ≡ bit b j) → a ≡ b
bit_ext zero a b ha hb e = lt-one ha ∙ sym (lt-one hb)
bit_ext (suc k) a b ha hb e =
    let low : a % 2 ≡ b % 2 = sym (bit_zero a) ∙ e 0 (omega arith) ∙ bit_zero b in
    let rest : a / 2 ≡ b / 2 =
    bit_ext k (a / 2) (b / 2) (omega (arith, pow-suc 2 k)) (omega (arith, pow-suc 2 k))
    (λ j l. sym (bit_suc a j) ∙ e (suc j) (omega arith) ∙ bit_suc b j) in
    omega arith

pub has_ext : (k a b : ℕ) → a < 2 ^ k → b < 2 ^ k → ((j : ℕ) → j < k → has a j ≡ has b j) → a ≡ b
has_ext k a b ha hb e =
    bit_ext k a b ha hb (λ j l. bit_has a j ∙ ap (λ (t : Bool). cond t 1 0) (e j l) ∙ sym (bit_has b j))

-- a word with no bit is 0
pub has_none : (k a : ℕ) → a < 2 ^ k → ((j : ℕ) → j < k → has a j ≡ false) → a ≡ 0
has_none k a h e = has_ext k a 0 h (pow_pos k) (λ j l. e j l ∙ sym (has_zero j))

-- a power of two has one bit
has_pow : (k j : ℕ) → has (2 ^ k) j ≡ eqb k j
has_pow k j = go (ℕ_discrete k j)
  where
    half : (i : ℕ) → 2 ^ suc i / 2 ≡ 2 ^ i
    half i = omega (arith, pow-suc 2 i)

    same : (i : ℕ) → bit (2 ^ i) i ≡ 1
    same zero = bit_zero 1
    same (suc i) = bit_suc (2 ^ suc i) i ∙ ap (λ (x : ℕ). bit x i) (half i) ∙ same i

    other : (i l : ℕ) → (i ≡ l → ⊥) → bit (2 ^ i) l ≡ 0
    other zero zero n = absurd (n refl)
    other zero (suc l) n = bit_suc 1 l ∙ bit_of_zero l
    other (suc i) zero n = bit_zero (2 ^ suc i) ∙ omega (arith, pow-suc 2 i)
    other (suc i) (suc l) n = bit_suc (2 ^ suc i) l ∙ ap (λ (x : ℕ). bit x l) (half i) ∙ other i l (λ e. n (ap suc e))

    go : Dec (k ≡ j) → has (2 ^ k) j ≡ eqb k j
    go (yes e) = rw e (one_has (2 ^ j) j (same j) ∙ sym (eq-eqb j j refl))
    go (no n) = not_has (2 ^ k) j (other k j n) ∙ sym (ne_eqb k j n)

-- the word with bit j set has that bit and those that it had
pub has_with : (w j i : ℕ) → has (with_bit w j) i ≡ (has w i || eqb j i)
unfolding with_bit
has_with w j i = has_or w (2 ^ j) i ∙ ap (λ (t : Bool). has w i || t) (has_pow j i)

-- a column with one row more has bit y where that row has bit a
pub column_bits : (column row a y : ℕ) {r : ℕ} → a < 64 → y < 64 → r ≡ cond (has row (a % 64)) (with_bit column (y % 64)) column → (j : ℕ) → has r j ≡ (has column j || (has row a && eqb y j))
column_bits column row a y ha hy e j = ap (λ (w : ℕ). has w j) e ∙ rw (mod-eq_of_lt ha, mod-eq_of_lt hy) (go (has row a))
  where
    go : (t : Bool) → has (cond t (with_bit column y) column) j ≡ (has column j || (t && eqb y j))
    go true = has_with column y j
    go false = sym (or-false (has column j))

-- bit j mod 64 is bit j
pub low : (w j : ℕ) {r : Bool} → j < 64 → r ≡ has w (j % 64) → r ≡ has w j
low w j h e = e ∙ ap (has w) (mod-eq_of_lt h)

-- the word with bit j alone, as `1 << j` computes it
pub one_shl : (j : ℕ) → j < 64 → (1 * 2 ^ j) % 2 ^ 64 ≡ 2 ^ j
one_shl j h = shl_exact {a = 1} 1 j 64 (lit< tt) (omega arith) ∙ one-mul (2 ^ j)

-- x & !y has the bits of x that y lacks
pub lacking_bits : (x y : ℕ) → x < 2 ^ 64 → y < 2 ^ 64 → (j : ℕ) → has (bit_and x ((2 ^ 64 - 1) - y)) j ≡ (has x j && not (has y j))
lacking_bits x y hx hy j = has_and x ((2 ^ 64 - 1) - y) j ∙ go (dec_lt j 64)
  where
    go : Dec (j < 64) → (has x j && has ((2 ^ 64 - 1) - y) j) ≡ (has x j && not (has y j))
    go (yes l) = ap (λ (t : Bool). has x j && t) (has_not_word 64 y j hy l)
    go (no l) = rw (has_high 64 x j hx (omega arith))

-- where one word has no bit that the other lacks, the other has each of its bits
pub lacks_none : (a b new j : ℕ) → new ≡ 0 → has new j ≡ (has a j && not (has b j)) → has a j ≡ true → has b j ≡ true
lacks_none a b new j e is h = not-false (has b j) (sym (is ∙ rw h) ∙ ap (λ (w : ℕ). has w j) e ∙ has_zero j)

-- x & y, and x & !y: what it is for them to be 0
pub meets_none : (x y : ℕ) → bit_and x y ≡ 0 → (j : ℕ) → (has x j && has y j) ≡ false
meets_none x y e j = sym (has_and x y j) ∙ ap (λ (w : ℕ). has w j) e ∙ has_zero j

pub none_meets : (k x y : ℕ) → x < 2 ^ k → ((j : ℕ) → j < k → (has x j && has y j) ≡ false) → bit_and x y ≡ 0
none_meets k x y h f =
    has_none k (bit_and x y) (omega (arith, and_le_l x y)) (λ j l. has_and x y j ∙ f j l)

-- x & !y is 0 exactly when y has every bit of x
pub contained : (k x y : ℕ) → x < 2 ^ k → y < 2 ^ k → bit_and x ((2 ^ k - 1) - y) ≡ 0 → (j : ℕ) → j < k → has x j ≡ true → has y j ≡ true
contained k x y hx hy e j l h = go (has y j) refl (meets_none x ((2 ^ k - 1) - y) e j)
  where
    go : (t : Bool) → has y j ≡ t → (has x j && has ((2 ^ k - 1) - y) j) ≡ false → t ≡ true
    go true g z = refl
    go false g z = never (true_both (has x j) (has ((2 ^ k - 1) - y) j) h (has_not_word k y j hy l ∙ ap not g)) z

pub contains : (k x y : ℕ) → x < 2 ^ k → y < 2 ^ k → ((j : ℕ) → j < k → has x j ≡ true → has y j ≡ true) → bit_and x ((2 ^ k - 1) - y) ≡ 0
contains k x y hx hy f = none_meets k x ((2 ^ k - 1) - y) hx (λ j l. go j l (has x j) refl)
  where
    go : (j : ℕ) → j < k → (t : Bool) → has x j ≡ t → (t && has ((2 ^ k - 1) - y) j) ≡ false
    go j l true e = has_not_word k y j hy l ∙ ap not (f j l e)
    go j l false e = refl
