-- Laws of yes and no.
use mathlib.Core.Path.{◌≡◌, refl, sym, ap}
use mathlib.Core.Bool.{Bool, true, false, cond, not, ◌&&◌, ◌||◌, true≢false}
use Prim.Native.Nat.{ℕ, ◌<◌}
use native.Mathlib.Decide.{dec_lt}
use native.Mathlib.Omega.{arith}
use lib.Dec.{leb, ltb}
use borrow.Author.Tests.{lt-leb, le-leb, lt-ltb, le-ltb, not-true}

-- both are yes
pub both_true : (a b : Bool) → (a && b) ≡ true → (a ≡ true) × (b ≡ true)
both_true true b h = (refl, h)
both_true false b h = absurd (true≢false (sym h))

pub true_both : (a b : Bool) → a ≡ true → b ≡ true → (a && b) ≡ true
true_both a b h g = rw (h, g)

pub and_no : (a b : Bool) → b ≡ false → (a && b) ≡ false
and_no true b h = h
and_no false b h = refl

pub or_elim : {C : Type 0} (a b : Bool) → (a || b) ≡ true → (a ≡ true → C) → (b ≡ true → C) → C
or_elim true b h f g = f refl
or_elim false b h f g = g h

pub or_left : (a b : Bool) → a ≡ true → (a || b) ≡ true
or_left a b h = rw h

pub or_right : (a b : Bool) → b ≡ true → (a || b) ≡ true
or_right true b h = refl
or_right false b h = h

-- yes is not no
pub never : {C : Type 0} {a : Bool} → a ≡ true → a ≡ false → C
never {C} {a} h g = absurd (true≢false (rw h at g))

-- what cannot be yes is no
pub is_no : {a : Bool} → (a ≡ true → ⊥) → a ≡ false
is_no {a = true} h = absurd (h refl)
is_no {a = false} h = refl

-- what is not follows the other way
pub turn : (t u : Bool) → (t ≡ true → u ≡ true) → not u ≡ true → not t ≡ true
turn t u f h = ap not (is_no (λ e. never (f e) (not-true u h)))

-- 0 is not 1: for what `cc` finds where two answers that differ are said to be one
pub clash : {C : Type 0} → ◌≡◌ {A = ℕ} 0 1 → C
clash e = absurd (omega arith)

-- WHICH OF TWO ANSWERS a test gave: what is not the second is the first, and the test was yes; and the reverse
pub cond_first : {A : Type 0} (t : Bool) {x y z : A} → cond t x y ≡ z → (y ≡ z → ⊥) → (t ≡ true) × (x ≡ z)
cond_first true e n = (refl, e)
cond_first false e n = absurd (n e)

pub cond_second : {A : Type 0} (t : Bool) {x y z : A} → cond t x y ≡ z → (x ≡ z → ⊥) → (t ≡ false) × (y ≡ z)
cond_second true e n = absurd (n e)
cond_second false e n = (refl, e)

-- two answers that are yes together are one
pub alike : (a b : Bool) → (a ≡ true → b ≡ true) → (b ≡ true → a ≡ true) → a ≡ b
alike true b f g = sym (f refl)
alike false true f g = g refl
alike false false f g = refl

-- no less is not less
pub leb_not : (a b : ℕ) → leb a b ≡ not (ltb b a)
leb_not a b = go (dec_lt b a)
  where
    go : Dec (b < a) → leb a b ≡ not (ltb b a)
    go (yes l) = rw (lt-leb a b l, lt-ltb b a l)
    go (no l) = rw (le-leb a b (omega arith), le-ltb b a (omega arith))
