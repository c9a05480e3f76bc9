-- Laws of a thing and its row: tests over 64 bits, and over the k things that a row speaks of.
use mathlib.Core.Path.{◌≡◌, refl, sym, ap, ◌∙◌}
use mathlib.Core.Bool.{Bool, true, false, not, ◌&&◌, ◌||◌}
use Prim.Native.Nat.{ℕ, zero, suc, ◌+◌, ◌-◌, ◌^◌, ◌≤◌, ◌<◌}
use native.Mathlib.Decide.{ℕ_discrete, dec_lt}
use native.Mathlib.Nat.{zero-add}
use native.Mathlib.Omega.{arith}
use lib.Bits.{bit_and}
use lib.Dec.{eqb}
use Rattle.std.specs.Prelude.{Option, Some, None, MatchOption}
use Rattle.std.specs.List.{range_with_len, list_all, list_any}
use borrow.Author.Tests.{eq-eqb, ne_eqb, eqb-true, eqb-false, not-true, not-false}
use Rattle.bits.specs.Bit.{has}
use Rattle.bits.specs.Sets.{lowest, found_below, count_to, every, some}
use Rattle.bits.proofs.Truth.{both_true, true_both, or_elim, or_left, or_right, and_no, alike, never, is_no}
use Rattle.bits.proofs.SetLaws.{none_lowest, lowest_at, every_true, true_every, every_false, some_true, true_some, some_false, count_less}
use Rattle.bits.proofs.FoundLaws.{Found, Missing, at_found, end_found}
use Rattle.bits.proofs.BitLaws.{meets_none, none_meets, contained, contains}
use Rattle.pack.specs.Computed.{implies}
use Rattle.pack.proofs.WorldLaws.{implies_true, true_implies}

-- over the numbers below n: the test of the list of them is that of the set
module _ (p : ℕ → Bool) where
  all_each : (n a : ℕ) → list_all p (range_with_len a n) ≡ true → (j : ℕ) → a ≤ j → j < a + n → p j ≡ true
  all_each zero a h j g l = absurd (omega arith)
  all_each (suc n) a h j g l = go (ℕ_discrete a j) (both_true (p a) (list_all p (range_with_len (a + 1) n)) h) (all_each n (a + 1))
    where
      go : Dec (a ≡ j) → (p a ≡ true) × (list_all p (range_with_len (a + 1) n) ≡ true)
          → (list_all p (range_with_len (a + 1) n) ≡ true → (j : ℕ) → a + 1 ≤ j → j < a + 1 + n → p j ≡ true) → p j ≡ true
      go (yes e) b rest = ap p (sym e) ∙ b.0
      go (no e) b rest = rest b.1 j (omega arith) (omega arith)

  each_all : (n a : ℕ) → ((j : ℕ) → a ≤ j → j < a + n → p j ≡ true) → list_all p (range_with_len a n) ≡ true
  each_all zero a f = refl
  each_all (suc n) a f = true_both (p a) (list_all p (range_with_len (a + 1) n)) (f a (omega arith) (omega arith)) (each_all n (a + 1) (λ j g l. f j (omega arith) (omega arith)))

  any_each : (n a : ℕ) → list_any p (range_with_len a n) ≡ true → (j : ℕ) × (j < a + n) × (p j ≡ true)
  any_each zero a h = never {a = false} h refl
  any_each (suc n) a h =
      or_elim {C = (j : ℕ) × (j < a + suc n) × (p j ≡ true)} (p a) (list_any p (range_with_len (a + 1) n)) h
      (λ e. (a, omega arith, e))
      (λ e. let r = any_each n (a + 1) e in let l = r.1 in (r.0, omega arith, r.2))

  each_any : (n a j : ℕ) → a ≤ j → j < a + n → p j ≡ true → list_any p (range_with_len a n) ≡ true
  each_any zero a j g l h = absurd (omega arith)
  each_any (suc n) a j g l h = go (ℕ_discrete a j) (each_any n (a + 1) j)
    where
      go : Dec (a ≡ j) → (a + 1 ≤ j → j < a + 1 + n → p j ≡ true → list_any p (range_with_len (a + 1) n) ≡ true) → (p a || list_any p (range_with_len (a + 1) n)) ≡ true
      go (yes e) rest = or_left (p a) (list_any p (range_with_len (a + 1) n)) (ap p e ∙ h)
      go (no e) rest = or_right (p a) (list_any p (range_with_len (a + 1) n)) (rest (omega arith) (omega arith) h)

  pub list_every : (n : ℕ) → list_all p (range_with_len 0 n) ≡ every n p
  list_every n =
      alike (list_all p (range_with_len 0 n)) (every n p)
      (λ h. true_every p n (λ j l. all_each n 0 h j (omega arith) (omega arith)))
      (λ h. each_all n 0 (λ j g l. every_true p n h j (omega arith)))

  pub list_some : (n : ℕ) → list_any p (range_with_len 0 n) ≡ some n p
  list_some n =
      alike (list_any p (range_with_len 0 n)) (some n p)
      (λ h. let r = any_each n 0 h in let l = r.1 in true_some p n r.0 (omega arith) r.2)
      (λ h. let r = some_true p n h in let l = r.1 in each_any n 0 r.0 (omega arith) (omega arith) r.2)

-- the first number of a set below c is the lowest
pub lowest_first : (p : ℕ → Bool) (c i : ℕ) → i < c → ((j : ℕ) → j < i → p j ≡ false) → p i ≡ true → lowest p 0 c ≡ i
lowest_first p c i l none found =
    sym (lowest_at p (record { from = omega arith; within = omega arith; none = λ j g h. none j h; found = λ h. found }))

-- and the one that `find` gives
pub found_first : (p : ℕ → Bool) (c : ℕ) (r : Option ℕ)
    → MatchOption r ((j : ℕ) → 0 ≤ j → j < c → p j ≡ false) (λ i. (0 ≤ i) × (i < c) × (p i ≡ true) × ((j : ℕ) → 0 ≤ j → j < i → p j ≡ false)) → r ≡ found_below c (lowest p 0 c)
found_first p c None f = sym (end_found (omega (arith, none_lowest p 0 c (λ j g l. f j g (omega (arith, zero-add c))), zero-add c)))
found_first p c (Some i) f = let e : lowest p 0 c ≡ i = lowest_first p c i f.1 (λ j l. f.3 j (omega arith) l) f.2 in rw e (sym (at_found f.1))

-- two words meet
pub meet : (x y : ℕ) → x < 2 ^ 64 → not (eqb (bit_and x y) 0) ≡ some 64 (λ j. has x j && has y j)
meet x y h =
    alike (not (eqb (bit_and x y) 0)) (some 64 both)
    (λ t. not-false (some 64 both) (is_no (λ f. eqb-false (bit_and x y) 0 (not-true (eqb (bit_and x y) 0) t) (none_meets 64 x y h (λ j l. is_no (λ g. never (true_some both 64 j l g) (not-true (some 64 both) f)))))))
    (λ s. ap not (ne_eqb (bit_and x y) 0 (λ e. never s (some_false both 64 (λ j l. meets_none x y e j)))))
  where
    both : ℕ → Bool
    both j = has x j && has y j

-- one word has every bit of the other
pub inside : (x y : ℕ) → x < 2 ^ 64 → y < 2 ^ 64 → eqb (bit_and x ((2 ^ 64 - 1) - y)) 0 ≡ every 64 (λ j. implies (has x j) (has y j))
inside x y hx hy =
    alike (eqb (bit_and x ((2 ^ 64 - 1) - y)) 0) (every 64 (λ j. implies (has x j) (has y j)))
    (λ h. true_every (λ j. implies (has x j) (has y j)) 64 (λ j l. true_implies (has x j) (has y j) (contained 64 x y hx hy (eqb-true (bit_and x ((2 ^ 64 - 1) - y)) 0 h) j l)))
    (λ h. eq-eqb (bit_and x ((2 ^ 64 - 1) - y)) 0 (contains 64 x y hx hy (λ j l. implies_true (has x j) (has y j) (every_true (λ j. implies (has x j) (has y j)) 64 h j l))))

-- 64 bits, or those of the k things alone: nothing is said past them
pub every_things : (p : ℕ → Bool) (k : ℕ) → k ≤ 64 → ((j : ℕ) → k ≤ j → j < 64 → p j ≡ true) → every 64 p ≡ every k p
every_things p k h f =
    alike (every 64 p) (every k p)
    (λ e. true_every p k (λ j l. every_true p 64 e j (omega arith)))
    (λ e. true_every p 64 (λ j l. go j l e (dec_lt j k)))
  where
    go : (j : ℕ) → j < 64 → every k p ≡ true → Dec (j < k) → p j ≡ true
    go j l e (yes q) = every_true p k e j q
    go j l e (no q) = f j (omega arith) l

pub some_things : (p q : ℕ → Bool) (k : ℕ) → k ≤ 64 → ((j : ℕ) → j < k → p j ≡ q j) → ((j : ℕ) → k ≤ j → p j ≡ false) → some 64 p ≡ some k q
some_things p q k h e f =
    alike (some 64 p) (some k q)
    (λ s. let w = some_true p 64 s in at w.0 w.2 (dec_lt w.0 k))
    (λ s. let w = some_true q k s in let l = w.1 in true_some p 64 w.0 (omega arith) (e w.0 w.1 ∙ w.2))
  where
    at : (j : ℕ) → p j ≡ true → Dec (j < k) → some k q ≡ true
    at j s (yes l) = true_some q k j l (sym (e j l) ∙ s)
    at j s (no l) = never s (f j (omega arith))

-- a step of a walk that takes the lowest set bit off a word leaves one less
pub walk_less : (rest next : ℕ) {y : ℕ} → ((j : ℕ) → has next j ≡ (has rest j && not (eqb (lowest (has rest) 0 64) j))) → Found (has rest) 0 64 y → count_to (has next) 64 < count_to (has rest) 64
walk_less rest next {y} off t =
    count_less (has next) (has rest) (λ j h. (both_true (has rest j) (not (eqb (lowest (has rest) 0 64) j)) (sym (off j) ∙ h)).0) 64 y t.there
    (off y ∙ and_no (has rest y) _ (rw (lowest_first (has rest) 64 y t.there (λ j h. t.before j (omega arith) h) t.here, eq-eqb y y refl))) t.here

-- a walk over the set bits of a word w: the rest are bits of w, and the bits of w that are gone are ok
module _ (w : ℕ) (ok : ℕ → Bool) where
  pub record Walked (rest : ℕ) : Type 0 where
    pub set : (j : ℕ) → has rest j ≡ true → has w j ≡ true
    pub gone : (j : ℕ) → has w j ≡ true → has rest j ≡ false → ok j ≡ true

  pub walk_end : (k rest : ℕ) → k ≤ 64 → Walked rest → Missing (has rest) 0 64 → true ≡ every k (λ j. implies (has w j) (ok j))
  walk_end k rest h p m = sym (true_every (λ j. implies (has w j) (ok j)) k (λ j l. true_implies (has w j) (ok j) (λ t. p.gone j t (m.none j (omega arith) (omega arith)))))

  pub walk_fails : (k y : ℕ) → y < k → has w y ≡ true → ok y ≡ false → false ≡ every k (λ j. implies (has w j) (ok j))
  unfolding implies
  walk_fails k y h t o = sym (every_false (λ j. implies (has w j) (ok j)) k y h (rw (t, o)))
