-- Laws of the search, the count and the tests over sets of numbers.
use mathlib.Core.Path.{◌≡◌, refl, sym, ap, ◌∙◌}
use mathlib.Core.Bool.{Bool, true, false, cond, ◌&&◌, ◌||◌}
use Prim.Native.Nat.{ℕ, zero, suc, ◌+◌, ◌-◌, ◌≤◌, ◌<◌}
use native.Mathlib.Decide.{ℕ_discrete, dec_lt}
use native.Mathlib.Nat.{add-zero, add-suc, sub-zero}
use native.Mathlib.Omega.{arith}
use lib.Dec.{leb, ltb}
use borrow.Author.Tests.{ltb-true, leb-true, lt-ltb, le-leb}
use Rattle.bits.specs.Sets.{lowest, count_to, every, some}
use Rattle.bits.proofs.Truth.{both_true, true_both, and_no, or_elim, or_left, or_right, never, alike}

-- r is the lowest of the c numbers from i on that is in p, or i + c
pub record Lowest (p : ℕ → Bool) (i c r : ℕ) : Type 0 where
  pub from : i ≤ r
  pub within : r ≤ i + c
  pub none : (j : ℕ) → i ≤ j → j < r → p j ≡ false
  pub found : r < i + c → p r ≡ true

module _ (p : ℕ → Bool) where
  -- THE SEARCH FINDS THE LOWEST, and only that is the lowest
  pub lowest_is : (i c : ℕ) → Lowest p i c (lowest p i c)
  unfolding lowest
  lowest_is i zero = record {
    from = omega arith;
    within = omega arith;
    none = λ j h l. absurd (omega arith);
    found = λ h. absurd (omega arith);
  }
  lowest_is i (suc c) = go (p i) refl (lowest_is (i + 1) c)
    where
      go : (t : Bool) → p i ≡ t → Lowest p (i + 1) c (lowest p (i + 1) c) → Lowest p i (suc c) (cond t i (lowest p (i + 1) c))
      go true e rest = record {
        from = omega arith;
        within = omega arith;
        none = λ j h l. absurd (omega arith);
        found = λ _. e;
      }
      go false e rest =
          let f = rest.from in
          let w = rest.within in
          record {
            from = omega arith;
            within = omega arith;
            none = λ j h l. here j l (ℕ_discrete i j) h;
            found = λ h. rest.found (omega arith);
          }
        where
          here : (j : ℕ) → j < lowest p (i + 1) c → Dec (i ≡ j) → i ≤ j → p j ≡ false
          here j l (yes q) h = ap p (sym q) ∙ e
          here j l (no q) h = rest.none j (omega arith) l

  pub lowest_only : {i c r s : ℕ} → Lowest p i c r → Lowest p i c s → r ≡ s
  lowest_only {i} {c} {r} {s} a b = go (dec_lt r s) (dec_lt s r)
    where
      go : Dec (r < s) → Dec (s < r) → r ≡ s
      go (yes l) d = let w = b.within in never (a.found (omega arith)) (b.none r a.from l)
      go (no l) (yes k) = let w = a.within in never (b.found (omega arith)) (a.none s b.from k)
      go (no l) (no k) = omega arith

  pub lowest_at : {i c r : ℕ} → Lowest p i c r → r ≡ lowest p i c
  lowest_at {i} {c} a = lowest_only a (lowest_is i c)

  -- a number of p from i on is no lower than what the search finds
  pub lowest_least : {i c r : ℕ} → Lowest p i c r → (q : ℕ) → i ≤ q → p q ≡ true → r ≤ q
  lowest_least {i} {c} {r} a q h g = go (dec_lt q r)
    where
      go : Dec (q < r) → r ≤ q
      go (yes l) = never g (a.none q h l)
      go (no l) = omega arith

  pub lowest_end : (i k : ℕ) → k ≤ i → lowest p i (k - i) ≡ i
  unfolding lowest
  lowest_end i k h = let g : k - i ≡ 0 = omega arith in rw g

  -- A SEARCH BELOW k THAT HAS COME TO i: what is left of it gives r, the answer of the whole
  abbrev pub Left : ℕ → ℕ → ℕ → Type 0
  Left i k r = lowest p i (k - i) ≡ r

  pub left_start : (k : ℕ) {r : ℕ} → lowest p 0 k ≡ r → Left 0 k r
  left_start k e = rw sub-zero e

  pub left_on : {i k r : ℕ} → i < k → p i ≡ false → Left i k r → Left (i + 1) k r
  unfolding lowest
  left_on {i} {k} h e l = let g : k - i ≡ suc (k - (i + 1)) = omega arith in rw (g, e) at l

  pub left_here : {i k r : ℕ} → i < k → p i ≡ true → Left i k r → i ≡ r
  unfolding lowest
  left_here {i} {k} h e l = let g : k - i ≡ suc (k - (i + 1)) = omega arith in rw (g, e) at l

  pub left_end : {i k r : ℕ} → k ≤ i → Left i k r → i ≡ r
  left_end {i} {k} h l = sym (lowest_end i k h) ∙ l

  -- nothing below the end is in p exactly when the search comes to the end
  pub lowest_none : (i c : ℕ) → lowest p i c ≡ i + c → (j : ℕ) → i ≤ j → j < i + c → p j ≡ false
  lowest_none i c e j h l = (lowest_is i c).none j h (omega arith)

  pub none_lowest : (i c : ℕ) → ((j : ℕ) → i ≤ j → j < i + c → p j ≡ false) → lowest p i c ≡ i + c
  none_lowest i c f = sym (lowest_at (record {
    from = omega arith;
    within = omega arith;
    none = f;
    found = λ h. absurd (omega arith);
  }))

  -- WHAT A SEARCH FROM 0 SHOWS: that its answer is the first of p, or that there is none
  pub record First (c i : ℕ) : Type 0 where
    pub there : i < c
    pub here : p i ≡ true
    pub before : (j : ℕ) → j < i → p j ≡ false

  pub first_is : {c r : ℕ} → r ≡ lowest p 0 c → r < c → First c r
  first_is {c} {r} e h =
      let f : Lowest p 0 c r = rw e (lowest_is 0 c) in
      record { there = h; here = f.found (omega arith); before = λ j l. f.none j (omega arith) l }

  pub first_none : {c r : ℕ} → r ≡ lowest p 0 c → c ≤ r → (j : ℕ) → j < c → p j ≡ false
  first_none {c} {r} e h j l = (lowest_is 0 c).none j (omega arith) (omega arith)

  -- the tests
  pub every_true : (c : ℕ) → every c p ≡ true → (i : ℕ) → i < c → p i ≡ true
  unfolding every
  every_true zero h i l = absurd (omega arith)
  every_true (suc c) h i l = go (ℕ_discrete i c) (both_true (every c p) (p c) h) (every_true c)
    where
      go : Dec (i ≡ c) → (every c p ≡ true) × (p c ≡ true) → (every c p ≡ true → (j : ℕ) → j < c → p j ≡ true) → p i ≡ true
      go (yes e) both rest = ap p e ∙ both.1
      go (no e) both rest = rest both.0 i (omega arith)

  pub true_every : (c : ℕ) → ((i : ℕ) → i < c → p i ≡ true) → every c p ≡ true
  unfolding every
  true_every zero h = refl
  true_every (suc c) h = rw (true_every c (λ i l. h i (omega arith)), h c (omega arith))

  pub every_false : (c i : ℕ) → i < c → p i ≡ false → every c p ≡ false
  unfolding every
  every_false zero i l h = absurd (omega arith)
  every_false (suc c) i l h = go (ℕ_discrete i c) (λ k. every_false c i k h)
    where
      go : Dec (i ≡ c) → (i < c → every c p ≡ false) → (every c p && p c) ≡ false
      go (yes e) rest = and_no (every c p) (p c) (ap p (sym e) ∙ h)
      go (no e) rest = rw (rest (omega arith))

  pub some_true : (c : ℕ) → some c p ≡ true → (i : ℕ) × (i < c) × (p i ≡ true)
  unfolding some
  some_true zero h = never {a = false} h refl
  some_true (suc c) h =
      or_elim {C = (i : ℕ) × (i < suc c) × (p i ≡ true)} (some c p) (p c) h
      (λ e. let r = some_true c e in let l = r.1 in (r.0, omega arith, r.2))
      (λ e. (c, omega arith, e))

  pub true_some : (c i : ℕ) → i < c → p i ≡ true → some c p ≡ true
  unfolding some
  true_some zero i l h = absurd (omega arith)
  true_some (suc c) i l h = go (ℕ_discrete i c) (λ k. true_some c i k h)
    where
      go : Dec (i ≡ c) → (i < c → some c p ≡ true) → (some c p || p c) ≡ true
      go (yes e) rest = or_right (some c p) (p c) (ap p (sym e) ∙ h)
      go (no e) rest = or_left (some c p) (p c) (rest (omega arith))

  pub some_false : (c : ℕ) → ((i : ℕ) → i < c → p i ≡ false) → some c p ≡ false
  unfolding some
  some_false zero h = refl
  some_false (suc c) h = rw (some_false c (λ i l. h i (omega arith)), h c (omega arith))

  -- the count of numbers from a on goes on from the count below a
  pub count_add : (a b : ℕ) → count_to p (a + b) ≡ count_to p a + count_to (λ j. p (a + j)) b
  unfolding count_to
  count_add a zero = rw add-zero (omega arith)
  count_add a (suc b) = rw add-suc (omega (arith, count_add a b))

pub every_same : (p q : ℕ → Bool) (c : ℕ) → ((j : ℕ) → j < c → p j ≡ q j) → every c p ≡ every c q
unfolding every
every_same p q zero h = refl
every_same p q (suc c) h = rw (every_same p q c (λ j l. h j (omega arith)), h c (omega arith))

pub count_same : (p q : ℕ → Bool) (c : ℕ) → ((j : ℕ) → j < c → p j ≡ q j) → count_to p c ≡ count_to q c
unfolding count_to
count_same p q zero h = refl
count_same p q (suc c) h = rw (count_same p q c (λ j l. h j (omega arith)), h c (omega arith))

pub lowest_same : (p q : ℕ → Bool) (i c : ℕ) → ((j : ℕ) → i ≤ j → j < i + c → p j ≡ q j) → lowest p i c ≡ lowest q i c
lowest_same p q i c h =
    let l = lowest_is p i c in
    let w = l.within in
    lowest_at q
    (record {
      from = l.from;
      within = l.within;
      none = λ j g k. sym (h j g (omega arith)) ∙ l.none j g k;
      found = λ k. sym (h (lowest p i c) l.from k) ∙ l.found k;
    })

pub count_le : (p : ℕ → Bool) (c : ℕ) → count_to p c ≤ c
unfolding count_to
count_le p zero = omega arith
count_le p (suc c) = go (p c) (count_le p c)
  where
    go : (t : Bool) → count_to p c ≤ c → count_to p c + cond t 1 0 ≤ suc c
    go true h = omega arith
    go false h = omega arith

-- of two sets of numbers, one within the other, the count of the smaller is no more; and it is less where a number is missing
module _ (p q : ℕ → Bool) (h : (j : ℕ) → p j ≡ true → q j ≡ true) where
  pub count_fewer : (c : ℕ) → count_to p c ≤ count_to q c
  unfolding count_to
  count_fewer zero = omega arith
  count_fewer (suc c) = go (p c) (q c) (h c) (count_fewer c)
    where
      go : (t u : Bool) → (t ≡ true → u ≡ true) → count_to p c ≤ count_to q c → count_to p c + cond t 1 0 ≤ count_to q c + cond u 1 0
      go true u f l = rw (f refl) (omega arith)
      go false true f l = omega arith
      go false false f l = omega arith

  pub count_less : (c k : ℕ) → k < c → p k ≡ false → q k ≡ true → count_to p c < count_to q c
  unfolding count_to
  count_less zero k l e g = absurd (omega arith)
  count_less (suc c) k l e g = go (ℕ_discrete k c) (p c) (q c) refl refl (count_fewer c) (λ l. count_less c k l e g)
    where
      go : Dec (k ≡ c) → (t u : Bool) → p c ≡ t → q c ≡ u → count_to p c ≤ count_to q c → (k < c → count_to p c < count_to q c) → count_to p c + cond t 1 0 < count_to q c + cond u 1 0
      go (yes z) true u e₁ e₂ w f = never e₁ (ap p (sym z) ∙ e)
      go (yes z) false true e₁ e₂ w f = omega arith
      go (yes z) false false e₁ e₂ w f = never (ap q (sym z) ∙ g) e₂
      go (no z) true true e₁ e₂ w f = omega (arith, f (omega arith))
      go (no z) true false e₁ e₂ w f = never (h c e₁) e₂
      go (no z) false true e₁ e₂ w f = omega (arith, f (omega arith))
      go (no z) false false e₁ e₂ w f = omega (arith, f (omega arith))

-- the next number of a set is further on
pub further : (p : ℕ → Bool) (c : ℕ) {j r : ℕ} → r ≡ lowest p (j + 1) c → j < r
further p c {j} e = let f = (lowest_is p (j + 1) c).from in omega arith

-- some number of p at or above the limit is below c exactly when the search from the limit on finds one
pub lowest_past : (p : ℕ → Bool) (limit c : ℕ) → ltb (lowest p limit (c - limit)) c ≡ some c (λ j. leb limit j && p j)
lowest_past p limit c =
    alike (ltb r c) (some c (λ j. leb limit j && p j))
    (λ h.
    let l = ltb-true r c h in
    let f = found.from in
    true_some (λ j. leb limit j && p j) c r l (true_both (leb limit r) (p r) (le-leb limit r f) (found.found (omega arith))))
    (λ h.
    let e = some_true (λ j. leb limit j && p j) c h in
    let q = both_true (leb limit e.0) (p e.0) e.2 in
    lt-ltb r c (omega (arith, e.1, lowest_least p found e.0 (leb-true limit e.0 q.0) q.1)))
  where
    r : ℕ
    r = lowest p limit (c - limit)

    found : Lowest p limit (c - limit) r
    found = lowest_is p limit (c - limit)
