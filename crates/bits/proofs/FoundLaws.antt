-- Laws of what a search has found, for the branches of a test, a `match` or a `?` on it.
use Rattle.std.proofs.Common.{◌≡◌, Bool, true, false, ℕ, ◌-◌, ◌≤◌, ◌<◌, ltb, Option, Some, None, is_some, not, cond, refl, sym, ap, ◌∙◌, arith, lt-ltb, le-ltb, ltb-true}
use Rattle.std.proofs.lemmas.Option.{cond_some, none-some}
use native.Mathlib.Decide.{dec_lt}
use Rattle.bits.proofs.Truth.{never}
use Rattle.bits.specs.Sets.{lowest, found_below}
use Rattle.bits.proofs.SetLaws.{lowest_is, lowest_at}

-- what it came to: below c, or not
pub found_at : {c i k : ℕ} → found_below c i ≡ Some k → (i ≡ k) × (k < c)
found_at {c} {i} {k} e =
    let f = cond_some (ltb i c) i k e in
    let l : i < c = ltb-true i c f.0 in (f.1, omega (arith, f.1))

pub at_found : {c i : ℕ} → i < c → found_below c i ≡ Some i
at_found {c} {i} l = rw (lt-ltb i c l)

pub end_found : {c i : ℕ} → c ≤ i → found_below c i ≡ None
end_found {c} {i} l = rw (le-ltb i c l)

pub found_end : {c i : ℕ} → found_below c i ≡ None → c ≤ i
found_end {c} {i} e = go (dec_lt i c)
  where
    go : Dec (i < c) → c ≤ i
    go (yes l) = absurd (none-some i (sym e ∙ at_found l))
    go (no l) = omega arith

-- k is the lowest from i on and below c that is in p
pub record Found (p : ℕ → Bool) (i c k : ℕ) : Type 0 where
  pub from : i ≤ k
  pub there : k < c
  pub here : p k ≡ true
  pub before : (j : ℕ) → i ≤ j → j < k → p j ≡ false

-- none from i on and below c is in p
pub record Missing (p : ℕ → Bool) (i c : ℕ) : Type 0 where
  pub none : (j : ℕ) → i ≤ j → j < c → p j ≡ false

module _ {p : ℕ → Bool} {i c : ℕ} where
  -- WHAT A SEARCH THAT GAVE k, OR NOTHING, SHOWS: each from the promise as a branch has it
  pub found : {k : ℕ} → Some k ≡ found_below c (lowest p i (c - i)) → Found p i c k
  found {k} e =
      let f = found_at (sym e) in
      let l = lowest_is p i (c - i) in
      let b = l.from in record {
        from = omega (arith, f.0);
        there = f.1;
        here = ap p (sym f.0) ∙ l.found (omega (arith, f.0, f.1));
        before = λ j h g. l.none j h (omega (arith, f.0));
      }

  pub missing : None ≡ found_below c (lowest p i (c - i)) → Missing p i c
  missing e =
      let past = found_end (sym e) in
      record { none = λ j h g. (lowest_is p i (c - i)).none j h (omega (arith, past)) }

  -- and what the search gives, of each
  pub gives_found : {k : ℕ} → Found p i c k → Some k ≡ found_below c (lowest p i (c - i))
  gives_found {k} f =
      let b = f.from in
      let t = f.there in
      let e : k ≡ lowest p i (c - i) = lowest_at p (record { from = b; within = omega arith; none = f.before; found = λ _. f.here }) in
      sym (ap (found_below c) (sym e) ∙ at_found t)

  pub gives_none : Missing p i c → None ≡ found_below c (lowest p i (c - i))
  gives_none m = sym (end_found (go (dec_lt (lowest p i (c - i)) c)))
    where
      go : Dec (lowest p i (c - i) < c) → c ≤ lowest p i (c - i)
      go (yes l) = let f = lowest_is p i (c - i) in let b = f.from in never (f.found (omega arith)) (m.none (lowest p i (c - i)) b l)
      go (no l) = omega arith

-- that something is found, or nothing, as a test
pub some_below : (c i : ℕ) {r : Option ℕ} → r ≡ found_below c i → is_some r ≡ ltb i c
some_below c i e = ap is_some e ∙ go (ltb i c)
  where
    go : (t : Bool) → is_some (cond t (Some i) None) ≡ t
    go true = refl
    go false = refl

pub none_below : (c i : ℕ) {r : Option ℕ} {n : Bool} → r ≡ found_below c i → is_some r ≡ not n → n ≡ not (ltb i c)
none_below c i {n = n} e f = not_not n ∙ ap not (sym f ∙ some_below c i e)
  where
    not_not : (t : Bool) → t ≡ not (not t)
    not_not true = refl
    not_not false = refl
