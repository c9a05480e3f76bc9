-- Laws of a walk over the numbers of a set below c, the lowest first.
use Rattle.std.proofs.Common.{◌≡◌, Bool, true, false, ℕ, zero, suc, ◌+◌, ◌-◌, ◌≤◌, ◌<◌, [], ◌∷◌, length, filter, cond, Option, Some, None, refl, sym, ap, ◌∙◌, arith}
use native.Mathlib.Decide.{ℕ_discrete}
use Rattle.std.specs.List.{range_with_len}
use Rattle.std.proofs.lemmas.Iterator.{YieldsList}
use Rattle.std.proofs.lemmas.Iterator.Consumers.{YieldsList-from_shown}
use Rattle.bits.specs.Sets.{lowest}
use Rattle.bits.specs.Walk.{WalkStep, walk_left}
use Rattle.bits.proofs.FoundLaws.{Found, Missing, found, missing, found_at, found_end}

module _ (p : ℕ → Bool) where
  -- the list of the numbers of p among the n from i on: empty where none is, else the lowest and the list past it
  pub none_list : (i n : ℕ) → ((j : ℕ) → i ≤ j → j < i + n → p j ≡ false) → filter p (range_with_len i n) ≡ []
  none_list i zero f = refl
  none_list i (suc n) f = rw (f i (omega arith) (omega arith)) (none_list (i + 1) n (λ j h l. f j (omega arith) (omega arith)))

  pub found_list : (i n k m : ℕ) → k + 1 + m ≡ i + n → i ≤ k → p k ≡ true → ((j : ℕ) → i ≤ j → j < k → p j ≡ false) → filter p (range_with_len i n) ≡ k ∷ filter p (range_with_len (k + 1) m)
  found_list i zero k m e a h b = absurd (omega arith)
  found_list i (suc n) k m e a h b = go (ℕ_discrete i k) (found_list (i + 1) n k m)
    where
      go : Dec (i ≡ k) → (k + 1 + m ≡ i + 1 + n → i + 1 ≤ k → p k ≡ true → ((j : ℕ) → i + 1 ≤ j → j < k → p j ≡ false) → filter p (range_with_len (i + 1) n) ≡ k ∷ filter p (range_with_len (k + 1) m))
          → cond (p i) (i ∷ filter p (range_with_len (i + 1) n)) (filter p (range_with_len (i + 1) n)) ≡ k ∷ filter p (range_with_len (k + 1) m)
      go (yes q) more = let g : n ≡ m = omega arith in rw (q, h, g) refl
      go (no q) more = rw (b i (omega arith) (omega arith)) (more (omega arith) (omega arith) h (λ j f l. b j (omega arith) l))

-- A TURN of a walk over p that stood at i: it gave j, and goes on from n
pub record Turn (p : ℕ → Bool) (c i j n : ℕ) : Type 0 where
  pub found : Found p i c j
  pub next : lowest p i (c - i) ≡ j
  pub on : n ≡ j + 1

-- ITS END: it stood at i, and nothing was left
pub record End (p : ℕ → Bool) (c i : ℕ) : Type 0 where
  pub missing : Missing p i c
  pub past : c ≤ lowest p i (c - i)

module _ {S K : Type 0} {c : ℕ} {set : K → ℕ → Bool} {holds : S → K} {from : S → ℕ} {s t : S} {k : K} where
  pub turn : {j : ℕ} → WalkStep c set holds from s (Some j) t → holds s ≡ k → Turn (set k) c (from s) j (from t)
  turn {j} w e = rw (← e) (record { found = found w.gives; next = (found_at (sym w.gives)).0; on = w.goes_on })

  pub ended : WalkStep c set holds from s None t → holds s ≡ k → End (set k) c (from s)
  ended w e = rw (← e) (record { missing = missing w.gives; past = found_end (sym w.gives) })

  -- it holds what it held
  pub held : {r : Option ℕ} → WalkStep c set holds from s r t → holds s ≡ k → holds t ≡ k
  held w e = w.keeps ∙ e

module _ {S K : Type 0} (c : ℕ) (set : K → ℕ → Bool) (holds : S → K) (from : S → ℕ) where
  -- a step takes the first of what is left; where nothing is left it gives nothing
  pub walk_none : (s t : S) → WalkStep c set holds from s None t → length (walk_left c set holds from s) ≡ 0
  walk_none s t h = ap length (none_list (set (holds s)) (from s) (c - from s) (λ j a l. (missing h.gives).none j a (omega arith)))

  pub walk_some : (s : S) (j : ℕ) (t : S) → WalkStep c set holds from s (Some j) t → walk_left c set holds from s ≡ j ∷ walk_left c set holds from t
  walk_some s j t h =
      let f = found h.gives in
      let b = f.from in
      let l = f.there in
      rw (h.keeps, h.goes_on) (found_list (set (holds s)) (from s) (c - from s) j (c - (j + 1)) (omega arith) b f.here f.before)

  pub walk_list : (s : S) → YieldsList (WalkStep c set holds from) (λ x. x) s (walk_left c set holds from s)
  walk_list = YieldsList-from_shown (WalkStep c set holds from) (λ x. x) (walk_left c set holds from) walk_none walk_some
