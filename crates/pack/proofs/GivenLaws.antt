-- Laws of what is given: there is one answer; a row that applies and one that does not; rows put behind others.
use mathlib.Core.Path.{◌≡◌, refl, sym, ap₂, ◌∙◌}
use mathlib.Core.Logic.{◌⊎◌, inl, inr, ⊎_elim}
use mathlib.Core.Bool.{Bool, true, false, cond}
use mathlib.Core.List.{List, [], ◌∷◌, ◌++◌}
use Prim.Native.Nat.{ℕ, ◌≤◌, ◌<◌}
use native.Mathlib.Decide.{dec_lt}
use native.Mathlib.Omega.{arith}
use lib.Dec.{eqb}
use Rattle.std.specs.Prelude.{Result, Ok, Err}
use Rattle.bits.specs.Sets.{lowest}
use Rattle.bits.proofs.Truth.{never}
use Rattle.bits.proofs.SetLaws.{first_is, first_none}
use Rattle.pack.specs.declared.check.Refusal.{Refusal}
use Rattle.pack.specs.declared.check.Refusal.TheVariants.{Sizes, Pack, Record, Marks, Goal}
use Rattle.pack.specs.Computed.{refusal_number, refusal_place, checked_number, checked_value}
use Rattle.pack.specs.Table.{Row, refuse_with, refuse_at, Gives, Given}

-- a row that applies does so with one number and one value
gives_one : (row : Row) {k v k' v' : ℕ} → Gives row k v → Gives row k' v' → (k ≡ k') × (v ≡ v')
gives_one (refuse_with number applies value) g h = (g.1 ∙ sym h.1, g.2 ∙ sym h.2)
gives_one (refuse_at number count P) {v = v} {v' = v'} g h = (g.0 ∙ sym h.0, same (dec_lt v v') (dec_lt v' v))
  where
    same : Dec (v < v') → Dec (v' < v) → v ≡ v'
    same (yes l) d = absurd (h.3 v l g.2)
    same (no l) (yes d) = absurd (g.3 v' d h.2)
    same (no l) (no d) = omega arith

-- THERE IS ONE ANSWER: two that are given by the same rows have one number, and are refused with one value, or both come back otherwise, with 0
pub given_one : (kept kept' : Type 0) (otherwise otherwise' : ℕ → Type 0) (rows : List Row) {k v k' v' : ℕ}
    → Given kept rows otherwise k v → Given kept' rows otherwise' k' v' → (k ≡ k') × (((v ≡ v') × kept × kept') ⊎ (otherwise v × otherwise' v' × (k ≡ 0)))
given_one kept kept' otherwise otherwise' [] g h = (g.0 ∙ sym h.0, inr (g.1, h.1, g.0))
given_one kept kept' otherwise otherwise' (row ∷ rows) (inl g) (inl h) = let s = gives_one row g.0 h.0 in (s.0, inl (s.1, g.1, h.1))
given_one kept kept' otherwise otherwise' (row ∷ rows) (inl g) (inr h) = absurd (h.0 _ _ g.0)
given_one kept kept' otherwise otherwise' (row ∷ rows) (inr g) (inl h) = absurd (g.0 _ _ h.0)
given_one kept kept' otherwise otherwise' (row ∷ rows) (inr g) (inr h) = given_one kept kept' otherwise otherwise' rows g.1 h.1

-- where the value that comes back otherwise is one
pub given_same : (kept : Type 0) (otherwise : ℕ → Type 0) (rows : List Row) {k v k' v' : ℕ}
    → ((x y : ℕ) → otherwise x → otherwise y → x ≡ y) → Given kept rows otherwise k v → Given kept rows otherwise k' v' → (k ≡ k') × (v ≡ v')
given_same kept otherwise rows {v = v} {v' = v'} one g h =
    let s = given_one kept kept otherwise otherwise rows g h in
    (s.0, ⊎_elim (λ e. e.0) (λ e. one v v' e.0 e.1) s.1)

-- a row for a test that is yes does not apply
pub passes : {t : Bool} {j w : ℕ} → t ≡ true → (k v : ℕ) → Gives (refuse_with j (t ≡ false) w) k v → ⊥
passes e _ _ h = never e h.0

-- the row of the lowest, by a search for it
module _ (p : ℕ → Bool) (P : ℕ → Type 0) (c : ℕ) (to : (i : ℕ) → i < c → p i ≡ true → P i) (from : (i : ℕ) → i < c → P i → p i ≡ true) where
  pub lowest_here : (number : ℕ) → lowest p 0 c < c → Gives (refuse_at number c P) number (lowest p 0 c)
  lowest_here number l =
      let f = first_is p refl l in
      (refl, l, to (lowest p 0 c) l f.here, λ i h q. never (from i (omega arith) q) (f.before i h))

  pub lowest_none : {number : ℕ} → c ≤ lowest p 0 c → (k v : ℕ) → Gives (refuse_at number c P) k v → ⊥
  lowest_none l _ i h = never (from i h.1 h.2) (first_none p refl l i h.1)

-- the number of a row, and that every row has one of the table's
abbrev number : Row → ℕ
number (refuse_with k applies v) = k
number (refuse_at k count P) = k

gives_number : (row : Row) (k v : ℕ) → Gives row k v → k ≡ number row
gives_number (refuse_with k applies v) _ _ g = g.1
gives_number (refuse_at k count P) _ _ g = g.0

abbrev pub Numbered : List Row → Type 0
Numbered [] = Unit {0}
Numbered (row ∷ rows) = (0 < number row) × Numbered rows

-- 0 IS GIVEN only where no row applies
pub given_zero : (kept : Type 0) (otherwise : ℕ → Type 0) (rows : List Row) → Numbered rows → {v : ℕ} → Given kept rows otherwise 0 v → otherwise v
given_zero kept otherwise [] n g = g.1
given_zero kept otherwise (row ∷ rows) n {v} (inl g) = absurd (omega (arith, n.0, gives_number row 0 v g.0))
given_zero kept otherwise (row ∷ rows) n (inr g) = given_zero kept otherwise rows n.1 g.1

-- THE SAME ROWS, with something else kept by a refusal and something else come back otherwise
pub given_map : (kept kept' : Type 0) (otherwise otherwise' : ℕ → Type 0) (rows : List Row) → Numbered rows → {k v : ℕ} → Given kept rows otherwise k v → ((k ≡ 0 → ⊥) → kept') → (k ≡ 0 → otherwise v → otherwise' v) → Given kept' rows otherwise' k v
given_map kept kept' otherwise otherwise' [] n g refused back = (g.0, back g.0 g.1)
given_map kept kept' otherwise otherwise' (row ∷ rows) n {k} {v} (inl g) refused back = inl (g.0, refused (λ z. omega (arith, n.0, gives_number row k v g.0)))
given_map kept kept' otherwise otherwise' (row ∷ rows) n (inr g) refused back = inr (g.0, given_map kept kept' otherwise otherwise' rows n.1 g.1 refused back)

refusal_some : (why : Refusal) → 0 < refusal_number why
refusal_some Sizes = omega arith
refusal_some Pack = omega arith
refusal_some (Record i) = omega arith
refusal_some Marks = omega arith
refusal_some Goal = omega arith

-- AFTER THE QUESTION CHECK: a call that hands its refusal on, and else goes by further rows, gives what the table says with these behind
module _ (kept : Type 0) (otherwise : ℕ → Type 0) {k v : ℕ} where
  pub given_after : (rows more : List Row) (count : ℕ) → Numbered rows → (c : Result ℕ Refusal) → Given (Unit {0}) rows (λ value. value ≡ count) (checked_number c) (checked_value c)
      → ((why : Refusal) → c ≡ Err why → (k ≡ refusal_number why) × (v ≡ refusal_place why) × kept)
      → ((j : ℕ) → c ≡ Ok j → Given kept more otherwise k v)
      → Given kept (rows ++ more) otherwise k v
  given_after [] more count n (Ok j) g refused taken = taken j refl
  given_after [] more count n (Err why) g refused taken = absurd (omega (arith, refusal_some why, g.0))
  given_after (row ∷ rows) more count n (Ok j) (inl g) refused taken = absurd (omega (arith, n.0, gives_number row 0 j g.0))
  given_after (row ∷ rows) more count n (Err why) (inl g) refused taken = let r = refused why refl in inl (rw (r.0, r.1) g.0, r.2)
  given_after (row ∷ rows) more count n (Ok j) (inr g) refused taken = inr (g.0, given_after rows more count n.1 (Ok j) g.1 refused taken)
  given_after (row ∷ rows) more count n (Err why) (inr g) refused taken = inr (g.0, given_after rows more count n.1 (Err why) g.1 refused taken)

-- AN ANSWER IS TOLD BY ITS NUMBER AND VALUE
module _ {A : Type 0} (number value : A → ℕ) (answer_of : ℕ → ℕ → A) (back : (x : A) → answer_of (number x) (value x) ≡ x) where
  pub told : (x y : A) → number x ≡ number y → value x ≡ value y → x ≡ y
  told x y e f = sym (back x) ∙ ap₂ answer_of e f ∙ back y

unfoldable pub refusal_of : ℕ → ℕ → Refusal
refusal_of k i = cond (eqb k 1) Sizes (cond (eqb k 2) Pack (cond (eqb k 3) (Record i) (cond (eqb k 4) Marks Goal)))

pub checked_told_lem : (x y : Result ℕ Refusal) → checked_number x ≡ checked_number y → checked_value x ≡ checked_value y → x ≡ y
unfolding refusal_of
checked_told_lem = told checked_number checked_value checked_of back
  where
    checked_of : ℕ → ℕ → Result ℕ Refusal
    checked_of k v = cond (eqb k 0) (Ok v) (Err (refusal_of k v))

    back : (x : Result ℕ Refusal) → checked_of (checked_number x) (checked_value x) ≡ x
    back (Err Sizes) = refl
    back (Err Pack) = refl
    back (Err (Record i)) = refl
    back (Err Marks) = refl
    back (Err Goal) = refl
    back (Ok k) = refl
