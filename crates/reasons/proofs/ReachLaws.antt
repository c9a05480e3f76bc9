-- Reach: saturation ends in the smallest set of names, and so finds the module, of which there is one.
use mathlib.Core.Path.{◌≡◌, refl, sym, ap, ◌∙◌}
use mathlib.Core.Bool.{Bool, true, false, not, ◌&&◌}
use mathlib.Core.List.{List, [], ◌∷◌}
use Prim.Native.Nat.{ℕ, zero, suc, ◌+◌, ◌≤◌, ◌<◌}
use native.Mathlib.Omega.{arith}
use lib.ListN.{length}
use borrow.Author.Tests.{eqb-true, eq-eqb}
use Rattle.bits.specs.Sets.{count_to}
use Rattle.bits.proofs.Truth.{both_true, true_both, never, alike, turn}
use Rattle.bits.proofs.SetLaws.{count_le, count_fewer, count_less}
use Rattle.pack.specs.declared.line.Line.{Line}
use Rattle.pack.specs.declared.line.Line.TheVariants.{Under, BothUnder, UnderSome, SomeUnder, RoleUnder, ChainUnder, ToItself, NoLine}
use Rattle.pack.specs.World.{line_at}
use Rattle.pack.specs.Record.{ValidLine, Valid}
use Rattle.passes.specs.Loop.{gate}
use Rattle.passes.specs.Saturation.{holds, attempt, runs}
use Rattle.passes.specs.Stop.{Later}
use Rattle.passes.proofs.LoopLaws.{loop_keeps, gate_keeps, gate_later, loop_later, Comes, comes_trans, gate_comes, loop_comes}
use Rattle.passes.proofs.SaturationLaws.{Built, Closed, Sweep, attempt_later, attempt_built, built_within, end_built, end_closed}
use Rattle.reasons.specs.declared.names.Name.{Name}
use Rattle.reasons.specs.declared.names.Name.TheVariants.{Concept, Role}
use Rattle.reasons.specs.Reach.{left_names, right_names, all_in, Reaches, IsReached, module_in, IsModule}
use Rattle.reasons.specs.Computed.{Arrow, same_name, name_at, reach, both_sides, reach_pass, reached, module_of}

pub name_self : (x : Name) → same_name x x ≡ true
unfolding same_name
name_self (Concept a) = eq-eqb a a refl
name_self (Role r) = eq-eqb r r refl

pub name_one : (x y : Name) → same_name x y ≡ true → x ≡ y
unfolding same_name
name_one (Concept a) (Concept b) h = ap Concept (eqb-true a b h)
name_one (Concept a) (Role s) h = never h refl
name_one (Role r) (Concept b) h = never h refl
name_one (Role r) (Role s) h = ap Role (eqb-true r s h)

-- a side has two names at most
left_two : (l : Line) → length (left_names l) ≤ 2
left_two (Under a b) = omega arith
left_two (BothUnder a₁ a₂ b) = omega arith
left_two (UnderSome a r b) = omega arith
left_two (SomeUnder r a b) = omega arith
left_two (RoleUnder r s) = omega arith
left_two (ChainUnder r s t) = omega arith
left_two (ToItself r) = omega arith
left_two NoLine = omega arith

right_two : (l : Line) → length (right_names l) ≤ 2
right_two (Under a b) = omega arith
right_two (BothUnder a₁ a₂ b) = omega arith
right_two (UnderSome a r b) = omega arith
right_two (SomeUnder r a b) = omega arith
right_two (RoleUnder r s) = omega arith
right_two (ChainUnder r s t) = omega arith
right_two (ToItself r) = omega arith
right_two NoLine = omega arith

-- so all of them are in R where the two that name_at gives are
module _ (R : Name → Bool) (a : ℕ) (start : R (Concept a) ≡ true) where
  two_all : (xs : List Name) → length xs ≤ 2 → R (name_at a xs 0) ≡ true → R (name_at a xs 1) ≡ true → all_in R xs ≡ true
  unfolding all_in
  two_all [] l h g = refl
  two_all (x ∷ []) l h g = true_both (R x) true h refl
  two_all (x ∷ y ∷ []) l h g = true_both (R x) (R y && true) h (true_both (R y) true g refl)
  two_all (x ∷ y ∷ z ∷ xs) l h g = absurd (omega arith)

  all_two : (xs : List Name) (j : ℕ) → all_in R xs ≡ true → R (name_at a xs j) ≡ true
  unfolding all_in
  all_two [] j h = start
  all_two (x ∷ xs) zero h = (both_true (R x) (all_in R xs) h).0
  all_two (x ∷ xs) (suc j) h = all_two xs j (both_true (R x) (all_in R xs) h).1

-- an arrow that may be taken
pub record Marked (ls : List Line) (S : ℕ → Bool) (s : Arrow) : Type 0 where
  pub there : s.place < length ls
  pub marked : S s.place ≡ true
  pub sided : s.side < 2

-- how many names of the question a set lacks
lack_names : ℕ → ℕ → (Name → Bool) → ℕ
lack_names n m T = count_to (λ x. not (T (Concept x))) n + count_to (λ r. not (T (Role r))) m

abbrev Named : ℕ → ℕ → Name → Type 0
Named n m (Concept x) = x < n
Named n m (Role r) = r < m

lack_falls : (n m : ℕ) (T U : Name → Bool) → ((x : Name) → T x ≡ true → U x ≡ true) → (x : Name) → Named n m x → T x ≡ false → U x ≡ true → lack_names n m U < lack_names n m T
unfolding lack_names
lack_falls n m T U up x i e g = go x i e g
  where
    fewer : (f : ℕ → Name) (j : ℕ) → not (U (f j)) ≡ true → not (T (f j)) ≡ true
    fewer f j = turn (T (f j)) (U (f j)) (up (f j))

    go : (x : Name) → Named n m x → T x ≡ false → U x ≡ true → lack_names n m U < lack_names n m T
    go (Concept x) i e g =
        omega (
          arith,
          count_less (λ x. not (U (Concept x))) (λ x. not (T (Concept x))) (fewer Concept) n x i (rw g) (rw e),
          count_fewer (λ r. not (U (Role r))) (λ r. not (T (Role r))) (fewer Role) m,
        )
    go (Role r) i e g =
        omega (
          arith,
          count_fewer (λ x. not (U (Concept x))) (λ x. not (T (Concept x))) (fewer Concept) n,
          count_less (λ r. not (U (Role r))) (λ r. not (T (Role r))) (fewer Role) m r i (rw g) (rw e),
        )

-- the right-side names of a valid line are of the question
right_named : (n m a : ℕ) → a < n → (l : Line) → ValidLine n m l → (j : ℕ) → Named n m (name_at a (right_names l) j)
right_named n m a h (Under x y) v zero = v.1
right_named n m a h (Under x y) v (suc j) = h
right_named n m a h (BothUnder x₁ x₂ y) v zero = v.2
right_named n m a h (BothUnder x₁ x₂ y) v (suc j) = h
right_named n m a h (UnderSome x r y) v zero = v.1
right_named n m a h (UnderSome x r y) v (suc zero) = v.2
right_named n m a h (UnderSome x r y) v (suc (suc j)) = h
right_named n m a h (SomeUnder r x y) v zero = v.2
right_named n m a h (SomeUnder r x y) v (suc j) = h
right_named n m a h (RoleUnder r s) v zero = v.1
right_named n m a h (RoleUnder r s) v (suc j) = h
right_named n m a h (ChainUnder r s t) v zero = v.2
right_named n m a h (ChainUnder r s t) v (suc j) = h
right_named n m a h (ToItself r) v zero = v
right_named n m a h (ToItself r) v (suc j) = h
right_named n m a h NoLine v j = absurd v

module _ (ls : List Line) (S : ℕ → Bool) (a : ℕ) where
  abbrev Start : Name → Bool
  Start = same_name (Concept a)

  abbrev BuiltArrows : List Arrow → Type 0
  BuiltArrows = Built (reach ls a) Start (Marked ls S)

  abbrev try : ℕ → ℕ → List Arrow → List Arrow
  try i j = attempt (reach ls a) Start (record { place = i; side = j })

  sides_later : (i : ℕ) (st : List Arrow) → Later st (both_sides ls S a i st)
  unfolding both_sides
  sides_later i = loop_later (try i) (λ j. attempt_later (reach ls a) Start (record { place = i; side = j })) 2 0

  gate_sides : (i : ℕ) (st : List Arrow) → Later st (gate (S i) (both_sides ls S a i) st)
  gate_sides i = gate_later (S i) (both_sides ls S a i) (sides_later i)

  pass_later : (st : List Arrow) → Later st (reach_pass ls S a st)
  unfolding reach_pass
  pass_later = loop_later (λ i. gate (S i) (both_sides ls S a i)) gate_sides (length ls) 0

  pass_built : (st : List Arrow) → BuiltArrows st → BuiltArrows (reach_pass ls S a st)
  unfolding reach_pass both_sides
  pass_built =
      loop_keeps BuiltArrows (λ i. gate (S i) (both_sides ls S a i)) (length ls) 0
      (λ i st _ hi. gate_keeps BuiltArrows (S i) (both_sides ls S a i)
      (λ st g. loop_keeps BuiltArrows (try i) 2 0
      (λ j st _ hj. attempt_built (reach ls a) Start (Marked ls S) (record { place = i; side = j }) (record { there = omega arith; marked = g; sided = omega arith }) st) st) st)

  pass_comes : (s : Arrow) → Marked ls S s → Comes (reach_pass ls S a) (attempt (reach ls a) Start s)
  unfolding reach_pass both_sides
  pass_comes s u =
      let i = s.place in
      let one = attempt (reach ls a) Start s in
      comes_trans (reach_pass ls S a) (gate (S i) (both_sides ls S a i)) one
      (loop_comes (λ i. gate (S i) (both_sides ls S a i)) gate_sides (length ls) 0 i (omega arith) (omega (arith, u.there)))
      (comes_trans (gate (S i) (both_sides ls S a i)) (both_sides ls S a i) one
      (gate_comes (S i) (both_sides ls S a i) u.marked)
      (loop_comes (try i) (λ j. attempt_later (reach ls a) Start (record { place = i; side = j })) 2 0 s.side (omega arith) (omega (arith, u.sided))))

  -- the smallest set of names in the two ways of saying it
  reaches_closed : (R : Name → Bool) → Reaches ls S a R → Closed (reach ls a) Start (Marked ls S) R
  reaches_closed R r = record {
    start = λ x h. ap R (sym (name_one (Concept a) x h)) ∙ r.start;
    rules = λ s u h₁ h₂.
        let l = line_at ls s.place in
        all_two R a r.start (right_names l) s.side (r.goes s.place u.there u.marked (two_all R a r.start (left_names l) (left_two l) h₁ h₂));
  }

  closed_reaches : (R : Name → Bool) → Closed (reach ls a) Start (Marked ls S) R → Reaches ls S a R
  closed_reaches R c =
      let start : R (Concept a) ≡ true = c.start (Concept a) (name_self (Concept a)) in
      record {
        start = start;
        goes = λ i h g e.
            let l = line_at ls i in
            let side : (j : ℕ) → j < 2 → R (name_at a (right_names l) j) ≡ true = λ j k.
            c.rules (record { place = i; side = j }) (record { there = h; marked = g; sided = k }) (all_two R a start (left_names l) 0 e) (all_two R a start (left_names l) 1 e) in
            two_all R a start (right_names l) (right_two l) (side 0 (omega arith)) (side 1 (omega arith));
      }

module _ (ls : List Line) (S : ℕ → Bool) (n m a : ℕ) (valid : Valid n m ls) (ha : a < n) where
  sweep : Sweep (reach ls a) (same_name (Concept a)) (Marked ls S) (reach_pass ls S a) (n + m)
  unfolding lack_names
  sweep = record {
    law = record { self = name_self; only = name_one };
    later = pass_later ls S a;
    keeps = pass_built ls S a;
    comes = pass_comes ls S a;
    lacking = lack_names n m;
    falls = λ T U up s u. lack_falls n m T U up (name_at a (right_names (line_at ls s.place)) s.side) (right_named n m a ha (line_at ls s.place) (valid s.place u.there) s.side);
    start =
        let st = holds (reach ls a) (same_name (Concept a)) [] in
        omega (arith, count_le (λ x. not (st (Concept x))) n, count_le (λ r. not (st (Role r))) m);
  }

  -- WHAT SATURATION REACHES IS THE SMALLEST SET: sound and closed
  reached_is : IsReached ls S a (reached ls S n m a)
  unfolding reached
  reached_is =
      let pass = reach_pass ls S a in
      let start = same_name (Concept a) in
      record {
        reaches = closed_reaches ls S a (reached ls S n m a) (end_closed (reach ls a) start (Marked ls S) pass (n + m) sweep);
        least = λ R r. built_within (reach ls a) start (Marked ls S) sweep.law R (reaches_closed ls S a R r) (runs pass (suc (n + m)) []) (end_built (reach ls a) start (Marked ls S) pass (n + m) sweep);
      }

  -- AND SO IT FINDS THE MODULE
  pub module_is : IsModule ls S a (module_of ls S n m a)
  unfolding module_of
  module_is = record { names = reached ls S n m a; reached = reached_is; places = λ i l. refl }

-- THERE IS ONE SMALLEST SET
pub reached_one : (ls : List Line) (S : ℕ → Bool) (a : ℕ) (R R' : Name → Bool) → IsReached ls S a R → IsReached ls S a R' → (x : Name) → R x ≡ R' x
reached_one ls S a R R' r r' x = alike (R x) (R' x) (r.least R' r'.reaches x) (r'.least R r.reaches x)

all_same : (R R' : Name → Bool) → ((x : Name) → R x ≡ R' x) → (xs : List Name) → all_in R xs ≡ all_in R' xs
unfolding all_in
all_same R R' h [] = refl
all_same R R' h (x ∷ xs) = rw (h x, all_same R R' h xs)

-- AND ONE MODULE
pub module_one : (ls : List Line) (S : ℕ → Bool) (a : ℕ) (M M' : ℕ → Bool) → IsModule ls S a M → IsModule ls S a M' → (i : ℕ) → i < length ls → M i ≡ M' i
unfolding module_in
module_one ls S a M M' p q i l =
    p.places i l
    ∙ ap (λ (t : Bool). S i && t) (all_same p.names q.names (reached_one ls S a p.names q.names p.reached q.reached) (left_names (line_at ls i)))
    ∙ sym (q.places i l)

-- A MARKED LINE OF KIND 7 IS IN EVERY MODULE, and its role is reached from the start: its left side has no names
pub itself_inside : (ls : List Line) (S : ℕ → Bool) (a : ℕ) (M : ℕ → Bool) (p : IsModule ls S a M) (i r : ℕ) → i < length ls → S i ≡ true → line_at ls i ≡ ToItself r
    → (M i ≡ true) × (p.names (Role r) ≡ true)
unfolding module_in all_in
itself_inside ls S a M p i r l h e =
    (p.places i l ∙ rw (h, e), (both_true (p.names (Role r)) true (rw e at (p.reached.reaches.goes i l h (rw e)))).0)
