-- Laws of the yes sheet: what is known after so many steps, the run of the code through the steps, and what the answers show.
use mathlib.Core.Path.{◌≡◌, refl, sym, ap, ap₂, ◌∙◌}
use mathlib.Core.Bool.{Bool, true, false, cond, not, ◌&&◌, ◌||◌, or-false, or_assoc}
use mathlib.Core.List.{List, [], ◌∷◌, ◌++◌}
use Prim.Native.Nat.{ℕ, zero, suc, ◌+◌, ◌/◌, ◌≤◌, ◌<◌}
use native.Mathlib.Nat.{zero-add}
use native.Mathlib.Numerals.{add-one}
use native.Mathlib.Omega.{arith}
use lib.Dec.{ltb}
use lib.ListN.{length, take}
use lib.Seq.{take-suc, take_all}
use borrow.Author.Tests.{ltb-false, lt-ltb, le-ltb, not-false}
use Rattle.std.specs.Prelude.{Result, Ok, Err}
use Rattle.bits.proofs.Truth.{both_true, or_elim, clash, cond_first, cond_second}
use Rattle.bits.proofs.SetLaws.{none_lowest, Left, left_start, left_on, left_here, left_end, first_none}
use Rattle.bits.proofs.ListLaws.{listed_length, listed_at}
use Rattle.pack.specs.declared.check.Refusal.{Refusal}
use Rattle.pack.specs.declared.line.Line.{Line}
use Rattle.pack.specs.declared.line.Fact.{Fact}
use Rattle.pack.specs.declared.line.Fact.TheVariants.{In}
use Rattle.pack.specs.declared.line.Step.{Step}
use Rattle.pack.specs.World.{Follows}
use Rattle.pack.specs.Rules.{conclusion_of, Derived, given, by, free, same_fact}
use Rattle.pack.specs.Bytes.{part}
use Rattle.pack.specs.Record.{lines_of, Valid}
use Rattle.pack.specs.Question.{counted}
use Rattle.pack.specs.Computed.{check_question}
use Rattle.pack.proofs.RuleLaws.{same_one}
use Rattle.pack.proofs.Soundness.{derived_follows}
use Rattle.tables.specs.Tables.{held_in, held, added_concepts, added_links, start_tables, Whole}
use Rattle.tables.proofs.TableLaws.{start_whole, start_held, held_added, whole_added}
use Rattle.yes.specs.declared.check.YesError.{YesError}
use Rattle.yes.specs.declared.check.YesError.TheVariants as yes
use Rattle.yes.specs.YesSheet.{step_in, zeros_in, steps_of, concluded, known, good_over, good_at, yes_length_fits}
use Rattle.yes.specs.Computed.{lowest_bad, check_steps, yes_after, check_yes}
use Rattle.yes.proofs.StepLaws.{good_same, good, conclusion_in_table}

-- the steps of a sheet, one more
pub steps_length : (sheet : List ℕ) → length (steps_of sheet) ≡ length sheet / 8
unfolding steps_of
steps_length sheet = listed_length (λ i. step_in (part sheet i)) (length sheet / 8) 0

steps_more : (sheet : List ℕ) (i : ℕ) → i < length sheet / 8 → take (i + 1) (steps_of sheet) ≡ take i (steps_of sheet) ++ (step_in (part sheet i) ∷ [])
unfolding steps_of
steps_more sheet i h =
    let d = step_in (part sheet i) in
    rw add-one
    (take-suc (steps_of sheet) i d (omega (arith, steps_length sheet))
    ∙ ap (λ (s : Step). take i (steps_of sheet) ++ (s ∷ [])) (listed_at (λ j. step_in (part sheet j)) d (length sheet / 8) 0 i h ∙ ap (λ (j : ℕ). step_in (part sheet j)) (zero-add i)))

module _ (ls : List Line) (n : ℕ) where
  concluded_more : (ss : List Step) (s : Step) (f : Fact) → concluded ls (ss ++ (s ∷ [])) f ≡ (concluded ls ss f || same_fact (conclusion_of ls s) f)
  unfolding concluded
  concluded_more [] s f = or-false (same_fact (conclusion_of ls s) f)
  concluded_more (t ∷ ss) s f =
      ap (λ (u : Bool). same_fact (conclusion_of ls t) f || u) (concluded_more ss s f)
      ∙ sym (or_assoc (same_fact (conclusion_of ls t) f) (concluded ls ss f) (same_fact (conclusion_of ls s) f))

  -- WHAT IS KNOWN: at first what is free, and after each step its conclusion too
  known_first : (sheet : List ℕ) (f : Fact) → known ls n (take 0 (steps_of sheet)) f ≡ free n f
  unfolding known concluded
  known_first sheet f = or-false (free n f)

  known_more : (sheet : List ℕ) (i : ℕ) → i < length sheet / 8 → (f : Fact)
      → known ls n (take (i + 1) (steps_of sheet)) f ≡ (known ls n (take i (steps_of sheet)) f || same_fact (conclusion_of ls (step_in (part sheet i))) f)
  unfolding known
  known_more sheet i h f =
      let ss = take i (steps_of sheet) in
      let s = step_in (part sheet i) in
      ap (λ (u : List Step). free n f || concluded ls u f) (steps_more sheet i h)
      ∙ ap (λ (u : Bool). free n f || u) (concluded_more ss s f)
      ∙ sym (or_assoc (free n f) (concluded ls ss f) (same_fact (conclusion_of ls s) f))

  known_last : (sheet : List ℕ) (i : ℕ) → length sheet / 8 ≤ i → (f : Fact) → known ls n (take i (steps_of sheet)) f ≡ known ls n (steps_of sheet) f
  known_last sheet i h f = ap (λ (u : List Step). known ls n u f) (take_all i (steps_of sheet) (omega (arith, steps_length sheet)))

module _ (ls : List Line) (S : ℕ → Bool) (n : ℕ) (sheet : List ℕ) where
  abbrev pub fails_at : ℕ → Bool
  fails_at j = not (good_at ls S n sheet j)

  -- THE RUN OF THE CODE, before step i: every step before it is good, and the rows hold what is known
  pub record GoodBefore (concepts links : List ℕ) (i : ℕ) : Type 0 where
    pub whole : Whole concepts links
    pub holds : (f : Fact) → held concepts links f ≡ known ls n (take i (steps_of sheet)) f
    pub left : Left fails_at i (length sheet / 8) (lowest_bad ls S n sheet)

  pub good_none : n ≤ 64 → GoodBefore (start_tables n).concepts (start_tables n).links 0
  unfolding lowest_bad
  good_none h = record {
    whole = start_whole n;
    holds = λ f. start_held n h f ∙ sym (known_first ls n sheet f);
    left = left_start fails_at (length sheet / 8) refl;
  }

  module _ {concepts links : List ℕ} {i : ℕ} (p : GoodBefore concepts links i) (h : i < length sheet / 8) {r : Bool}
      (e : r ≡ (zeros_in (part sheet i) && good_over ls S n (held concepts links) (step_in (part sheet i)))) where
    judged : r ≡ good_at ls S n sheet i
    unfolding good_at
    judged = e ∙ ap (λ (u : Bool). zeros_in (part sheet i) && u) (good_same ls S n (held concepts links) (known ls n (take i (steps_of sheet))) (step_in (part sheet i)) p.holds)

    pub good_more : {m : ℕ} → n ≤ 64 → m ≤ 8 → Valid n m ls → r ≡ true → {concepts' links' : List ℕ}
        → concepts' ≡ cond r (added_concepts (conclusion_of ls (step_in (part sheet i))) concepts) concepts
        → links' ≡ cond r (added_links (conclusion_of ls (step_in (part sheet i))) links) links
        → GoodBefore concepts' links' (i + 1)
    good_more {m} few roles v t {concepts'} {links'} c l =
        let s = step_in (part sheet i) in
        let f = conclusion_of ls s in
        let c' : concepts' ≡ added_concepts f concepts = rw t at c in
        let l' : links' ≡ added_links f links = rw t at l in
        let g = good ls S n (both_true (zeros_in (part sheet i)) (good_over ls S n (held concepts links) s) (sym e ∙ t)).1 in
        let has = conclusion_in_table n m few roles ls S s v g.may in
        rw (c', l')
        (record {
          whole = whole_added concepts links p.whole f;
          holds = λ d.
              held_added concepts links p.whole f d
              ∙ ap₂ (λ (u w : Bool). u || (w && same_fact f d)) (p.holds d) has
              ∙ sym (known_more ls n sheet i h d);
          left = left_on fails_at h (ap not (sym judged ∙ t)) p.left;
        })

    pub step_bad : (a b : ℕ) → r ≡ false → Err (yes.Step i) ≡ check_steps ls S n a b sheet
    unfolding check_steps
    step_bad a b f =
        let bad : i ≡ lowest_bad ls S n sheet = left_here fails_at h (ap not (sym judged ∙ f)) p.left in
        rw (← bad, lt-ltb i (length sheet / 8) h)

  module _ {concepts links : List ℕ} {i : ℕ} (p : GoodBefore concepts links i) (h : length sheet / 8 ≤ i) (a b : ℕ) {r : Bool} (e : r ≡ held_in concepts a b) where
    all_good : cond r (Ok tt) (Err yes.NotShown) ≡ check_steps ls S n a b sheet
    unfolding check_steps held
    all_good =
        let bad : i ≡ lowest_bad ls S n sheet = left_end fails_at h p.left in
        let goal : known ls n (steps_of sheet) (In a b) ≡ r = sym (known_last ls n sheet i h (In a b)) ∙ sym (p.holds (In a b)) ∙ sym e in
        rw (← bad, le-ltb i (length sheet / 8) h, goal)

    pub goal_shown : r ≡ true → Ok tt ≡ check_steps ls S n a b sheet
    goal_shown f = rw f at all_good

    pub goal_not_shown : r ≡ false → Err yes.NotShown ≡ check_steps ls S n a b sheet
    goal_not_shown f = rw f at all_good

  -- THE ANSWERS OF THE STEPS: accepted where every step is good and the goal is known; a step where it is the lowest bad one
  pub record AllGood (a b : ℕ) : Type 0 where
    pub all : (i : ℕ) → i < length sheet / 8 → good_at ls S n sheet i ≡ true
    pub goal : known ls n (steps_of sheet) (In a b) ≡ true

  accepted_good : (a b : ℕ) → check_steps ls S n a b sheet ≡ Ok tt → AllGood a b
  unfolding check_steps lowest_bad
  accepted_good a b e =
      let t = cond_second (ltb (lowest_bad ls S n sheet) (length sheet / 8)) e (λ q. clash cc) in
      let g = cond_first (known ls n (steps_of sheet) (In a b)) t.1 (λ q. clash cc) in
      record { all = λ i h. not-false (good_at ls S n sheet i) (first_none fails_at refl (ltb-false (lowest_bad ls S n sheet) (length sheet / 8) t.0) i h); goal = g.0 }

  good_accepted : {a b : ℕ} → AllGood a b → check_steps ls S n a b sheet ≡ Ok tt
  unfolding check_steps lowest_bad
  good_accepted {a} {b} g =
      let none = none_lowest fails_at 0 (length sheet / 8) (λ j h l. ap not (g.all j (omega (arith, zero-add (length sheet / 8))))) in
      rw (le-ltb (lowest_bad ls S n sheet) (length sheet / 8) (omega arith), g.goal)

  -- WHAT IS KNOWN AFTER GOOD STEPS is derived from the free facts
  known_derived : (i : ℕ) → i ≤ length sheet / 8 → ((j : ℕ) → j < i → good_at ls S n sheet j ≡ true) → (f : Fact) → known ls n (take i (steps_of sheet)) f ≡ true → Derived ls S n (free n) f
  unfolding good_at
  known_derived zero l g f h = given (sym (known_first ls n sheet f) ∙ h)
  known_derived (suc i) l g f h =
      let s = step_in (part sheet i) in
      let earlier = known_derived i (omega arith) (λ j k. g j (omega arith)) in
      let step = good ls S n (both_true (zeros_in (part sheet i)) (good_over ls S n (known ls n (take i (steps_of sheet))) s) (g i (omega arith))).1 in
      or_elim (known ls n (take i (steps_of sheet)) f) (same_fact (conclusion_of ls s) f)
      (sym (known_more ls n sheet i (omega arith) f) ∙ ap (λ (k : ℕ). known ls n (take k (steps_of sheet)) f) (add-one i) ∙ h)
      (earlier f)
      (λ e. by s step.may (earlier _ step.one) (earlier _ step.two) (same_one (conclusion_of ls s) f e))

  good_follows : {a b : ℕ} → AllGood a b → Follows ls S a b
  good_follows {a} {b} g =
      let k = length sheet / 8 in
      derived_follows ls S n a b (known_derived k (omega arith) g.all (In a b) (known_last ls n sheet k (omega arith) (In a b) ∙ g.goal))

-- THE YES CHECK
module _ (n m : ℕ) (s ws : List ℕ) (a b : ℕ) (sheet : List ℕ) where
  -- an answer that only the steps give
  by_steps : {x : Result (Unit {0}) YesError} → check_yes n m s ws a b sheet ≡ x → ((why : Refusal) → Err (yes.Refused why) ≡ x → ⊥) → (Err yes.Length ≡ x → ⊥) → check_steps (lines_of s) (counted s ws) n a b sheet ≡ x
  unfolding check_yes
  by_steps {x} e question fits = after (check_question n m s ws a b) e
    where
      after : (r : Result ℕ Refusal) → yes_after r n s ws a b sheet ≡ x → check_steps (lines_of s) (counted s ws) n a b sheet ≡ x
      after (Err why) h = absurd (question why h)
      after (Ok k) h = (cond_first (yes_length_fits sheet) h fits).1

  -- AN ACCEPTED SHEET IS RIGHT: the goal follows from the marked records
  pub yes_sound : check_yes n m s ws a b sheet ≡ Ok tt → Follows (lines_of s) (counted s ws) a b
  yes_sound h = good_follows (lines_of s) (counted s ws) n sheet (accepted_good (lines_of s) (counted s ws) n sheet a b (by_steps h (λ why q. clash cc) (λ q. clash cc)))

  -- EVERY SHEET OF GOOD STEPS THAT SHOWS THE GOAL IS ACCEPTED
  pub good_accepts : {k : ℕ} → check_question n m s ws a b ≡ Ok k → yes_length_fits sheet ≡ true
      → ((i : ℕ) → i < length sheet / 8 → good_at (lines_of s) (counted s ws) n sheet i ≡ true) → known (lines_of s) n (steps_of sheet) (In a b) ≡ true
      → check_yes n m s ws a b sheet ≡ Ok tt
  unfolding check_yes
  good_accepts e l g k = rw (e, l) (good_accepted (lines_of s) (counted s ws) n sheet (record { all = g; goal = k }))
