-- Our yes sheet is good: each step by the steps before it, and the goal is concluded.
use mathlib.Core.Path.{◌≡◌, refl, ap, ◌∙◌}
use mathlib.Core.Bool.{Bool, true, false, ◌&&◌, ◌||◌}
use mathlib.Core.List.{List, [], ◌∷◌, ◌++◌, reverse, reverse-cons}
use Prim.Native.Nat.{ℕ, ◌≤◌, ◌<◌}
use native.Mathlib.Decide.{dec_lt}
use native.Mathlib.Omega.{arith}
use lib.Dec.{eqb, ltb}
use lib.ListN.{length, get_or, take, length-reverse, get_or-append}
use lib.Seq.{take-append-le, take_at, get_or_at}
use borrow.Author.Tests.{lt-ltb}
use Rattle.bits.proofs.Truth.{both_true, true_both, or_elim, or_left, or_right, never}
use Rattle.pack.specs.declared.line.Line.{Line}
use Rattle.pack.specs.declared.line.Fact.{Fact}
use Rattle.pack.specs.declared.line.Fact.TheVariants.{In}
use Rattle.pack.specs.declared.line.Step.{Step}
use Rattle.pack.specs.Record.{Valid}
use Rattle.pack.specs.Rules.{premise_one_of, premise_two_of, conclusion_of, usable, free, same_fact}
use Rattle.pack.proofs.RuleLaws.{Usable, is_usable}
use Rattle.pack.proofs.Soundness.{free_self}
use Rattle.yes.specs.YesSheet.{concluded, known, good_over}
use Rattle.passes.specs.Saturation.{said, holds}
use Rattle.passes.specs.Passes.{el, not_free, finished, at_end, goal_at_end}
use Rattle.passes.specs.Ours.{our_steps}
use Rattle.passes.specs.Stop.{Later}
use Rattle.passes.proofs.LoopLaws.{later_refl, later_cons, later_trans}
use Rattle.passes.proofs.SaturationLaws.{Added, Built, built_later}
use Rattle.passes.proofs.PassLaws.{BuiltSteps, steps_most, finished_built}
use Rattle.passes.proofs.StopLaws.{said_reverse, reached_said, first_reached, ours_reached, ours_none}

-- what the yes check calls concluded and known is what the passes say and hold
concluded_said : (ls : List Line) (ss : List Step) (f : Fact) → concluded ls ss f ≡ said (el ls) ss f
unfolding concluded said
concluded_said ls [] f = refl
concluded_said ls (s ∷ ss) f = ap (λ (t : Bool). same_fact (conclusion_of ls s) f || t) (concluded_said ls ss f)

known_holds : (ls : List Line) (n : ℕ) (st : List Step) (f : Fact) → known ls n (reverse st) f ≡ holds (el ls) (free n) st f
unfolding known holds
known_holds ls n st f = ap (λ (t : Bool). free n f || t) (concluded_said ls (reverse st) f ∙ said_reverse ls st f)

-- step i of a list in pass order, and the steps before it
module _ {A : Type 0} where
  reverse_at : (st : List A) (i : ℕ) (d : A) → i < length st → (old : List A) × (take i (reverse st) ≡ reverse old) × Later (get_or (reverse st) i d ∷ old) st
  reverse_at [] i d h = absurd (omega arith)
  reverse_at (s ∷ st) i d h = rw (reverse-cons s st) (go (dec_lt i (length st)) (reverse_at st i d))
    where
      go : Dec (i < length st) → (i < length st → (old : List A) × (take i (reverse st) ≡ reverse old) × Later (get_or (reverse st) i d ∷ old) st)
          → (old : List A) × (take i (reverse st ++ (s ∷ [])) ≡ reverse old) × Later (get_or (reverse st ++ (s ∷ [])) i d ∷ old) (s ∷ st)
      go (yes l) rest =
          let k = length-reverse st in
          let r = rest l in
          rw (take-append-le i (reverse st) (s ∷ []) (omega arith), get_or-append (reverse st) (s ∷ []) d i (omega arith)) (r.0, r.1, later_trans r.2 (later_cons s st))
      go (no l) rest =
          let k : length (reverse st) ≡ i = length-reverse st ∙ omega arith in
          rw (take_at (reverse st) (s ∷ []) i k, get_or_at (reverse st) s [] d i k) (st, refl, later_refl (s ∷ st))

module _ (ls : List Line) (S : ℕ → Bool) (n : ℕ) where
  -- EVERY STEP IS GOOD over the steps before it
  steps_good : (st : List Step) → BuiltSteps (free n) ls S n st → (i : ℕ) (d : Step) → i < length st
      → Usable ls S n (get_or (reverse st) i d) × (good_over ls S n (known ls n (take i (reverse st))) (get_or (reverse st) i d) ≡ true)
  unfolding Built good_over
  steps_good st b i d h =
      let r = reverse_at st i d h in
      let s = get_or (reverse st) i d in
      let a : Added (el ls) (free n) (Usable ls S n) r.0 s = (built_later (el ls) (free n) (Usable ls S n) r.2 b).0 in (
        a.taken,
        rw r.1 (true_both (usable ls S n s) (known ls n (reverse r.0) (premise_one_of ls s) && known ls n (reverse r.0) (premise_two_of ls s)) (is_usable a.taken)
            (true_both (known ls n (reverse r.0) (premise_one_of ls s)) (known ls n (reverse r.0) (premise_two_of ls s))
            (known_holds ls n r.0 (premise_one_of ls s) ∙ a.first) (known_holds ls n r.0 (premise_two_of ls s) ∙ a.second))),
      )

-- our steps are the additions up to where the goal is first held
pub record OurList (ls : List Line) (S : ℕ → Bool) (n m a b : ℕ) : Type 0 where
  pub list : List Step
  pub built : BuiltSteps (free n) ls S n list
  pub ours : our_steps ls S n m a b ≡ reverse list
  pub goal : holds (el ls) (free n) list (In a b) ≡ true

module _ (ls : List Line) (S : ℕ → Bool) (n m a b : ℕ) (valid : Valid n m ls) (ha : a < n) (h : goal_at_end ls S n m a b ≡ true) where
  our_list : OurList ls S n m a b
  unfolding goal_at_end at_end holds free Built
  our_list = go (eqb a b) refl
    where
      go : (t : Bool) → eqb a b ≡ t → OurList ls S n m a b
      go true e = record {
        list = [];
        built = tt;
        ours = ours_none ls S n m a b e;
        goal = or_left (free n (In a b)) (said (el ls) [] (In a b)) (true_both (eqb a b) (ltb a n) e (lt-ltb a n ha));
      }
      go false e =
          let end = finished ls S n m in
          let k : said (el ls) end (In a b) ≡ true =
          or_elim (free n (In a b)) (said (el ls) end (In a b)) h (λ k. never (both_true (eqb a b) (ltb a n) k).0 e) (λ k. k) in
          let r = first_reached ls (In a b) end k in
          record {
            list = r.0;
            built = built_later (el ls) (free n) (Usable ls S n) r.1 (finished_built (free n) ls S n m valid (free_self n));
            ours = ours_reached ls S n m a b e r.2 r.1;
            goal = or_right (free n (In a b)) (said (el ls) r.0 (In a b)) (reached_said ls (In a b) r.2);
          }

  both : (i : ℕ) (d : Step) → i < length (our_steps ls S n m a b)
      → Usable ls S n (get_or (our_steps ls S n m a b) i d) × (good_over ls S n (known ls n (take i (our_steps ls S n m a b))) (get_or (our_steps ls S n m a b) i d) ≡ true)
  both i d l =
      let o = our_list in
      let k : length (our_steps ls S n m a b) ≡ length o.list = ap length o.ours ∙ length-reverse o.list in
      rw o.ours (steps_good ls S n o.list o.built i d (omega arith))

  -- EACH OF OUR STEPS IS GOOD by the steps before it
  pub ours_good : (i : ℕ) (d : Step) → i < length (our_steps ls S n m a b) → good_over ls S n (known ls n (take i (our_steps ls S n m a b))) (get_or (our_steps ls S n m a b) i d) ≡ true
  ours_good i d l = (both i d l).1

  pub ours_usable : (i : ℕ) (d : Step) → i < length (our_steps ls S n m a b) → Usable ls S n (get_or (our_steps ls S n m a b) i d)
  ours_usable i d l = (both i d l).0

  -- OUR STEPS SHOW THE GOAL
  pub ours_known : known ls n (our_steps ls S n m a b) (In a b) ≡ true
  ours_known = let o = our_list in rw o.ours (known_holds ls n o.list (In a b) ∙ o.goal)

  pub ours_most : length (our_steps ls S n m a b) ≤ not_free n m
  ours_most =
      let o = our_list in
      let k : length (our_steps ls S n m a b) ≡ length o.list = ap length o.ours ∙ length-reverse o.list in
      omega (arith, steps_most (free n) ls S n m valid (free_self n) o.list o.built)
