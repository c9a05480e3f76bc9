-- Laws of one step: what the tests of the code show of it, that it depends only on what is known, that a good one is usable, and
-- that its conclusion has a place in the tables.
use mathlib.Core.Path.{◌≡◌, refl, ap, ap₂}
use mathlib.Core.Bool.{Bool, true, false, cond, ◌&&◌}
use mathlib.Core.List.{List}
use Prim.Native.Nat.{ℕ, ◌/◌, ◌≤◌, ◌<◌}
use lib.Dec.{ltb}
use lib.ListN.{length}
use borrow.Author.Tests.{ltb-true}
use Rattle.bits.proofs.Truth.{both_true}
use Rattle.bits.proofs.Promises.{no_second}
use Rattle.pack.specs.declared.line.Line.{Line}
use Rattle.pack.specs.declared.line.Line.TheVariants.{ToItself}
use Rattle.pack.specs.declared.line.Fact.{Fact}
use Rattle.pack.specs.declared.line.Rule.{Rule}
use Rattle.pack.specs.declared.line.Step.{Step}
use Rattle.pack.specs.World.{line_at}
use Rattle.pack.specs.Record.{lines_of, line_at_place, Valid}
use Rattle.pack.specs.Question.{counted}
use Rattle.pack.specs.Rules.{rule_of, rule_at, premise_one_of, premise_two_of, conclusion_of, numbers_fit, usable}
use Rattle.pack.proofs.RecordLaws.{lines_length, lines_at}
use Rattle.pack.proofs.RuleLaws.{usable_is}
use Rattle.pack.proofs.Ranges.{step_range}
use Rattle.pack.proofs.Soundness.{free_self}
use Rattle.tables.specs.Tables.{in_table, added_concepts, added_links}
use Rattle.tables.proofs.TableLaws.{in_table_lem}
use Rattle.yes.specs.YesSheet.{step_in, known, good_over, premises_known}

-- THE TESTS OF THE CODE: the place counts, and the numbers and the premises are right for the rule of the line there
module _ (pack : List ℕ) where
  abbrev rule_there : Step → Rule
  rule_there s = rule_of (line_at_place pack s.place) s.x s.y s.z

  pub good_parts : (ws : List ℕ) (n : ℕ) (K : Fact → Bool) (s : Step)
      → good_over (lines_of pack) (counted pack ws) n K s ≡ ((ltb s.place (length pack / 8) && counted pack ws s.place) && (numbers_fit (rule_there s) n s && premises_known (rule_there s) K))
  unfolding good_over usable
  good_parts ws n K s = rw lines_length (there (ltb s.place (length pack / 8)) refl (counted pack ws s.place))
    where
      k : Line
      k = line_at (lines_of pack) s.place

      at : Line → Rule
      at x = rule_of x s.x s.y s.z

      there : (t : Bool) → ltb s.place (length pack / 8) ≡ t → (u : Bool) → (((t && u) && numbers_fit (at k) n s) && premises_known (at k) K) ≡ ((t && u) && (numbers_fit (rule_there s) n s && premises_known (rule_there s) K))
      there true h true = ap (λ (x : Line). numbers_fit (at x) n s && premises_known (at x) K) (lines_at pack s.place (ltb-true _ _ h))
      there true h false = refl
      there false h u = refl

  pub concludes : (p : List ℕ) {s : Step} {l : Line} {rule : Rule} → s ≡ step_in p → l ≡ line_at_place pack s.place → rule ≡ rule_of l s.x s.y s.z → s.place < length pack / 8
      → conclusion_of (lines_of pack) (step_in p) ≡ rule.gives
  concludes p {s} e f g h =
      rw (g, f, ← e) (ap (λ (k : Line). (rule_of k s.x s.y s.z).gives) (lines_at pack s.place h))

module _ (ls : List Line) (S : ℕ → Bool) (n : ℕ) where
  -- whether a step is good depends only on which facts are known
  pub good_same : (K K' : Fact → Bool) (s : Step) → ((f : Fact) → K f ≡ K' f) → good_over ls S n K s ≡ good_over ls S n K' s
  unfolding good_over
  good_same K K' s h = ap₂ (λ (u v : Bool). usable ls S n s && (u && v)) (h (premise_one_of ls s)) (h (premise_two_of ls s))

  -- A STEP THAT IS GOOD is usable, and its premises are known
  pub record Good (K : Fact → Bool) (s : Step) : Type 0 where
    pub may : usable ls S n s ≡ true
    pub one : K (premise_one_of ls s) ≡ true
    pub two : K (premise_two_of ls s) ≡ true

  pub good : {K : Fact → Bool} {s : Step} → good_over ls S n K s ≡ true → Good K s
  unfolding good_over
  good {K} {s} h =
      let g = both_true (usable ls S n s) (premises_known (rule_at ls s) K) h in
      let k = both_true (K (premise_one_of ls s)) (K (premise_two_of ls s)) g.1 in
      record { may = g.0; one = k.0; two = k.1 }

  -- A STEP OF KIND 7 NEEDS NOTHING before it: where it may be taken it is good
  pub itself_good : (r : ℕ) (ss : List Step) (s : Step) → line_at ls s.place ≡ ToItself r → usable ls S n s ≡ true → good_over ls S n (known ls n ss) s ≡ true
  unfolding good_over known
  itself_good r ss s e u = rw (u, e, premises_known, free_self n s.x (usable_is u).fits_x)

-- THE CONCLUSION OF A USABLE STEP has a place in the tables
pub conclusion_in_table : (n m : ℕ) → n ≤ 64 → m ≤ 8 → (ls : List Line) (S : ℕ → Bool) (s : Step) → Valid n m ls → usable ls S n s ≡ true → in_table (conclusion_of ls s) ≡ true
conclusion_in_table n m few roles ls S s v e =
    in_table_lem n m few roles (conclusion_of ls s) (step_range ls S n m v s (usable_is e)).2

-- NO SECOND RESULT, and no second later content of the rows, satisfies the promise of the check of a step; right and f are what
-- the definitions give for the step and its conclusion
pub check_step_fixed : (right : Bool) (f : Fact) (cs ls : List ℕ) (r r' : Bool) (cs₁ ls₁ cs₂ ls₂ : List ℕ)
    → (r ≡ right) × (cs₁ ≡ cond r (added_concepts f cs) cs) × (ls₁ ≡ cond r (added_links f ls) ls)
    → (r' ≡ right) × (cs₂ ≡ cond r' (added_concepts f cs) cs) × (ls₂ ≡ cond r' (added_links f ls) ls)
    → (r ≡ r') × (cs₁ ≡ cs₂) × (ls₁ ≡ ls₂)
check_step_fixed right f cs ls r r' cs₁ ls₁ cs₂ ls₂ p q =
    let e = no_second p.0 q.0 in
    let p' = rw e at p in
    (e, no_second p'.1 q.1, no_second p'.2 q.2)
