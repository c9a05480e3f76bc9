-- Nothing is lost by the module: the goal follows exactly where it follows from the module, and every minimal set lies inside it.
use mathlib.Core.Path.{◌≡◌, refl, sym, ap, ◌∙◌, subst}
use mathlib.Core.Logic.{◌↔◌}
use mathlib.Core.Bool.{Bool, true, ◌&&◌}
use mathlib.Core.List.{List, [], ◌∷◌}
use Prim.Native.Nat.{ℕ, ◌≤◌, ◌<◌}
use lib.Dec.{eqb, ltb}
use lib.ListN.{length}
use borrow.Author.Tests.{eqb-true}
use Rattle.bits.proofs.Truth.{both_true, true_both, never}
use Rattle.pack.specs.declared.line.Line.{Line}
use Rattle.pack.specs.declared.line.Line.TheVariants.{Under, BothUnder, UnderSome, SomeUnder, RoleUnder, ChainUnder, ToItself, NoLine}
use Rattle.pack.specs.declared.line.Fact.{Fact}
use Rattle.pack.specs.declared.line.Fact.TheVariants.{In, Link}
use Rattle.pack.specs.World.{Follows, line_at}
use Rattle.pack.specs.Record.{Valid}
use Rattle.pack.specs.Rules.{rule_of, premise_one_of, Derived, given, by, free}
use Rattle.pack.proofs.RuleLaws.{usable_is, usable_more}
use Rattle.pack.proofs.Soundness.{derived_follows}
use Rattle.passes.specs.Passes.{goal_at_end}
use Rattle.passes.proofs.PassLaws.{table_holds, decides}
use Rattle.reasons.specs.Printed.{Subset, IsMinimal, IsPrinted}
use Rattle.reasons.specs.Computed.{printed}
use Rattle.reasons.specs.declared.names.Name.{Name}
use Rattle.reasons.specs.declared.names.Name.TheVariants.{Concept, Role}
use Rattle.reasons.specs.Reach.{left_names, right_names, all_in, module_in, IsModule}
use Rattle.reasons.proofs.PickLaws.{picked_same}
use Rattle.reasons.proofs.PrintedLaws.{follows_more, printed_minimal, printed_one, printed_is}

-- what a fact is about, and that its other names are in R
abbrev about : Fact → ℕ
about (In x b) = x
about (Link x r y) = x

abbrev Said : (Name → Bool) → Fact → Type 0
Said R (In x b) = R (Concept b) ≡ true
Said R (Link x r y) = (R (Role r) ≡ true) × (R (Concept y) ≡ true)

module _ (R : Name → Bool) where
  all_one : (x : Name) → R x ≡ true → all_in R (x ∷ []) ≡ true
  unfolding all_in
  all_one x h = true_both (R x) true h refl

  all_both : (x y : Name) → R x ≡ true → R y ≡ true → all_in R (x ∷ y ∷ []) ≡ true
  unfolding all_in
  all_both x y h g = true_both (R x) (R y && true) h (true_both (R y) true g refl)

  head : (x : Name) (xs : List Name) → all_in R (x ∷ xs) ≡ true → (R x ≡ true) × (all_in R xs ≡ true)
  unfolding all_in
  head x xs h = both_true (R x) (all_in R xs) h

  -- one step about a reached X: the left side is reached, premise two is about a reached concept, and with the right side the conclusion is said
  step_said : (l : Line) (x y z : ℕ) → R (Concept x) ≡ true → Said R (rule_of l x y z).one → (R (Concept (about (rule_of l x y z).two)) ≡ true → Said R (rule_of l x y z).two)
      → (all_in R (left_names l) ≡ true) × (R (Concept (about (rule_of l x y z).two)) ≡ true) × (all_in R (right_names l) ≡ true → Said R (rule_of l x y z).gives)
  unfolding all_in
  step_said (Under a b) x y z k h₁ h₂ = (all_one (Concept a) h₁, k, λ r. (head (Concept b) [] r).0)
  step_said (BothUnder a₁ a₂ b) x y z k h₁ h₂ = (all_both (Concept a₁) (Concept a₂) h₁ (h₂ k), k, λ r. (head (Concept b) [] r).0)
  step_said (UnderSome a s b) x y z k h₁ h₂ =
      (all_one (Concept a) h₁, k, λ r. let p = head (Role s) (Concept b ∷ []) r in (p.0, (head (Concept b) [] p.1).0))
  step_said (SomeUnder s a b) x y z k h₁ h₂ = (all_both (Role s) (Concept a) h₁.0 (h₂ h₁.1), h₁.1, λ r. (head (Concept b) [] r).0)
  step_said (RoleUnder s t) x y z k h₁ h₂ = (all_one (Role s) h₁.0, k, λ r. ((head (Role t) [] r).0, h₁.1))
  step_said (ChainUnder s t u) x y z k h₁ h₂ =
      let p = h₂ h₁.1 in
      (all_both (Role s) (Role t) h₁.0 p.0, h₁.1, λ r. ((head (Role u) [] r).0, p.1))
  step_said (ToItself s) x y z k h₁ h₂ = (refl, k, λ r. ((head (Role s) [] r).0, k))
  step_said NoLine x y z k h₁ h₂ = (refl, k, λ r. h₁)

abouts : (l : Line) (x y z : ℕ) → (about (rule_of l x y z).one ≡ x) × (about (rule_of l x y z).gives ≡ x)
abouts (Under a b) x y z = (refl, refl)
abouts (BothUnder a₁ a₂ b) x y z = (refl, refl)
abouts (UnderSome a r b) x y z = (refl, refl)
abouts (SomeUnder r a b) x y z = (refl, refl)
abouts (RoleUnder r s) x y z = (refl, refl)
abouts (ChainUnder r s t) x y z = (refl, refl)
abouts (ToItself r) x y z = (refl, refl)
abouts NoLine x y z = (refl, refl)

-- R goes with the marked lines
abbrev Going : List Line → (ℕ → Bool) → (Name → Bool) → Type 0
Going ls S R = (i : ℕ) → i < length ls → S i ≡ true → all_in R (left_names (line_at ls i)) ≡ true → all_in R (right_names (line_at ls i)) ≡ true

free_said : (R : Name → Bool) (n : ℕ) (f : Fact) → free n f ≡ true → R (Concept (about f)) ≡ true → Said R f
unfolding free
free_said R n (In x b) h k = subst (λ (c : ℕ). R (Concept c) ≡ true) (eqb-true x b (both_true (eqb x b) (ltb x n) h).0) k
free_said R n (Link x r y) h k = never h refl

module _ (ls : List Line) (S : ℕ → Bool) (R : Name → Bool) (n : ℕ) (goes : Going ls S R) where
  -- WHAT IS DERIVED ABOUT A REACHED CONCEPT IS DERIVED IN THE MODULE, and its names are reached
  derived_inside : {f : Fact} → Derived ls S n (free n) f → R (Concept (about f)) ≡ true → Derived ls (module_in ls S R) n (free n) f × Said R f
  unfolding module_in
  derived_inside {f} (given h) k = (given h, free_said R n f h k)
  derived_inside {f} (by s u d₁ d₂ e) k =
      let l = line_at ls s.place in
      let p = abouts l s.x s.y s.z in
      let kx : R (Concept s.x) ≡ true = subst (λ (c : ℕ). R (Concept c) ≡ true) (ap about (sym e) ∙ p.1) k in
      let k₁ : R (Concept (about (premise_one_of ls s))) ≡ true = subst (λ (c : ℕ). R (Concept c) ≡ true) (sym p.0) kx in
      let r₁ = derived_inside d₁ k₁ in
      let t = step_said R l s.x s.y s.z kx r₁.1 (λ q. (derived_inside d₂ q).1) in (
        by s (usable_more ls S (module_in ls S R) n s (λ m. rw (m, t.0)) u) r₁.0 (derived_inside d₂ t.1).0 e,
        subst (Said R) e (t.2 (goes s.place (usable_is u).there (usable_is u).marked t.0)),
      )

module _ (ls : List Line) (S : ℕ → Bool) (R : Name → Bool) where
  pub inside_true : (i : ℕ) → module_in ls S R i ≡ true → (S i ≡ true) × (all_in R (left_names (line_at ls i)) ≡ true)
  unfolding module_in
  inside_true i h = both_true (S i) (all_in R (left_names (line_at ls i))) h

  true_inside : (i : ℕ) → S i ≡ true → all_in R (left_names (line_at ls i)) ≡ true → module_in ls S R i ≡ true
  unfolding module_in
  true_inside i h g = true_both (S i) (all_in R (left_names (line_at ls i))) h g

module _ (ls : List Line) (n m a b : ℕ) (valid : Valid n m ls) (pos : 1 ≤ n) (ha : a < n) (R : Name → Bool) (start : R (Concept a) ≡ true) where
  going_follows : (S : ℕ → Bool) → Going ls S R → Follows ls S a b → Follows ls (module_in ls S R) a b
  unfolding goal_at_end
  going_follows S goes f =
      derived_follows ls (module_in ls S R) n a b
      (derived_inside ls S R n goes ((table_holds ls S n m valid (In a b)).0 ((decides ls S n m valid pos a b ha).1 f)) start).0

  minimal_going : (S P : ℕ → Bool) → Going ls S R → Subset (length ls) P S → IsMinimal (length ls) (λ Q. Follows ls Q a b) P → Subset (length ls) P (module_in ls S R)
  minimal_going S P goes w p i l h =
      let q = p.whole (module_in ls P R) (λ j _ g. (inside_true ls P R j g).0) (going_follows P (λ j lj mj. goes j lj (w j lj mj)) p.holds) i l h in
      true_inside ls S R i (w i l h) (inside_true ls P R i q).1

module _ (ls : List Line) (S : ℕ → Bool) (n m a b : ℕ) (valid : Valid n m ls) (pos : 1 ≤ n) (ha : a < n) (M : ℕ → Bool) (im : IsModule ls S a M) where
  module_within : Subset (length ls) M S
  module_within i l h = (inside_true ls S im.names i (sym (im.places i l) ∙ h)).0

  -- THE GOAL FOLLOWS EXACTLY WHERE IT FOLLOWS FROM THE MODULE
  pub module_follows : Follows ls S a b ↔ Follows ls M a b
  module_follows = (
    λ f. follows_more ls a b (module_in ls S im.names) M (λ i l h. im.places i l ∙ h) (going_follows ls n m a b valid pos ha im.names im.reached.reaches.start S im.reached.reaches.goes f),
    follows_more ls a b M S module_within,
  )

  -- EVERY MINIMAL SET LIES INSIDE THE MODULE
  pub minimal_inside : (P : ℕ → Bool) → Subset (length ls) P S → IsMinimal (length ls) (λ Q. Follows ls Q a b) P → Subset (length ls) P M
  minimal_inside P w p i l h =
      im.places i l ∙ minimal_going ls n m a b valid pos ha im.names im.reached.reaches.start S P im.reached.reaches.goes w p i l h

  -- THE PRINTED SET IS THE SAME THROUGH THE MODULE or without it
  pub printed_inside : (P : ℕ → Bool) → IsPrinted ls S a b P → IsPrinted ls M a b P
  printed_inside P p = record {
    within = minimal_inside P p.within (printed_minimal ls S a b P p);
    holds = p.holds;
    lacks = λ Q w. p.lacks Q (λ i l h. module_within i l (w i l h));
  }

  pub inside_printed : (P : ℕ → Bool) → IsPrinted ls M a b P → IsPrinted ls S a b P
  inside_printed P p =
      let whole = printed_is ls n m a b valid pos ha S (module_follows.1 (follows_more ls a b P M p.within p.holds)) in
      let same = printed_one ls M a b (printed ls S n m a b) (printed_inside (printed ls S n m a b) whole) P p in
      picked_same (length ls) (λ Q. Follows ls Q a b) (follows_more ls a b) S S (printed ls S n m a b) P (λ i l. refl) same whole
