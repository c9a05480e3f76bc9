-- The yes check gives what its rows say, and no second result satisfies its promise.
use mathlib.Core.Path.{◌≡◌, refl, sym, ap, ◌∙◌}
use mathlib.Core.Logic.{◌⊎◌, inl, inr}
use mathlib.Core.Bool.{Bool, true, false, cond, not}
use mathlib.Core.List.{List, ◌++◌}
use Prim.Native.Nat.{ℕ, ◌/◌, ◌<◌}
use native.Mathlib.Omega.{arith}
use lib.Dec.{eqb, ltb}
use lib.ListN.{length}
use borrow.Author.Tests.{ltb-true, ltb-false, not-true}
use Rattle.std.specs.Prelude.{Result, Ok, Err}
use Rattle.std.specs.Result.{IsErrAnd}
use Rattle.std.proofs.lemmas.Result.{err_from_is_err_and}
use Rattle.bits.proofs.Promises.{no_second}
use Rattle.pack.specs.declared.check.Refusal.{Refusal}
use Rattle.pack.specs.declared.check.Refusal.TheVariants.{Sizes, Pack, Record, Marks, Goal}
use Rattle.pack.specs.declared.line.Fact.TheVariants.{In}
use Rattle.pack.specs.Question.{counted, question_rows, Taken}
use Rattle.pack.specs.Computed.{check_question}
use Rattle.pack.specs.Record.{lines_of, record_count}
use Rattle.pack.specs.Table.{Given}
use Rattle.pack.specs.World.{Follows}
use Rattle.pack.proofs.GivenLaws.{given_same, passes, lowest_here, lowest_none, given_after, given_zero, told, refusal_of}
use Rattle.pack.proofs.Promises.{question_numbered, question_given, taken_admitted}
use Rattle.yes.specs.declared.check.YesError.{YesError}
use Rattle.yes.specs.declared.check.YesError.TheVariants as yes
use Rattle.yes.specs.YesSheet.{steps_of, known, good_at, yes_length_fits}
use Rattle.yes.specs.Computed.{lowest_bad, check_steps, check_yes, yes_number, yes_place}
use Rattle.yes.specs.Answers.{yes_told, step_rows, GivesYes}
use Rattle.yes.proofs.YesLaws.{yes_sound, good_accepts}

-- an answer is told by its number and place
pub yes_told_by : (x y : Result (Unit {0}) YesError) → yes_number x ≡ yes_number y → yes_place x ≡ yes_place y → x ≡ y
unfolding refusal_of
yes_told_by = told yes_number yes_place yes_of back
  where
    yes_of : ℕ → ℕ → Result (Unit {0}) YesError
    yes_of k i = cond (eqb k 0) (Ok tt) (Err (cond (eqb k 9) yes.Length (cond (eqb k 10) (yes.Step i) (cond (eqb k 13) yes.NotShown (yes.Refused (refusal_of k i))))))

    back : (x : Result (Unit {0}) YesError) → yes_of (yes_number x) (yes_place x) ≡ x
    back (Err (yes.Refused Sizes)) = refl
    back (Err (yes.Refused Pack)) = refl
    back (Err (yes.Refused (Record i))) = refl
    back (Err (yes.Refused Marks)) = refl
    back (Err (yes.Refused Goal)) = refl
    back (Err yes.Length) = refl
    back (Err (yes.Step i)) = refl
    back (Err yes.NotShown) = refl
    back (Ok tt) = refl

module _ (n m : ℕ) (s ws : List ℕ) (a b : ℕ) (sheet : List ℕ) where
  abbrev accepted : ℕ → Type 0
  accepted value = (value ≡ 0) × Follows (lines_of s) (counted s ws) a b

  -- THE YES CHECK GIVES WHAT ITS ROWS SAY
  pub yes_given : GivesYes n m s ws a b sheet (yes_number (check_yes n m s ws a b sheet)) (yes_place (check_yes n m s ws a b sheet))
  unfolding check_yes check_steps lowest_bad
  yes_given =
      given_after (Unit {0}) accepted (question_rows n m s ws a b) (step_rows (lines_of s) S n a b sheet) (record_count s) question_numbered (check_question n m s ws a b) (question_given n m s ws a b)
      (λ why e. rw e (refl, refl, tt))
      (λ k e. rw e (go (yes_length_fits sheet) (ltb low count) (known (lines_of s) n (steps_of sheet) (In a b)) refl refl refl (λ h. yes_sound n m s ws a b sheet (rw e h))))
    where
      S : ℕ → Bool
      S = counted s ws

      count : ℕ
      count = length sheet / 8

      low : ℕ
      low = lowest_bad (lines_of s) S n sheet

      bad : ℕ → Bool
      bad i = not (good_at (lines_of s) S n sheet i)

      go : (p t u : Bool) → yes_length_fits sheet ≡ p → ltb low count ≡ t → known (lines_of s) n (steps_of sheet) (In a b) ≡ u
          → let r = cond p (cond t (Err (yes.Step low)) (cond u (Ok tt) (Err yes.NotShown))) (Err yes.Length) in
          (r ≡ Ok tt → Follows (lines_of s) S a b) → Given (Unit {0}) (step_rows (lines_of s) S n a b sheet) accepted (yes_number r) (yes_place r)
      go false t u e f g h = inl ((e, refl, refl), tt)
      go true true u e f g h =
          inr (passes e, inl (lowest_here bad (λ i. good_at (lines_of s) S n sheet i ≡ false) count (λ i _ q. not-true (good_at (lines_of s) S n sheet i) q) (λ i _ q. ap not q) 10 (ltb-true low count f), tt))
      go true false u e f g h =
          inr (passes e, inr (lowest_none bad (λ i. good_at (lines_of s) S n sheet i ≡ false) count (λ i _ q. not-true (good_at (lines_of s) S n sheet i) q) (λ i _ q. ap not q) (ltb-false low count f), shown u g h))
        where
          shown : (u : Bool) → known (lines_of s) n (steps_of sheet) (In a b) ≡ u → let r = cond u (Ok tt) (Err yes.NotShown) in (r ≡ Ok tt → Follows (lines_of s) S a b)
              → ((((known (lines_of s) n (steps_of sheet) (In a b) ≡ false) × (yes_number r ≡ 13) × (yes_place r ≡ 0)) × Unit {0}) ⊎ (((k v : ℕ) → (known (lines_of s) n (steps_of sheet) (In a b) ≡ false) × (k ≡ 13) × (v ≡ 0) → ⊥) × ((yes_number r ≡ 0) × accepted (yes_place r))))
          shown false g h = inl ((g, refl, refl), tt)
          shown true g h = inr (passes g, (refl, (refl, h refl)))

  -- the question's refusal is handed on; after a question that is taken: LENGTH, or what the steps give
  pub question_refused : {why : Refusal} {r : Result (Unit {0}) YesError} → check_question n m s ws a b ≡ Err why → IsErrAnd r (λ e. e ≡ yes.Refused why) → r ≡ check_yes n m s ws a b sheet
  unfolding check_yes
  question_refused {r = r} e h = let x = err_from_is_err_and r h in rw e (x.1 ∙ ap Err x.2)

  pub length_unfit : {k : ℕ} → check_question n m s ws a b ≡ Ok k → yes_length_fits sheet ≡ false → Err yes.Length ≡ check_yes n m s ws a b sheet
  unfolding check_yes
  length_unfit e f = rw (e, f)

  pub steps_checked : {k : ℕ} {r : Result (Unit {0}) YesError} → check_question n m s ws a b ≡ Ok k → yes_length_fits sheet ≡ true → r ≡ check_steps (lines_of s) (counted s ws) n a b sheet → r ≡ check_yes n m s ws a b sheet
  unfolding check_yes
  steps_checked e f g = rw (e, f) g

  pub yes_told_lem : {r : Result (Unit {0}) YesError} → r ≡ check_yes n m s ws a b sheet → GivesYes n m s ws a b sheet (yes_number r) (yes_place r)
  yes_told_lem e = rw e yes_given

  -- one number and one value are given
  pub yes_same : {k v k' v' : ℕ} → GivesYes n m s ws a b sheet k v → GivesYes n m s ws a b sheet k' v' → (k ≡ k') × (v ≡ v')
  yes_same = given_same (Unit {0}) accepted (question_rows n m s ws a b ++ step_rows (lines_of s) (counted s ws) n a b sheet) (λ x y g h. no_second g.0 h.0)

  -- NO SECOND RESULT
  pub yes_fixed : (r r' : Result (Unit {0}) YesError) → GivesYes n m s ws a b sheet (yes_told r).0 (yes_told r).1 → GivesYes n m s ws a b sheet (yes_told r').0 (yes_told r').1 → r ≡ r'
  yes_fixed r r' p q = let e = yes_same p q in yes_told_by r r' e.0 e.1

  -- AN ACCEPTED SHEET IS RIGHT: the goal follows from the records that count
  pub yes_right : {v : ℕ} → GivesYes n m s ws a b sheet 0 v → Follows (lines_of s) (counted s ws) a b
  yes_right g =
      (given_zero (Unit {0}) accepted (question_rows n m s ws a b ++ step_rows (lines_of s) (counted s ws) n a b sheet)
      (omega arith, (omega arith, (omega arith, (omega arith, (omega arith, (omega arith, (omega arith, (omega arith, tt)))))))) g
      ).1

  -- EVERY SHEET OF GOOD STEPS THAT SHOWS THE GOAL IS ACCEPTED
  pub yes_accepts : Taken n m s ws a b → yes_length_fits sheet ≡ true → ((i : ℕ) → i < length sheet / 8 → good_at (lines_of s) (counted s ws) n sheet i ≡ true)
      → known (lines_of s) n (steps_of sheet) (In a b) ≡ true → GivesYes n m s ws a b sheet 0 0
  yes_accepts t l g k = yes_told_lem {r = Ok tt} (sym (good_accepts n m s ws a b sheet (taken_admitted n m s ws a b t).1 l g k))
