-- What the yes check answers, as it is worked out. Only functions that docs/PROMISES.md lists as inner cite this page; that it
-- says what the page Answers means is proved (yes/proofs/Promises).
use Rattle.std.specs.Prelude.{Bool, cond, not, List, ℕ, ◌/◌, ltb, length, Result, Ok, Err}
use Rattle.bits.specs.Sets.{lowest}
use Rattle.pack.specs.declared.check.Refusal.{Refusal}
use Rattle.pack.specs.declared.line.Fact.TheVariants.{In}
use Rattle.pack.specs.declared.line.Line.{Line}
use Rattle.pack.specs.Record.{lines_of}
use Rattle.pack.specs.Question.{counted}
use Rattle.pack.specs.Computed.{check_question}
use Rattle.yes.specs.declared.check.YesError.{YesError}
use Rattle.yes.specs.declared.check.YesError.TheVariants.{Refused, Length, Step, NotShown}
use Rattle.yes.specs.YesSheet.{steps_of, known, good_at, yes_length_fits}
use Rattle.yes.specs.Answers.{yes_told}

-- the lowest step that is not good, or the number of steps
unfoldable pub lowest_bad : List Line → (ℕ → Bool) → ℕ → List ℕ → ℕ
lowest_bad ls S n sheet = lowest (λ i. not (good_at ls S n sheet i)) 0 (length sheet / 8)

-- 10 STEP, 13 NOT SHOWN, else accepted
unfoldable pub check_steps : List Line → (ℕ → Bool) → ℕ → ℕ → ℕ → List ℕ → Result (Unit {0}) YesError
check_steps ls S n a b sheet =
    cond (ltb (lowest_bad ls S n sheet) (length sheet / 8))
    (Err (Step (lowest_bad ls S n sheet)))
    (cond (known ls n (steps_of sheet) (In a b)) (Ok tt) (Err NotShown))

-- 1 to 5, 9 LENGTH, then the steps
abbrev pub yes_after : Result ℕ Refusal → ℕ → List ℕ → List ℕ → ℕ → ℕ → List ℕ → Result (Unit {0}) YesError
yes_after (Err why) n s ws a b sheet = Err (Refused why)
yes_after (Ok k) n s ws a b sheet = cond (yes_length_fits sheet) (check_steps (lines_of s) (counted s ws) n a b sheet) (Err Length)

unfoldable pub check_yes : ℕ → ℕ → List ℕ → List ℕ → ℕ → ℕ → List ℕ → Result (Unit {0}) YesError
check_yes n m s ws a b sheet = yes_after (check_question n m s ws a b) n s ws a b sheet

-- the number and the place of an answer apart
abbrev pub yes_number : Result (Unit {0}) YesError → ℕ
yes_number r = (yes_told r).0

abbrev pub yes_place : Result (Unit {0}) YesError → ℕ
yes_place r = (yes_told r).1
