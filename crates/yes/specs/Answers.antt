-- What the yes check gives: the number of each answer with the step or place that comes with it, and its rows of document 01's table.
use Rattle.std.specs.Prelude.{◌≡◌, Bool, false, List, [], ◌∷◌, ◌++◌, ℕ, ◌/◌, length, Result}
use Rattle.pack.specs.declared.line.Fact.TheVariants.{In}
use Rattle.pack.specs.declared.line.Line.{Line}
use Rattle.pack.specs.Answers.{refusal_told, nothing_told, answer_told}
use Rattle.pack.specs.Record.{lines_of}
use Rattle.pack.specs.Question.{counted, question_rows}
use Rattle.pack.specs.Table.{Row, refuse, refuse_at, Given}
use Rattle.pack.specs.World.{Follows}
use Rattle.yes.specs.declared.check.YesError.{YesError}
use Rattle.yes.specs.declared.check.YesError.TheVariants.{Refused, Length, Step, NotShown}
use Rattle.yes.specs.YesSheet.{steps_of, known, good_at, yes_length_fits}

abbrev pub yes_error_told : YesError → ℕ × ℕ
yes_error_told (Refused why) = refusal_told why
yes_error_told Length = (9, 0)
yes_error_told (Step i) = (10, i)
yes_error_told NotShown = (13, 0)

abbrev pub yes_told : Result (Unit {0}) YesError → ℕ × ℕ
yes_told = answer_told nothing_told yes_error_told

-- 9 LENGTH, 10 STEP with the lowest step that is not good, 13 NOT SHOWN
abbrev pub step_rows : List Line → (ℕ → Bool) → ℕ → ℕ → ℕ → List ℕ → List Row
step_rows ls S n a b sheet =
    refuse 9 (yes_length_fits sheet ≡ false)
    ∷ refuse_at 10 (length sheet / 8) (λ i. good_at ls S n sheet i ≡ false)
    ∷ refuse 13 (known ls n (steps_of sheet) (In a b) ≡ false)
    ∷ []

-- 1 to 5, then those; otherwise ACCEPTED, and then the goal follows
abbrev pub GivesYes : ℕ → ℕ → List ℕ → List ℕ → ℕ → ℕ → List ℕ → ℕ → ℕ → Type 0
GivesYes n m s ws a b sheet =
    Given (Unit {0}) (question_rows n m s ws a b ++ step_rows (lines_of s) (counted s ws) n a b sheet)
    (λ value. (value ≡ 0) × Follows (lines_of s) (counted s ws) a b)
