-- What the printed set's call gives, and the out marks afterwards.
use Rattle.std.specs.Prelude.{◌≡◌, Bool, List, [], ◌∷◌, ◌++◌, ℕ, ◌<◌, eqb, length, Result}
use Rattle.pack.specs.Answers.{refusal_told, count_told, answer_told}
use Rattle.pack.specs.Question.{counted}
use Rattle.pack.specs.Record.{lines_of}
use Rattle.pack.specs.Table.{Row, refuse, Given}
use Rattle.pack.specs.World.{Follows}
use Rattle.passes.specs.Passes.{finished}
use Rattle.reasons.specs.declared.set.SetError.{SetError}
use Rattle.reasons.specs.declared.set.SetError.TheVariants as refused
use Rattle.reasons.specs.OutMarks.{reason_rows, MarksThe}
use Rattle.reasons.specs.Printed.{IsPrinted}

-- 1 to 5, 6 TOO LONG, 7 NOT FOLLOWS
abbrev pub set_error_told : SetError → ℕ × ℕ
set_error_told (refused.Refused why) = refusal_told why
set_error_told refused.TooLong = (6, 0)
set_error_told refused.NotFollows = (7, 0)

-- otherwise 0 with the count
abbrev pub set_told : Result ℕ SetError → ℕ × ℕ
set_told = answer_told count_told set_error_told

-- words that mark the printed set, and how many records
abbrev pub MarksSet : List ℕ → List ℕ → ℕ → ℕ → ℕ → List ℕ → Type 0
MarksSet s ws a b = MarksThe (IsPrinted (lines_of s) (counted s ws) a b) s

-- 1 to 5, 6 TOO LONG, 7 NOT FOLLOWS
abbrev pub set_rows : ℕ → ℕ → List ℕ → List ℕ → ℕ → ℕ → Bool → List Row
set_rows n m s ws a b sixteen =
    reason_rows n m s ws a b sixteen
    ++ (refuse 6 (36800 < length (finished (lines_of s) (counted s ws) n m))
    ∷ refuse 7 (Follows (lines_of s) (counted s ws) a b → ⊥)
    ∷ [])

-- otherwise the number of records in the printed set, and the out marks mark it. A refusal leaves them as they were
abbrev pub GivesSet : ℕ → ℕ → List ℕ → List ℕ → ℕ → ℕ → List ℕ → List ℕ → ℕ → ℕ → Type 0
GivesSet n m s ws a b out after = Given (after ≡ out) (set_rows n m s ws a b (eqb (length out) 16)) (λ value. MarksSet s ws a b value after)
