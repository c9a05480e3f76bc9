-- What the module call gives, and the out marks afterwards.
use Rattle.std.specs.Prelude.{◌≡◌, List, ℕ, eqb, length}
use Rattle.pack.specs.Question.{counted}
use Rattle.pack.specs.Record.{lines_of}
use Rattle.pack.specs.Table.{Given}
use Rattle.reasons.specs.OutMarks.{reason_rows, MarksThe}
use Rattle.reasons.specs.Reach.{IsModule}

-- words that mark the module for a, and how many records
abbrev pub MarksModule : List ℕ → List ℕ → ℕ → ℕ → List ℕ → Type 0
MarksModule s ws a = MarksThe (IsModule (lines_of s) (counted s ws) a) s

-- 1 to 5, the goal being one concept; otherwise the number of records in the module, and the out marks mark it. A refusal
-- leaves them as they were
abbrev pub GivesModule : ℕ → ℕ → List ℕ → List ℕ → ℕ → List ℕ → List ℕ → ℕ → ℕ → Type 0
GivesModule n m s ws a out after = Given (after ≡ out) (reason_rows n m s ws a a (eqb (length out) 16)) (λ value. MarksModule s ws a value after)
