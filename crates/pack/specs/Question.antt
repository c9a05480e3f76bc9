-- The places that count, and what the question check gives: the pack's rows, then the marks, then the goal.
use Rattle.std.specs.Prelude.{◌≡◌, Bool, false, ◌&&◌, List, [], ◌∷◌, ◌++◌, ℕ, ltb}
use Rattle.marks.specs.Marks.{marked, marks_fit}
use Rattle.pack.specs.Record.{record_count}
use Rattle.pack.specs.Table.{Row, refuse, Given}
use Rattle.pack.specs.Pack.{pack_rows}

-- the places that count in an answer: the marked ones; it has the pack too, for a request that will thin the marks by
-- what the records say
abbrev pub counted : List ℕ → List ℕ → ℕ → Bool
counted s ws = marked ws

-- both goal concepts are below n
abbrev pub goal_fits : ℕ → ℕ → ℕ → Bool
goal_fits n a b = ltb a n && ltb b n

-- 1 to 3, then 4 MARKS where they do not fit, 5 GOAL
abbrev pub asked_rows : ℕ → ℕ → List ℕ → Bool → ℕ → ℕ → List Row
asked_rows n m s fit a b = pack_rows n m s ++ (refuse 4 (fit ≡ false) ∷ refuse 5 (goal_fits n a b ≡ false) ∷ [])

abbrev pub question_rows : ℕ → ℕ → List ℕ → List ℕ → ℕ → ℕ → List Row
question_rows n m s ws a b = asked_rows n m s (marks_fit ws (record_count s)) a b

-- otherwise the record count
abbrev pub GivesQuestion : ℕ → ℕ → List ℕ → List ℕ → ℕ → ℕ → ℕ → ℕ → Type 0
GivesQuestion n m s ws a b = Given (Unit {0}) (question_rows n m s ws a b) (λ value. value ≡ record_count s)

-- a question is taken: nothing of 1 to 5 is refused
abbrev pub Taken : ℕ → ℕ → List ℕ → List ℕ → ℕ → ℕ → Type 0
Taken n m s ws a b = GivesQuestion n m s ws a b 0 (record_count s)
