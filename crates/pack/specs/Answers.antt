-- Document 01's table: the number of each answer, and the value that comes back with it, 0 where the table gives none.
use Rattle.std.specs.Prelude.{ℕ, Result, Ok, Err}
use Rattle.pack.specs.declared.check.Refusal.{Refusal}
use Rattle.pack.specs.declared.check.Refusal.TheVariants.{Sizes, Pack, Record, Marks, Goal}

-- 1 to 5; 3 with the lowest place
abbrev pub refusal_told : Refusal → ℕ × ℕ
refusal_told Sizes = (1, 0)
refusal_told Pack = (2, 0)
refusal_told (Record i) = (3, i)
refusal_told Marks = (4, 0)
refusal_told Goal = (5, 0)

-- where nothing is refused: 0, with a count or with nothing
abbrev pub count_told : ℕ → ℕ × ℕ
count_told k = (0, k)

abbrev pub nothing_told : Unit {0} → ℕ × ℕ
nothing_told _ = (0, 0)

-- an answer is told by what it holds, a refusal by its reason
abbrev pub answer_told : {A E : Type 0} → (A → ℕ × ℕ) → (E → ℕ × ℕ) → Result A E → ℕ × ℕ
answer_told answer refusal (Ok x) = answer x
answer_told answer refusal (Err why) = refusal why

-- of the pack check and the question check: 0 where nothing is refused, with the record count
abbrev pub checked_told : Result ℕ Refusal → ℕ × ℕ
checked_told = answer_told count_told refusal_told
