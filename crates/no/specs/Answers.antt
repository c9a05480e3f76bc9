-- What the no check gives: the number of each answer with the row or place that comes with it, and its rows of document 01's table.
use Rattle.std.specs.Prelude.{◌≡◌, Bool, true, List, [], ◌∷◌, ◌++◌, ℕ, ◌<◌, length, Result}
use Rattle.pack.specs.declared.line.Line.{Line}
use Rattle.pack.specs.Answers.{refusal_told, nothing_told, answer_told}
use Rattle.pack.specs.Record.{lines_of}
use Rattle.pack.specs.Question.{counted, question_rows}
use Rattle.pack.specs.Table.{Row, refuse, refuse_at, Given}
use Rattle.pack.specs.World.{World, Is, line_at, ObeysLine, Follows}
use Rattle.no.specs.declared.check.NoError.{NoError}
use Rattle.no.specs.declared.check.NoError.TheVariants as no
use Rattle.no.specs.NoSheet.{rows_of, things_in, forbidden, world_of}

abbrev pub no_error_told : NoError → ℕ × ℕ
no_error_told (no.Refused why) = refusal_told why
no_error_told no.Length = (9, 0)
no_error_told (no.Row i) = (11, i)
no_error_told (no.Broken i) = (12, i)
no_error_told no.NotShown = (13, 0)

abbrev pub no_told : Result (Unit {0}) NoError → ℕ × ℕ
no_told = answer_told nothing_told no_error_told

-- 12 BROKEN with the lowest place that counts and whose line the world does not obey, 13 NOT SHOWN where each thing of a is in b
abbrev pub world_rows : World → List Line → (ℕ → Bool) → ℕ → ℕ → List Row
world_rows w ls S a b =
    refuse_at 12 (length ls) (λ i. (S i ≡ true) × (ObeysLine w (line_at ls i) → ⊥))
    ∷ refuse 13 ((x : ℕ) → x < w.things → Is w x a → Is w x b)
    ∷ []

-- of a sheet of k things: 9 LENGTH, 11 ROW with the lowest row, then those of the world
abbrev pub row_rows : ℕ → ℕ → ℕ → List Line → (ℕ → Bool) → ℕ → ℕ → List ℕ → List Row
row_rows n m k ls S a b sheet =
    refuse 9 (64 < k)
    ∷ refuse_at 11 (rows_of m k) (λ i. forbidden n k sheet i ≡ true)
    ∷ world_rows (world_of k sheet) ls S a b

-- 1 to 5, then those; otherwise ACCEPTED, and then the goal does not follow
abbrev pub GivesNo : ℕ → ℕ → List ℕ → List ℕ → ℕ → ℕ → List ℕ → ℕ → ℕ → Type 0
GivesNo n m s ws a b sheet =
    Given (Unit {0}) (question_rows n m s ws a b ++ row_rows n m (things_in m sheet) (lines_of s) (counted s ws) a b sheet)
    (λ value. (value ≡ 0) × (Follows (lines_of s) (counted s ws) a b → ⊥))
