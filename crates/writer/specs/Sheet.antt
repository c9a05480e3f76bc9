-- Our sheets, what the sheet writer gives, and what the lent sheet holds afterwards.
use Rattle.std.specs.Prelude.{◌≡◌, ◌⊎◌, ℕ, ◌+◌, ◌*◌, ◌<◌, length, take, drop, Result}
use mathlib.Core.List.{List, [], ◌∷◌, ◌++◌, map, flatten}
use Rattle.pack.specs.Answers.{refusal_told, answer_told}
use Rattle.pack.specs.Bytes.{words_bytes}
use Rattle.pack.specs.Question.{counted}
use Rattle.pack.specs.Record.{lines_of}
use Rattle.pack.specs.Table.{Row, refuse_with, Given}
use Rattle.pack.specs.World.{Follows}
use Rattle.yes.specs.Answers.{GivesYes}
use Rattle.no.specs.Answers.{GivesNo}
use Rattle.passes.specs.Ours.{our_steps, our_rows}
use Rattle.sweep.specs.Writing.{step_bytes}
use Rattle.engine.specs.Verdict.{verdict_rows}
use Rattle.writer.specs.declared.answer.Sheet.{Sheet}
use Rattle.writer.specs.declared.answer.Sheet.TheVariants as sheets
use Rattle.writer.specs.declared.answer.SheetError.{SheetError}
use Rattle.writer.specs.declared.answer.SheetError.TheVariants as refused

-- the bytes of our yes sheet and of our no sheet
unfoldable pub yes_bytes : ℕ → ℕ → List ℕ → List ℕ → ℕ → ℕ → List ℕ
yes_bytes n m s ws a b = flatten (map step_bytes (our_steps (lines_of s) (counted s ws) n m a b))

unfoldable pub no_bytes : ℕ → ℕ → List ℕ → List ℕ → List ℕ
no_bytes n m s ws = words_bytes (our_rows (lines_of s) (counted s ws) n m)

-- twice the count of steps or rows, and 1 more for FOLLOWS
abbrev pub sheet_value_told : Sheet → ℕ × ℕ
sheet_value_told (sheets.Follows k) = (0, 2 * k + 1)
sheet_value_told (sheets.Not k) = (0, 2 * k)

-- 1 to 5, 6 TOO LONG, 8 NO ROOM with the bytes needed
abbrev pub sheet_error_told : SheetError → ℕ × ℕ
sheet_error_told (refused.Refused why) = refusal_told why
sheet_error_told refused.TooLong = (6, 0)
sheet_error_told (refused.NoRoom k) = (8, k)

abbrev pub sheet_told : Result Sheet SheetError → ℕ × ℕ
sheet_told = answer_told sheet_value_told sheet_error_told

-- a lent sheet with ours from its start, and the rest as it was
abbrev pub with_ours : List ℕ → List ℕ → List ℕ
with_ours ours sheet = ours ++ drop (length ours) sheet

-- 1 to 6, 8 NO ROOM with the bytes that our sheet of the sort that fits needs
abbrev pub sheet_rows : ℕ → ℕ → List ℕ → List ℕ → ℕ → ℕ → List ℕ → List Row
sheet_rows n m s ws a b sheet =
    verdict_rows n m s ws a b
    ++ (refuse_with 8 (Follows (lines_of s) (counted s ws) a b × (length sheet < length (yes_bytes n m s ws a b))) (length (yes_bytes n m s ws a b))
    ∷ refuse_with 8 ((Follows (lines_of s) (counted s ws) a b → ⊥) × (length sheet < length (no_bytes n m s ws))) (length (no_bytes n m s ws))
    ∷ [])

-- otherwise FOLLOWS with the steps, and the sheet is our yes sheet; or NOT with the rows, and it is our no sheet. A refusal
-- leaves it as it was
abbrev pub GivesSheet : ℕ → ℕ → List ℕ → List ℕ → ℕ → ℕ → List ℕ → List ℕ → ℕ → ℕ → Type 0
GivesSheet n m s ws a b sheet after =
    Given (after ≡ sheet) (sheet_rows n m s ws a b sheet)
    (λ value.
    (Follows (lines_of s) (counted s ws) a b × (value ≡ 2 * length (our_steps (lines_of s) (counted s ws) n m a b) + 1) × (after ≡ with_ours (yes_bytes n m s ws a b) sheet))
    ⊎ ((Follows (lines_of s) (counted s ws) a b → ⊥) × (value ≡ 2 * length (our_rows (lines_of s) (counted s ws) n m)) × (after ≡ with_ours (no_bytes n m s ws) sheet)))

-- some yes sheet, some no sheet is accepted
abbrev pub SomeYes : ℕ → ℕ → List ℕ → List ℕ → ℕ → ℕ → Type 0
SomeYes n m s ws a b = (sheet : List ℕ) × GivesYes n m s ws a b sheet 0 0

abbrev pub SomeNo : ℕ → ℕ → List ℕ → List ℕ → ℕ → ℕ → Type 0
SomeNo n m s ws a b = (sheet : List ℕ) × GivesNo n m s ws a b sheet 0 0

-- what a value says is so of the sheet: so many steps of it are accepted by the yes check, so many rows by the no check
abbrev pub Shows : ℕ → ℕ → List ℕ → List ℕ → ℕ → ℕ → List ℕ → ℕ → Type 0
Shows n m s ws a b after value =
    ((j : ℕ) → value ≡ 2 * j + 1 → GivesYes n m s ws a b (take (8 * j) after) 0 0)
    × ((j : ℕ) → value ≡ 2 * j → GivesNo n m s ws a b (take (8 * j) after) 0 0)
