-- What the sheet writer answers and leaves, as it is worked out. Only functions that docs/PROMISES.md lists as inner cite this
-- page; that it says what the page Sheet means is proved (writer/proofs/Promises).
use Rattle.std.specs.Prelude.{Bool, cond, List, ◌++◌, ℕ, ◌*◌, leb, length, drop, Result, Ok, Err}
use Rattle.pack.specs.declared.check.Refusal.{Refusal}
use Rattle.pack.specs.Question.{counted}
use Rattle.pack.specs.Computed.{check_question}
use Rattle.pack.specs.Record.{lines_of}
use Rattle.passes.specs.Ours.{our_steps, our_rows}
use Rattle.engine.specs.Computed.{too_long, goal_held}
use Rattle.writer.specs.declared.answer.Sheet.{Sheet}
use Rattle.writer.specs.declared.answer.Sheet.TheVariants.{Follows, Not}
use Rattle.writer.specs.declared.answer.SheetError.{SheetError}
use Rattle.writer.specs.declared.answer.SheetError.TheVariants.{Refused, TooLong, NoRoom}
use Rattle.writer.specs.Sheet.{yes_bytes, no_bytes, sheet_told}

-- our sheet, of the sort that fits the verdict
abbrev pub our_sheet : ℕ → ℕ → List ℕ → List ℕ → ℕ → ℕ → List ℕ
our_sheet n m s ws a b = cond (goal_held n m s ws a b) (yes_bytes n m s ws a b) (no_bytes n m s ws)

-- its steps or rows, of 8 bytes each
abbrev pub our_parts : ℕ → ℕ → List ℕ → List ℕ → ℕ → ℕ → ℕ
our_parts n m s ws a b =
    cond (goal_held n m s ws a b)
    (length (our_steps (lines_of s) (counted s ws) n m a b))
    (length (our_rows (lines_of s) (counted s ws) n m))

-- 8 NO ROOM with the bytes needed, else FOLLOWS with the steps or NOT with the rows
abbrev pub sheet_answer : Bool → ℕ → Bool → Result Sheet SheetError
sheet_answer positive parts room = cond room (cond positive (Ok (Follows parts)) (Ok (Not parts))) (Err (NoRoom (8 * parts)))

-- 1 to 5, 6 TOO LONG, then the sheet
abbrev pub sheet_after : Result ℕ Refusal → ℕ → ℕ → List ℕ → List ℕ → ℕ → ℕ → List ℕ → Result Sheet SheetError
sheet_after (Err why) n m s ws a b sheet = Err (Refused why)
sheet_after (Ok k) n m s ws a b sheet =
    cond (too_long n m s ws) (Err TooLong)
    (sheet_answer (goal_held n m s ws a b) (our_parts n m s ws a b) (leb (length (our_sheet n m s ws a b)) (length sheet)))

unfoldable pub ask_sheet : ℕ → ℕ → List ℕ → List ℕ → ℕ → ℕ → List ℕ → Result Sheet SheetError
ask_sheet n m s ws a b sheet = sheet_after (check_question n m s ws a b) n m s ws a b sheet

-- the lent sheet afterwards: our sheet from its start and the rest as it was; or, on a refusal, as it was
abbrev pub sheet_out : Result Sheet SheetError → List ℕ → List ℕ → List ℕ
sheet_out (Err why) ours sheet = sheet
sheet_out (Ok answer) ours sheet = ours ++ drop (length ours) sheet

unfoldable pub written_sheet : ℕ → ℕ → List ℕ → List ℕ → ℕ → ℕ → List ℕ → List ℕ
written_sheet n m s ws a b sheet = sheet_out (ask_sheet n m s ws a b sheet) (our_sheet n m s ws a b) sheet

-- the number and the value of an answer apart
abbrev pub sheet_number : Result Sheet SheetError → ℕ
sheet_number r = (sheet_told r).0

abbrev pub sheet_value : Result Sheet SheetError → ℕ
sheet_value r = (sheet_told r).1
