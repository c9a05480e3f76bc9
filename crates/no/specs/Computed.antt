-- What the no check answers, as it is worked out. Only functions that docs/PROMISES.md lists as inner cite this page; that it
-- says what the page Answers means is proved (no/proofs/Promises).
use Rattle.std.specs.Prelude.{Bool, cond, not, ◌&&◌, List, ℕ, ◌+◌, ◌*◌, ◌/◌, ◌%◌, eqb, ltb, leb, length, Result, Ok, Err}
use Rattle.bits.specs.Sets.{lowest, some}
use Rattle.pack.specs.declared.check.Refusal.{Refusal}
use Rattle.pack.specs.declared.line.Line.{Line}
use Rattle.pack.specs.World.{World, line_at}
use Rattle.pack.specs.Record.{lines_of}
use Rattle.pack.specs.Question.{counted}
use Rattle.pack.specs.Computed.{obeys, check_question}
use Rattle.no.specs.declared.check.NoError.{NoError}
use Rattle.no.specs.declared.check.NoError.TheVariants as no
use Rattle.no.specs.NoSheet.{rows_of, forbidden, world_of}
use Rattle.no.specs.Answers.{no_told}

-- the number of things by division, and whether the length is theirs
abbrev pub things_by : ℕ → List ℕ → ℕ
things_by m sheet = length sheet / (8 * (1 + m))

abbrev pub no_length_by : ℕ → List ℕ → Bool
no_length_by m sheet = eqb (length sheet % (8 * (1 + m))) 0 && (leb 1 (things_by m sheet) && leb (things_by m sheet) 64)

-- the lowest row with a forbidden bit, or the number of rows
unfoldable pub lowest_forbidden : ℕ → ℕ → ℕ → List ℕ → ℕ
lowest_forbidden n m k sheet = lowest (forbidden n k sheet) 0 (rows_of m k)

-- the lowest place of S whose line the world breaks, or the number of lines
unfoldable pub lowest_broken : World → List Line → (ℕ → Bool) → ℕ
lowest_broken w ls S = lowest (λ i. S i && not (obeys w (line_at ls i))) 0 (length ls)

-- some thing is in a and not in b
unfoldable pub refutes : World → ℕ → ℕ → Bool
refutes w a b = some w.things (λ x. w.is_in x a && not (w.is_in x b))

-- 12 BROKEN, 13 NOT SHOWN, else ACCEPTED
unfoldable pub check_world : World → List Line → (ℕ → Bool) → ℕ → ℕ → Result (Unit {0}) NoError
check_world w ls S a b =
    cond (ltb (lowest_broken w ls S) (length ls))
    (Err (no.Broken (lowest_broken w ls S)))
    (cond (refutes w a b) (Ok tt) (Err no.NotShown))

-- 11 ROW, then the world
unfoldable pub check_rows : ℕ → ℕ → ℕ → List Line → (ℕ → Bool) → ℕ → ℕ → List ℕ → Result (Unit {0}) NoError
check_rows n m k ls S a b sheet =
    cond (ltb (lowest_forbidden n m k sheet) (rows_of m k))
    (Err (no.Row (lowest_forbidden n m k sheet)))
    (check_world (world_of k sheet) ls S a b)

-- 1 to 5, 9 LENGTH, then the rows
abbrev pub no_after : Result ℕ Refusal → ℕ → ℕ → List ℕ → List ℕ → ℕ → ℕ → List ℕ → Result (Unit {0}) NoError
no_after (Err why) n m s ws a b sheet = Err (no.Refused why)
no_after (Ok c) n m s ws a b sheet =
    cond (no_length_by m sheet) (check_rows n m (things_by m sheet) (lines_of s) (counted s ws) a b sheet) (Err no.Length)

unfoldable pub check_no : ℕ → ℕ → List ℕ → List ℕ → ℕ → ℕ → List ℕ → Result (Unit {0}) NoError
check_no n m s ws a b sheet = no_after (check_question n m s ws a b) n m s ws a b sheet

-- the number and the place of an answer apart
abbrev pub no_number : Result (Unit {0}) NoError → ℕ
no_number r = (no_told r).0

abbrev pub no_place : Result (Unit {0}) NoError → ℕ
no_place r = (no_told r).1
