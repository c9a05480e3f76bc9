-- Document 01's cases C1 to C12, those of kind 7 (document 02, 2/12), and cases at which an error shows that was planted once in definitions and code together:
-- one table of questions, packs and sheets, with what the calls must give, in numbers and bytes.
use Rattle.std.specs.Prelude.{◌≡◌, false, ℕ, ◌+◌, ◌*◌, length, replicate}
use mathlib.Core.List.{List, [], ◌∷◌, ◌++◌, map, flatten, reverse}
use Rattle.pack.specs.declared.line.Fact.TheVariants.{In}
use Rattle.pack.specs.declared.line.Step.{Step}
use Rattle.pack.specs.Pack.{GivesPack}
use Rattle.pack.specs.Question.{counted}
use Rattle.pack.specs.Record.{lines_of}
use Rattle.pack.specs.Rules.{free}
use Rattle.yes.specs.Answers.{GivesYes}
use Rattle.no.specs.Answers.{GivesNo}
use Rattle.sheets.specs.Answers.{code}
use Rattle.passes.specs.Passes.{el, pass}
use Rattle.passes.specs.Saturation.{holds}
use Rattle.sweep.specs.Writing.{step_bytes}
use Rattle.engine.specs.Verdict.{GivesVerdict}
use Rattle.writer.specs.Sheet.{GivesSheet}
use Rattle.reasons.specs.Module.{GivesModule}
use Rattle.reasons.specs.Set.{GivesSet}

-- the bytes of a pack, 16 words of marks, the sizes and the goal
pub record Question : Type 0 where
  pub pack : List ℕ
  pub marks : List ℕ
  pub n : ℕ
  pub m : ℕ
  pub a : ℕ
  pub b : ℕ

-- FOLLOWS: so many steps, the bytes of our yes sheet, and of the set how many records and the first word of its marks;
-- NOT: so many rows, and the bytes of our no sheet
pub data Answer : Type 0 where
  Follows : ℕ → List ℕ → ℕ → ℕ → Answer
  Not : ℕ → List ℕ → Answer

pub data Case : Type 0 where
  -- a question, its answer, and of the module how many records and the first word of its marks
  Ask : Question → Answer → ℕ → ℕ → Case
  -- a question, and the bytes of the steps that one pass adds, after which the goal is not held
  OnePass : Question → List ℕ → Case
  -- sizes n and m, a pack, and the number and value that its check gives
  CheckPack : ℕ → ℕ → List ℕ → ℕ → ℕ → Case
  -- a question, a sheet, the number and place that its check gives, and the number that C gets
  CheckYes : Question → List ℕ → ℕ → ℕ → ℕ → Case
  CheckNo : Question → List ℕ → ℕ → ℕ → ℕ → Case
  -- a question, the length of a yes sheet of zeros, and the number that its check gives
  CheckZeros : Question → ℕ → ℕ → Case

-- so many bytes of zero
abbrev pub zero_bytes : ℕ → List ℕ
zero_bytes bytes = replicate bytes 0

-- bytes of 0x5a, lent and to be left alone behind our sheet; out marks that mark something
abbrev pub blank : ℕ → List ℕ
blank bytes = replicate bytes 0x5a

abbrev pub lent : List ℕ
lent = replicate 16 0x5a

-- 16 words, the first of them `low` and the others 0
abbrev pub words : ℕ → List ℕ
words low = low ∷ replicate 15 0

-- the bytes of steps in the order in which they were added
abbrev pub steps_bytes : List Step → List ℕ
steps_bytes newest_first = flatten (map step_bytes (reverse newest_first))

-- the steps that one pass adds, newest first
abbrev pub one_pass : Question → List Step
one_pass q = pass (free q.n) (lines_of q.pack) (counted q.pack q.marks) q.n []

-- WHAT A CASE CLAIMS, in the calls' promises. Our sheet goes into a buffer that is 8 bytes longer
abbrev pub Holds : Case → Type 0
Holds (Ask q (Follows steps bytes count low) in_module first) =
    GivesVerdict q.n q.m q.pack q.marks q.a q.b 0 1
    × GivesSheet q.n q.m q.pack q.marks q.a q.b (blank (length bytes + 8)) (bytes ++ blank 8) 0 (2 * steps + 1)
    × GivesModule q.n q.m q.pack q.marks q.a lent (words first) 0 in_module
    × GivesSet q.n q.m q.pack q.marks q.a q.b lent (words low) 0 count
Holds (Ask q (Not rows bytes) in_module first) =
    GivesVerdict q.n q.m q.pack q.marks q.a q.b 0 0
    × GivesSheet q.n q.m q.pack q.marks q.a q.b (blank (length bytes + 8)) (bytes ++ blank 8) 0 (2 * rows)
    × GivesModule q.n q.m q.pack q.marks q.a lent (words first) 0 in_module
    × GivesSet q.n q.m q.pack q.marks q.a q.b lent lent 7 0
Holds (OnePass q bytes) = (steps_bytes (one_pass q) ≡ bytes) × (holds (el (lines_of q.pack)) (free q.n) (one_pass q) (In q.a q.b) ≡ false)
Holds (CheckPack n m pack number value) = GivesPack n m pack number value
Holds (CheckYes q sheet number place c) = GivesYes q.n q.m q.pack q.marks q.a q.b sheet number place × (code number place ≡ c)
Holds (CheckNo q sheet number place c) = GivesNo q.n q.m q.pack q.marks q.a q.b sheet number place × (code number place ≡ c)
Holds (CheckZeros q bytes number) = GivesYes q.n q.m q.pack q.marks q.a q.b (zero_bytes bytes) number 0

-- every case of a list holds
abbrev pub AllHold : List Case → Type 0
AllHold [] = Unit {0}
AllHold (c ∷ cs) = Holds c × AllHold cs

-- 8 bytes: a record of statement 0; a step at a place below 256; a row below 256
unfoldable pub record_of : ℕ → ℕ → ℕ → ℕ → List ℕ
record_of kind a b c = kind ∷ a ∷ b ∷ c ∷ 0 ∷ 0 ∷ 0 ∷ 0 ∷ []

unfoldable pub step : ℕ → ℕ → ℕ → ℕ → List ℕ
step place x y z = place ∷ 0 ∷ x ∷ y ∷ z ∷ 0 ∷ 0 ∷ 0 ∷ []

unfoldable pub row : ℕ → List ℕ
row first = first ∷ 0 ∷ 0 ∷ 0 ∷ 0 ∷ 0 ∷ 0 ∷ 0 ∷ []

-- rows one after the other, by their first bytes
unfoldable pub rows : List ℕ → List ℕ
rows firsts = flatten (map row firsts)

-- a question about a pack whose first mark word is `low`, of sizes n and m, with the goal "a under b"
unfoldable pub ask : List ℕ → ℕ → ℕ → ℕ → ℕ → ℕ → Question
ask pack low n m a b = record { pack = pack; marks = words low; n = n; m = m; a = a; b = b }

-- the valve pack, and with its chain the other way round
unfoldable pub valve : List ℕ
valve = record_of 3 0 0 2 ++ record_of 3 2 1 3 ++ record_of 6 0 1 0 ++ record_of 4 0 3 1 ++ record_of 1 0 4 0 ++ record_of 1 4 1 0

unfoldable pub turned : List ℕ
turned = record_of 3 0 0 2 ++ record_of 3 2 1 3 ++ record_of 6 1 0 0 ++ record_of 4 0 3 1 ++ record_of 1 0 4 0 ++ record_of 1 4 1 0

-- every thing linked to itself by role 0, and what is so linked to a thing of 0 is in 1
unfoldable pub itself : List ℕ
itself = record_of 7 0 0 0 ++ record_of 4 0 0 1

-- document 003's anatomy, in the valve pack's names, and 4 heart structure: everything is part of itself, what is part of a
-- heart is a heart structure, and what is sited in a part is sited in the whole
unfoldable pub anatomy : List ℕ
anatomy = record_of 3 0 0 2 ++ record_of 3 2 1 3 ++ record_of 6 0 1 0 ++ record_of 7 1 0 0 ++ record_of 4 1 3 4 ++ record_of 4 0 3 1

-- its steps up to those of record 4
unfoldable pub parts : List ℕ
parts = step 0 0 0 0 ++ step 1 2 0 0 ++ step 2 0 2 3 ++ step 3 0 0 0 ++ step 3 1 0 0 ++ step 3 2 0 0 ++ step 3 3 0 0 ++ step 3 4 0 0 ++ step 4 2 3 0 ++ step 4 3 3 0

-- C3's sheet from its second step on
unfoldable pub later : List ℕ
later = step 1 2 0 0 ++ step 2 0 2 3 ++ step 3 0 3 0

-- the world of C5 and of C10: the links of records 0 and 1, and 4 in 1
unfoldable pub unchained : List ℕ
unchained = rows (0x01 ∷ 0x02 ∷ 0x04 ∷ 0x08 ∷ 0x12 ∷ 0x04 ∷ 0 ∷ 0 ∷ 0 ∷ 0 ∷ 0 ∷ 0 ∷ 0x08 ∷ 0 ∷ 0 ∷ [])

-- C1 TO C12. A question is pack, marks, n, m and goal; FOLLOWS comes with steps and their bytes, then the set's count and
-- marks; NOT with rows and their bytes; the module's count and marks stand last
unfoldable pub document_cases : List Case
document_cases =
    -- C1 empty pack, (0,0)
    Ask (ask [] 0b0 1 0 0 0) (Follows 0 [] 0 0b0) 0 0b0
    -- C2 empty pack, (0,1)
    ∷ Ask (ask [] 0b0 2 0 0 1) (Not 2 (rows (0x01 ∷ 0x02 ∷ []))) 0 0b0
    -- C3 valve pack, (0,1), all marked
    ∷ Ask (ask valve 0b111111 5 2 0 1) (Follows 4 (step 0 0 0 0 ++ later) 2 0b110000) 6 0b111111
    -- C4 record 4 unmarked
    ∷ Ask (ask valve 0b101111 5 2 0 1) (Follows 4 (step 0 0 0 0 ++ later) 4 0b001111) 4 0b001111
    -- C5 records 2 and 4 unmarked
    ∷ Ask (ask valve 0b101011 5 2 0 1) (Not 15 unchained) 3 0b001011
    -- C6 goal (2,1), all marked
    ∷ Ask (ask valve 0b111111 5 2 2 1) (Not 15 (rows (0x13 ∷ 0x02 ∷ 0x04 ∷ 0x08 ∷ 0x12 ∷ 0x0c ∷ 0 ∷ 0 ∷ 0 ∷ 0 ∷ 0 ∷ 0 ∷ 0x08 ∷ 0 ∷ 0 ∷ []))) 1 0b000010
    -- C7 two alike records
    ∷ Ask (ask (record_of 1 0 1 0 ++ record_of 1 0 1 0) 0b11 2 0 0 1) (Follows 1 (step 0 0 0 0) 1 0b10) 2 0b11
    -- C8 one concept twice on the left
    ∷ Ask (ask (record_of 2 0 0 1) 0b1 2 0 0 1) (Follows 1 (step 0 0 0 0) 1 0b1) 1 0b1
    -- C9 the last step in a second pass: one pass adds the other two
    ∷ Ask (ask (record_of 1 1 2 0 ++ record_of 1 0 1 0) 0b11 3 0 0 2) (Follows 3 (step 0 1 0 0 ++ step 1 0 0 0 ++ step 0 0 0 0) 2 0b11) 2 0b11
    ∷ OnePass (ask (record_of 1 1 2 0 ++ record_of 1 0 1 0) 0b11 3 0 0 2) (step 0 1 0 0 ++ step 1 0 0 0)
    -- C10 the chain the other way round, record 4 unmarked
    ∷ Ask (ask turned 0b101111 5 2 0 1) (Not 15 unchained) 4 0b001111
    -- C11 C3's sheet without its first step: STEP at 1; and whole
    ∷ CheckYes (ask valve 0b111111 5 2 0 1) later 10 1 26
    ∷ CheckYes (ask valve 0b111111 5 2 0 1) (step 0 0 0 0 ++ later) 0 0 0
    -- C12 a no sheet of one row: 00 is NOT SHOWN, 01 is BROKEN at 0
    ∷ CheckNo (ask (record_of 1 0 1 0) 0b1 2 0 0 1) (row 0x00) 13 0 13
    ∷ CheckNo (ask (record_of 1 0 1 0) 0b1 2 0 0 1) (row 0x01) 12 0 12
    ∷ []

-- QUESTIONS at which an error shows
unfoldable pub question_cases : List Case
question_cases =
    -- kind 2 needs A1 and A2, to conclude and to be in the module
    Ask (ask (record_of 2 0 1 2 ++ record_of 2 1 0 2) 0b11 3 0 1 2) (Not 3 (rows (0x01 ∷ 0x02 ∷ 0x04 ∷ []))) 0 0b00
    -- kinds 4 and 6 are in the module by both names of the left side
    ∷ Ask (ask (record_of 3 0 0 1 ++ record_of 6 0 1 2 ++ record_of 6 1 0 2 ++ record_of 4 0 2 2 ++ record_of 4 1 0 2) 0b11111 3 3 0 2)
    (Not 12 (rows (0x01 ∷ 0x02 ∷ 0x04 ∷ 0x02 ∷ 0 ∷ 0 ∷ 0 ∷ 0 ∷ 0 ∷ 0 ∷ 0 ∷ 0 ∷ []))) 1 0b00001
    -- roles are names: record 4 is in the module by the roles that records 2 and 3 bring in
    ∷ Ask (ask (record_of 3 0 0 1 ++ record_of 3 1 1 2 ++ record_of 6 0 1 2 ++ record_of 5 2 3 0 ++ record_of 4 3 2 3) 0b11111 4 4 0 3)
    (Follows 5 (step 0 0 0 0 ++ step 1 1 0 0 ++ step 2 0 1 2 ++ step 3 0 2 0 ++ step 4 0 2 0) 5 0b11111) 5 0b11111
    -- A equal to B has no steps, whatever the passes add
    ∷ Ask (ask (record_of 1 0 1 0) 0b1 2 0 0 0) (Follows 0 [] 0 0b0) 1 0b1
    -- a statement number is not read
    ∷ Ask (ask (1 ∷ 0 ∷ 1 ∷ 0 ∷ 0xff ∷ 0xff ∷ 0xff ∷ 0xff ∷ []) 0b1 2 0 0 1) (Follows 1 (step 0 0 0 0) 1 0b1) 1 0b1
    -- the order of X, Y and Z in kinds 4, 5 and 6, and a link that a record adds is read by that record
    ∷ Ask (ask (record_of 3 2 1 1 ++ record_of 6 0 1 0 ++ record_of 3 0 1 2 ++ record_of 4 0 2 2 ++ record_of 4 1 1 1 ++ record_of 3 1 1 0 ++ record_of 5 1 0 0) 0b1111111 3 2 0 1)
    (Follows 17
    (step 0 2 0 0 ++ step 2 0 0 0 ++ step 4 2 1 0 ++ step 5 1 0 0 ++ step 5 2 0 0 ++ step 6 0 2 0 ++ step 6 1 0 0 ++ step 6 2 0 0 ++ step 6 2 1 0
    ++ step 1 0 2 0 ++ step 1 0 2 1 ++ step 1 1 0 2 ++ step 1 1 2 1 ++ step 1 2 0 2 ++ step 3 0 2 0 ++ step 3 1 0 0 ++ step 4 0 2 0)
    3 0b0010101) 7 0b1111111
    ∷ Ask (ask (record_of 6 2 1 2 ++ record_of 1 3 0 0 ++ record_of 1 3 0 0 ++ record_of 4 1 2 0 ++ record_of 3 0 1 3 ++ record_of 4 0 3 1 ++ record_of 6 1 2 0 ++ record_of 3 3 1 1 ++ record_of 3 1 2 0) 0b111111111 5 3 0 1)
    (Follows 18
    (step 1 3 0 0 ++ step 4 0 0 0 ++ step 4 3 0 0 ++ step 7 3 0 0 ++ step 8 1 0 0 ++ step 0 1 0 3 ++ step 0 1 3 1 ++ step 6 3 1 0 ++ step 6 3 1 1
    ++ step 6 3 1 3 ++ step 5 3 3 0 ++ step 8 3 0 0 ++ step 0 3 0 3 ++ step 0 3 3 1 ++ step 6 0 3 0 ++ step 6 0 3 1 ++ step 6 0 3 3 ++ step 5 0 3 0)
    6 0b111110001) 8 0b111110111
    -- kind 7 links every X to itself from nothing; without it the goal does not follow
    ∷ Ask (ask itself 0b11 2 1 0 1) (Follows 3 (step 0 0 0 0 ++ step 0 1 0 0 ++ step 1 0 0 0) 2 0b11) 2 0b11
    ∷ Ask (ask itself 0b10 2 1 0 1) (Not 4 (rows (0x01 ∷ 0x02 ∷ 0 ∷ 0 ∷ []))) 0 0b00
    -- it is in every module, though no other record names its role
    ∷ Ask (ask (record_of 1 0 1 0 ++ record_of 7 0 0 0) 0b11 2 1 0 1) (Follows 1 (step 0 0 0 0) 1 0b01) 2 0b11
    -- what is sited in a part is sited in the whole; a whole counts among its own parts, and without kind 7 it does not
    ∷ Ask (ask anatomy 0b111111 5 2 0 1) (Follows 11 (parts ++ step 5 0 3 0) 4 0b100111) 6 0b111111
    ∷ Ask (ask anatomy 0b111111 5 2 3 4) (Follows 10 parts 2 0b011000) 2 0b011000
    ∷ Ask (ask anatomy 0b110111 5 2 3 4) (Not 15 (rows (0x03 ∷ 0x02 ∷ 0x14 ∷ 0x08 ∷ 0x10 ∷ 0x0c ∷ 0 ∷ 0 ∷ 0 ∷ 0 ∷ 0 ∷ 0 ∷ 0x08 ∷ 0 ∷ 0 ∷ []))) 0 0b000000
    ∷ []

-- RECORDS, with n = 2 and m = 3: a byte at its limit, c in kinds 1 and 5, b or c in kind 7, or another kind
unfoldable pub broken_records : List (List ℕ)
broken_records =
    record_of 0 0 0 0 ∷ record_of 8 0 0 0
    ∷ record_of 1 2 0 0 ∷ record_of 1 0 2 0 ∷ record_of 1 0 0 1
    ∷ record_of 2 2 0 0 ∷ record_of 2 0 2 0 ∷ record_of 2 0 0 2
    ∷ record_of 3 2 0 0 ∷ record_of 3 0 3 0 ∷ record_of 3 0 0 2
    ∷ record_of 4 3 0 0 ∷ record_of 4 0 2 0 ∷ record_of 4 0 0 2
    ∷ record_of 5 3 0 0 ∷ record_of 5 0 3 0 ∷ record_of 5 0 0 1
    ∷ record_of 6 3 0 0 ∷ record_of 6 0 3 0 ∷ record_of 6 0 0 3
    ∷ record_of 7 3 0 0 ∷ record_of 7 0 1 0 ∷ record_of 7 0 0 1
    ∷ []

unfoldable pub record_cases : List Case
record_cases =
    CheckPack 2 3 (record_of 1 1 1 0 ++ record_of 2 1 1 1 ++ record_of 3 1 2 1 ++ record_of 4 2 1 1 ++ record_of 5 2 2 0 ++ record_of 6 2 2 2 ++ record_of 7 2 0 0) 0 7
    ∷ map (λ r. CheckPack 2 3 r 3 0) broken_records

-- SHEETS at which an error shows
unfoldable pub sheet_cases : List Case
sheet_cases =
    -- RECORD at 2, of a record that is not marked; MARKS and GOAL apply too
    CheckYes (ask (record_of 1 0 0 0 ++ record_of 1 0 0 0 ++ record_of 5 0 1 1) 0b1000 1 2 1 0) [] 3 2 35
    ∷ CheckNo (ask (record_of 1 0 0 0 ++ record_of 1 0 0 0 ++ record_of 5 0 1 1) 0b1000 1 2 1 0) [] 3 2 35
    -- MARKS, where GOAL applies too, and GOAL
    ∷ CheckYes (ask (record_of 1 0 0 0) 0b10 1 0 1 0) [] 4 0 4
    ∷ CheckNo (ask (record_of 1 0 0 0) 0b1 1 0 0 1) [] 5 0 5
    -- 65,536 steps, a byte less, and a step more
    ∷ CheckZeros (ask (record_of 1 0 0 0) 0b1 1 0 0 0) 524288 0
    ∷ CheckZeros (ask (record_of 1 0 0 0) 0b1 1 0 0 0) 524287 9
    ∷ CheckZeros (ask (record_of 1 0 0 0) 0b1 1 0 0 0) 524296 9
    -- bytes 5, 6 and 7 of a step, and a Y and a Z that are not used, are zero; the place has two bytes
    ∷ CheckYes (ask (record_of 1 0 1 0) 0b1 2 0 0 1) (0 ∷ 0 ∷ 0 ∷ 0 ∷ 0 ∷ 1 ∷ 0 ∷ 0 ∷ []) 10 0 10
    ∷ CheckYes (ask (record_of 1 0 1 0) 0b1 2 0 0 1) (0 ∷ 0 ∷ 0 ∷ 0 ∷ 0 ∷ 0 ∷ 1 ∷ 0 ∷ []) 10 0 10
    ∷ CheckYes (ask (record_of 1 0 1 0) 0b1 2 0 0 1) (0 ∷ 0 ∷ 0 ∷ 0 ∷ 0 ∷ 0 ∷ 0 ∷ 1 ∷ []) 10 0 10
    ∷ CheckYes (ask (record_of 1 0 1 0) 0b1 2 0 0 1) (step 0 0 1 0) 10 0 10
    ∷ CheckYes (ask (record_of 1 0 1 0) 0b1 2 0 0 1) (step 0 0 0 1) 10 0 10
    ∷ CheckYes (ask (record_of 1 0 1 0) 0b1 2 0 0 1) (0 ∷ 1 ∷ 0 ∷ 0 ∷ 0 ∷ 0 ∷ 0 ∷ 0 ∷ []) 10 0 10
    -- a step of kind 7: Y and Z are zero, and X is below n
    ∷ CheckYes (ask itself 0b11 2 1 0 1) (step 0 0 0 0 ++ step 1 0 0 0) 0 0 0
    ∷ CheckYes (ask itself 0b11 2 1 0 1) (step 0 0 1 0 ++ step 1 0 0 0) 10 0 10
    ∷ CheckYes (ask itself 0b11 2 1 0 1) (step 0 0 0 1 ++ step 1 0 0 0) 10 0 10
    ∷ CheckYes (ask itself 0b11 2 1 0 1) (step 0 0 0 0 ++ step 0 2 0 0) 10 1 26
    -- a step at a record that is not marked; no step at all
    ∷ CheckYes (ask (record_of 1 0 1 0) 0b0 2 0 0 1) (step 0 0 0 0) 10 0 10
    ∷ CheckYes (ask (record_of 1 0 1 0) 0b1 2 0 0 1) [] 13 0 13
    -- bits at n and above in a row of concepts; at k and above in a row of links, n being above k; and at k in a row of concepts
    ∷ CheckNo (ask [] 0b0 2 0 0 1) (rows (0x01 ∷ 0x06 ∷ [])) 11 1 27
    ∷ CheckNo (ask [] 0b0 2 1 0 1) (rows (0x01 ∷ 0x02 ∷ [])) 11 1 27
    ∷ CheckNo (ask [] 0b0 2 0 1 0) (row 0x02) 0 0 0
    -- kind 7 needs a link to itself from each thing
    ∷ CheckNo (ask (record_of 7 0 0 0) 0b1 2 1 0 1) (rows (0x01 ∷ 0x02 ∷ 0x01 ∷ 0x02 ∷ [])) 0 0 0
    ∷ CheckNo (ask (record_of 7 0 0 0) 0b1 2 1 0 1) (rows (0x01 ∷ 0x02 ∷ 0x01 ∷ 0x01 ∷ [])) 12 0 12
    ∷ CheckNo (ask (record_of 7 0 0 0) 0b1 2 1 0 1) (rows (0x01 ∷ 0x02 ∷ 0x02 ∷ 0x02 ∷ [])) 12 0 12
    -- BROKEN at 1; no row at all
    ∷ CheckNo (ask (record_of 1 0 0 0 ++ record_of 1 0 1 0) 0b11 2 0 0 1) (row 0x01) 12 1 28
    ∷ CheckNo (ask [] 0b0 2 0 0 1) [] 9 0 9
    ∷ []

-- THE TABLE
unfoldable pub case_table : List Case
case_table = document_cases ++ (question_cases ++ (record_cases ++ sheet_cases))
