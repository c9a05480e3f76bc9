-- What C may conclude from the number that a call returns, and from what it left in a lent buffer.
use mathlib.Core.Path.{◌≡◌, refl, ap, ◌∙◌}
use mathlib.Core.Logic.{◌↔◌, ◌⊎◌, inl, inr, ⊎_elim}
use mathlib.Core.Bool.{Bool, true}
use mathlib.Core.List.{List}
use Prim.Native.Nat.{ℕ, ◌+◌, ◌*◌, ◌/◌, ◌%◌}
use native.Mathlib.Omega.{arith}
use lib.Dec.{eqb}
use lib.ListN.{length, take, replicate}
use borrow.Author.Tests.{eq-eqb}
use Rattle.marks.specs.Marks.{mark_count}
use Rattle.marks.proofs.WordLaws.{marks_length, marks_small}
use Rattle.pack.specs.Bytes.{words_bytes, marks_in}
use Rattle.pack.specs.Question.{counted, Taken}
use Rattle.pack.specs.Record.{lines_of}
use Rattle.pack.specs.World.{Follows}
use Rattle.pack.proofs.BytesLaws.{words_back}
use Rattle.pack.proofs.GivenLaws.{given_one, given_zero}
use Rattle.pack.proofs.Promises.{question_numbered, taken_admitted}
use Rattle.yes.specs.Answers.{GivesYes}
use Rattle.yes.proofs.Promises.{yes_same}
use Rattle.no.specs.Answers.{GivesNo}
use Rattle.no.proofs.Promises.{no_same}
use Rattle.engine.specs.Verdict.{GivesVerdict}
use Rattle.engine.proofs.Promises.{verdict_right}
use Rattle.writer.specs.Sheet.{GivesSheet}
use Rattle.writer.proofs.Promises.{joined}
use Rattle.std.specs.Prelude.{Result, Ok, Err}
use Rattle.reasons.specs.declared.set.SetError.{SetError}
use Rattle.reasons.specs.declared.set.SetError.TheVariants.{NotFollows}
use Rattle.reasons.specs.OutMarks.{reason_rows, MarksThe}
use Rattle.reasons.specs.Module.{MarksModule}
use Rattle.reasons.specs.Set.{MarksSet, set_rows}
use Rattle.reasons.specs.Computed.{set_marks, set_number, set_value}
use Rattle.reasons.specs.Inner.{SetTaken}
use Rattle.reasons.proofs.OutLaws.{reason_asked}
use Rattle.reasons.proofs.Promises.{set_numbered, set_taken}
use Rattle.desk.specs.Desk.{GivesModuleC, GivesSetC}

module _ (n m : ℕ) (s marks : List ℕ) (a b : ℕ) where
  abbrev F : Type 0
  F = Follows (lines_of s) (counted s (marks_in marks)) a b

  -- 256 EXACTLY WHEN THE GOAL FOLLOWS, 0 EXACTLY WHEN IT DOES NOT, of a question that is taken
  pub verdict_call_right : (r : ℕ) → GivesVerdict n m s (marks_in marks) a b (r % 256) (r / 256) → Taken n m s (marks_in marks) a b → ((r ≡ 256) ↔ F) × ((r ≡ 0) ↔ (F → ⊥))
  verdict_call_right r g t =
      let v = verdict_right n m s (marks_in marks) a b t g in
      let low = v.0 in (
        (λ e. v.1.0 (omega arith), λ f. let high = v.1.1 f in omega arith),
        (λ e. v.2.0 (omega arith), λ no. let high = v.2.1 no in omega arith),
      )

  -- WHAT THE WRITER'S CALL WROTE IS ACCEPTED: so many steps by the yes check's call, so many rows by the no check's
  pub sheet_call_right : (sheet after : List ℕ) (r j : ℕ) → GivesSheet n m s (marks_in marks) a b sheet after (r % 256) (r / 256) → Taken n m s (marks_in marks) a b
      → (r ≡ 256 * (2 * j + 1) → (c : ℕ) → GivesYes n m s (marks_in marks) a b (take (8 * j) after) (c % 16) (c / 16) → c ≡ 0)
      × (r ≡ 256 * (2 * j) → (c : ℕ) → GivesNo n m s (marks_in marks) a b (take (8 * j) after) (c % 16) (c / 16) → c ≡ 0)
  sheet_call_right sheet after r j g t = (
    λ e c h.
        let zero : r % 256 ≡ 0 = omega arith in
        let d = yes_same n m s (marks_in marks) a b (take (8 * j) after) h ((joined n m s (marks_in marks) a b sheet t (rw zero at g)).0 j (omega arith)) in
        omega (arith, d.0, d.1),
    λ e c h.
        let zero : r % 256 ≡ 0 = omega arith in
        let d = no_same n m s (marks_in marks) a b (take (8 * j) after) h ((joined n m s (marks_in marks) a b sheet t (rw zero at g)).1 j (omega arith)) in
        omega (arith, d.0, d.1),
  )

-- out bytes that are those of words which mark a set are these words, read as marks
read_back : {meant : (ℕ → Bool) → Type 0} {s : List ℕ} {k : ℕ} {after : List ℕ} → (words : List ℕ) × MarksThe meant s k words × (after ≡ words_bytes words) → MarksThe meant s k (marks_in after)
read_back {meant} {s} {k} {after} p =
    let P = p.1.places in
    let same : marks_in after ≡ p.0 =
    ap marks_in p.2 ∙ words_back p.0 (ap length p.1.are ∙ marks_length P) (λ j l. rw p.1.are (marks_small P j l)) in
    rw same p.1

-- WHERE THE MODULE'S CALL REFUSES NOTHING, the out bytes, read as marks, mark exactly the module, and so many records as it says
pub module_call_right : (n m : ℕ) (s marks : List ℕ) (a : ℕ) (out after : List ℕ) (r : ℕ) → GivesModuleC n m s marks a out after (r % 256) (r / 256) → r % 256 ≡ 0 → MarksModule s (marks_in marks) a (r / 256) (marks_in after)
module_call_right n m s marks a out after r g e =
    read_back
    (given_zero (after ≡ out) (λ value. (words : List ℕ) × MarksModule s (marks_in marks) a value words × (after ≡ words_bytes words)) (reason_rows n m s (marks_in marks) a a (eqb (length out) 128)) question_numbered (rw e at g))

-- WHERE THE SET'S CALL REFUSES NOTHING, the same of the printed set
pub set_call_right : (n m : ℕ) (s marks : List ℕ) (a b : ℕ) (out after : List ℕ) (r : ℕ) → GivesSetC n m s marks a b out after (r % 256) (r / 256) → r % 256 ≡ 0 → MarksSet s (marks_in marks) a b (r / 256) (marks_in after)
set_call_right n m s marks a b out after r g e =
    read_back
    (given_zero (after ≡ out) (λ value. (words : List ℕ) × MarksSet s (marks_in marks) a b value words × (after ≡ words_bytes words)) (set_rows n m s (marks_in marks) a b (eqb (length out) 128)) set_numbered (rw e at g))

-- 7 EXACTLY WHEN THE GOAL DOES NOT FOLLOW, of a question that is taken, with 128 bytes for the set
pub set_call_seven : (n m : ℕ) (s marks : List ℕ) (a b : ℕ) (out after : List ℕ) (r : ℕ) → GivesSetC n m s marks a b out after (r % 256) (r / 256) → Taken n m s (marks_in marks) a b → length out ≡ 128
    → (r ≡ 7) ↔ (Follows (lines_of s) (counted s (marks_in marks)) a b → ⊥)
set_call_seven n m s marks a b out after r g t l = (
  λ e f. let low = (compare (Ok (mark_count (set_marks n m s ws a b))) (inl (f, refl, refl))).0 in omega arith,
  λ no.
      let same = compare {given = blank} (Err NotFollows) (inr (no, refl, refl)) in
      let low : r % 256 ≡ 7 = same.0 in
      ⊎_elim (λ q. let high = q.0 in omega arith) (λ q. absurd (omega (arith, q.2))) same.1,
)
  where
    ws : List ℕ
    ws = marks_in marks

    blank : List ℕ
    blank = replicate 16 0

    -- what is given of any 16 words has the same number
    compare : {given : List ℕ} (x : Result ℕ SetError) → SetTaken n m s ws a b blank given x
        → (r % 256 ≡ set_number x) × (((r / 256 ≡ set_value x) × (after ≡ out) × (given ≡ blank)) ⊎ (((words : List ℕ) × MarksSet s ws a b (r / 256) words × (after ≡ words_bytes words)) × MarksSet s ws a b (set_value x) given × (r % 256 ≡ 0)))
    compare {given} x done =
        given_one (after ≡ out) (given ≡ blank) (λ value. (words : List ℕ) × MarksSet s ws a b value words × (after ≡ words_bytes words)) (λ value. MarksSet s ws a b value given) (set_rows n m s ws a b true)
        (rw (eq-eqb (length out) 128 l) at g)
        (set_taken n m s ws a b blank (reason_asked n m s ws a b 16 refl ∙ (taken_admitted n m s ws a b t).1) x done)
