-- Laws of the numbers that C gets: the table's number and the value are read off them, and no two answers of a call have one number.
use Rattle.std.specs.Prelude.{Result, Ok, Err}
use mathlib.Core.Path.{◌≡◌}
use Prim.Native.Nat.{ℕ, ◌/◌, ◌%◌, ◌<◌}
use native.Mathlib.Omega.{arith}
use Rattle.pack.specs.declared.check.Refusal.{Refusal}
use Rattle.pack.specs.declared.check.Refusal.TheVariants.{Sizes, Pack, Record, Marks, Goal}
use Rattle.pack.specs.Answers.{answer_told, refusal_told, count_told}
use Rattle.pack.specs.Computed.{refusal_number, checked_number, checked_value}
use Rattle.pack.proofs.GivenLaws.{checked_told_lem}
use Rattle.engine.specs.declared.answer.Verdict.{Verdict}
use Rattle.engine.specs.declared.answer.Verdict.TheVariants as verdicts
use Rattle.engine.specs.declared.answer.VerdictError.{VerdictError}
use Rattle.engine.specs.declared.answer.VerdictError.TheVariants as no_verdict
use Rattle.engine.specs.Verdict.{verdict_value_told, verdict_error_told}
use Rattle.engine.specs.Computed.{verdict_number, verdict_value}
use Rattle.engine.proofs.Promises.{verdict_told_by}
use Rattle.writer.specs.declared.answer.Sheet.{Sheet}
use Rattle.writer.specs.declared.answer.Sheet.TheVariants as sheets
use Rattle.writer.specs.declared.answer.SheetError.{SheetError}
use Rattle.writer.specs.declared.answer.SheetError.TheVariants as no_sheet
use Rattle.writer.specs.Sheet.{sheet_value_told, sheet_error_told}
use Rattle.writer.specs.Computed.{sheet_number, sheet_value}
use Rattle.writer.proofs.Promises.{sheet_told_by}
use Rattle.reasons.specs.declared.set.SetError.{SetError}
use Rattle.reasons.specs.declared.set.SetError.TheVariants as no_set
use Rattle.reasons.specs.Set.{set_error_told}
use Rattle.reasons.specs.Computed.{set_number, set_value}
use Rattle.reasons.proofs.Promises.{set_told_by}
use Rattle.desk.specs.Desk.{desk_code}

-- every number of the table fits the low byte: that of an answer does where those of what comes back and of the refusals do
module _ {A E : Type 0} (answer : A → ℕ × ℕ) (refusal : E → ℕ × ℕ) (answers : (x : A) → (answer x).0 < 256) (refusals : (why : E) → (refusal why).0 < 256) where
  told_small : (r : Result A E) → (answer_told answer refusal r).0 < 256
  told_small (Ok x) = answers x
  told_small (Err why) = refusals why

pub refusal_small : (why : Refusal) → refusal_number why < 256
refusal_small Sizes = omega arith
refusal_small Pack = omega arith
refusal_small (Record i) = omega arith
refusal_small Marks = omega arith
refusal_small Goal = omega arith

pub checked_small : (x : Result ℕ Refusal) → checked_number x < 256
checked_small = told_small count_told refusal_told (λ _. omega arith) refusal_small

pub verdict_small : (x : Result Verdict VerdictError) → verdict_number x < 256
verdict_small = told_small verdict_value_told verdict_error_told answers refusals
  where
    answers : (x : Verdict) → (verdict_value_told x).0 < 256
    answers verdicts.Follows = omega arith
    answers verdicts.Not = omega arith

    refusals : (why : VerdictError) → (verdict_error_told why).0 < 256
    refusals (no_verdict.Refused why) = refusal_small why
    refusals no_verdict.TooLong = omega arith

pub sheet_small : (x : Result Sheet SheetError) → sheet_number x < 256
sheet_small = told_small sheet_value_told sheet_error_told answers refusals
  where
    answers : (x : Sheet) → (sheet_value_told x).0 < 256
    answers (sheets.Follows k) = omega arith
    answers (sheets.Not k) = omega arith

    refusals : (why : SheetError) → (sheet_error_told why).0 < 256
    refusals (no_sheet.Refused why) = refusal_small why
    refusals no_sheet.TooLong = omega arith
    refusals (no_sheet.NoRoom k) = omega arith

pub set_small : (x : Result ℕ SetError) → set_number x < 256
set_small = told_small count_told set_error_told (λ _. omega arith) refusals
  where
    refusals : (why : SetError) → (set_error_told why).0 < 256
    refusals (no_set.Refused why) = refusal_small why
    refusals no_set.TooLong = omega arith
    refusals no_set.NotFollows = omega arith

-- THE NUMBER AND THE VALUE ARE READ OFF: what is given of them is given of the low byte and of what stands above it
pub coded : (P : ℕ → ℕ → Type 0) (number value : ℕ) {r : ℕ} → number < 256 → r ≡ desk_code number value → P number value → P (r % 256) (r / 256)
coded P number value {r} h e p =
    let low : r % 256 ≡ number = omega arith in
    let high : r / 256 ≡ value = omega arith in
    rw (low, high) p

pub one_code : {r r' : ℕ} → r % 256 ≡ r' % 256 → r / 256 ≡ r' / 256 → r ≡ r'
one_code e f = omega arith

-- NO TWO ANSWERS OF A CALL HAVE ONE NUMBER
pub checked_told_apart : (x y : Result ℕ Refusal) → desk_code (checked_number x) (checked_value x) ≡ desk_code (checked_number y) (checked_value y) → x ≡ y
checked_told_apart x y e = checked_told_lem x y (omega (arith, checked_small x, checked_small y)) (omega (arith, checked_small x, checked_small y))

pub verdict_told_apart : (x y : Result Verdict VerdictError) → desk_code (verdict_number x) (verdict_value x) ≡ desk_code (verdict_number y) (verdict_value y) → x ≡ y
verdict_told_apart x y e = verdict_told_by x y (omega (arith, verdict_small x, verdict_small y)) (omega (arith, verdict_small x, verdict_small y))

pub sheet_told_apart : (x y : Result Sheet SheetError) → desk_code (sheet_number x) (sheet_value x) ≡ desk_code (sheet_number y) (sheet_value y) → x ≡ y
sheet_told_apart x y e = sheet_told_by x y (omega (arith, sheet_small x, sheet_small y)) (omega (arith, sheet_small x, sheet_small y))

pub set_told_apart : (x y : Result ℕ SetError) → desk_code (set_number x) (set_value x) ≡ desk_code (set_number y) (set_value y) → x ≡ y
set_told_apart x y e = set_told_by x y (omega (arith, set_small x, set_small y)) (omega (arith, set_small x, set_small y))
