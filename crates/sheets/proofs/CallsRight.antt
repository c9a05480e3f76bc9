-- What C may conclude from the number that a check's call returns: 0 is an accepted sheet, and no two answers have one number.
use mathlib.Core.Path.{◌≡◌}
use mathlib.Core.List.{List}
use Prim.Native.Nat.{ℕ, ◌/◌, ◌%◌, ◌<◌}
use native.Mathlib.Omega.{arith}
use Rattle.std.specs.Prelude.{Result, Ok, Err}
use Rattle.pack.specs.declared.check.Refusal.{Refusal}
use Rattle.pack.specs.declared.check.Refusal.TheVariants.{Sizes, Pack, Record, Marks, Goal}
use Rattle.pack.specs.Bytes.{marks_in}
use Rattle.pack.specs.Computed.{refusal_number}
use Rattle.pack.specs.Question.{counted}
use Rattle.pack.specs.Record.{lines_of}
use Rattle.pack.specs.World.{Follows}
use Rattle.yes.specs.declared.check.YesError.{YesError}
use Rattle.yes.specs.declared.check.YesError.TheVariants as yes
use Rattle.yes.specs.Answers.{GivesYes}
use Rattle.yes.specs.Computed.{yes_number, yes_place}
use Rattle.yes.proofs.Promises.{yes_told_by, yes_right}
use Rattle.no.specs.declared.check.NoError.{NoError}
use Rattle.no.specs.declared.check.NoError.TheVariants as no
use Rattle.no.specs.Answers.{GivesNo}
use Rattle.no.specs.Computed.{no_number, no_place}
use Rattle.no.proofs.Promises.{no_told_by, no_right}
use Rattle.sheets.specs.Answers.{code}

-- the numbers of the checks are below 16
refusal_small : (why : Refusal) → refusal_number why < 16
refusal_small Sizes = omega arith
refusal_small Pack = omega arith
refusal_small (Record i) = omega arith
refusal_small Marks = omega arith
refusal_small Goal = omega arith

pub yes_small : (x : Result (Unit {0}) YesError) → yes_number x < 16
yes_small (Err (yes.Refused why)) = refusal_small why
yes_small (Err yes.Length) = omega arith
yes_small (Err (yes.Step i)) = omega arith
yes_small (Err yes.NotShown) = omega arith
yes_small (Ok tt) = omega arith

pub no_small : (x : Result (Unit {0}) NoError) → no_number x < 16
no_small (Err (no.Refused why)) = refusal_small why
no_small (Err no.Length) = omega arith
no_small (Err (no.Row i)) = omega arith
no_small (Err (no.Broken i)) = omega arith
no_small (Err no.NotShown) = omega arith
no_small (Ok tt) = omega arith

-- SO THE NUMBER AND THE PLACE ARE READ OFF THE CODE
pub read_off : {number place r : ℕ} → number < 16 → r ≡ code number place → (r % 16 ≡ number) × (r / 16 ≡ place)
read_off h e = (omega arith, omega arith)

-- NO TWO ANSWERS OF THE YES CHECK, AND NONE OF THE NO CHECK, HAVE ONE NUMBER
pub yes_told_apart : (x y : Result (Unit {0}) YesError) → code (yes_number x) (yes_place x) ≡ code (yes_number y) (yes_place y) → x ≡ y
yes_told_apart x y e = yes_told_by x y (omega (arith, yes_small x, yes_small y)) (omega (arith, yes_small x, yes_small y))

pub no_told_apart : (x y : Result (Unit {0}) NoError) → code (no_number x) (no_place x) ≡ code (no_number y) (no_place y) → x ≡ y
no_told_apart x y e = no_told_by x y (omega (arith, no_small x, no_small y)) (omega (arith, no_small x, no_small y))

module _ (n m : ℕ) (s marks : List ℕ) (a b : ℕ) (sheet : List ℕ) where
  -- 0 FROM THE YES CHECK: the goal follows
  pub yes_call_right : (r : ℕ) → GivesYes n m s (marks_in marks) a b sheet (r % 16) (r / 16) → r ≡ 0 → Follows (lines_of s) (counted s (marks_in marks)) a b
  yes_call_right r g e = yes_right n m s (marks_in marks) a b sheet (rw e at g)

  -- 0 FROM THE NO CHECK: the goal does not follow
  pub no_call_right : (r : ℕ) → GivesNo n m s (marks_in marks) a b sheet (r % 16) (r / 16) → r ≡ 0 → Follows (lines_of s) (counted s (marks_in marks)) a b → ⊥
  no_call_right r g e = no_right n m s (marks_in marks) a b sheet (rw e at g)
