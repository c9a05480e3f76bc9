-- What the C calls give, and that no second result satisfies the promise of one, or of a call that makes its number.
use mathlib.Core.Path.{◌≡◌}
use mathlib.Core.List.{List}
use Prim.Native.Nat.{ℕ, ◌/◌, ◌%◌}
use native.Mathlib.Omega.{arith}
use Rattle.std.specs.Prelude.{Result}
use Rattle.bits.proofs.Promises.{no_second}
use Rattle.pack.specs.Bytes.{marks_in}
use Rattle.yes.specs.declared.check.YesError.{YesError}
use Rattle.no.specs.declared.check.NoError.{NoError}
use Rattle.yes.specs.Answers.{yes_told, GivesYes}
use Rattle.yes.specs.Computed.{yes_number, yes_place}
use Rattle.yes.proofs.Promises.{yes_same}
use Rattle.no.specs.Answers.{no_told, GivesNo}
use Rattle.no.specs.Computed.{no_number, no_place}
use Rattle.no.proofs.Promises.{no_same}
use Rattle.sheets.specs.Answers.{code}
use Rattle.sheets.proofs.CallsRight.{yes_small, no_small, read_off}

-- the code of an answer that is given
pub yes_coded : (n m : ℕ) (s ws : List ℕ) (a b : ℕ) (sheet : List ℕ) (x : Result (Unit {0}) YesError) {r : ℕ} → r ≡ code (yes_number x) (yes_place x) → GivesYes n m s ws a b sheet (yes_number x) (yes_place x) → GivesYes n m s ws a b sheet (r % 16) (r / 16)
yes_coded n m s ws a b sheet x e g = let o = read_off (yes_small x) e in rw (o.0, o.1) g

pub no_coded : (n m : ℕ) (s ws : List ℕ) (a b : ℕ) (sheet : List ℕ) (x : Result (Unit {0}) NoError) {r : ℕ} → r ≡ code (no_number x) (no_place x) → GivesNo n m s ws a b sheet (no_number x) (no_place x) → GivesNo n m s ws a b sheet (r % 16) (r / 16)
no_coded n m s ws a b sheet x e g = let o = read_off (no_small x) e in rw (o.0, o.1) g

pub yes_call_fixed : (n m : ℕ) (s marks : List ℕ) (a b : ℕ) (sheet : List ℕ) (r r' : ℕ) → GivesYes n m s (marks_in marks) a b sheet (r % 16) (r / 16) → GivesYes n m s (marks_in marks) a b sheet (r' % 16) (r' / 16) → r ≡ r'
yes_call_fixed n m s marks a b sheet r r' p q = let e = yes_same n m s (marks_in marks) a b sheet p q in omega (arith, e.0, e.1)

pub no_call_fixed : (n m : ℕ) (s marks : List ℕ) (a b : ℕ) (sheet : List ℕ) (r r' : ℕ) → GivesNo n m s (marks_in marks) a b sheet (r % 16) (r / 16) → GivesNo n m s (marks_in marks) a b sheet (r' % 16) (r' / 16) → r ≡ r'
no_call_fixed n m s marks a b sheet r r' p q = let e = no_same n m s (marks_in marks) a b sheet p q in omega (arith, e.0, e.1)

pub yes_code_fixed : (x : Result (Unit {0}) YesError) (r r' : ℕ) → r ≡ code (yes_told x).0 (yes_told x).1 → r' ≡ code (yes_told x).0 (yes_told x).1 → r ≡ r'
yes_code_fixed x r r' = no_second

pub no_code_fixed : (x : Result (Unit {0}) NoError) (r r' : ℕ) → r ≡ code (no_told x).0 (no_told x).1 → r' ≡ code (no_told x).0 (no_told x).1 → r ≡ r'
no_code_fixed x r r' = no_second
