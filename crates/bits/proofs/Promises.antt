-- No second result satisfies a promise that fixes the result by a definition. Every call of every crate whose promise is
-- "the result is what the definition gives" rests on this one law.
use mathlib.Core.Path.{◌≡◌, sym, ◌∙◌}
use mathlib.Core.Bool.{Bool, cond, not, ◌&&◌, ◌||◌}
use Prim.Native.Nat.{ℕ, ◌+◌, ◌-◌, ◌%◌, ◌^◌, ◌<◌}
use lib.Dec.{eqb}
use native.Mathlib.Omega.{arith}
use Rattle.std.specs.Prelude.{Option, Some, None, MatchOption}
use Rattle.std.proofs.lemmas.Option.{none-some, same_Some}
use Rattle.bits.specs.declared.walk.Ones.{Ones}
use Rattle.bits.specs.Walk.{WalkStep}
use Rattle.bits.specs.Bit.{has, with_bit}
use Rattle.bits.specs.Sets.{lowest, found_below, count_to}
use Rattle.bits.proofs.BitLaws.{has_ext}

pub no_second : {A : Type 0} {fixed r s : A} → r ≡ fixed → s ≡ fixed → r ≡ s
no_second e f = e ∙ sym f

-- this crate's calls
pub test_bit_fixed : (w j : ℕ) (r r' : Bool) → r ≡ has w (j % 64) → r' ≡ has w (j % 64) → r ≡ r'
test_bit_fixed w j r r' = no_second

pub with_bit_fixed : (w j r r' : ℕ) → r ≡ with_bit w (j % 64) → r' ≡ with_bit w (j % 64) → r ≡ r'
with_bit_fixed w j r r' = no_second

pub column_with_fixed : (column row a y r r' : ℕ) → r ≡ cond (has row (a % 64)) (with_bit column (y % 64)) column → r' ≡ cond (has row (a % 64)) (with_bit column (y % 64)) column → r ≡ r'
column_with_fixed column row a y r r' = no_second

pub next_bit_fixed : (w j : ℕ) (r r' : Option ℕ) → r ≡ found_below 64 (lowest (has w) j (64 - j)) → r' ≡ found_below 64 (lowest (has w) j (64 - j)) → r ≡ r'
next_bit_fixed w j r r' = no_second

pub ones_fixed : (w : ℕ) (r r' : Ones) → r ≡ record { word = w; from = 0 } → r' ≡ record { word = w; from = 0 } → r ≡ r'
ones_fixed w r r' = no_second

-- a step of a walk: what it gives, and where it goes on
pub walk_step_fixed : {S K : Type 0} (c : ℕ) (set : K → ℕ → Bool) (holds : S → K) (from : S → ℕ) (s t t' : S) (r r' : Option ℕ) → WalkStep c set holds from s r t → WalkStep c set holds from s r' t' → (r ≡ r') × (holds t ≡ holds t') × (from t ≡ from t')
walk_step_fixed c set holds from s t t' r r' w w' =
    let e : r ≡ r' = no_second w.gives w'.gives in
    (e, no_second w.keeps w'.keeps, goes r r' e w.goes_on w'.goes_on)
  where
    goes : (r r' : Option ℕ) → r ≡ r' → MatchOption r (from t ≡ from s) (λ j. from t ≡ j + 1) → MatchOption r' (from t' ≡ from s) (λ j. from t' ≡ j + 1) → from t ≡ from t'
    goes None None e g g' = no_second g g'
    goes None (Some j) e g g' = absurd (none-some j e)
    goes (Some j) None e g g' = absurd (none-some j (sym e))
    goes (Some j) (Some k) e g g' = let same : j ≡ k = same_Some j k e in omega (arith, g, g')

pub count_bits_fixed : (w r r' : ℕ) → r ≡ count_to (has w) 64 → r' ≡ count_to (has w) 64 → r ≡ r'
count_bits_fixed w r r' = no_second

-- promises bit by bit: two words with those bits are one
bits_fixed : (p : ℕ → Bool) (r r' : ℕ) → r < 2 ^ 64 → r' < 2 ^ 64 → ((j : ℕ) → has r j ≡ p j) → ((j : ℕ) → has r' j ≡ p j) → r ≡ r'
bits_fixed p r r' h h' f g = has_ext 64 r r' h h' (λ j l. no_second (f j) (g j))

pub without_lowest_fixed : (w r r' : ℕ) → r < 2 ^ 64 → r' < 2 ^ 64 → ((j : ℕ) → has r j ≡ (has w j && not (eqb (lowest (has w) 0 64) j))) → ((j : ℕ) → has r' j ≡ (has w j && not (eqb (lowest (has w) 0 64) j))) → r ≡ r'
without_lowest_fixed w = bits_fixed (λ j. has w j && not (eqb (lowest (has w) 0 64) j))

pub lacking_fixed : (w v r r' : ℕ) → r < 2 ^ 64 → r' < 2 ^ 64 → ((j : ℕ) → has r j ≡ (has w j && not (has v j))) → ((j : ℕ) → has r' j ≡ (has w j && not (has v j))) → r ≡ r'
lacking_fixed w v = bits_fixed (λ j. has w j && not (has v j))

pub either_fixed : (w v r r' : ℕ) → r < 2 ^ 64 → r' < 2 ^ 64 → ((j : ℕ) → has r j ≡ (has w j || has v j)) → ((j : ℕ) → has r' j ≡ (has w j || has v j)) → r ≡ r'
either_fixed w v = bits_fixed (λ j. has w j || has v j)
