-- Laws of records and lines: a record that keeps its rules has a valid line; a counted pack is a list of valid lines.
use mathlib.Core.Path.{◌≡◌, refl, sym, ap, ◌∙◌}
use mathlib.Core.Bool.{Bool, true, false, cond, ◌&&◌}
use mathlib.Core.List.{List}
use Prim.Native.Nat.{ℕ, ◌≤◌, ◌<◌}
use native.Mathlib.Nat.{zero-add}
use native.Mathlib.Omega.{arith}
use lib.Dec.{eqb, ltb}
use lib.ListN.{length, get_or}
use borrow.Author.Tests.{ltb-true}
use Rattle.bits.proofs.Truth.{both_true, never}
use Rattle.bits.proofs.ListLaws.{listed_length, listed_at}
use Rattle.pack.specs.declared.line.Line.{Line}
use Rattle.pack.specs.declared.line.Line.TheVariants.{Under, BothUnder, UnderSome, SomeUnder, RoleUnder, ChainUnder, ToItself, NoLine}
use Rattle.pack.specs.World.{line_at}
use Rattle.pack.specs.Bytes.{part}
use Rattle.pack.specs.Record.{line_of, line_in, keeps, keeps_in, keeps_at, line_at_place, record_count, lines_of, ValidLine, Valid}

-- the lines of a pack are those of its records
pub lines_length : (s : List ℕ) → length (lines_of s) ≡ record_count s
unfolding lines_of
lines_length s = listed_length (line_at_place s) (record_count s) 0

pub lines_at : (s : List ℕ) (i : ℕ) → i < record_count s → line_at (lines_of s) i ≡ line_at_place s i
unfolding lines_of line_at
lines_at s i h = listed_at (line_at_place s) NoLine (record_count s) 0 i h ∙ ap (line_at_place s) (zero-add i)

-- the line that `line_at` reads
pub line_read : (s : List ℕ) (i : ℕ) {l : Line} → i < record_count s → l ≡ line_at_place s i → line_at (lines_of s) i ≡ l
line_read s i h e = lines_at s i h ∙ sym e

one : {x a : ℕ} (t u : Bool) → (ltb x a && t && u) ≡ true → x < a
one {x} {a} t u h = ltb-true x a (both_true (ltb x a) t (both_true (ltb x a && t) u h).0).0

two : {x a y b : ℕ} {t : Bool} → (ltb x a && ltb y b && t) ≡ true → (x < a) × (y < b) × (t ≡ true)
two {x} {a} {y} {b} {t} h =
    let p = both_true (ltb x a && ltb y b) t h in
    let q = both_true (ltb x a) (ltb y b) p.0 in
    (ltb-true x a q.0, ltb-true y b q.1, p.1)

three : {x a y b z c : ℕ} → (ltb x a && ltb y b && ltb z c) ≡ true → (x < a) × (y < b) × (z < c)
three {x} {a} {y} {b} {z} {c} h = let p = two h in (p.0, p.1, ltb-true z c p.2)

-- the kinds, one after the other: each line of the rules against the same line of the reading
case : (P : Line → Type 0) (t : Bool) {k k' : Bool} {l l' : Line} → (k ≡ true → P l) → (k' ≡ true → P l') → cond t k k' ≡ true → P (cond t l l')
case P true f g h = f h
case P false f g h = g h

keeps_valid : (n m kind a b c : ℕ) → keeps n m kind a b c ≡ true → ValidLine n m (line_of kind a b c)
keeps_valid n m kind a b c =
    case (ValidLine n m) (eqb kind 1) {l = Under a b} (λ h. let p = two h in (p.0, p.1))
    (case (ValidLine n m) (eqb kind 2) {l = BothUnder a b c} three
    (case (ValidLine n m) (eqb kind 3) {l = UnderSome a b c} three
    (case (ValidLine n m) (eqb kind 4) {l = SomeUnder a b c} three
    (case (ValidLine n m) (eqb kind 5) {l = RoleUnder a b} (λ h. let p = two h in (p.0, p.1))
    (case (ValidLine n m) (eqb kind 6) {l = ChainUnder a b c} three
    (case (ValidLine n m) (eqb kind 7) {l = ToItself a} {l' = NoLine} (one (eqb b 0) (eqb c 0)) (λ h. never h refl)))))))

-- the lines of a pack whose records all keep the rules are valid
pub lines_valid : (n m : ℕ) (s : List ℕ) → ((i : ℕ) → i < record_count s → keeps_at n m s i ≡ true) → Valid n m (lines_of s)
unfolding keeps_in line_in
lines_valid n m s all i h =
    let l : i < record_count s = omega (arith, lines_length s) in
    let p = part s i in
    rw (lines_at s i l) (keeps_valid n m (get_or p 0 0) (get_or p 1 0) (get_or p 2 0) (get_or p 3 0) (all i l))

-- lines that keep to the sizes keep to the largest
pub valid_most : {n m : ℕ} → n ≤ 64 → m ≤ 8 → (ls : List Line) → Valid n m ls → Valid 64 8 ls
valid_most {n} {m} h k ls valid i there = most (line_at ls i) (valid i there)
  where
    most : (l : Line) → ValidLine n m l → ValidLine 64 8 l
    most (Under a b) v = omega arith
    most (BothUnder a₁ a₂ b) v = omega arith
    most (UnderSome a r b) v = omega arith
    most (SomeUnder r a b) v = omega arith
    most (RoleUnder r s) v = omega arith
    most (ChainUnder r s t) v = omega arith
    most (ToItself r) v = omega arith
    most NoLine v = v
