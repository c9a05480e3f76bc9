-- A record of 8 bytes: kind, a, b, c and the statement number, which is not read. Its line, and the rules of its fields.
use Rattle.std.specs.Prelude.{Bool, false, cond, ◌&&◌, List, ℕ, ◌/◌, ◌<◌, eqb, ltb, length, get_or}
use Rattle.bits.specs.Lists.{listed}
use Rattle.pack.specs.declared.line.Line.{Line}
use Rattle.pack.specs.declared.line.Line.TheVariants.{Under, BothUnder, UnderSome, SomeUnder, RoleUnder, ChainUnder, ToItself, NoLine}
use Rattle.pack.specs.declared.line.Fields.{Fields}
use Rattle.pack.specs.Bytes.{part}
use Rattle.pack.specs.World.{line_at}

-- the line of a kind with fields a, b, c
abbrev pub line_of : ℕ → ℕ → ℕ → ℕ → Line
line_of kind a b c =
    cond (eqb kind 1) (Under a b)
    (cond (eqb kind 2) (BothUnder a b c)
    (cond (eqb kind 3) (UnderSome a b c)
    (cond (eqb kind 4) (SomeUnder a b c)
    (cond (eqb kind 5) (RoleUnder a b)
    (cond (eqb kind 6) (ChainUnder a b c)
    (cond (eqb kind 7) (ToItself a)
    NoLine))))))

-- the rules of the fields: concepts below n, roles below m, c zero in kinds 1 and 5, and b and c zero in kind 7
abbrev pub keeps : ℕ → ℕ → ℕ → ℕ → ℕ → ℕ → Bool
keeps n m kind a b c =
    cond (eqb kind 1) (ltb a n && ltb b n && eqb c 0)
    (cond (eqb kind 2) (ltb a n && ltb b n && ltb c n)
    (cond (eqb kind 3) (ltb a n && ltb b m && ltb c n)
    (cond (eqb kind 4) (ltb a m && ltb b n && ltb c n)
    (cond (eqb kind 5) (ltb a m && ltb b m && eqb c 0)
    (cond (eqb kind 6) (ltb a m && ltb b m && ltb c m)
    (cond (eqb kind 7) (ltb a m && eqb b 0 && eqb c 0)
    false))))))

-- the fields in an 8-byte part: the kind, a, b and c
unfoldable pub fields_in : List ℕ → Fields
fields_in p = record { kind = get_or p 0 0; a = get_or p 1 0; b = get_or p 2 0; c = get_or p 3 0 }

-- the line in an 8-byte part, and whether the part keeps the rules
unfoldable pub line_in : List ℕ → Line
line_in p = line_of (get_or p 0 0) (get_or p 1 0) (get_or p 2 0) (get_or p 3 0)

unfoldable pub keeps_in : ℕ → ℕ → List ℕ → Bool
keeps_in n m p = keeps n m (get_or p 0 0) (get_or p 1 0) (get_or p 2 0) (get_or p 3 0)

-- the line of the record at a place of a pack, and whether that record keeps the rules
abbrev pub line_at_place : List ℕ → ℕ → Line
line_at_place s i = line_in (part s i)

abbrev pub keeps_at : ℕ → ℕ → List ℕ → ℕ → Bool
keeps_at n m s i = keeps_in n m (part s i)

-- how many records a pack of these bytes has, and their lines
abbrev pub record_count : List ℕ → ℕ
record_count s = length s / 8

unfoldable pub lines_of : List ℕ → List Line
lines_of s = listed (record_count s) 0 (line_at_place s)

-- the concepts of a line are below n and its roles below m
abbrev pub ValidLine : ℕ → ℕ → Line → Type 0
ValidLine n m (Under a b) = (a < n) × (b < n)
ValidLine n m (BothUnder a₁ a₂ b) = (a₁ < n) × (a₂ < n) × (b < n)
ValidLine n m (UnderSome a r b) = (a < n) × (r < m) × (b < n)
ValidLine n m (SomeUnder r a b) = (r < m) × (a < n) × (b < n)
ValidLine n m (RoleUnder r s) = (r < m) × (s < m)
ValidLine n m (ChainUnder r s t) = (r < m) × (s < m) × (t < m)
ValidLine n m (ToItself r) = r < m
ValidLine n m NoLine = ⊥

abbrev pub Valid : ℕ → ℕ → List Line → Type 0
Valid n m ls = (i : ℕ) → i < length ls → ValidLine n m (line_at ls i)
