-- What inner functions promise to each other. Only functions that docs/PROMISES.md lists as inner cite this page.
use Rattle.std.specs.Prelude.{◌≡◌, false, ◌&&◌, List, ℕ, ◌+◌, ◌*◌, ◌/◌, ◌≤◌, ◌<◌, ltb, length}
use Rattle.bits.specs.Bit.{has}
use Rattle.pack.specs.declared.line.Line.{Line}
use Rattle.pack.specs.declared.line.Line.TheVariants.{Under, BothUnder, UnderSome, SomeUnder, RoleUnder, ChainUnder, ToItself, NoLine}
use Rattle.pack.specs.World.{World, line_at}
use Rattle.no.specs.NoSheet.{row_at}

-- bit y of the word is set exactly where thing y is in concept a
abbrev pub ThingsColumn : World → ℕ → ℕ → Type 0
ThingsColumn w a word = (y : ℕ) → has word y ≡ (ltb y w.things && w.is_in y a)

-- the column that a line needs: that of the concept on the far side of its link
abbrev pub ColumnFor : World → Line → ℕ → Type 0
ColumnFor w (Under a b) word = Unit {0}
ColumnFor w (BothUnder a₁ a₂ b) word = Unit {0}
ColumnFor w (UnderSome a r b) word = ThingsColumn w b word
ColumnFor w (SomeUnder r a b) word = ThingsColumn w a word
ColumnFor w (RoleUnder r s) word = Unit {0}
ColumnFor w (ChainUnder r s t) word = Unit {0}
ColumnFor w (ToItself r) word = Unit {0}
ColumnFor w NoLine word = Unit {0}

-- the rows of role r are in the sheet, and no link of theirs leaves the k things
pub record RoleFits (k : ℕ) (sheet : List ℕ) (r : ℕ) : Type 0 where
  pub rows : k + (r * k + k) ≤ length sheet / 8
  pub inside : (x y : ℕ) → x < k → k ≤ y → y < 64 → has (row_at sheet (k + (r * k + x))) y ≡ false

-- the concepts and roles of a line have their bits and rows there
abbrev pub LineFits : ℕ → List ℕ → Line → Type 0
LineFits k sheet (Under a b) = (a < 64) × (b < 64)
LineFits k sheet (BothUnder a₁ a₂ b) = (a₁ < 64) × (a₂ < 64) × (b < 64)
LineFits k sheet (UnderSome a r b) = (a < 64) × RoleFits k sheet r × (b < 64)
LineFits k sheet (SomeUnder r a b) = RoleFits k sheet r × (a < 64) × (b < 64)
LineFits k sheet (RoleUnder r s) = RoleFits k sheet r × RoleFits k sheet s
LineFits k sheet (ChainUnder r s t) = RoleFits k sheet r × RoleFits k sheet s × RoleFits k sheet t
LineFits k sheet (ToItself r) = RoleFits k sheet r
LineFits k sheet NoLine = Unit {0}

-- every line of the pack does
abbrev pub LinesFit : ℕ → List ℕ → List Line → Type 0
LinesFit k sheet ls = (i : ℕ) → i < length ls → LineFits k sheet (line_at ls i)
