-- The meaning: worlds, what it is for a world to obey a line, and what follows.
use Rattle.std.specs.Prelude.{◌≡◌, Bool, true, List, ℕ, ◌≤◌, ◌<◌, length, get_or}
use Rattle.pack.specs.declared.line.Line.{Line}
use Rattle.pack.specs.declared.line.Line.TheVariants.{Under, BothUnder, UnderSome, SomeUnder, RoleUnder, ChainUnder, ToItself, NoLine}

-- so many things; a yes or no for each thing and concept, and for each role and ordered pair of things
pub record World : Type 0 where
  pub things : ℕ
  pub is_in : ℕ → ℕ → Bool
  pub linked : ℕ → ℕ → ℕ → Bool

-- thing x is in concept a; thing x is linked by r to thing y
abbrev pub Is : World → ℕ → ℕ → Type 0
Is w x a = w.is_in x a ≡ true

abbrev pub To : World → ℕ → ℕ → ℕ → Type 0
To w x r y = w.linked x r y ≡ true

-- table 1 of document 000, and every thing linked to itself (document 02, 2/12): a line for each kind
abbrev pub ObeysLine : World → Line → Type 0
ObeysLine w (Under a b) = (x : ℕ) → x < w.things → Is w x a → Is w x b
ObeysLine w (BothUnder a₁ a₂ b) = (x : ℕ) → x < w.things → Is w x a₁ → Is w x a₂ → Is w x b
ObeysLine w (UnderSome a r b) = (x : ℕ) → x < w.things → Is w x a → (y : ℕ) × (y < w.things) × To w x r y × Is w y b
ObeysLine w (SomeUnder r a b) = (x y : ℕ) → x < w.things → y < w.things → To w x r y → Is w y a → Is w x b
ObeysLine w (RoleUnder r s) = (x y : ℕ) → x < w.things → y < w.things → To w x r y → To w x s y
ObeysLine w (ChainUnder r s t) = (x y z : ℕ) → x < w.things → y < w.things → z < w.things → To w x r y → To w y s z → To w x t z
ObeysLine w (ToItself r) = (x : ℕ) → x < w.things → To w x r x
ObeysLine w NoLine = Unit {0}

-- the line at a place; past the end a line that says nothing
unfoldable pub line_at : List Line → ℕ → Line
line_at ls i = get_or ls i NoLine

-- the world obeys the lines at the places of S
abbrev pub Obeys : World → List Line → (ℕ → Bool) → Type 0
Obeys w ls S = (i : ℕ) → i < length ls → S i ≡ true → ObeysLine w (line_at ls i)

-- every world of one thing or more that obeys them has each thing of a in b
abbrev pub Follows : List Line → (ℕ → Bool) → ℕ → ℕ → Type 0
Follows ls S a b = (w : World) → 1 ≤ w.things → Obeys w ls S → (x : ℕ) → x < w.things → Is w x a → Is w x b
