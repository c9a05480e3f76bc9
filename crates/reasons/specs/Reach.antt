-- The names reached from a concept, and the module (document 000, definition 3). Roles are names too.
use Rattle.std.specs.Prelude.{◌≡◌, Bool, true, ◌&&◌, List, [], ◌∷◌, ℕ, ◌<◌, length}
use Rattle.pack.specs.declared.line.Line.{Line}
use Rattle.pack.specs.declared.line.Line.TheVariants.{Under, BothUnder, UnderSome, SomeUnder, RoleUnder, ChainUnder, ToItself, NoLine}
use Rattle.pack.specs.World.{line_at}
use Rattle.reasons.specs.declared.names.Name.{Name}
use Rattle.reasons.specs.declared.names.Name.TheVariants.{Concept, Role}

-- the names of the left side of a line, and of its right side
abbrev pub left_names : Line → List Name
left_names (Under a b) = Concept a ∷ []
left_names (BothUnder a₁ a₂ b) = Concept a₁ ∷ Concept a₂ ∷ []
left_names (UnderSome a r b) = Concept a ∷ []
left_names (SomeUnder r a b) = Role r ∷ Concept a ∷ []
left_names (RoleUnder r s) = Role r ∷ []
left_names (ChainUnder r s t) = Role r ∷ Role s ∷ []
left_names (ToItself r) = []
left_names NoLine = []

abbrev pub right_names : Line → List Name
right_names (Under a b) = Concept b ∷ []
right_names (BothUnder a₁ a₂ b) = Concept b ∷ []
right_names (UnderSome a r b) = Role r ∷ Concept b ∷ []
right_names (SomeUnder r a b) = Concept b ∷ []
right_names (RoleUnder r s) = Role s ∷ []
right_names (ChainUnder r s t) = Role t ∷ []
right_names (ToItself r) = Role r ∷ []
right_names NoLine = []

-- all names of a list are in R
unfoldable pub all_in : (Name → Bool) → List Name → Bool
all_in R [] = true
all_in R (x ∷ xs) = R x && all_in R xs

-- R holds a and, with all left-side names of a marked line, its right-side names
pub record Reaches (ls : List Line) (S : ℕ → Bool) (a : ℕ) (R : Name → Bool) : Type 0 where
  pub start : R (Concept a) ≡ true
  pub goes : (i : ℕ) → i < length ls → S i ≡ true → all_in R (left_names (line_at ls i)) ≡ true → all_in R (right_names (line_at ls i)) ≡ true

-- the smallest such set of names
pub record IsReached (ls : List Line) (S : ℕ → Bool) (a : ℕ) (R : Name → Bool) : Type 0 where
  pub reaches : Reaches ls S a R
  pub least : (R' : Name → Bool) → Reaches ls S a R' → (x : Name) → R x ≡ true → R' x ≡ true

-- the marked places whose left-side names all lie in R
unfoldable pub module_in : List Line → (ℕ → Bool) → (Name → Bool) → ℕ → Bool
module_in ls S R i = S i && all_in R (left_names (line_at ls i))

-- THE MODULE for a: those of the smallest set of names
pub record IsModule (ls : List Line) (S : ℕ → Bool) (a : ℕ) (M : ℕ → Bool) : Type 0 where
  pub names : Name → Bool
  pub reached : IsReached ls S a names
  pub places : (i : ℕ) → i < length ls → M i ≡ module_in ls S names i
