-- The printed set. Places are numbers below len; F is any property of sets of places.
use Rattle.std.specs.Prelude.{◌≡◌, Bool, true, false, not, ◌&&◌, List, ℕ, ◌<◌, eqb, length}
use Rattle.pack.specs.declared.line.Line.{Line}
use Rattle.pack.specs.World.{Follows}

-- each place of P is one of Q
abbrev pub Subset : ℕ → (ℕ → Bool) → (ℕ → Bool) → Type 0
Subset len P Q = (i : ℕ) → i < len → P i ≡ true → Q i ≡ true

-- i is the lowest place where P and Q differ
pub record Differ (len : ℕ) (P Q : ℕ → Bool) (i : ℕ) : Type 0 where
  pub inside : i < len
  pub below : (j : ℕ) → j < i → P j ≡ Q j
  pub here : P i ≡ Q i → ⊥

-- among all subsets of S with F, the one that, at the lowest place where it differs from any other, lacks that place
pub record IsPicked (len : ℕ) (F : (ℕ → Bool) → Type 0) (S P : ℕ → Bool) : Type 0 where
  pub within : Subset len P S
  pub holds : F P
  pub lacks : (Q : ℕ → Bool) → Subset len Q S → F Q → (i : ℕ) → Differ len P Q i → P i ≡ false

-- F holds of P, and of no subset of P but P itself
pub record IsMinimal (len : ℕ) (F : (ℕ → Bool) → Type 0) (P : ℕ → Bool) : Type 0 where
  pub holds : F P
  pub whole : (Q : ℕ → Bool) → Subset len Q P → F Q → Subset len P Q

-- S but for place i
unfoldable pub without : (ℕ → Bool) → ℕ → ℕ → Bool
without S i j = S j && not (eqb j i)

-- THE PRINTED SET: of the subsets of the marked records from which the goal follows
abbrev pub IsPrinted : List Line → (ℕ → Bool) → ℕ → ℕ → (ℕ → Bool) → Type 0
IsPrinted ls S a b = IsPicked (length ls) (λ P. Follows ls P a b) S
