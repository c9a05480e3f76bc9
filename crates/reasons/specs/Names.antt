-- Sets of names as the code keeps them, a bit for each, the records filed by the names that they wait for, and what the functions that reach them promise each other. Only functions that docs/PROMISES.md lists as inner cite this page.
use Rattle.std.specs.Prelude.{◌≡◌, Bool, true, false, cond, List, [], ◌∷◌, ℕ, ◌<◌, length, get_or, Option, None, Some}
use Rattle.std.specs.Option.{option_or, ForSome, ForNone}
use Rattle.bits.specs.Bit.{has, with_bit}
use Rattle.marks.specs.Marks.{marked}
use Rattle.pack.specs.declared.line.Line.{Line}
use Rattle.pack.specs.World.{line_at}
use Rattle.reasons.specs.declared.names.Name.{Name}
use Rattle.reasons.specs.declared.names.Name.TheVariants.{Concept, Role}
use Rattle.reasons.specs.declared.names.Names.{Names}
use Rattle.reasons.specs.declared.files.Files.{Files}
use Rattle.reasons.specs.declared.reach.Reached.{Reached}
use Rattle.reasons.specs.Reach.{left_names, right_names, all_in, Reaches}

-- a name with a bit in a word
abbrev pub IsShort : Name → Type 0
IsShort (Concept x) = x < 64
IsShort (Role r) = r < 64

-- a name is among the names when its bit is set
abbrev pub name_in : Names → Name → Bool
name_in ns (Concept x) = has ns.concepts x
name_in ns (Role r) = has ns.roles r

-- no names; one name more, and those of a list
abbrev pub no_names : Names
no_names = record { concepts = 0; roles = 0 }

abbrev pub with_name : Names → Name → Names
with_name ns (Concept x) = record { concepts = with_bit ns.concepts x; roles = ns.roles }
with_name ns (Role r) = record { concepts = ns.concepts; roles = with_bit ns.roles r }

abbrev pub with_names : Names → List Name → Names
with_names ns [] = ns
with_names ns (x ∷ xs) = with_names (with_name ns x) xs

-- with all left-side names of a line, its right-side names
abbrev pub with_line : Names → Line → Names
with_line ns l = cond (all_in (name_in ns) (left_names l)) (with_names ns (right_names l)) ns

abbrev pub Inside : (Name → Bool) → (Name → Bool) → Type 0
Inside R R' = (x : Name) → R x ≡ true → R' x ≡ true

-- both sides of a line are in R
abbrev pub BothSides : (Name → Bool) → Line → Type 0
BothSides R l = (all_in R (left_names l) ≡ true) × (all_in R (right_names l) ≡ true)

-- a name that R lacks; the first such of a list
abbrev pub lacking : (Name → Bool) → Name → Option Name
lacking R x = cond (R x) None (Some x)

abbrev pub waits_for : (Name → Bool) → List Name → Option Name
waits_for R [] = None
waits_for R (x ∷ xs) = option_or (lacking R x) (waits_for R xs)

-- is place i filed under a name, or, with none, as reached?
abbrev pub filed : Files → Option Name → ℕ → Bool
filed files (Some (Concept x)) i = marked (get_or files.concepts x []) i
filed files (Some (Role r)) i = marked (get_or files.roles r []) i
filed files None i = marked files.reached i

-- place i, and no other, is filed under x
pub record IsFiled (files files' : Files) (x : Option Name) (i : ℕ) : Type 0 where
  pub there : filed files' x i ≡ true
  pub stays : (y : Option Name) (k : ℕ) → filed files y k ≡ true → filed files' y k ≡ true
  pub comes : (y : Option Name) (k : ℕ) → filed files' y k ≡ true → filed files y k ≡ false → (x ≡ y) × (i ≡ k)

-- a name of a list, which R lacks
pub record Lacks (R : Name → Bool) (xs : List Name) (x : Name) : Type 0 where
  pub lacks : R x ≡ false
  pub needs : (Q : Name → Bool) → all_in Q xs ≡ true → Q x ≡ true

-- place i is filed: as reached, or under a left-side name that R lacks
pub record Filed (ls : List Line) (files : Files) (R : Name → Bool) (i : ℕ) : Type 0 where
  pub under : Option Name
  pub there : filed files under i ≡ true
  pub waits : ForSome under (Lacks R (left_names (line_at ls i)))

-- what a walk over the places of D before k makes of what is reached: no name is lost, and none comes that a set which
-- `Reaches` can lack; nothing filed is lost, and what comes is a place of D, as reached only with both sides there; and
-- each of these places is filed
pub record Walked (ls : List Line) (D : ℕ → Bool) (k : ℕ) (p q : Reached) : Type 0 where
  pub keeps : Inside (name_in p.names) (name_in q.names)
  pub least : (a : ℕ) (Q : Name → Bool) → Reaches ls D a Q → Inside (name_in p.names) Q → Inside (name_in q.names) Q
  pub stays : (x : Option Name) (i : ℕ) → filed p.files x i ≡ true → filed q.files x i ≡ true
  pub comes : (x : Option Name) (i : ℕ) → filed q.files x i ≡ true → filed p.files x i ≡ false → (D i ≡ true) × (x ≡ None → BothSides (name_in q.names) (line_at ls i))
  pub placed : (i : ℕ) → i < k → i < length ls → D i ≡ true → Filed ls q.files (name_in p.names) i

-- a name of one set that the other lacks, or none, where it lacks none
pub record Fresh (names done : Names) (x : Option Name) : Type 0 where
  pub some : ForSome x (λ y. IsShort y × (name_in names y ≡ true) × (name_in done y ≡ false))
  pub none : ForNone x (Inside (name_in names) (name_in done))
