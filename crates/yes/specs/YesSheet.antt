-- A yes sheet: steps of 8 bytes, each good by the steps before it.
use Rattle.std.specs.Prelude.{Bool, false, ◌&&◌, ◌||◌, List, [], ◌∷◌, ℕ, ◌/◌, ◌%◌, eqb, leb, length, get_or, take}
use Rattle.bits.specs.Lists.{listed}
use Rattle.pack.specs.declared.line.Fact.{Fact}
use Rattle.pack.specs.declared.line.Line.{Line}
use Rattle.pack.specs.declared.line.Rule.{Rule}
use Rattle.pack.specs.declared.line.Step.{Step}
use Rattle.pack.specs.Rules.{rule_at, conclusion_of, usable, free, same_fact}
use Rattle.pack.specs.Bytes.{little_endian, part}

-- the step in an 8-byte part: record place (two bytes), X, Y, Z, and three bytes that are zero
abbrev pub step_in : List ℕ → Step
step_in p = record { place = little_endian 2 p; x = get_or p 2 0; y = get_or p 3 0; z = get_or p 4 0 }

abbrev pub zeros_in : List ℕ → Bool
zeros_in p = eqb (get_or p 5 0) 0 && eqb (get_or p 6 0) 0 && eqb (get_or p 7 0) 0

-- the steps of a sheet
unfoldable pub steps_of : List ℕ → List Step
steps_of sheet = listed (length sheet / 8) 0 (λ i. step_in (part sheet i))

-- some step of the list concludes f
unfoldable pub concluded : List Line → List Step → Fact → Bool
concluded ls [] f = false
concluded ls (s ∷ ss) f = same_fact (conclusion_of ls s) f || concluded ls ss f

-- f is free or concluded
unfoldable pub known : List Line → ℕ → List Step → Fact → Bool
known ls n ss f = free n f || concluded ls ss f

-- the premises of a rule are known
abbrev pub premises_known : Rule → (Fact → Bool) → Bool
premises_known rule K = K rule.one && K rule.two

-- a step is good over what is known: it is usable, and its premises are known
unfoldable pub good_over : List Line → (ℕ → Bool) → ℕ → (Fact → Bool) → Step → Bool
good_over ls S n K s = usable ls S n s && premises_known (rule_at ls s) K

-- step i of a sheet is good: its zeros are zero, and each premise is free or concluded by an earlier step
unfoldable pub good_at : List Line → (ℕ → Bool) → ℕ → List ℕ → ℕ → Bool
good_at ls S n sheet i =
    zeros_in (part sheet i) && good_over ls S n (known ls n (take i (steps_of sheet))) (step_in (part sheet i))

-- a multiple of 8, at most 65,536 steps
abbrev pub yes_length_fits : List ℕ → Bool
yes_length_fits sheet = eqb (length sheet % 8) 0 && leb (length sheet) 524288
