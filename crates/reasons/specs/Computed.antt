-- The module, the printed set and the question check of their calls, as they are worked out. Only functions that
-- docs/PROMISES.md lists as inner cite this page. `module_of` is the module by `module_is`, `printed` the printed set by
-- `printed_is`.
use Rattle.std.specs.Prelude.{List, [], Bool, true, false, ◌&&◌, ℕ, zero, suc, ◌+◌, eqb, length, get_or, Result}
use Rattle.marks.specs.Marks.{marks_fit, marks_of}
use Rattle.pack.specs.declared.check.Refusal.{Refusal}
use Rattle.pack.specs.Record.{lines_of, record_count}
use Rattle.pack.specs.Computed.{check_pack, after_pack}
use Rattle.pack.specs.declared.line.Line.{Line}
use Rattle.pack.specs.Question.{counted}
use Rattle.pack.specs.World.{line_at}
use Rattle.passes.specs.Passes.{goal_at_end}
use Rattle.passes.specs.Loop.{loop, gate}
use Rattle.passes.specs.Saturation.{System, holds, attempt, runs}
use Rattle.reasons.specs.Printed.{without}
use Rattle.reasons.specs.declared.names.Name.{Name}
use Rattle.reasons.specs.declared.names.Name.TheVariants.{Concept, Role}
use Rattle.reasons.specs.Reach.{left_names, right_names, module_in}
use Rattle.reasons.specs.declared.set.SetError.{SetError}
use Rattle.reasons.specs.Set.{set_told}

-- found by saturation: a step is a place and which of the names on its right side, the first or the second
pub record Arrow : Type 0 where
  pub place : ℕ
  pub side : ℕ

unfoldable pub same_name : Name → Name → Bool
same_name (Concept a) (Concept b) = eqb a b
same_name (Concept a) (Role b) = false
same_name (Role a) (Concept b) = false
same_name (Role a) (Role b) = eqb a b

-- where a side has less than two names, concept a stands for the others: it is reached from the start
abbrev pub name_at : ℕ → List Name → ℕ → Name
name_at a names j = get_or names j (Concept a)

-- the names as a system to saturate: a step gives a name of a line's right side for the two of its left side
abbrev pub reach : List Line → ℕ → System
reach ls a = record {
  Facts = Name;
  Steps = Arrow;
  same = same_name;
  one = λ s. name_at a (left_names (line_at ls s.place)) 0;
  two = λ s. name_at a (left_names (line_at ls s.place)) 1;
  gives = λ s. name_at a (right_names (line_at ls s.place)) s.side;
}

module _ (ls : List Line) (S : ℕ → Bool) (a : ℕ) where
  -- both names of the right side of the line at i, each where the left side is there and it is new
  unfoldable pub both_sides : ℕ → List Arrow → List Arrow
  both_sides i = loop 2 0 (λ j. attempt (reach ls a) (same_name (Concept a)) (record { place = i; side = j }))

  -- a pass: each marked line, by place
  unfoldable pub reach_pass : List Arrow → List Arrow
  reach_pass = loop (length ls) 0 (λ i. gate (S i) (both_sides i))

-- the names reached from a; n + m + 1 passes are enough, since each but the last adds a name
unfoldable pub reached : List Line → (ℕ → Bool) → ℕ → ℕ → ℕ → Name → Bool
reached ls S n m a = holds (reach ls a) (same_name (Concept a)) (runs (reach_pass ls S a) (suc (n + m)) [])

-- the marked places whose left-side names are all reached
unfoldable pub module_of : List Line → (ℕ → Bool) → ℕ → ℕ → ℕ → ℕ → Bool
module_of ls S n m a = module_in ls S (reached ls S n m a)

-- of c places from i on, ascending, each goes where D says yes without it
unfoldable pub spared : ((ℕ → Bool) → Bool) → ℕ → ℕ → (ℕ → Bool) → ℕ → Bool
spared D zero i S = S
spared D (suc c) i S = elim (D (without S i)) [ true ↦ spared D c (i + 1) (without S i) | false ↦ spared D c (i + 1) S ]

-- of all places below len, from the lowest up
unfoldable pub picked : ((ℕ → Bool) → Bool) → ℕ → (ℕ → Bool) → ℕ → Bool
picked D len S = spared D len 0 S

-- with the verdict: each marked record goes, in turn, without which the goal still follows
unfoldable pub printed : List Line → (ℕ → Bool) → ℕ → ℕ → ℕ → ℕ → ℕ → Bool
printed ls S n m a b = picked (λ P. goal_at_end ls P n m a b) (length ls) S

-- 1 to 5, else the record count, where so many words are lent for the out marks
unfoldable pub check_reason : ℕ → ℕ → List ℕ → List ℕ → ℕ → ℕ → ℕ → Result ℕ Refusal
check_reason n m s ws a b words = after_pack (check_pack n m s) n (marks_fit ws (record_count s) && eqb words 16) a b

-- the marks of the module for a
abbrev pub module_marks : ℕ → ℕ → List ℕ → List ℕ → ℕ → List ℕ
module_marks n m s ws a = marks_of (module_of (lines_of s) (counted s ws) n m a)

-- the marks of the printed set
abbrev pub set_marks : ℕ → ℕ → List ℕ → List ℕ → ℕ → ℕ → List ℕ
set_marks n m s ws a b = marks_of (printed (lines_of s) (counted s ws) n m a b)

-- the number and the value of the set call's answer apart
abbrev pub set_number : Result ℕ SetError → ℕ
set_number r = (set_told r).0

abbrev pub set_value : Result ℕ SetError → ℕ
set_value r = (set_told r).1
