-- Calls that are lent out marks: their rows 1 to 5, and what it is for out marks to mark a set of places.
use Rattle.std.specs.Prelude.{◌≡◌, Bool, false, ◌&&◌, List, ℕ, ◌≤◌}
use Rattle.marks.specs.Marks.{mark_count, marks_fit, marks_of}
use Rattle.pack.specs.Question.{asked_rows}
use Rattle.pack.specs.Record.{record_count}
use Rattle.pack.specs.Table.{Row}

-- 4 MARKS is about both: the marks in fit the pack, and the out marks are of the right length
abbrev pub reason_rows : ℕ → ℕ → List ℕ → List ℕ → ℕ → ℕ → Bool → List Row
reason_rows n m s ws a b sixteen = asked_rows n m s (marks_fit ws (record_count s) && sixteen) a b

-- the words are those of the set of places that is meant, of records of the pack, and k is how many they mark
pub record MarksThe (meant : (ℕ → Bool) → Type 0) (s : List ℕ) (k : ℕ) (words : List ℕ) : Type 0 where
  pub places : ℕ → Bool
  pub is : meant places
  pub past : (i : ℕ) → record_count s ≤ i → places i ≡ false
  pub are : words ≡ marks_of places
  pub count : k ≡ mark_count words
