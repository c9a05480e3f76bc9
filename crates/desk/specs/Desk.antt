-- What the calls for C return: the table's number in the low byte (0: none), and the value above it. C reads them off by r mod
-- 256 and r div 256. The module and the printed set come as 128 bytes.
use Rattle.std.specs.Prelude.{◌≡◌, List, ℕ, ◌+◌, ◌*◌, eqb, length}
use Rattle.pack.specs.Bytes.{marks_in, words_bytes}
use Rattle.pack.specs.Table.{Given}
use Rattle.reasons.specs.OutMarks.{reason_rows}
use Rattle.reasons.specs.Module.{MarksModule}
use Rattle.reasons.specs.Set.{MarksSet, set_rows}

abbrev pub desk_code : ℕ → ℕ → ℕ
desk_code number value = number + 256 * value

-- as the module call, with marks in and out as bytes
abbrev pub GivesModuleC : ℕ → ℕ → List ℕ → List ℕ → ℕ → List ℕ → List ℕ → ℕ → ℕ → Type 0
GivesModuleC n m s marks a out after =
    Given (after ≡ out) (reason_rows n m s (marks_in marks) a a (eqb (length out) 128))
    (λ value. (words : List ℕ) × MarksModule s (marks_in marks) a value words × (after ≡ words_bytes words))

-- as the printed set's call, with marks in and out as bytes
abbrev pub GivesSetC : ℕ → ℕ → List ℕ → List ℕ → ℕ → ℕ → List ℕ → List ℕ → ℕ → ℕ → Type 0
GivesSetC n m s marks a b out after =
    Given (after ≡ out) (set_rows n m s (marks_in marks) a b (eqb (length out) 128))
    (λ value. (words : List ℕ) × MarksSet s (marks_in marks) a b value words × (after ≡ words_bytes words))
