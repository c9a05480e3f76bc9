-- What a C call of a check makes of the table's number and the place, step or row that comes with it; C reads them off by
-- r mod 16 and r div 16, since no number of a check is above 15.
use Rattle.std.specs.Prelude.{◌≡◌, List, ℕ, ◌+◌, ◌*◌}
use Rattle.pack.specs.declared.question.Question.{Question}
use Rattle.pack.specs.Bytes.{marks_in}

-- the number plus 16 times the place
abbrev pub code : ℕ → ℕ → ℕ
code number place = number + 16 * place

-- the question of the numbers and the bytes that C hands over
abbrev pub AskedByC : ℕ → ℕ → List ℕ → List ℕ → ℕ → ℕ → Question → Type 0
AskedByC n m pack marks a b q =
    (q.n ≡ n) × (q.m ≡ m) × (q.pack.now ≡ pack) × (q.marks.now ≡ marks_in marks) × (q.a ≡ a) × (q.b ≡ b)
