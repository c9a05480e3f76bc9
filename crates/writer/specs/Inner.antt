-- What inner functions promise to each other: the bytes of rows. Only functions that docs/PROMISES.md lists as inner cite this page.
use Rattle.std.specs.Prelude.{cond, List, ◌++◌, ℕ, ◌+◌, ◌-◌, ◌*◌, ◌/◌, ◌%◌, ltb, get_or, drop}
use Rattle.bits.specs.Lists.{listed}
use Rattle.pack.specs.Bytes.{words_bytes}

-- row i of the rows as our no sheet has them, and the bytes of so many rows
abbrev pub row_in : ℕ → List ℕ → List ℕ → ℕ → ℕ
row_in n concepts links i = cond (ltb i n) (get_or concepts i 0) (get_or links ((i - n) / n * 64 + (i - n) % n) 0)

unfoldable pub rows_bytes : ℕ → ℕ → List ℕ → List ℕ → List ℕ
rows_bytes n rows concepts links = words_bytes (listed rows 0 (row_in n concepts links))

-- the first words of a row of them from the start of a sheet, and the rest of it as it was
abbrev pub filled : (ℕ → ℕ) → List ℕ → ℕ → List ℕ
filled f blank j = words_bytes (listed j 0 f) ++ drop (j * 8) blank
