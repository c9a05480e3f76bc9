-- What inner functions promise to each other. Only functions that docs/PROMISES.md lists as inner cite this page.
use Rattle.std.specs.Prelude.{◌≡◌, List, ℕ}
use Rattle.pack.specs.Bytes.{words_bytes}

-- the words that were found are in the out bytes where the number is 0; with any other these are as they were
abbrev pub PutFound : ℕ → List ℕ → List ℕ → List ℕ → Type 0
PutFound number found out after = (number ≡ 0 → after ≡ words_bytes found) × ((number ≡ 0 → ⊥) → after ≡ out)
