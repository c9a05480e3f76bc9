-- What the pack check gives.
use Rattle.std.specs.Prelude.{◌≡◌, Bool, false, ◌&&◌, List, [], ◌∷◌, ℕ, ◌%◌, leb, eqb, length}
use Rattle.pack.specs.Record.{keeps_at, record_count}
use Rattle.pack.specs.Table.{Row, refuse, refuse_at, Given}

-- n from 1 to 64, m from 0 to 8
abbrev pub sizes_fit : ℕ → ℕ → Bool
sizes_fit n m = leb 1 n && leb n 64 && leb m 8

-- a multiple of 8, at most 8,192 bytes
abbrev pub length_fits : List ℕ → Bool
length_fits s = eqb (length s % 8) 0 && leb (length s) 8192

-- 1 SIZES, 2 PACK, 3 RECORD with the lowest place of a record that breaks the rules of its fields
abbrev pub pack_rows : ℕ → ℕ → List ℕ → List Row
pack_rows n m s =
    refuse 1 (sizes_fit n m ≡ false)
    ∷ refuse 2 (length_fits s ≡ false)
    ∷ refuse_at 3 (record_count s) (λ i. keeps_at n m s i ≡ false)
    ∷ []

-- otherwise the record count
abbrev pub GivesPack : ℕ → ℕ → List ℕ → ℕ → ℕ → Type 0
GivesPack n m s = Given (Unit {0}) (pack_rows n m s) (λ value. value ≡ record_count s)
