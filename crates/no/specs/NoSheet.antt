-- A no sheet: the rows of a world.
use Rattle.std.specs.Prelude.{Bool, cond, ◌&&◌, List, ℕ, ◌+◌, ◌*◌, eqb, ltb, leb, length}
use Rattle.bits.specs.Bit.{has}
use Rattle.bits.specs.Sets.{lowest, some}
use Rattle.pack.specs.World.{World}
use Rattle.pack.specs.Bytes.{word_in, part}

-- row i of a sheet
unfoldable pub row_at : List ℕ → ℕ → ℕ
row_at sheet i = word_in (part sheet i)

-- k things have k rows of concepts, then k rows for each role
abbrev pub rows_of : ℕ → ℕ → ℕ
rows_of m k = k * (1 + m)

-- k, from 1 to 64, where the length is 8 · k · (1 + m); where there is no such k, 65
unfoldable pub things_in : ℕ → List ℕ → ℕ
things_in m sheet = lowest (λ k. eqb (length sheet) (8 * (k * (1 + m)))) 1 64

-- row i has a bit at or above n, in the first k rows, or at or above k, in the others
unfoldable pub forbidden : ℕ → ℕ → List ℕ → ℕ → Bool
forbidden n k sheet i = some 64 (λ j. leb (cond (ltb i k) n k) j && has (row_at sheet i) j)

-- the world that the rows describe
abbrev pub world_of : ℕ → List ℕ → World
world_of k sheet = record { things = k; is_in = λ x a. has (row_at sheet x) a; linked = λ x r y. has (row_at sheet (k + (r * k + x))) y }
