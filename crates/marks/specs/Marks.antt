-- Which places 16 words mark, which words are marks of a pack of so many records, and the words of a set of places.
use Rattle.std.specs.Prelude.{Bool, not, ◌&&◌, List, ℕ, ◌+◌, ◌*◌, ◌/◌, ◌%◌, eqb, leb, ltb, length, get_or}
use Rattle.bits.specs.Bit.{has, row}
use Rattle.bits.specs.Sets.{count_to, some}
use Rattle.bits.specs.Lists.{listed}

-- place i is marked when bit i mod 64 of word i div 64 is set
unfoldable pub marked : List ℕ → ℕ → Bool
marked ws i = has (get_or ws (i / 64) 0) (i % 64)

-- 16 words, and no bit set at or above the record count
unfoldable pub marks_fit : List ℕ → ℕ → Bool
marks_fit ws count = eqb (length ws) 16 && not (some 1024 (λ i. leb count i && marked ws i))

-- how many places are marked
abbrev pub mark_count : List ℕ → ℕ
mark_count ws = count_to (marked ws) 1024

-- the 16 words that mark the places of P below 1,024
unfoldable pub marks_of : (ℕ → Bool) → List ℕ
marks_of P = listed 16 0 (λ j. row 64 (λ i. P (j * 64 + i)))

-- P but for the places from i on and below k
unfoldable pub cut_out : (ℕ → Bool) → ℕ → ℕ → ℕ → Bool
cut_out P i k j = P j && not (leb i j && ltb j k)
