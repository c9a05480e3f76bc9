-- Numbers in bytes, the low byte first; parts of 8 bytes; marks in bytes.
use Rattle.std.specs.Prelude.{cond, ℕ, zero, suc, ◌+◌, ◌*◌, ◌/◌, ◌%◌, ◌^◌, eqb, leb, length, get_or, take, drop}
use mathlib.Core.List.{List, [], ◌++◌, map, flatten}
use Rattle.bits.specs.Lists.{listed}

-- the number in the first c bytes
unfoldable pub little_endian : ℕ → List ℕ → ℕ
little_endian zero s = 0
little_endian (suc c) s = little_endian c s + get_or s c 0 * 256 ^ c

-- the word in an 8-byte part
abbrev pub word_in : List ℕ → ℕ
word_in p = little_endian 8 p

-- part i of a list of 8-byte parts
abbrev pub part : List ℕ → ℕ → List ℕ
part s i = take 8 (drop (i * 8) s)

-- a list with these 8 bytes as part i, where it has room for that part
unfoldable pub with_part : List ℕ → ℕ → List ℕ → List ℕ
with_part s i bytes = cond (leb (i * 8 + 8) (length s)) (take (i * 8) s ++ (bytes ++ drop (i * 8 + 8) s)) s

-- a word's 8 bytes, and those of words one after the other
unfoldable pub word_bytes : ℕ → List ℕ
word_bytes w = listed 8 0 (λ j. w / 256 ^ j % 256)

abbrev pub words_bytes : List ℕ → List ℕ
words_bytes ws = flatten (map word_bytes ws)

-- the 16 words of 128 bytes
unfoldable pub words_in : List ℕ → List ℕ
words_in s = listed 16 0 (λ j. word_in (part s j))

-- marks as C hands them over: 128 bytes; bytes of another length are no words, and so no marks of any pack
abbrev pub marks_in : List ℕ → List ℕ
marks_in s = cond (eqb (length s) 128) (words_in s) []
