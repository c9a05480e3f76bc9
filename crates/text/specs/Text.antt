-- The text of an outcome, as bytes (document 01, "The valve pack"): what the bench program prints.
use Rattle.std.specs.Prelude.{Bool, cond, List, [], ◌∷◌, ◌++◌, ℕ, zero, suc, ◌+◌, ◌/◌, ◌%◌, ◌≤◌, ltb}
use Prim.Native.Char.{code}
use Prim.Native.String.{String}
use Prim.Native.String as string
use Rattle.bits.specs.Sets.{count_to}
use Rattle.text.specs.Buffer.{Wrote}

-- the bytes of a text in ASCII
abbrev pub letters : String → List ℕ
letters string.[] = []
letters (string.◌∷◌ c s) = code c ∷ letters s

-- the digits of k, at most so many: a number below 10 is its own digit; of any other the last digit comes behind those
-- of the tenth part. The digit d is the byte 48 + d
unfoldable pub digits : ℕ → ℕ → List ℕ
digits zero k = []
digits (suc most) k = cond (ltb k 10) ((48 + k) ∷ []) (digits most (k / 10) ++ ((48 + k % 10) ∷ []))

-- k in decimal, with no leading zero: no number k has more than k + 1 digits
unfoldable pub decimal : ℕ → List ℕ
decimal k = digits (k + 1) k

-- each place of P below c, ascending: a space and the place
unfoldable pub places : (ℕ → Bool) → ℕ → List ℕ
places P zero = []
places P (suc c) = places P c ++ cond (P c) (letters " " ++ decimal c) []

-- a word and a number
unfoldable pub number_line : List ℕ → ℕ → List ℕ
number_line word k = word ++ decimal k ++ letters "\n"

-- a word, how many places there are in P below 1,024, a colon, and each of them; where there is none it ends at the colon
unfoldable pub list_line : List ℕ → (ℕ → Bool) → List ℕ
list_line word P = word ++ decimal (count_to P 1024) ++ letters ":" ++ places P 1024 ++ letters "\n"

-- what there is to print: a refusal by its number; the refusal 3, RECORD, by its place; FOLLOWS by the steps of our
-- sheet, the places of the module and those of the set; NOT by the rows of our sheet and the places of the module
pub data Outcome : Type 0 where
  refused : ℕ → Outcome
  refused_at : ℕ → Outcome
  follows : ℕ → (ℕ → Bool) → (ℕ → Bool) → Outcome
  not_follows : ℕ → (ℕ → Bool) → Outcome

-- the whole text
unfoldable pub text_of : Outcome → List ℕ
text_of (refused number) = number_line (letters "refused ") number
text_of (refused_at place) = number_line (letters "refused 3 ") place
text_of (follows steps M S) = number_line (letters "follows ") steps ++ list_line (letters "module ") M ++ list_line (letters "set ") S
text_of (not_follows rows M) = number_line (letters "not ") rows ++ list_line (letters "module ") M

-- the whole text of the outcome stands from the start of the buffer on, `end` is the position behind it, and it fits
pub record WroteText (o : Outcome) (before after : List ℕ) (end : ℕ) : Type 0 where
  pub text : Wrote (text_of o) before 0 after end
  pub fits : end ≤ 8192
