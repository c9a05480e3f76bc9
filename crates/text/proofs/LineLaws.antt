-- Laws of lines and of the whole text: how long they are, that they fit 8,192 bytes, and that they go by the places below
-- 1,024 alone.
use mathlib.Core.Path.{◌≡◌, refl, ap}
use mathlib.Core.Bool.{Bool}
use mathlib.Core.List.{List}
use Prim.Native.Nat.{ℕ, ◌+◌, ◌^◌, ◌≤◌, ◌<◌}
use native.Mathlib.Omega.{arith}
use lib.ListN.{length, take, length-append}
use Rattle.bits.specs.Sets.{count_to}
use Rattle.bits.proofs.SetLaws.{count_le, count_same}
use Rattle.marks.specs.Marks.{marked, marks_of}
use Rattle.marks.proofs.WordLaws.{marked_of}
use Rattle.text.specs.declared.line.Text.{Text}
use Rattle.text.specs.Buffer.{Wrote}
use Rattle.text.specs.Inner.{Added}
use Rattle.text.specs.Text.{Outcome, WroteText, decimal, places, number_line, list_line, text_of, letters}
use Rattle.text.specs.Text.Outcome.{refused, refused_at, follows, not_follows}
use Rattle.text.proofs.BufferLaws.{put_length, wrote_front}
use Rattle.text.proofs.DigitLaws.{decimal_most}
use Rattle.text.proofs.PlaceLaws.{places_most, places_same}

-- a count of places has at most 4 digits
pub count_digits : (P : ℕ → Bool) {n : ℕ} → n ≡ count_to P 1024 → length (decimal n) ≤ 4
count_digits P {n} e = decimal_most 3 n (omega (arith, count_le P 1024))

module _ (word : List ℕ) where
  pub number_line_length : (k : ℕ) → length (number_line word k) ≡ length word + length (decimal k) + 1
  unfolding number_line
  number_line_length k = simp length-append (omega arith)

  pub list_line_length : (P : ℕ → Bool) → length (list_line word P) ≡ length word + length (decimal (count_to P 1024)) + 1 + length (places P 1024) + 1
  unfolding list_line
  list_line_length P = simp length-append (omega arith)

  -- a number of 32 bits has at most 10 digits, a count of places at most 4
  pub number_line_most : (k : ℕ) → k < 2 ^ 32 → length (number_line word k) ≤ length word + 11
  number_line_most k h = omega (arith, number_line_length k, decimal_most 9 k (omega arith))

  pub list_line_most : (P : ℕ → Bool) → length (list_line word P) ≤ length word + 4016
  list_line_most P = omega (arith, list_line_length P, count_digits P refl, places_most P)

  -- sets with the same places below 1,024 have the same line; so the marks of a set have the line of the set
  pub list_line_same : (P Q : ℕ → Bool) → ((i : ℕ) → i < 1024 → P i ≡ Q i) → list_line word P ≡ list_line word Q
  unfolding list_line
  list_line_same P Q h = rw (count_same P Q 1024 h, places_same P Q 1024 h)

  pub list_line_of : (P : ℕ → Bool) → list_line word (marked (marks_of P)) ≡ list_line word P
  list_line_of P = list_line_same (marked (marks_of P)) P (marked_of P)

-- how far a text reaches that has one line more
module _ {before after : Text} where
  pub number_line_end : (word : List ℕ) (k : ℕ) → k < 2 ^ 32 → Added (number_line word k) before after → after.end ≤ before.end + (length word + 11)
  number_line_end word k h f = omega (arith, f.written.behind, number_line_most word k h)

  pub list_line_end : (word : List ℕ) (P : ℕ → Bool) → Added (list_line word P) before after → after.end ≤ before.end + (length word + 4016)
  list_line_end word P f = omega (arith, f.written.behind, list_line_most word P)

-- THE TEXT FITS 8,192 BYTES where its number is one of 32 bits
abbrev pub first_number : Outcome → ℕ
first_number (refused number) = number
first_number (refused_at place) = place
first_number (follows steps M S) = steps
first_number (not_follows rows M) = rows

pub text_fits : (o : Outcome) → first_number o < 2 ^ 32 → length (text_of o) ≤ 8192
unfolding text_of
text_fits (refused number) h = omega (arith, number_line_most (letters "refused ") number h)
text_fits (refused_at place) h = omega (arith, number_line_most (letters "refused 3 ") place h)
text_fits (follows steps M S) h =
    simp length-append (omega (arith, number_line_most (letters "follows ") steps h, list_line_most (letters "module ") M, list_line_most (letters "set ") S))
text_fits (not_follows rows M) h = simp length-append (omega (arith, number_line_most (letters "not ") rows h, list_line_most (letters "module ") M))

pub wrote_text : (o : Outcome) {before after : List ℕ} {end : ℕ} → first_number o < 2 ^ 32 → Wrote (text_of o) before 0 after end → WroteText o before after end
wrote_text o h f = record { text = f; fits = omega (arith, f.behind, text_fits o h) }

-- as a text that begins at the buffer's start, whose last content the buffer keeps
pub added_text : (o : Outcome) {before after : List ℕ} {empty full : Text} → first_number o < 2 ^ 32 → empty.out.now ≡ before → empty.end ≡ 0 → Added (text_of o) empty full → after ≡ full.out.now → WroteText o before after full.end
added_text o h e z f g =
    let w = f.written in
    wrote_text o h (rw (g, ← e, ← z) w)

-- so in a buffer of 8,192 bytes what stands before `end` is the text, and no more
pub text_front : (o : Outcome) {before after : List ℕ} {end : ℕ} → length before ≡ 8192 → WroteText o before after end → take end after ≡ text_of o
text_front o {before} l f = wrote_front (text_of o) before (omega (arith, f.fits, f.text.behind)) f.text

-- and it lies within the buffer
pub text_within : (o : Outcome) {before after : List ℕ} {end : ℕ} → length before ≡ 8192 → WroteText o before after end → end ≤ length after
text_within o {before} l f = omega (arith, f.fits, ap length f.text.buffer, put_length before 0 (text_of o))

-- THE TEXT OF THE MARKS OF A SET is the text of the set
text_same : (o o' : Outcome) {before after : List ℕ} {end : ℕ} → text_of o ≡ text_of o' → WroteText o before after end → WroteText o' before after end
text_same o o' e f = record { text = rw e at f.text; fits = f.fits }

module _ {ws : List ℕ} (M : ℕ → Bool) (e : ws ≡ marks_of M) (number : ℕ) {before after : List ℕ} {end : ℕ} where
  pub not_of_marks : WroteText (not_follows number (marked ws)) before after end → WroteText (not_follows number M) before after end
  unfolding text_of
  not_of_marks = text_same (not_follows number (marked ws)) (not_follows number M) (rw (e, list_line_of (letters "module ") M))

  pub follows_of_marks : {vs : List ℕ} (S : ℕ → Bool) → vs ≡ marks_of S → WroteText (follows number (marked ws) (marked vs)) before after end → WroteText (follows number M S) before after end
  unfolding text_of
  follows_of_marks {vs} S e' = text_same (follows number (marked ws) (marked vs)) (follows number M S) (rw (e, e', list_line_of (letters "module ") M, list_line_of (letters "set ") S))
