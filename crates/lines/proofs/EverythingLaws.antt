-- The marks of everything: of 16 full words, the places below the record count; they fit every pack.
use mathlib.Core.Path.{◌≡◌, refl, sym, ap, ◌∙◌}
use mathlib.Core.Bool.{Bool, true, false, not}
use mathlib.Core.List.{List}
use Prim.Native.Nat.{ℕ, ◌/◌, ◌%◌, ◌^◌, ◌-◌, ◌≤◌, ◌<◌}
use native.Mathlib.Decide.{dec_lt}
use native.Mathlib.Omega.{arith}
use lib.Dec.{ltb}
use lib.ListN.{replicate, get_or-replicate}
use borrow.Author.Tests.{lt-ltb, le-ltb}
use Rattle.bits.specs.Bit.{has}
use Rattle.bits.proofs.BitLaws.{has_zero, has_not_word}
use Rattle.marks.specs.Marks.{marked, marks_fit, marks_of, cut_out}
use Rattle.marks.proofs.MarkLaws.{at_word, fits}
use Rattle.marks.proofs.WordLaws.{marks_length, marked_of, marked_past, marks_alike}
use Rattle.marks.proofs.CutLaws.{cut_before, cut_gone}
use Rattle.pack.specs.Record.{record_count}
use Rattle.lines.specs.Prints.{all_marks}

-- each place of 16 full words is marked
abbrev full : List ℕ
full = replicate 16 (2 ^ 64 - 1)

marked_full : (i : ℕ) → i < 1024 → marked full i ≡ true
marked_full i h =
    at_word full i (i / 64) (i % 64) refl refl
    ∙ ap (λ (w : ℕ). has w (i % 64)) (get_or-replicate 16 (i / 64) (2 ^ 64 - 1) 0 (omega arith))
    ∙ has_not_word 64 0 (i % 64) (omega arith) (omega arith)
    ∙ ap not (has_zero (i % 64))

pub everything : (s : List ℕ) {r : List ℕ} → r ≡ marks_of (cut_out (marked (replicate 16 (2 ^ 64 - 1))) (record_count s) 1024) → r ≡ all_marks s
unfolding all_marks
everything s e = e ∙ marks_alike (cut_out (marked full) count 1024) (λ i. ltb i count) (λ i l. go i l (dec_lt i count))
  where
    count : ℕ
    count = record_count s

    go : (i : ℕ) → i < 1024 → Dec (i < count) → cut_out (marked full) count 1024 i ≡ ltb i count
    go i l (yes h) = cut_before (marked full) count 1024 i h ∙ marked_full i l ∙ sym (lt-ltb i count h)
    go i l (no h) = cut_gone (marked full) count 1024 i (omega arith) l ∙ sym (le-ltb i count (omega arith))

-- THEY FIT EVERY PACK: a question with everything marked is never refused for its marks
pub everything_fits : (s : List ℕ) → marks_fit (all_marks s) (record_count s) ≡ true
unfolding all_marks
everything_fits s = fits (marks_of below) (record { sixteen = marks_length below; above = λ i l. go i l (dec_lt i 1024) })
  where
    below : ℕ → Bool
    below i = ltb i (record_count s)

    go : (i : ℕ) → record_count s ≤ i → Dec (i < 1024) → marked (marks_of below) i ≡ false
    go i l (yes h) = marked_of below i h ∙ le-ltb i (record_count s) l
    go i l (no h) = marked_past below i (omega arith)
