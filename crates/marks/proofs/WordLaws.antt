-- Laws of the words of a set of places: they mark exactly the places, there is one such list of words, and a loop fills it.
use mathlib.Core.Path.{◌≡◌, refl, sym, ap, ◌∙◌}
use mathlib.Core.Bool.{Bool, false}
use mathlib.Core.List.{List}
use Prim.Native.Nat.{ℕ, ◌+◌, ◌*◌, ◌/◌, ◌%◌, ◌^◌, ◌≤◌, ◌<◌}
use native.Mathlib.Omega.{arith}
use lib.ListN.{length, get_or, take, set, length-set}
use lib.Seq.{ext_get_or}
use Rattle.bits.specs.Bit.{has, row}
use Rattle.bits.specs.Lists.{listed}
use Rattle.bits.proofs.BitLaws.{has_ext, has_high}
use Rattle.bits.proofs.ListLaws.{listed_length, listed_at, fill_on, fill_end}
use Rattle.bits.proofs.RowLaws.{row_lt, row_has, row_only}
use Rattle.marks.specs.Marks.{marked, marks_of}
use Rattle.marks.proofs.MarkLaws.{at_word, unmarked_past}

module _ (P : ℕ → Bool) where
  pub marks_length : length (marks_of P) ≡ 16
  unfolding marks_of
  marks_length = listed_length (λ j. row 64 (λ i. P (j * 64 + i))) 16 0

  -- word j is the row of its 64 places
  marks_word : (j : ℕ) → j < 16 → get_or (marks_of P) j 0 ≡ row 64 (λ i. P (j * 64 + i))
  unfolding marks_of
  marks_word j h = listed_at (λ j. row 64 (λ i. P (j * 64 + i))) 0 16 0 j h ∙ ap (λ (k : ℕ). row 64 (λ i. P (k * 64 + i))) (omega arith)

  pub marks_small : (j : ℕ) → j < 16 → get_or (marks_of P) j 0 < 2 ^ 64
  marks_small j h = rw (marks_word j h) (row_lt 64 (λ i. P (j * 64 + i)))

  -- PLACE i IS MARKED where P i, and nothing past the 1,024 places is
  pub marked_of : (i : ℕ) → i < 1024 → marked (marks_of P) i ≡ P i
  marked_of i h =
      at_word (marks_of P) i (i / 64) (i % 64) refl refl
      ∙ ap (λ (w : ℕ). has w (i % 64)) (marks_word (i / 64) (omega arith))
      ∙ row_has 64 (λ k. P (i / 64 * 64 + k)) (i % 64) (omega arith)
      ∙ ap P (omega arith)

  pub marked_past : (i : ℕ) → 1024 ≤ i → marked (marks_of P) i ≡ false
  marked_past i h = unmarked_past (marks_of P) i (omega (arith, marks_length))

-- WORDS THAT ARE AS MANY AND MARK THE SAME PLACES are the same
pub marks_ext : (r r' : List ℕ) → length r ≡ length r' → ((j : ℕ) → j < length r → get_or r j 0 < 2 ^ 64) → ((j : ℕ) → j < length r → get_or r' j 0 < 2 ^ 64)
    → ((k : ℕ) → k < length r * 64 → marked r k ≡ marked r' k) → r ≡ r'
marks_ext r r' e small small' same =
    ext_get_or 0 r r' e
    (λ j l. has_ext 64 (get_or r j 0) (get_or r' j 0) (small j l) (small' j l)
    (λ i h. sym (at_word r (j * 64 + i) j i (omega arith) (omega arith)) ∙ same (j * 64 + i) (omega arith) ∙ at_word r' (j * 64 + i) j i (omega arith) (omega arith)))

-- sets of the same places have the same words
pub marks_alike : (P Q : ℕ → Bool) → ((i : ℕ) → i < 1024 → P i ≡ Q i) → marks_of P ≡ marks_of Q
marks_alike P Q h =
    marks_ext (marks_of P) (marks_of Q) (marks_length P ∙ sym (marks_length Q)) (λ j l. marks_small P j (omega (arith, marks_length P))) (λ j l. marks_small Q j (omega (arith, marks_length P)))
    (λ k l. let i : k < 1024 = omega (arith, marks_length P) in marked_of P k i ∙ h k i ∙ sym (marked_of Q k i))

-- words that mark a set of places mark what they mark
pub marks_again : (P : ℕ → Bool) (ws : List ℕ) → ws ≡ marks_of P → ws ≡ marks_of (marked ws)
marks_again P ws e = e ∙ marks_alike P (marked ws) (λ i l. sym (marked_of P i l) ∙ sym (ap (λ (v : List ℕ). marked v i) e))

pub sixteen_again : (ws : List ℕ) → ws ≡ marks_of (marked ws) → length ws ≡ 16
sixteen_again ws e = ap length e ∙ marks_length (marked ws)

-- SIXTEEN WORDS FILLED ONE BY ONE: the first j are those of P
pub record Filled (P : ℕ → Bool) (words : List ℕ) (j : ℕ) : Type 0 where
  pub most : j ≤ 16
  pub sixteen : length words ≡ 16
  pub before : take j words ≡ listed j 0 (λ q. row 64 (λ i. P (q * 64 + i)))

module _ (P : ℕ → Bool) (words : List ℕ) where
  pub filled_start : length words ≡ 16 → Filled P words 0
  unfolding listed
  filled_start e = record { most = omega arith; sixteen = e; before = refl }

  pub filled_on : (j w : ℕ) → j < 16 → Filled P words j → w < 2 ^ 64 → ((i : ℕ) → i < 64 → has w i ≡ P (j * 64 + i)) → Filled P (set words j w) (j + 1)
  filled_on j w h f small bits = record {
    most = omega arith;
    sixteen = length-set words j w ∙ f.sixteen;
    before = fill_on (λ q. row 64 (λ i. P (q * 64 + i))) words j w (omega (arith, f.sixteen)) f.before (row_only 64 64 (λ i. P (j * 64 + i)) w (omega arith) small bits (λ i l. has_high 64 w i small l));
  }

  pub filled_end : (j : ℕ) → 16 ≤ j → Filled P words j → words ≡ marks_of P
  unfolding marks_of
  filled_end j h f =
      let e : j ≡ 16 = omega (arith, f.most) in
      fill_end (λ q. row 64 (λ i. P (q * 64 + i))) words 16 (omega (arith, f.sixteen)) (rw e at f.before)
