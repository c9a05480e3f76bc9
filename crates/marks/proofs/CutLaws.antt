-- Laws of marks changed: the places below a number as a word, a range cut out.
use mathlib.Core.Path.{◌≡◌, sym, ap, ◌∙◌, fun_ext}
use mathlib.Core.Bool.{Bool, true, false, not, ◌&&◌, and-false, and-true, and_comm}
use mathlib.Core.List.{List}
use Prim.Native.Nat.{ℕ, ◌+◌, ◌-◌, ◌*◌, ◌%◌, ◌^◌, ◌≤◌, ◌<◌}
use native.Mathlib.Decide.{dec_lt}
use native.Mathlib.Omega.{arith}
use lib.Dec.{leb, ltb}
use lib.ListN.{length, get_or}
use lib.Pow.{pow_pos}
use borrow.Author.Tests.{lt-ltb, le-ltb, le-leb, lt-leb}
use Rattle.bits.specs.Bit.{has}
use Rattle.bits.proofs.Truth.{leb_not, both_true, never, is_no}
use Rattle.bits.proofs.BitLaws.{has_zero, has_high, has_not_word, one_shl}
use Rattle.marks.specs.Marks.{marked, marks_of, cut_out}
use Rattle.marks.proofs.MarkLaws.{at_word, unmarked_past}
use Rattle.marks.proofs.WordLaws.{marked_of, marked_past}

module _ (at i : ℕ) where
  -- the words of the places below i: the lowest of the 64, or all of them
  pub below_some : i - at < 64 → (j : ℕ) → has ((1 * 2 ^ (i - at)) % 2 ^ 64 - 1) j ≡ ltb (at + j) i
  below_some h j = ap (λ (w : ℕ). has (w - 1) j) (one_shl (i - at) h) ∙ go (dec_lt j (i - at))
    where
      go : Dec (j < i - at) → has (2 ^ (i - at) - 1) j ≡ ltb (at + j) i
      go (yes l) = ap (λ (w : ℕ). has w j) (omega arith) ∙ has_not_word (i - at) 0 j (pow_pos (i - at)) l ∙ ap not (has_zero j) ∙ sym (lt-ltb (at + j) i (omega arith))
      go (no l) = has_high (i - at) (2 ^ (i - at) - 1) j (omega (arith, pow_pos (i - at))) (omega arith) ∙ sym (le-ltb (at + j) i (omega arith))

  pub below_all : 64 ≤ i - at → (j : ℕ) → j < 64 → has (2 ^ 64 - 1) j ≡ ltb (at + j) i
  below_all h j l = has_not_word 64 0 j (omega arith) l ∙ ap not (has_zero j) ∙ sym (lt-ltb (at + j) i (omega arith))

-- below k and not below i: from i on and below k
pub from_on : (i k x : ℕ) → (ltb x k && not (ltb x i)) ≡ (leb i x && ltb x k)
from_on i k x = and_comm (ltb x k) (not (ltb x i)) ∙ ap (λ (t : Bool). t && ltb x k) (sym (leb_not i x))

-- bit j of word q is the mark of place q * 64 + j
word_mark : (ws : List ℕ) (q v j : ℕ) → j < 64 → v ≡ get_or ws q 0 → has v j ≡ marked ws (q * 64 + j)
word_mark ws q v j l e = ap (λ (w : ℕ). has w j) e ∙ sym (at_word ws (q * 64 + j) q j (omega arith) (omega arith))

-- so a cut word has the marks of its places
pub cut_mark : (ws : List ℕ) (q w v i k : ℕ) → v ≡ get_or ws q 0 → ((j : ℕ) → j < 64 → has w j ≡ (has v j && not (leb i (q * 64 + j) && ltb (q * 64 + j) k))) → (j : ℕ) → j < 64 → has w j ≡ cut_out (marked ws) i k (q * 64 + j)
unfolding cut_out
cut_mark ws q w v i k e bits j l = bits j l ∙ ap (λ (t : Bool). t && not (leb i (q * 64 + j) && ltb (q * 64 + j) k)) (word_mark ws q v j l e)

module _ (P : ℕ → Bool) (i k : ℕ) where
  -- outside the range all is as it was; inside it nothing is left
  pub cut_before : (j : ℕ) → j < i → cut_out P i k j ≡ P j
  unfolding cut_out
  cut_before j h = rw (lt-leb i j h) (and-true (P j))

  pub cut_after : (j : ℕ) → k ≤ j → cut_out P i k j ≡ P j
  unfolding cut_out
  cut_after j h = rw (le-ltb j k h, and-false (leb i j)) (and-true (P j))

  pub cut_gone : (j : ℕ) → i ≤ j → j < k → cut_out P i k j ≡ false
  unfolding cut_out
  cut_gone j h g = rw (le-leb i j h, lt-ltb j k g) (and-false (P j))

  pub cut_fewer : (j : ℕ) → cut_out P i k j ≡ true → P j ≡ true
  unfolding cut_out
  cut_fewer j h = (both_true (P j) (not (leb i j && ltb j k)) h).0

-- A RANGE CUT OUT OF MARKS is cut out of the places they mark
pub cut_marked : (ws : List ℕ) (i k : ℕ) → length ws ≡ 16 → marked (marks_of (cut_out (marked ws) i k)) ≡ cut_out (marked ws) i k
cut_marked ws i k l = fun_ext (λ j. go j (dec_lt j 1024))
  where
    past : (j : ℕ) → 1024 ≤ j → cut_out (marked ws) i k j ≡ false
    past j h = is_no (λ e. never (cut_fewer (marked ws) i k j e) (unmarked_past ws j (omega arith)))

    go : (j : ℕ) → Dec (j < 1024) → marked (marks_of (cut_out (marked ws) i k)) j ≡ cut_out (marked ws) i k j
    go j (yes h) = marked_of (cut_out (marked ws) i k) j h
    go j (no h) = marked_past (cut_out (marked ws) i k) j (omega arith) ∙ sym (past j (omega arith))

-- with no range cut out they mark what they did
pub copy_marked : (ws copy : List ℕ) → length ws ≡ 16 → copy ≡ marks_of (cut_out (marked ws) 0 0) → marked copy ≡ marked ws
copy_marked ws copy l e = ap marked e ∙ cut_marked ws 0 0 l ∙ fun_ext (λ j. cut_after (marked ws) 0 0 j (omega arith))
