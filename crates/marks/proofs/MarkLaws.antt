-- Laws of marks: place by place in the words, and word by word in the count and the search.
use mathlib.Core.Path.{◌≡◌, refl, sym, ap, ap₂, ◌∙◌}
use mathlib.Core.Bool.{true, false, not, ◌&&◌}
use mathlib.Core.List.{List, map}
use Rattle.std.specs.List.{fold, range_with_len}
use Prim.Native.Nat.{ℕ, zero, suc, ◌+◌, ◌-◌, ◌*◌, ◌/◌, ◌%◌, ◌≤◌, ◌<◌}
use native.Mathlib.Decide.{dec_lt}
use native.Mathlib.Omega.{arith}
use lib.Dec.{eqb, leb}
use lib.ListN.{length, get_or, get_or-eq_default}
use borrow.Author.Tests.{eqb-true, eq-eqb, le-leb, lt-leb, not-true}
use Rattle.bits.specs.Bit.{has}
use Rattle.bits.specs.Sets.{count_to, some}
use Rattle.bits.proofs.Truth.{both_true, true_both, and_no, never, is_no}
use Rattle.bits.proofs.BitLaws.{has_zero}
use Rattle.bits.proofs.FoundLaws.{Found, Missing}
use Rattle.bits.proofs.SetLaws.{true_some, some_false, count_add, count_same}
use Rattle.marks.specs.Marks.{marked, marks_fit}

module _ (ws : List ℕ) where
  -- bit j of word w
  pub at_word : (i w j : ℕ) → i / 64 ≡ w → i % 64 ≡ j → marked ws i ≡ has (get_or ws w 0) j
  unfolding marked
  at_word i w j q r = ap₂ (λ (a b : ℕ). has (get_or ws a 0) b) q r

  -- past the words nothing is marked
  pub unmarked_past : (i : ℕ) → length ws ≤ i / 64 → marked ws i ≡ false
  unfolding marked
  unmarked_past i h = ap (λ (w : ℕ). has w (i % 64)) (get_or-eq_default ws 0 h) ∙ has_zero (i % 64)

  -- the count, one word further
  pub count_word : (w : ℕ) → count_to (marked ws) (64 * (w + 1)) ≡ count_to (marked ws) (64 * w) + count_to (has (get_or ws w 0)) 64
  count_word w =
      let all : 64 * (w + 1) ≡ 64 * w + 64 = omega arith in
      omega (
        arith,
        ap (count_to (marked ws)) all,
        count_add (marked ws) (64 * w) 64,
        count_same (λ j. marked ws (64 * w + j)) (has (get_or ws w 0)) 64 (λ j l. at_word (64 * w + j) w j (omega arith) (omega arith)),
      )

  -- the words' counts, added up from word a on
  pub count_words : (a n k : ℕ) → k ≡ count_to (marked ws) (64 * a) → fold (λ s c. s + c) k (map (λ j. count_to (has (get_or ws j 0)) 64) (range_with_len a n)) ≡ count_to (marked ws) (64 * (a + n))
  count_words a zero k e = e ∙ ap (count_to (marked ws)) (omega arith)
  count_words a (suc n) k e = count_words (a + 1) n (k + count_to (has (get_or ws a 0)) 64) (omega (arith, e, count_word a)) ∙ ap (count_to (marked ws)) (omega arith)

  -- THE SEARCH WORD BY WORD: nothing from p on is marked in the words before k; in word k, from p on, a place is or none
  module _ {p : ℕ} (k : ℕ) (m : Missing (marked ws) p (k * 64)) {w i : ℕ} (e : w ≡ get_or ws k 0) (f : i ≡ p - k * 64) where
    clear : (q : ℕ) → p ≤ q → q < k * 64 + 64 → (k * 64 ≤ q → has w (q % 64) ≡ false) → marked ws q ≡ false
    clear q h l g = go (dec_lt q (k * 64))
      where
        go : Dec (q < k * 64) → marked ws q ≡ false
        go (yes b) = m.none q h b
        go (no b) = at_word q k (q % 64) (omega arith) refl ∙ ap (λ (v : ℕ). has v (q % 64)) (sym e) ∙ g (omega arith)

    pub word_missing : Missing (has w) i 64 → Missing (marked ws) p ((k + 1) * 64)
    word_missing n = record { none = λ q h l. clear q h (omega arith) (λ a. n.none (q % 64) (omega arith) (omega arith)) }

    pub word_found : {j : ℕ} → k < 16 → Found (has w) i 64 j → Found (marked ws) p 1024 (k * 64 + j)
    word_found {j} h n =
        let b = n.from in
        let t = n.there in
        record {
          from = omega arith;
          there = omega arith;
          here = at_word (k * 64 + j) k j (omega arith) (omega arith) ∙ ap (λ (v : ℕ). has v j) (sym e) ∙ n.here;
          before = λ q g l. clear q g (omega arith) (λ a. n.before (q % 64) (omega arith) (omega arith));
        }

  -- MARKS: 16 words, and no record at or above the count is marked
  pub record Fit (count : ℕ) : Type 0 where
    pub sixteen : length ws ≡ 16
    pub above : (i : ℕ) → count ≤ i → marked ws i ≡ false

  pub fit : {count : ℕ} → marks_fit ws count ≡ true → Fit count
  unfolding marks_fit
  fit {count} h =
      let a = both_true (eqb (length ws) 16) (not (some 1024 (λ i. leb count i && marked ws i))) h in
      let six : length ws ≡ 16 = eqb-true _ _ a.0 in
      record { sixteen = six; above = λ i l. go six (not-true (some 1024 (λ i. leb count i && marked ws i)) a.1) i l (dec_lt i 1024) }
    where
      go : length ws ≡ 16 → some 1024 (λ i. leb count i && marked ws i) ≡ false → (i : ℕ) → count ≤ i → Dec (i < 1024) → marked ws i ≡ false
      go six none i l (yes k) = is_no (λ e. never (true_some (λ i. leb count i && marked ws i) 1024 i k (true_both (leb count i) (marked ws i) (le-leb count i l) e)) none)
      go six none i l (no k) = unmarked_past i (omega arith)

  pub fits : {count : ℕ} → Fit count → marks_fit ws count ≡ true
  unfolding marks_fit
  fits {count} f = rw (eq-eqb (length ws) 16 f.sixteen, some_false (λ i. leb count i && marked ws i) 1024 (λ i _. go i (dec_lt i count)))
    where
      go : (i : ℕ) → Dec (i < count) → (leb count i && marked ws i) ≡ false
      go i (yes l) = rw (lt-leb count i l)
      go i (no l) = and_no (leb count i) (marked ws i) (f.above i (omega arith))
