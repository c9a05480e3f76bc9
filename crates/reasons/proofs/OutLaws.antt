-- Laws of the question check with out marks: where it takes the question there are 16 words, and else MARKS comes before GOAL.
use mathlib.Core.Path.{◌≡◌, refl, sym, ap, ◌∙◌}
use mathlib.Core.Bool.{Bool, true, false, ◌&&◌, and-true}
use mathlib.Core.List.{List, []}
use Rattle.std.specs.Prelude.{Ok}
use Prim.Native.Nat.{ℕ}
use native.Mathlib.Omega.{arith}
use lib.Dec.{eqb}
use borrow.Author.Tests.{eqb-true, eqb-false, eq-eqb, ne_eqb}
use Rattle.bits.proofs.Truth.{and_no}
use Rattle.marks.specs.Marks.{marks_fit}
use Rattle.pack.specs.Computed.{check_pack, after_pack, check_question}
use Rattle.pack.specs.Record.{record_count}
use Rattle.pack.proofs.QuestionLaws.{asked}
use Rattle.reasons.specs.Computed.{check_reason}

module _ (n m : ℕ) (s ws : List ℕ) (a b words : ℕ) where
  -- 16 words: the question of the marks in alone
  pub reason_asked : words ≡ 16 → check_reason n m s ws a b words ≡ check_question n m s ws a b
  unfolding check_reason check_question
  reason_asked e = ap (λ (fit : Bool). after_pack (check_pack n m s) n fit a b) (rw (eq-eqb words 16 e) (and-true (marks_fit ws (record_count s))))

  -- marks in or out that cannot fit: as if there were no marks in
  pub reason_unread : (marks_fit ws (record_count s) && eqb words 16) ≡ false → check_reason n m s ws a b words ≡ check_question n m s [] a b
  unfolding check_reason check_question marks_fit
  reason_unread h = ap (λ (fit : Bool). after_pack (check_pack n m s) n fit a b) h

  -- OTHER THAN 16 WORDS are refused as marks, where the pack is taken
  pub out_unread : (words ≡ 16 → ⊥) → check_reason n m s ws a b words ≡ check_question n m s [] a b
  out_unread d = reason_unread (and_no (marks_fit ws (record_count s)) (eqb words 16) (ne_eqb words 16 d))

  -- WHERE A QUESTION IS TAKEN there are 16 words, and it is the question of the marks in alone
  pub reason_taken : {k : ℕ} → check_reason n m s ws a b words ≡ Ok k → (words ≡ 16) × (check_question n m s ws a b ≡ Ok k)
  reason_taken {k} h = go (eqb words 16) refl
    where
      go : (t : Bool) → eqb words 16 ≡ t → (words ≡ 16) × (check_question n m s ws a b ≡ Ok k)
      go true e = let w : words ≡ 16 = eqb-true words 16 e in (w, sym (reason_asked w) ∙ h)
      go false e = let six = (asked n m s [] a b (sym (out_unread (eqb-false words 16 e)) ∙ h)).marks.sixteen in absurd (omega arith)
