-- Laws of the printed set's words: what is picked from the module is the printed set, and nothing is where A is B.
use mathlib.Core.Path.{◌≡◌, refl, sym, ap, ◌∙◌}
use mathlib.Core.Bool.{Bool, true, false}
use mathlib.Core.List.{List}
use Rattle.std.specs.Prelude.{Ok}
use Prim.Native.Nat.{ℕ, zero, suc, ◌+◌, ◌≤◌, ◌<◌}
use native.Mathlib.Decide.{dec_lt}
use native.Mathlib.Omega.{arith}
use lib.ListN.{length, replicate}
use Rattle.bits.specs.Bit.{row}
use Rattle.bits.specs.Lists.{listed}
use Rattle.bits.proofs.Truth.{never}
use Rattle.marks.specs.Marks.{marked, marks_of}
use Rattle.marks.proofs.WordLaws.{marks_length, marks_alike, marks_again}
use Rattle.pack.specs.Question.{counted}
use Rattle.pack.specs.Computed.{check_question}
use Rattle.pack.specs.Record.{lines_of}
use Rattle.pack.specs.World.{Follows}
use Rattle.pack.proofs.QuestionLaws.{asked, asked_valid}
use Rattle.passes.specs.Passes.{goal_at_end}
use Rattle.reasons.specs.Printed.{IsPicked, IsPrinted, without}
use Rattle.reasons.specs.Computed.{module_of, spared, picked, printed, set_marks}
use Rattle.reasons.specs.Reach.{IsModule}
use Rattle.reasons.proofs.PickLaws.{without_true}
use Rattle.reasons.proofs.PrintedLaws.{printed_is, printed_one}
use Rattle.reasons.proofs.InsideLaws.{inside_true, module_follows, inside_printed}
use Rattle.reasons.proofs.ModuleLaws.{none_past, marks_module, marks_past}
use Rattle.reasons.proofs.AskLaws.{fewer_taken}
use Rattle.reasons.proofs.FileLaws.{clear_marked}

-- deletion only takes away
module _ (D : (ℕ → Bool) → Bool) where
  spared_fewer : (c i : ℕ) (S : ℕ → Bool) (j : ℕ) → spared D c i S j ≡ true → S j ≡ true
  unfolding spared
  spared_fewer zero i S j h = h
  spared_fewer (suc c) i S j h = go (D (without S i)) h (spared_fewer c (i + 1) (without S i) j) (spared_fewer c (i + 1) S j)
    where
      go : (t : Bool) → (let left : ℕ → Bool = elim t [ true ↦ spared D c (i + 1) (without S i) | false ↦ spared D c (i + 1) S ] in left j ≡ true) → (spared D c (i + 1) (without S i) j ≡ true → without S i j ≡ true) → (spared D c (i + 1) S j ≡ true → S j ≡ true) → S j ≡ true
      go true g spare keep = (without_true S i j (spare g)).0
      go false g spare keep = keep g

-- clear words are those of no place
clear_words : replicate 16 0 ≡ marks_of (λ _. false)
unfolding marks_of listed row
clear_words = refl

module _ (n m : ℕ) (s ws : List ℕ) (a b : ℕ) {c : ℕ} (t : check_question n m s ws a b ≡ Ok c) (f : Follows (lines_of s) (counted s ws) a b) where
  pub printed_fewer : (i : ℕ) → printed (lines_of s) (counted s ws) n m a b i ≡ true → counted s ws i ≡ true
  unfolding printed picked
  printed_fewer = spared_fewer (λ P. goal_at_end (lines_of s) P n m a b) (length (lines_of s)) 0 (counted s ws)

  -- past the pack's end nothing is marked
  pub past_none : (P : ℕ → Bool) → ((i : ℕ) → P i ≡ true → counted s ws i ≡ true) → (i : ℕ) → length (lines_of s) ≤ i → P i ≡ false
  past_none P fewer i l = go (P i) refl
    where
      go : (v : Bool) → P i ≡ v → v ≡ false
      go true e = never (fewer i e) (none_past n m s ws a b t i l)
      go false e = refl

  -- WORDS THAT MARK A PRINTED SET are the words of the printed set
  set_words : (r : List ℕ) → r ≡ marks_of (marked r) → ((i : ℕ) → marked r i ≡ true → counted s ws i ≡ true) → IsPrinted (lines_of s) (counted s ws) a b (marked r) → r ≡ set_marks n m s ws a b
  set_words r e fewer p = e ∙ marks_alike (marked r) (printed (lines_of s) (counted s ws) n m a b) (λ i _. go i (dec_lt i (length (lines_of s))))
    where
      go : (i : ℕ) → Dec (i < length (lines_of s)) → marked r i ≡ printed (lines_of s) (counted s ws) n m a b i
      go i (yes l) =
          printed_one (lines_of s) (counted s ws) a b (marked r) p (printed (lines_of s) (counted s ws) n m a b)
          (printed_is (lines_of s) n m a b (asked_valid n m s ws a b t) (asked n m s ws a b t).pack.n_some (asked n m s ws a b t).goal_a (counted s ws) f) i l
      go i (no l) = past_none (marked r) fewer i (omega arith) ∙ sym (past_none (printed (lines_of s) (counted s ws) n m a b) printed_fewer i (omega arith))

  -- A EQUAL TO B: no record is needed
  pub same_words : a ≡ b → replicate 16 0 ≡ set_marks n m s ws a b
  same_words same =
      set_words (replicate 16 0) (marks_again (λ _. false) (replicate 16 0) clear_words) (λ i h. never h (clear_marked 16 i)) (record {
        within = λ i l h. never h (clear_marked 16 i);
        holds = λ w k o x l h. rw (← same) h;
        lacks = λ Q w g i d. clear_marked 16 i;
      })

  -- THE MODULE FIRST: it is taken, the goal follows from it, and what is picked from it is the printed set
  module _ (inside : List ℕ) (e : inside ≡ marks_of (module_of (lines_of s) (counted s ws) n m a)) where
    inside_module : IsModule (lines_of s) (counted s ws) a (marked inside)
    inside_module = rw e (marks_module n m s ws a b t)

    pub inside_fewer : (i : ℕ) → marked inside i ≡ true → counted s ws i ≡ true
    inside_fewer i h = go (dec_lt i (length (lines_of s)))
      where
        go : Dec (i < length (lines_of s)) → counted s ws i ≡ true
        go (yes l) = (inside_true (lines_of s) (counted s ws) inside_module.names i (sym (inside_module.places i l) ∙ h)).0
        go (no l) = never h (ap (λ (v : List ℕ). marked v i) e ∙ marks_past n m s ws a b t i (omega arith))

    pub inside_taken : check_question n m s inside a b ≡ Ok c
    inside_taken = fewer_taken n m s ws a b t inside (ap length e ∙ marks_length (module_of (lines_of s) (counted s ws) n m a)) inside_fewer

    pub inside_follows : Follows (lines_of s) (marked inside) a b
    inside_follows =
        (module_follows (lines_of s) (counted s ws) n m a b (asked_valid n m s ws a b t) (asked n m s ws a b t).pack.n_some (asked n m s ws a b t).goal_a (marked inside) inside_module).0 f

    pub inside_set : (r : List ℕ) → (r ≡ marks_of (marked r)) × ((i : ℕ) → marked r i ≡ true → marked inside i ≡ true) → IsPicked (length (lines_of s)) (λ P. Follows (lines_of s) P a b) (marked inside) (marked r) → r ≡ set_marks n m s ws a b
    inside_set r w p =
        set_words r w.0 (λ i h. inside_fewer i (w.1 i h))
        (inside_printed (lines_of s) (counted s ws) n m a b (asked_valid n m s ws a b t) (asked n m s ws a b t).pack.n_some (asked n m s ws a b t).goal_a (marked inside) inside_module (marked r) p)
