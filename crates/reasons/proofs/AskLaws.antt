-- Laws of asking again: a question that is taken is taken with fewer marks, the answer is whether the goal follows, and so the turns of
-- picking come to the picked set.
use mathlib.Core.Path.{◌≡◌, sym, ap, ◌∙◌, subst}
use mathlib.Core.Bool.{Bool, true}
use mathlib.Core.List.{List}
use Rattle.std.specs.Prelude.{◌↔◌, Ok, IsTrue}
use Prim.Native.Nat.{ℕ, ◌+◌, ◌≤◌}
use native.Mathlib.Omega.{arith}
use lib.ListN.{length}
use Rattle.bits.proofs.FoundLaws.{Found, Missing}
use Rattle.marks.specs.Marks.{marked, marks_of, cut_out}
use Rattle.marks.proofs.WordLaws.{marks_length, marks_again}
use Rattle.marks.proofs.CutLaws.{cut_marked, cut_fewer, copy_marked}
use Rattle.pack.specs.Question.{counted}
use Rattle.pack.specs.Computed.{check_question}
use Rattle.pack.specs.Record.{lines_of}
use Rattle.pack.specs.World.{Follows}
use Rattle.pack.proofs.QuestionLaws.{asks_fewer, asked, asked_valid}
use Rattle.pack.proofs.RecordLaws.{lines_length}
use Rattle.passes.proofs.PassLaws.{decides}
use Rattle.engine.specs.Computed.{goal_held}
use Rattle.reasons.specs.Inner.{Next}
use Rattle.reasons.specs.Printed.{IsPicked}
use Rattle.reasons.proofs.PrintedLaws.{follows_more}
use Rattle.reasons.proofs.HalveLaws.{Halved, Rest, halved_start, halved_end, rest_on, rest_next}

module _ (n m : ℕ) (s ws : List ℕ) (a b : ℕ) {c : ℕ} (t : check_question n m s ws a b ≡ Ok c) where
  pub taken_sixteen : length ws ≡ 16
  taken_sixteen = (asked n m s ws a b t).marks.sixteen

  -- a pack has at most 1,024 records
  pub lines_most : length (lines_of s) ≤ 1024
  lines_most = omega (arith, lines_length s, (asked n m s ws a b t).pack.size)

  -- with fewer marks
  pub fewer_taken : (ws' : List ℕ) → length ws' ≡ 16 → ((i : ℕ) → marked ws' i ≡ true → marked ws i ≡ true) → check_question n m s ws' a b ≡ Ok c
  fewer_taken ws' l h = asks_fewer n m s ws a b t ws' l h

  module _ (i k : ℕ) (ws' : List ℕ) (e : ws' ≡ marks_of (cut_out (marked ws) i k)) where
    pub cut_same : marked ws' ≡ cut_out (marked ws) i k
    cut_same = ap marked e ∙ cut_marked ws i k taken_sixteen

    pub cut_taken : check_question n m s ws' a b ≡ Ok c
    cut_taken = fewer_taken ws' (ap length e ∙ marks_length (cut_out (marked ws) i k)) (λ j h. cut_fewer (marked ws) i k j (ap (λ (p : ℕ → Bool). p j) (sym cut_same) ∙ h))

-- WHAT THE ENGINE ANSWERS of a question that is taken is whether the goal follows
pub held_follows : (n m : ℕ) (s ws : List ℕ) (a b : ℕ) {c : ℕ} (t : check_question n m s ws a b ≡ Ok c) {r : Bool} → r ≡ goal_held n m s ws a b → IsTrue r ↔ Follows (lines_of s) (counted s ws) a b
unfolding goal_held
held_follows n m s ws a b t e =
    let q = asked n m s ws a b t in
    let d = decides (lines_of s) (counted s ws) n m (asked_valid n m s ws a b t) q.pack.n_some a b q.goal_a in
    (λ h. d.0 (sym e ∙ h), λ f. e ∙ d.1 f)

-- THE TURNS OF PICKING: of the marks given, those that are left, with the places below i settled
abbrev pub Picking : List ℕ → List ℕ → ℕ → ℕ → List ℕ → ℕ → Type 0
Picking s given a b rest i = Rest (length (lines_of s)) (λ P. Follows (lines_of s) P a b) (marked given) rest i

module _ (n m : ℕ) (s given : List ℕ) (a b : ℕ) {c : ℕ} (t : check_question n m s given a b ≡ Ok c) where
  abbrev len : ℕ
  len = length (lines_of s)

  abbrev F : (ℕ → Bool) → Type 0
  F P = Follows (lines_of s) P a b

  -- the marks copied
  pub pick_start : (rest : List ℕ) → rest ≡ marks_of (cut_out (marked given) 0 0) → Follows (lines_of s) (marked given) a b → Picking s given a b rest 0
  pick_start rest e f =
      let same : marked rest ≡ marked given = copy_marked given rest (taken_sixteen n m s given a b t) e in
      record {
        words = marks_again (cut_out (marked given) 0 0) rest e;
        halved = subst (λ (P : ℕ → Bool). Halved len F (marked given) P 0) (sym same) (halved_start len F (follows_more (lines_of s) a b) (marked given) f);
      }

  -- up to the next place that is left
  pub pick_on : {rest : List ℕ} {i k : ℕ} → Picking s given a b rest i → Found (marked rest) i 1024 k → Picking s given a b rest k
  pick_on {rest} {i} {k} p f = rest_on len F (follows_more (lines_of s) a b) (lines_most n m s given a b t) (marked given) rest i k p f.before

  -- a turn
  pub pick_next : (rest rest' : List ℕ) (i k : ℕ) → Picking s given a b rest i → Next (λ P. Follows (lines_of s) P a b) (marked rest) i k → rest' ≡ marks_of (cut_out (marked rest) i k) → Picking s given a b rest' (k + 1)
  pick_next rest rest' i k p x e = rest_next len F (follows_more (lines_of s) a b) (lines_most n m s given a b t) (marked given) rest i k p x rest' e

  -- all settled, what is left is picked
  pub pick_end : (rest : List ℕ) (i : ℕ) → 1024 ≤ i → Picking s given a b rest i → IsPicked (length (lines_of s)) (λ P. Follows (lines_of s) P a b) (marked given) (marked rest)
  pick_end rest i h p = halved_end len F (follows_more (lines_of s) a b) (marked given) (marked rest) i p.halved (omega (arith, lines_most n m s given a b t))

  pub pick_none : {rest : List ℕ} {i : ℕ} → Picking s given a b rest i → Missing (marked rest) i 1024 → IsPicked (length (lines_of s)) (λ P. Follows (lines_of s) P a b) (marked given) (marked rest)
  pick_none {rest} {i} p e = pick_end rest 1024 (omega arith) (rest_on len F (follows_more (lines_of s) a b) (lines_most n m s given a b t) (marked given) rest i 1024 p e.none)
