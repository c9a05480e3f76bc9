-- `take_reason`: with 16 words lent it is the question check of the marks (`reason_asked`), with any other number that of no words
-- (`out_unread`), and no question is taken without 16.
use mathlib.Core.Path.{◌≡◌, sym, ap, ◌∙◌}
use mathlib.Core.List.{List, []}
use Prim.Native.Nat.{ℕ}
use native.Mathlib.Omega.{arith}
use lib.ListN.{length}
use Rattle.std.specs.Prelude.{Result, Ok, Err, IfOk, IfErr}
use Rattle.pack.specs.declared.check.Refusal.{Refusal}
use Rattle.pack.specs.declared.taken.Taken.{Taken}
use Rattle.pack.specs.Computed.{check_question}
use Rattle.pack.proofs.QuestionLaws.{asked}
use Rattle.reasons.specs.Computed.{check_reason}
use Rattle.reasons.proofs.OutLaws.{reason_asked, out_unread}
use Rattle.reasons.proofs.out.take_reason.Goals as goal

refused : (n m : ℕ) (s ws ws' : List ℕ) (a b words : ℕ) → check_reason n m s ws a b words ≡ check_question n m s ws' a b
    → (r : Result Taken Refusal) → IfErr r (λ why. check_question n m s ws' a b ≡ Err why) → IfErr r (λ why. check_reason n m s ws a b words ≡ Err why)
refused n m s ws ws' a b words e (Ok t) h = h
refused n m s ws ws' a b words e (Err why) h = e ∙ h

-- of no words
none_taken : (n m : ℕ) (s : List ℕ) (a b : ℕ) (ws : List ℕ) (words : ℕ) (r : Result Taken Refusal)
    → IfOk r (λ t. (t.n ≡ n) × (t.m ≡ m) × (t.pack.now ≡ s) × (t.marks.now ≡ []) × (t.a ≡ a) × (t.b ≡ b))
    → IfOk r (λ t. (t.n ≡ n) × (t.m ≡ m) × (t.pack.now ≡ s) × (t.marks.now ≡ ws) × (t.a ≡ a) × (t.b ≡ b) × (words ≡ 16))
none_taken n m s a b ws words (Ok t) same = let six = (asked _ _ _ _ _ _ t.admitted).marks.sixteen in absurd (omega (arith, sym (ap length same.3) ∙ six))
none_taken n m s a b ws words (Err why) h = h

pub returns-then-words-eq16-clause-refused : goal.returns-then-words-eq16-clause-refused
returns-then-words-eq16-clause-refused c = refused _ _ _ _ _ _ _ _ (reason_asked _ _ _ _ _ _ _ c.if-words-eq16.true) _ c.take.ensures.refused

pub returns-clause-same : goal.returns-clause-same
returns-clause-same c = none_taken _ _ _ _ _ _ _ c.take-2.result c.take-2.ensures.same

pub returns-clause-refused : goal.returns-clause-refused
returns-clause-refused c = refused _ _ _ _ _ _ _ _ (out_unread _ _ _ _ _ _ _ c.if-words-eq16.false) _ c.take-2.ensures.refused
