-- A question that the verdict does not refuse is taken, also as a question about its first concept; 1 is given where the goal follows, 0 where it does not.
use mathlib.Core.Path.{◌≡◌, refl}
use mathlib.Core.List.{List}
use Prim.Native.Nat.{ℕ}
use native.Mathlib.Omega.{arith}
use Rattle.pack.specs.declared.check.Refusal.{Refusal}
use Rattle.pack.specs.declared.check.Refusal.TheVariants.{Sizes, Pack, Record, Marks, Goal}
use Rattle.std.proofs.Common.{Result, Ok, Err}
use Rattle.pack.specs.declared.question.Question.{Question}
use Rattle.pack.specs.Computed.{check_question, Admitted, refusal_number}
use Rattle.pack.specs.Question.{counted, Taken}
use Rattle.pack.specs.Record.{lines_of, record_count}
use Rattle.pack.specs.World.{Follows}
use Rattle.pack.proofs.Promises.{question_given}
use Rattle.pack.proofs.QuestionLaws.{asked, asks}
use Rattle.engine.specs.declared.answer.Verdict.{Verdict}
use Rattle.engine.specs.declared.answer.VerdictError.{VerdictError}
use Rattle.engine.specs.Verdict.{verdict_told, GivesVerdict}
use Rattle.engine.proofs.Promises.{verdict_same, verdict_refused, verdict_right}

-- no refusal has the number 0
not_zero : (why : Refusal) → 0 ≡ refusal_number why → ⊥
not_zero Sizes e = omega arith
not_zero Pack e = omega arith
not_zero (Record i) e = omega arith
not_zero Marks e = omega arith
not_zero Goal e = omega arith

admitted_taken : (n m : ℕ) (s ws : List ℕ) (a b : ℕ) → Admitted n m s ws a b → Taken n m s ws a b
admitted_taken n m s ws a b (k, e) =
    let counted : check_question n m s ws a b ≡ Ok (record_count s) = rw (asked n m s ws a b e).pack.count at e in
    rw counted at (question_given n m s ws a b)

-- what is given with a verdict, by its name
pub given_as : (q : Question) (x : Result Verdict VerdictError) {r : Result Verdict VerdictError} → r ≡ x → GivesVerdict q.n q.m q.pack.now q.marks.now q.a q.b (verdict_told r).0 (verdict_told r).1 → GivesVerdict q.n q.m q.pack.now q.marks.now q.a q.b (verdict_told x).0 (verdict_told x).1
given_as q x e g = rw e at g

module _ (q : Question) {v : ℕ} (g : GivesVerdict q.n q.m q.pack.now q.marks.now q.a q.b 0 v) where
  admitted : Admitted q.n q.m q.pack.now q.marks.now q.a q.b
  admitted = go (check_question q.n q.m q.pack.now q.marks.now q.a q.b) refl
    where
      go : (r : Result ℕ Refusal) → check_question q.n q.m q.pack.now q.marks.now q.a q.b ≡ r → Admitted q.n q.m q.pack.now q.marks.now q.a q.b
      go (Err why) e = absurd (not_zero why (verdict_same q.n q.m q.pack.now q.marks.now q.a q.b g (verdict_refused q.n q.m q.pack.now q.marks.now q.a q.b e)).0)
      go (Ok k) e = (k, e)

  pub given_taken : Taken q.n q.m q.pack.now q.marks.now q.a q.b
  given_taken = admitted_taken q.n q.m q.pack.now q.marks.now q.a q.b admitted

  pub given_taken_first : Taken q.n q.m q.pack.now q.marks.now q.a q.a
  given_taken_first =
      let r = asked q.n q.m q.pack.now q.marks.now q.a q.b admitted.1 in
      admitted_taken q.n q.m q.pack.now q.marks.now q.a q.a (admitted.0, asks q.n q.m q.pack.now q.marks.now q.a q.a (record { pack = r.pack; marks = r.marks; goal_a = r.goal_a; goal_b = r.goal_a }))

  pub given_follows : v ≡ 1 → Follows (lines_of q.pack.now) (counted q.pack.now q.marks.now) q.a q.b
  given_follows = (verdict_right q.n q.m q.pack.now q.marks.now q.a q.b given_taken g).1.0

  pub given_not : v ≡ 0 → Follows (lines_of q.pack.now) (counted q.pack.now q.marks.now) q.a q.b → ⊥
  given_not = (verdict_right q.n q.m q.pack.now q.marks.now q.a q.b given_taken g).2.0
