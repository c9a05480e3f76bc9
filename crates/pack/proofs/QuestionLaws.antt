-- Laws of the question check: a question is taken exactly when it has a good pack, marks that fit and a goal below n.
use mathlib.Core.Path.{◌≡◌, refl}
use mathlib.Core.Bool.{true}
use mathlib.Core.List.{List}
use Prim.Native.Nat.{ℕ, ◌<◌}
use lib.Dec.{ltb}
use lib.ListN.{length}
use borrow.Author.Tests.{ltb-true, lt-ltb}
use Rattle.std.specs.Prelude.{Result, Ok, Err}
use Rattle.pack.specs.declared.check.Refusal.{Refusal}
use Rattle.bits.proofs.Truth.{both_true, never, is_no, clash, cond_first}
use Rattle.marks.specs.Marks.{marks_fit, marked}
use Rattle.marks.proofs.MarkLaws.{Fit, fit, fits}
use Rattle.pack.specs.Computed.{check_pack, after_pack, check_question}
use Rattle.pack.specs.Question.{goal_fits}
use Rattle.pack.specs.Record.{lines_of, record_count, Valid}
use Rattle.pack.proofs.RecordLaws.{lines_valid}
use Rattle.pack.proofs.PackLaws.{Accepted, accepted, accepts}

pub record Asked (n m : ℕ) (s ws : List ℕ) (a b k : ℕ) : Type 0 where
  pub pack : Accepted n m s k
  pub marks : Fit ws k
  pub goal_a : a < n
  pub goal_b : b < n

-- A QUESTION THAT IS TAKEN keeps every rule of numbers 1 to 5
pub asked : (n m : ℕ) (s ws : List ℕ) (a b : ℕ) {k : ℕ} → check_question n m s ws a b ≡ Ok k → Asked n m s ws a b k
unfolding check_question
asked n m s ws a b {k} = after (check_pack n m s) refl
  where
    after : (r : Result ℕ Refusal) → check_pack n m s ≡ r → after_pack r n (marks_fit ws (record_count s)) a b ≡ Ok k → Asked n m s ws a b k
    after (Err why) e h = clash cc
    after (Ok j) e h =
        let f = cond_first (marks_fit ws (record_count s)) h (λ q. clash cc) in
        let g = cond_first (goal_fits n a b) f.1 (λ q. clash cc) in
        let counts = g.1 in
        let same : j ≡ k = cc in
        let p = both_true (ltb a n) (ltb b n) g.0 in
        rw (← same)
        (record {
          pack = accepted n m s e;
          marks = rw (accepted n m s e).count (fit ws f.0);
          goal_a = ltb-true a n p.0;
          goal_b = ltb-true b n p.1;
        })

-- so its lines are valid
pub asked_valid : (n m : ℕ) (s ws : List ℕ) (a b : ℕ) {k : ℕ} → check_question n m s ws a b ≡ Ok k → Valid n m (lines_of s)
asked_valid n m s ws a b h = lines_valid n m s (asked n m s ws a b h).pack.all

-- AND ONE THAT KEEPS THEM IS TAKEN
pub asks : (n m : ℕ) (s ws : List ℕ) (a b : ℕ) {k : ℕ} → Asked n m s ws a b k → check_question n m s ws a b ≡ Ok k
unfolding check_question
asks n m s ws a b {k} q =
    rw (accepts n m s q.pack, ← q.pack.count, fits ws q.marks, lt-ltb a n q.goal_a, lt-ltb b n q.goal_b)

-- so it is taken with fewer marks too
pub asks_fewer : (n m : ℕ) (s ws : List ℕ) (a b : ℕ) {k : ℕ} → check_question n m s ws a b ≡ Ok k → (ws' : List ℕ) → length ws' ≡ 16 → ((i : ℕ) → marked ws' i ≡ true → marked ws i ≡ true) → check_question n m s ws' a b ≡ Ok k
asks_fewer n m s ws a b {k} h ws' l fewer =
    let q = asked n m s ws a b h in
    asks n m s ws' a b (record { pack = q.pack; marks = record { sixteen = l; above = λ i g. is_no (λ f. never (fewer i f) (q.marks.above i g)) }; goal_a = q.goal_a; goal_b = q.goal_b })
