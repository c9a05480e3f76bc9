-- The two checks give what their rows say, and no second result satisfies the promise of a public call.
use mathlib.Core.Path.{◌≡◌, refl, sym, ap, ◌∙◌}
use mathlib.Core.Logic.{inl, inr}
use mathlib.Core.Bool.{Bool, true, false, cond, not}
use mathlib.Core.List.{List, [], ◌∷◌}
use Prim.Native.Nat.{ℕ, ◌<◌}
use native.Mathlib.Omega.{arith}
use lib.Dec.{ltb}
use borrow.Author.Tests.{ltb-true, ltb-false, not-true}
use Rattle.std.specs.Prelude.{Result, Ok, Err}
use Rattle.bits.proofs.Promises.{no_second}
use Rattle.marks.specs.Marks.{marks_fit}
use Rattle.pack.specs.declared.check.Refusal.{Refusal}
use Rattle.pack.specs.declared.check.Refusal.TheVariants.{Sizes, Pack, Record, Marks, Goal}
use Rattle.pack.specs.Record.{keeps_at, record_count}
use Rattle.pack.specs.Table.{refuse, Given}
use Rattle.pack.specs.Pack.{sizes_fit, length_fits, pack_rows, GivesPack}
use Rattle.pack.specs.Question.{goal_fits, asked_rows, GivesQuestion, Taken}
use Rattle.pack.specs.Computed.{lowest_unkept, check_records, check_pack, check_counted, after_pack, check_question, Admitted, refusal_number, refusal_place, checked_number, checked_value}
use Rattle.pack.proofs.GivenLaws.{given_same, passes, lowest_here, lowest_none, given_after, checked_told_lem}
use Rattle.pack.proofs.PackLaws.{accepted}
use Rattle.pack.proofs.QuestionLaws.{asked}
use Rattle.pack.specs.Answers.{checked_told}

-- THE PACK CHECK
module _ (n m : ℕ) (s : List ℕ) where
  pub pack_given : GivesPack n m s (checked_number (check_pack n m s)) (checked_value (check_pack n m s))
  unfolding check_pack check_records
  pack_given = go (sizes_fit n m) (length_fits s) (ltb k c) refl refl refl
    where
      c : ℕ
      c = record_count s

      k : ℕ
      k = lowest_unkept n m s

      unkept : ℕ → Bool
      unkept i = not (keeps_at n m s i)

      go : (p q t : Bool) → sizes_fit n m ≡ p → length_fits s ≡ q → ltb k c ≡ t
          → let r = cond p (cond q (cond t (Err (Record k)) (Ok c)) (Err Pack)) (Err Sizes) in GivesPack n m s (checked_number r) (checked_value r)
      go false q t e f g = inl ((e, refl, refl), tt)
      go true false t e f g = inr (passes e, inl ((f, refl, refl), tt))
      go true true true e f g =
          inr (passes e, inr (passes f, inl (lowest_here unkept (λ i. keeps_at n m s i ≡ false) c (λ i _ h. not-true (keeps_at n m s i) h) (λ i _ h. ap not h) 3 (ltb-true k c g), tt)))
      go true true false e f g =
          inr (passes e, inr (passes f, inr (lowest_none unkept (λ i. keeps_at n m s i ≡ false) c (λ i _ h. not-true (keeps_at n m s i) h) (λ i _ h. ap not h) (ltb-false k c g), (refl, refl))))

  pub pack_told : {r : Result ℕ Refusal} → r ≡ check_pack n m s → GivesPack n m s (checked_number r) (checked_value r)
  pack_told e = rw e pack_given

  -- NO SECOND RESULT
  pub check_pack_fixed : (r r' : Result ℕ Refusal) → GivesPack n m s (checked_told r).0 (checked_told r).1 → GivesPack n m s (checked_told r').0 (checked_told r').1 → r ≡ r'
  check_pack_fixed r r' p q = let e = given_same (Unit {0}) (λ value. value ≡ record_count s) (pack_rows n m s) (λ x y. no_second) p q in checked_told_lem r r' e.0 e.1

  pub pack_is : {r : Result ℕ Refusal} → GivesPack n m s (checked_number r) (checked_value r) → r ≡ check_pack n m s
  pack_is {r} p = check_pack_fixed r (check_pack n m s) p pack_given

-- THE QUESTION CHECK, where the marks fit or do not
module _ (n m : ℕ) (s : List ℕ) (fit : Bool) (a b : ℕ) where
  pub asked_given : let r = after_pack (check_pack n m s) n fit a b in Given (Unit {0}) (asked_rows n m s fit a b) (λ value. value ≡ record_count s) (checked_number r) (checked_value r)
  asked_given =
      given_after (Unit {0}) (λ value. value ≡ record_count s) (pack_rows n m s) (refuse 4 (fit ≡ false) ∷ refuse 5 (goal_fits n a b ≡ false) ∷ []) (record_count s) (omega arith, (omega arith, (omega arith, tt))) (check_pack n m s) (pack_given n m s)
      (λ why e. rw e (refl, refl, tt))
      (λ k e. rw e (go fit (goal_fits n a b) refl refl k (accepted n m s e).count))
    where
      go : (u v : Bool) → fit ≡ u → goal_fits n a b ≡ v → (k : ℕ) → k ≡ record_count s → let r = cond u (cond v (Ok k) (Err Goal)) (Err Marks) in
          Given (Unit {0}) (refuse 4 (fit ≡ false) ∷ refuse 5 (goal_fits n a b ≡ false) ∷ []) (λ value. value ≡ record_count s) (checked_number r) (checked_value r)
      go false v e f k h = inl ((e, refl, refl), tt)
      go true false e f k h = inr (passes e, inl ((f, refl, refl), tt))
      go true true e f k h = inr (passes e, inr (passes f, (refl, h)))

  pub asked_is : {r : Result ℕ Refusal} → Given (Unit {0}) (asked_rows n m s fit a b) (λ value. value ≡ record_count s) (checked_number r) (checked_value r) → r ≡ after_pack (check_pack n m s) n fit a b
  asked_is {r} p = let e = given_same (Unit {0}) (λ value. value ≡ record_count s) (asked_rows n m s fit a b) (λ x y. no_second) p asked_given in checked_told_lem r _ e.0 e.1

-- the question's rows have numbers of the table
abbrev pub QuestionNumbered : Type 0
QuestionNumbered = (0 < 1) × ((0 < 2) × ((0 < 3) × ((0 < 4) × ((0 < 5) × Unit {0}))))

pub question_numbered : QuestionNumbered
question_numbered = (omega arith, (omega arith, (omega arith, (omega arith, (omega arith, tt)))))

module _ (n m : ℕ) (s ws : List ℕ) (a b : ℕ) where
  pub question_given : GivesQuestion n m s ws a b (checked_number (check_question n m s ws a b)) (checked_value (check_question n m s ws a b))
  unfolding check_question
  question_given = asked_given n m s (marks_fit ws (record_count s)) a b

  -- after the pack check: its refusal, or what the marks and the goal give
  pub question_refused : {why : Refusal} → check_pack n m s ≡ Err why → GivesQuestion n m s ws a b (refusal_number why) (refusal_place why)
  unfolding check_question
  question_refused {why} e = rw e at question_given

  pub question_counted : {k : ℕ} {r : Result ℕ Refusal} → check_pack n m s ≡ Ok k → r ≡ check_counted n k (marks_fit ws k) a b → GivesQuestion n m s ws a b (checked_number r) (checked_value r)
  unfolding check_question
  question_counted {k} {r} e f =
      let count = (accepted n m s e).count in
      let same : r ≡ check_question n m s ws a b = rw (e, ← count) f in
      rw same question_given

  pub question_is : {r : Result ℕ Refusal} → GivesQuestion n m s ws a b (checked_number r) (checked_value r) → r ≡ check_question n m s ws a b
  unfolding check_question
  question_is = asked_is n m s (marks_fit ws (record_count s)) a b

  -- where it counts, it counts the records
  pub question_taken : {r : Result ℕ Refusal} {k : ℕ} → GivesQuestion n m s ws a b (checked_number r) (checked_value r) → r ≡ Ok k → check_question n m s ws a b ≡ Ok (record_count s)
  question_taken p e = let h = sym (question_is p) ∙ e in rw (asked n m s ws a b h).pack.count at h

  -- NO SECOND RESULT
  pub check_question_fixed : (r r' : Result ℕ Refusal) → GivesQuestion n m s ws a b (checked_told r).0 (checked_told r).1 → GivesQuestion n m s ws a b (checked_told r').0 (checked_told r').1 → r ≡ r'
  check_question_fixed r r' p q = no_second (question_is p) (question_is q)

  -- A QUESTION IS TAKEN exactly where the check counts
  pub taken_admitted : Taken n m s ws a b → Admitted n m s ws a b
  taken_admitted t = (record_count s, sym (question_is {r = Ok (record_count s)} t))

pub goal_fits_fixed : (n a b : ℕ) (r r' : Bool) → r ≡ goal_fits n a b → r' ≡ goal_fits n a b → r ≡ r'
goal_fits_fixed n a b r r' = no_second
