-- The no check gives what its rows say, and no second result satisfies its promise.
use mathlib.Core.Path.{◌≡◌, refl, sym, ap, ◌∙◌}
use mathlib.Core.Logic.{◌⊎◌, inl, inr}
use mathlib.Core.Bool.{Bool, true, false, cond, not, ◌&&◌}
use mathlib.Core.List.{List, ◌++◌}
use Prim.Native.Nat.{ℕ, ◌+◌, ◌*◌, ◌/◌, ◌%◌, ◌≤◌, ◌<◌}
use native.Mathlib.Nat.{mul_left_comm, mul-mod_left, mul-div_cancel, mul-lt-mul_of_pos_right, div-add-mod'}
use native.Mathlib.Decide.{dec_lt}
use native.Mathlib.Omega.{arith}
use lib.Dec.{eqb, ltb, leb}
use lib.ListN.{length}
use borrow.Author.Tests.{ltb-true, ltb-false, leb-true, eqb-true, ne_eqb, eq-eqb, le-leb, not-true, not-false}
use Rattle.std.specs.Prelude.{Result, Ok, Err}
use Rattle.bits.specs.Sets.{lowest}
use Rattle.bits.proofs.Promises.{no_second}
use Rattle.bits.proofs.SetLaws.{lowest_is, lowest_at}
use Rattle.bits.proofs.Truth.{both_true, true_both, never, is_no}
use Rattle.pack.specs.declared.check.Refusal.{Refusal}
use Rattle.pack.specs.declared.check.Refusal.TheVariants.{Sizes, Pack, Record, Marks, Goal}
use Rattle.pack.specs.declared.line.Line.{Line}
use Rattle.pack.specs.Question.{counted, question_rows, Taken}
use Rattle.pack.specs.Computed.{obeys, check_question, refusal_number, refusal_place}
use Rattle.pack.specs.Record.{lines_of, record_count}
use Rattle.pack.specs.Table.{Given}
use Rattle.pack.specs.World.{World, Is, line_at, ObeysLine, Obeys, Follows}
use Rattle.pack.proofs.GivenLaws.{given_same, lowest_here, lowest_none, given_after, given_zero, told, refusal_of}
use Rattle.pack.proofs.Promises.{question_numbered, question_given, taken_admitted}
use Rattle.pack.proofs.WorldLaws.{obeys_line, line_obeys}
use Rattle.no.specs.declared.check.NoError.{NoError}
use Rattle.no.specs.declared.check.NoError.TheVariants as no
use Rattle.no.specs.NoSheet.{rows_of, things_in, forbidden, world_of}
use Rattle.no.specs.Computed.{things_by, no_length_by, lowest_forbidden, lowest_broken, refutes, check_world, check_rows, check_no, no_number, no_place}
use Rattle.no.specs.Answers.{no_told, row_rows, GivesNo}
use Rattle.no.proofs.NoLaws.{rows_fit, refuting, refuted, broken_at, no_sound, world_accepts}

-- THE NUMBER OF THINGS by division is the one that is meant
module _ (m : ℕ) (sheet : List ℕ) where
  abbrev of : ℕ → Bool
  of k = eqb (length sheet) (8 * (k * (1 + m)))

  things_by_lem : no_length_by m sheet ≡ true → things_in m sheet ≡ things_by m sheet
  unfolding things_in
  things_by_lem h =
      let k = things_by m sheet in
      let p = both_true (eqb (length sheet % (8 * (1 + m))) 0) (leb 1 k && leb k 64) h in
      let q = both_true (leb 1 k) (leb k 64) p.1 in
      let low = leb-true 1 k q.0 in
      let high = leb-true k 64 q.1 in
      let rest = eqb-true (length sheet % (8 * (1 + m))) 0 p.0 in
      let whole : length sheet ≡ 8 * (k * (1 + m)) = omega (arith, div-add-mod' (length sheet) (8 * (1 + m)), mul_left_comm 8 k (1 + m)) in
      sym
      (lowest_at of
      (record {
        from = low;
        within = omega arith;
        none = λ j l less. ne_eqb (length sheet) (8 * (j * (1 + m))) (λ e. omega (arith, mul-lt-mul_of_pos_right {k = 1 + m} less (omega arith)));
        found = λ _. eq-eqb (length sheet) (8 * (k * (1 + m))) whole;
      }))

  things_none : no_length_by m sheet ≡ false → 64 < things_in m sheet
  unfolding things_in
  things_none h = go (dec_lt 64 (things_in m sheet))
    where
      go : Dec (64 < things_in m sheet) → 64 < things_in m sheet
      go (yes l) = l
      go (no l) =
          let k = lowest of 1 64 in
          let few : k ≤ 64 = omega (arith, l) in
          let f = lowest_is of 1 64 in
          let low = f.from in
          let found : length sheet ≡ 8 * (k * (1 + m)) = eqb-true (length sheet) (8 * (k * (1 + m))) (f.found (omega (arith, few))) in
          let whole : length sheet ≡ k * (8 * (1 + m)) = found ∙ mul_left_comm 8 k (1 + m) in
          let by : things_by m sheet ≡ k = ap (λ (l : ℕ). l / (8 * (1 + m))) whole ∙ mul-div_cancel k (omega arith) in
          let rest : length sheet % (8 * (1 + m)) ≡ 0 = ap (λ (l : ℕ). l % (8 * (1 + m))) whole ∙ mul-mod_left k (8 * (1 + m)) in
          never (true_both (eqb (length sheet % (8 * (1 + m))) 0) (leb 1 (things_by m sheet) && leb (things_by m sheet) 64) (eq-eqb _ _ rest)
          (true_both (leb 1 (things_by m sheet)) (leb (things_by m sheet) 64) (le-leb 1 (things_by m sheet) (omega arith)) (le-leb (things_by m sheet) 64 (omega arith)))) h

  things_few : no_length_by m sheet ≡ true → 64 < things_by m sheet → ⊥
  things_few h l = omega (arith, (rows_fit m sheet (refl, h)).0)

-- an answer is told by its number and place
pub no_told_by : (x y : Result (Unit {0}) NoError) → no_number x ≡ no_number y → no_place x ≡ no_place y → x ≡ y
unfolding refusal_of
no_told_by = told no_number no_place no_of back
  where
    no_of : ℕ → ℕ → Result (Unit {0}) NoError
    no_of k i =
        cond (eqb k 0) (Ok tt)
        (Err (cond (eqb k 9) no.Length (cond (eqb k 11) (no.Row i) (cond (eqb k 12) (no.Broken i) (cond (eqb k 13) no.NotShown (no.Refused (refusal_of k i)))))))

    back : (x : Result (Unit {0}) NoError) → no_of (no_number x) (no_place x) ≡ x
    back (Err (no.Refused Sizes)) = refl
    back (Err (no.Refused Pack)) = refl
    back (Err (no.Refused (Record i))) = refl
    back (Err (no.Refused Marks)) = refl
    back (Err (no.Refused Goal)) = refl
    back (Err no.Length) = refl
    back (Err (no.Row i)) = refl
    back (Err (no.Broken i)) = refl
    back (Err no.NotShown) = refl
    back (Ok _) = refl

module _ (n m : ℕ) (s ws : List ℕ) (a b : ℕ) (sheet : List ℕ) where
  abbrev accepted : ℕ → Type 0
  accepted value = (value ≡ 0) × (Follows (lines_of s) (counted s ws) a b → ⊥)

  -- THE NO CHECK GIVES WHAT ITS ROWS SAY
  pub no_given : GivesNo n m s ws a b sheet (no_number (check_no n m s ws a b sheet)) (no_place (check_no n m s ws a b sheet))
  unfolding check_no check_rows check_world lowest_forbidden lowest_broken
  no_given =
      given_after (Unit {0}) accepted (question_rows n m s ws a b) (row_rows n m (things_in m sheet) ls S a b sheet) (record_count s) question_numbered (check_question n m s ws a b) (question_given n m s ws a b)
      (λ why e. rw e (refl, refl, tt))
      (λ c e. rw e (go (no_length_by m sheet) (ltb row (rows_of m k)) (ltb place (length ls)) (refutes w a b) refl refl refl refl (λ h. no_sound n m s ws a b sheet (rw e h))))
    where
      S : ℕ → Bool
      S = counted s ws

      ls : List Line
      ls = lines_of s

      k : ℕ
      k = things_by m sheet

      w : World
      w = world_of k sheet

      row : ℕ
      row = lowest_forbidden n m k sheet

      place : ℕ
      place = lowest_broken w ls S

      Broken : ℕ → Type 0
      Broken i = (S i ≡ true) × (ObeysLine w (line_at ls i) → ⊥)

      to : (i : ℕ) → i < length ls → broken_at w ls S i ≡ true → Broken i
      to i _ h =
          let p = both_true (S i) (not (obeys w (line_at ls i))) h in
          (p.0, λ o. never (line_obeys w (line_at ls i) o) (not-true (obeys w (line_at ls i)) p.1))

      from : (i : ℕ) → i < length ls → Broken i → broken_at w ls S i ≡ true
      from i _ h = true_both (S i) (not (obeys w (line_at ls i))) h.0 (ap not (is_no (λ o. h.1 (obeys_line w (line_at ls i) o))))

      shown : (v : Bool) → refutes w a b ≡ v → let r = cond v (Ok tt) (Err no.NotShown) in (r ≡ Ok tt → Follows ls S a b → ⊥)
          → ((((x : ℕ) → x < k → Is w x a → Is w x b) × (no_number r ≡ 13) × (no_place r ≡ 0)) × Unit {0})
          ⊎ (((j v : ℕ) → ((x : ℕ) → x < k → Is w x a → Is w x b) × (j ≡ 13) × (v ≡ 0) → ⊥) × ((no_number r ≡ 0) × accepted (no_place r)))
      shown false e h = inl (((λ x l i. not-false (w.is_in x b) (is_no (λ q. never (refuted w a b x l i (not-true (w.is_in x b) q)) e))), refl, refl), tt)
      shown true e h = inr ((λ _ _ g. let t = refuting w a b e in never (g.0 t.0 t.1 t.2) t.3), (refl, (refl, h refl)))

      go : (p t u v : Bool) → no_length_by m sheet ≡ p → ltb row (rows_of m k) ≡ t → ltb place (length ls) ≡ u → refutes w a b ≡ v
          → let r = cond p (cond t (Err (no.Row row)) (cond u (Err (no.Broken place)) (cond v (Ok tt) (Err no.NotShown)))) (Err no.Length) in
          (r ≡ Ok tt → Follows ls S a b → ⊥) → Given (Unit {0}) (row_rows n m (things_in m sheet) ls S a b sheet) accepted (no_number r) (no_place r)
      go false t u v e f g h q = inl ((things_none m sheet e, refl, refl), tt)
      go true true u v e f g h q =
          rw (things_by_lem m sheet e)
          (inr ((λ _ _ d. things_few m sheet e d.0), inl (lowest_here (forbidden n k sheet) (λ i. forbidden n k sheet i ≡ true) (rows_of m k) (λ i _ q. q) (λ i _ q. q) 11 (ltb-true row (rows_of m k) f), tt)))
      go true false true v e f g h q =
          rw (things_by_lem m sheet e)
          (inr (
            (λ _ _ d. things_few m sheet e d.0),
            inr (
              lowest_none (forbidden n k sheet) (λ i. forbidden n k sheet i ≡ true) (rows_of m k) (λ i _ q. q) (λ i _ q. q) (ltb-false row (rows_of m k) f),
              inl (lowest_here (broken_at w ls S) Broken (length ls) to from 12 (ltb-true place (length ls) g), tt),
            ),
          ))
      go true false false v e f g h q =
          rw (things_by_lem m sheet e)
          (inr (
            (λ _ _ d. things_few m sheet e d.0),
            inr (
              lowest_none (forbidden n k sheet) (λ i. forbidden n k sheet i ≡ true) (rows_of m k) (λ i _ q. q) (λ i _ q. q) (ltb-false row (rows_of m k) f),
              inr (lowest_none (broken_at w ls S) Broken (length ls) to from (ltb-false place (length ls) g), shown v h q),
            ),
          ))

  pub no_refused : {why : Refusal} → check_question n m s ws a b ≡ Err why → GivesNo n m s ws a b sheet (refusal_number why) (refusal_place why)
  unfolding check_no
  no_refused e = rw e at no_given

  pub no_told_lem : {r : Result (Unit {0}) NoError} → r ≡ check_no n m s ws a b sheet → GivesNo n m s ws a b sheet (no_number r) (no_place r)
  no_told_lem e = rw e no_given

  -- one number and one value are given
  pub no_same : {k v k' v' : ℕ} → GivesNo n m s ws a b sheet k v → GivesNo n m s ws a b sheet k' v' → (k ≡ k') × (v ≡ v')
  no_same = given_same (Unit {0}) accepted (question_rows n m s ws a b ++ row_rows n m (things_in m sheet) (lines_of s) (counted s ws) a b sheet) (λ x y g h. no_second g.0 h.0)

  -- NO SECOND RESULT
  pub no_fixed : (r r' : Result (Unit {0}) NoError) → GivesNo n m s ws a b sheet (no_told r).0 (no_told r).1 → GivesNo n m s ws a b sheet (no_told r').0 (no_told r').1 → r ≡ r'
  no_fixed r r' p q = let e = no_same p q in no_told_by r r' e.0 e.1

  -- AN ACCEPTED SHEET IS RIGHT: the goal does not follow from the records that count
  pub no_right : {v : ℕ} → GivesNo n m s ws a b sheet 0 v → Follows (lines_of s) (counted s ws) a b → ⊥
  no_right g =
      (given_zero (Unit {0}) accepted (question_rows n m s ws a b ++ row_rows n m (things_in m sheet) (lines_of s) (counted s ws) a b sheet)
      (omega arith, (omega arith, (omega arith, (omega arith, (omega arith, (omega arith, (omega arith, (omega arith, (omega arith, tt))))))))) g
      ).1

  -- EVERY SHEET OF A WORLD THAT OBEYS AND REFUTES THE GOAL IS ACCEPTED
  pub no_accepts : Taken n m s ws a b → things_in m sheet ≤ 64 → ((i : ℕ) → i < rows_of m (things_in m sheet) → forbidden n (things_in m sheet) sheet i ≡ false)
      → Obeys (world_of (things_in m sheet) sheet) (lines_of s) (counted s ws)
      → (x : ℕ) → x < things_in m sheet → Is (world_of (things_in m sheet) sheet) x a → (world_of (things_in m sheet) sheet).is_in x b ≡ false → GivesNo n m s ws a b sheet 0 0
  no_accepts t few clean o x l i q = by (no_length_by m sheet) refl
    where
      by : (fit : Bool) → no_length_by m sheet ≡ fit → GivesNo n m s ws a b sheet 0 0
      by false e = absurd (omega (arith, things_none m sheet e))
      by true e =
          let k = things_by_lem m sheet e in
          no_told_lem {r = Ok tt}
          (sym (world_accepts n m s ws a b sheet (taken_admitted n m s ws a b t).1 e (rw k at clean) (rw k at o) x (rw k at l) i q))
