-- The module call and the set call give what their rows say and leave the words of the set that is meant; nothing else keeps their promises.
use mathlib.Core.Path.{◌≡◌, refl, sym, ap, ◌∙◌}
use mathlib.Core.Logic.{inl, inr, ⊎_elim}
use mathlib.Core.Bool.{Bool, true, cond, ◌&&◌}
use mathlib.Core.List.{List, [], ◌∷◌}
use Prim.Native.Nat.{ℕ, ◌<◌}
use native.Mathlib.Decide.{dec_lt}
use native.Mathlib.Omega.{arith}
use lib.Dec.{eqb}
use lib.ListN.{length}
use Rattle.bits.proofs.Truth.{clash}
use Rattle.marks.specs.Marks.{mark_count, marks_fit}
use Rattle.marks.proofs.WordLaws.{marks_alike}
use Rattle.pack.specs.declared.check.Refusal.{Refusal}
use Rattle.pack.specs.declared.check.Refusal.TheVariants.{Sizes, Pack, Record, Marks, Goal}
use Rattle.std.specs.Prelude.{Result, Ok, Err}
use Rattle.pack.specs.Computed.{refusal_number, refusal_place, checked_number, checked_value}
use Rattle.pack.specs.Question.{counted, Taken}
use Rattle.pack.specs.Record.{lines_of, record_count}
use Rattle.pack.specs.Table.{Row, refuse, Given}
use Rattle.pack.specs.World.{Follows}
use Rattle.pack.proofs.GivenLaws.{given_one, given_zero, given_after, told, checked_told_lem, refusal_of}
use Rattle.pack.proofs.Promises.{question_numbered, asked_given, taken_admitted}
use Rattle.pack.proofs.QuestionLaws.{asked, asked_valid}
use Rattle.pack.proofs.RecordLaws.{lines_length}
use Rattle.passes.specs.Passes.{finished}
use Rattle.engine.proofs.VerdictLaws.{finished_few}
use Rattle.reasons.specs.declared.set.SetError.{SetError}
use Rattle.reasons.specs.declared.set.SetError.TheVariants as refused
use Rattle.reasons.specs.Printed.{IsPrinted, without}
use Rattle.reasons.specs.Reach.{IsModule}
use Rattle.reasons.specs.OutMarks.{reason_rows, MarksThe}
use Rattle.reasons.specs.Module.{MarksModule, GivesModule}
use Rattle.reasons.specs.Set.{set_told, MarksSet, set_rows, GivesSet}
use Rattle.reasons.specs.Computed.{module_of, module_marks, printed, set_marks, check_reason, set_number, set_value}
use Rattle.reasons.specs.Inner.{SetTaken}
use Rattle.reasons.proofs.OutLaws.{reason_asked, reason_taken}
use Rattle.reasons.proofs.ReachLaws.{module_is, module_one}
use Rattle.reasons.proofs.ModuleLaws.{asked_of, lines_right, module_past}
use Rattle.reasons.proofs.PrintedLaws.{printed_is, printed_one, printed_needs}
use Rattle.reasons.proofs.AnswerLaws.{printed_fewer, past_none}
use Rattle.pack.specs.Answers.{checked_told}

-- WORDS OF ONE SET: where one set at most is meant, up to the records' end, the words and the count are one
module _ (meant : (ℕ → Bool) → Type 0) (s : List ℕ) (one : (P Q : ℕ → Bool) → meant P → meant Q → (i : ℕ) → i < length (lines_of s) → P i ≡ Q i) where
  pub marks_one : {k k' : ℕ} {w w' : List ℕ} → MarksThe meant s k w → MarksThe meant s k' w' → (k ≡ k') × (w ≡ w')
  marks_one {k} {k'} {w} {w'} p q = (p.count ∙ ap mark_count same ∙ sym q.count, same)
    where
      at : (i : ℕ) → Dec (i < length (lines_of s)) → p.places i ≡ q.places i
      at i (yes l) = one p.places q.places p.is q.is i l
      at i (no l) = p.past i (omega (arith, lines_length s)) ∙ sym (q.past i (omega (arith, lines_length s)))

      same : w ≡ w'
      same = p.are ∙ marks_alike p.places q.places (λ i _. at i (dec_lt i (length (lines_of s)))) ∙ sym q.are

-- the rows of a call with out marks, where they are 16 words or not
reason_given : (n m : ℕ) (s ws : List ℕ) (a b words : ℕ) → let r = check_reason n m s ws a b words in Given (Unit {0}) (reason_rows n m s ws a b (eqb words 16)) (λ value. value ≡ record_count s) (checked_number r) (checked_value r)
unfolding check_reason
reason_given n m s ws a b words = asked_given n m s (marks_fit ws (record_count s) && eqb words 16) a b

-- THE MODULE CALL
module _ (n m : ℕ) (s ws : List ℕ) (a : ℕ) (out : List ℕ) where
  -- refused, with the out marks as they were; or taken, with words that mark the module
  pub module_refused : {why : Refusal} → check_reason n m s ws a a (length out) ≡ Err why → GivesModule n m s ws a out out (refusal_number why) (refusal_place why)
  module_refused {why} e =
      given_after (out ≡ out) (λ value. MarksModule s ws a value out) {k = refusal_number why} {v = refusal_place why} (reason_rows n m s ws a a (eqb (length out) 16)) [] (record_count s) question_numbered (Err why)
      (rw e at (reason_given n m s ws a a (length out)))
      (λ w h. let same : why ≡ w = cc in (ap refusal_number same, ap refusal_place same, refl))
      (λ j h. clash cc)

  module_counted : {k : ℕ} → check_reason n m s ws a a (length out) ≡ Ok k → (after : List ℕ) (value : ℕ) → MarksModule s ws a value after → GivesModule n m s ws a out after 0 value
  module_counted {k} e after value g =
      given_after (after ≡ out) (λ v. MarksModule s ws a v after) {k = 0} {v = value} (reason_rows n m s ws a a (eqb (length out) 16)) [] (record_count s) question_numbered (Ok k)
      (rw e at (reason_given n m s ws a a (length out)))
      (λ why h. clash cc)
      (λ j h. (refl, g))

  pub module_taken : {k : ℕ} → check_reason n m s ws a a (length out) ≡ Ok k → {after : List ℕ} → after ≡ module_marks n m s ws a → GivesModule n m s ws a out after 0 (mark_count (module_marks n m s ws a))
  module_taken {k} e {after} f =
      let taken = (reason_taken n m s ws a a (length out) e).1 in
      module_counted e after (mark_count (module_marks n m s ws a))
      (record {
        places = module_of (lines_of s) (counted s ws) n m a;
        is = module_is (lines_of s) (counted s ws) n m a (lines_right n m s ws a a taken) (asked_of n m s ws a a taken).goal_a;
        past = λ i l. module_past n m s ws a a taken i (omega (arith, lines_length s));
        are = f;
        count = ap mark_count (sym f);
      })

  -- one number, one value and one later content are given
  pub module_same : {k v k' v' : ℕ} {after after' : List ℕ} → GivesModule n m s ws a out after k v → GivesModule n m s ws a out after' k' v' → (k ≡ k') × (v ≡ v') × (after ≡ after')
  module_same {after = after} {after' = after'} g h =
      let e = given_one (after ≡ out) (after' ≡ out) (λ v. MarksModule s ws a v after) (λ v. MarksModule s ws a v after') (reason_rows n m s ws a a (eqb (length out) 16)) g h in
      ⊎_elim (λ r. (e.0, r.0, r.1 ∙ sym r.2))
      (λ r. let o = marks_one (IsModule (lines_of s) (counted s ws) a) s (module_one (lines_of s) (counted s ws) a) r.0 r.1 in (e.0, o.0, o.1)) e.1

  -- NO SECOND RESULT, no second content of the out marks
  pub module_fixed : (r r' : Result ℕ Refusal) (after after' : List ℕ) → GivesModule n m s ws a out after (checked_told r).0 (checked_told r).1 → GivesModule n m s ws a out after' (checked_told r').0 (checked_told r').1 → (r ≡ r') × (after ≡ after')
  module_fixed r r' after after' p q = let e = module_same p q in (checked_told_lem r r' e.0 e.1, e.2)

  -- OF A QUESTION THAT IS TAKEN the module is given, with 16 words for it
  pub module_right : Taken n m s ws a a → length out ≡ 16 → {k v : ℕ} {after : List ℕ} → GivesModule n m s ws a out after k v → (k ≡ 0) × MarksModule s ws a v after
  module_right t l {after = after} g =
      let c = reason_asked n m s ws a a (length out) l ∙ (taken_admitted n m s ws a a t).1 in
      let zero = (module_same g (module_taken c refl)).0 in
      (zero, given_zero (after ≡ out) (λ v. MarksModule s ws a v after) (reason_rows n m s ws a a (eqb (length out) 16)) question_numbered (rw zero at g))

-- THE SET CALL: an answer is told by its number and value
pub set_told_by : (x y : Result ℕ SetError) → set_number x ≡ set_number y → set_value x ≡ set_value y → x ≡ y
unfolding refusal_of
set_told_by = told set_number set_value set_of back
  where
    set_of : ℕ → ℕ → Result ℕ SetError
    set_of k v = cond (eqb k 0) (Ok v) (Err (cond (eqb k 6) refused.TooLong (cond (eqb k 7) refused.NotFollows (refused.Refused (refusal_of k v)))))

    back : (x : Result ℕ SetError) → set_of (set_number x) (set_value x) ≡ x
    back (Err (refused.Refused Sizes)) = refl
    back (Err (refused.Refused Pack)) = refl
    back (Err (refused.Refused (Record i))) = refl
    back (Err (refused.Refused Marks)) = refl
    back (Err (refused.Refused Goal)) = refl
    back (Err refused.TooLong) = refl
    back (Err refused.NotFollows) = refl
    back (Ok k) = refl

-- the set's rows have numbers of the table
abbrev pub SetNumbered : Type 0
SetNumbered = (0 < 1) × ((0 < 2) × ((0 < 3) × ((0 < 4) × ((0 < 5) × ((0 < 6) × ((0 < 7) × Unit {0}))))))

pub set_numbered : SetNumbered
set_numbered = (omega arith, (omega arith, (omega arith, (omega arith, (omega arith, (omega arith, (omega arith, tt)))))))

module _ (n m : ℕ) (s ws : List ℕ) (a b : ℕ) (out : List ℕ) where
  abbrev F : Type 0
  F = Follows (lines_of s) (counted s ws) a b

  abbrev more : List Row
  more = refuse 6 (36800 < length (finished (lines_of s) (counted s ws) n m)) ∷ refuse 7 (F → ⊥) ∷ []

  pub set_refused : {why : Refusal} → check_reason n m s ws a b (length out) ≡ Err why → GivesSet n m s ws a b out out (refusal_number why) (refusal_place why)
  set_refused {why} e =
      given_after (out ≡ out) (λ value. MarksSet s ws a b value out) {k = refusal_number why} {v = refusal_place why} (reason_rows n m s ws a b (eqb (length out) 16)) more (record_count s) question_numbered (Err why)
      (rw e at (reason_given n m s ws a b (length out)))
      (λ w h. let same : why ≡ w = cc in (ap refusal_number same, ap refusal_place same, refl))
      (λ j h. clash cc)

  -- taken: further rows
  set_counted : {k : ℕ} → check_reason n m s ws a b (length out) ≡ Ok k → (after : List ℕ) (number value : ℕ)
      → Given (after ≡ out) (refuse 7 (F → ⊥) ∷ []) (λ v. MarksSet s ws a b v after) number value → GivesSet n m s ws a b out after number value
  set_counted {k} e after number value g =
      given_after (after ≡ out) (λ v. MarksSet s ws a b v after) {k = number} {v = value} (reason_rows n m s ws a b (eqb (length out) 16)) more (record_count s) question_numbered (Ok k)
      (rw e at (reason_given n m s ws a b (length out)))
      (λ why h. clash cc)
      (λ j h. inr ((λ _ _ q. omega (arith, q.0, finished_few n m s ws a b (reason_taken n m s ws a b (length out) e).1)), g))

  set_words : {k : ℕ} → check_reason n m s ws a b (length out) ≡ Ok k → F → {after : List ℕ} → after ≡ set_marks n m s ws a b → MarksSet s ws a b (mark_count (set_marks n m s ws a b)) after
  set_words {k} e f {after} same =
      let taken = (reason_taken n m s ws a b (length out) e).1 in
      let q = asked n m s ws a b taken in
      record {
        places = printed (lines_of s) (counted s ws) n m a b;
        is = printed_is (lines_of s) n m a b (asked_valid n m s ws a b taken) q.pack.n_some q.goal_a (counted s ws) f;
        past = λ i l. past_none n m s ws a b taken f (printed (lines_of s) (counted s ws) n m a b) (printed_fewer n m s ws a b taken f) i (omega (arith, lines_length s));
        are = same;
        count = ap mark_count (sym same);
      }

  pub set_taken : {k : ℕ} → check_reason n m s ws a b (length out) ≡ Ok k → (r : Result ℕ SetError) {after : List ℕ} → SetTaken n m s ws a b out after r → GivesSet n m s ws a b out after (set_number r) (set_value r)
  set_taken e r {after} (inl g) =
      rw g.1 (set_counted e after 0 (mark_count (set_marks n m s ws a b)) (inr ((λ _ _ q. q.0 g.0), (refl, set_words e g.0 g.2))))
  set_taken e r {after} (inr g) = rw g.1 (set_counted e after 7 0 (inl ((g.0, refl, refl), g.2)))

  -- one number, one value and one later content are given
  pub set_same : {k v k' v' : ℕ} {after after' : List ℕ} → GivesSet n m s ws a b out after k v → GivesSet n m s ws a b out after' k' v' → (k ≡ k') × (v ≡ v') × (after ≡ after')
  set_same {after = after} {after' = after'} g h =
      let e = given_one (after ≡ out) (after' ≡ out) (λ v. MarksSet s ws a b v after) (λ v. MarksSet s ws a b v after') (set_rows n m s ws a b (eqb (length out) 16)) g h in
      ⊎_elim (λ r. (e.0, r.0, r.1 ∙ sym r.2))
      (λ r. let o = marks_one (IsPrinted (lines_of s) (counted s ws) a b) s (λ P Q p q. printed_one (lines_of s) (counted s ws) a b P p Q q) r.0 r.1 in (e.0, o.0, o.1)) e.1

  -- NO SECOND RESULT, no second content of the out marks
  pub set_fixed : (r r' : Result ℕ SetError) (after after' : List ℕ) → GivesSet n m s ws a b out after (set_told r).0 (set_told r).1 → GivesSet n m s ws a b out after' (set_told r').0 (set_told r').1 → (r ≡ r') × (after ≡ after')
  set_fixed r r' after after' p q = let e = set_same p q in (set_told_by r r' e.0 e.1, e.2)

  -- OF A QUESTION THAT IS TAKEN, with 16 words for the set: it is given where the goal follows; else 7, and the out marks are as they were
  pub set_right : Taken n m s ws a b → length out ≡ 16 → {k v : ℕ} {after : List ℕ} → GivesSet n m s ws a b out after k v → (F → (k ≡ 0) × MarksSet s ws a b v after) × ((F → ⊥) → (k ≡ 7) × (after ≡ out))
  set_right t l {k} {v} {after} g = (
    λ f.
        let e = set_same g (set_taken c (Ok (mark_count (set_marks n m s ws a b))) (inl (f, refl, refl))) in
        (e.0, rw (e.1, e.2) (set_words c f refl)),
    λ no. let e = set_same g (set_taken c (Err refused.NotFollows) {after = out} (inr (no, refl, refl))) in (e.0, e.2),
  )
    where
      c : check_reason n m s ws a b (length out) ≡ Ok (taken_admitted n m s ws a b t).0
      c = reason_asked n m s ws a b (length out) l ∙ (taken_admitted n m s ws a b t).1

-- THE WORDS OF A PRINTED SET: with any one of its records taken out the goal no longer follows
pub set_needs : (s ws : List ℕ) (a b : ℕ) {k : ℕ} {words : List ℕ} (p : MarksSet s ws a b k words) (i : ℕ) → i < length (lines_of s) → p.places i ≡ true → Follows (lines_of s) (without p.places i) a b → ⊥
set_needs s ws a b p = printed_needs (lines_of s) (counted s ws) a b p.places p.is
