-- The sheet writer gives what its rows say; ours is accepted, and sheets of just one sort are; no second result satisfies the promise.
use mathlib.Core.Path.{◌≡◌, refl, sym, ap, ◌∙◌}
use mathlib.Core.Logic.{◌⊎◌, inl, inr, ⊎_elim}
use mathlib.Core.Bool.{Bool, true, false, cond}
use mathlib.Core.List.{List, [], ◌∷◌}
use Prim.Native.Nat.{ℕ, ◌+◌, ◌*◌, ◌/◌, ◌%◌, ◌<◌}
use native.Mathlib.Omega.{arith}
use lib.Dec.{eqb, leb}
use lib.ListN.{length, take, drop}
use lib.Seq.{take_at}
use borrow.Author.Tests.{leb-true, leb-false}
use Rattle.bits.proofs.Truth.{never, clash}
use Rattle.std.specs.Prelude.{Result, Ok, Err}
use Rattle.pack.specs.declared.check.Refusal.{Refusal}
use Rattle.pack.specs.declared.check.Refusal.TheVariants.{Sizes, Pack, Record, Marks, Goal}
use Rattle.pack.specs.Question.{counted, question_rows, Taken}
use Rattle.pack.specs.Computed.{check_question, refusal_number, refusal_place}
use Rattle.pack.specs.Record.{lines_of, record_count}
use Rattle.pack.specs.Table.{Row, refuse, refuse_with, Given}
use Rattle.pack.specs.World.{Follows}
use Rattle.pack.proofs.GivenLaws.{given_one, given_zero, given_after, told, refusal_of}
use Rattle.pack.proofs.Promises.{question_numbered, question_given, taken_admitted}
use Rattle.yes.specs.Answers.{GivesYes}
use Rattle.yes.proofs.Promises.{yes_told_lem}
use Rattle.no.specs.Answers.{GivesNo}
use Rattle.no.proofs.Promises.{no_told_lem}
use Rattle.sheets.proofs.Both.{never_both}
use Rattle.passes.specs.Ours.{our_steps, our_rows}
use Rattle.passes.specs.Passes.{finished}
use Rattle.engine.specs.Computed.{goal_held}
use Rattle.engine.proofs.VerdictLaws.{finished_few, too_long_never}
use Rattle.engine.proofs.VerdictRight.{held_right}
use Rattle.writer.specs.declared.answer.Sheet.{Sheet}
use Rattle.writer.specs.declared.answer.Sheet.TheVariants as sheets
use Rattle.writer.specs.declared.answer.SheetError.{SheetError}
use Rattle.writer.specs.declared.answer.SheetError.TheVariants as refused
use Rattle.writer.specs.Sheet.{sheet_told, yes_bytes, no_bytes, with_ours, sheet_rows, GivesSheet, SomeYes, SomeNo, Shows}
use Rattle.writer.specs.Computed.{our_sheet, sheet_answer, sheet_after, sheet_out, ask_sheet, written_sheet, sheet_number, sheet_value}
use Rattle.writer.proofs.SheetLaws.{yes_length, no_length}
use Rattle.writer.proofs.OursLaws.{yes_taken, no_taken}

-- an answer is told by its number and value
pub sheet_told_by : (x y : Result Sheet SheetError) → sheet_number x ≡ sheet_number y → sheet_value x ≡ sheet_value y → x ≡ y
unfolding refusal_of
sheet_told_by = told sheet_number sheet_value sheet_of back
  where
    sheet_of : ℕ → ℕ → Result Sheet SheetError
    sheet_of k v = cond (eqb k 0) (cond (eqb (v % 2) 1) (Ok (sheets.Follows (v / 2))) (Ok (sheets.Not (v / 2)))) (cond (eqb k 6) (Err refused.TooLong) (cond (eqb k 8) (Err (refused.NoRoom v)) (Err (refused.Refused (refusal_of k v)))))

    back : (x : Result Sheet SheetError) → sheet_of (sheet_number x) (sheet_value x) ≡ x
    back (Err (refused.Refused Sizes)) = refl
    back (Err (refused.Refused Pack)) = refl
    back (Err (refused.Refused (Record i))) = refl
    back (Err (refused.Refused Marks)) = refl
    back (Err (refused.Refused Goal)) = refl
    back (Err refused.TooLong) = refl
    back (Err (refused.NoRoom k)) = refl
    back (Ok (sheets.Follows k)) = let odd : (2 * k + 1) % 2 ≡ 1 = omega arith in let half : (2 * k + 1) / 2 ≡ k = omega arith in rw (odd, half)
    back (Ok (sheets.Not k)) = let even : (2 * k) % 2 ≡ 0 = omega arith in let half : (2 * k) / 2 ≡ k = omega arith in rw (even, half)

module _ (n m : ℕ) (s ws : List ℕ) (a b : ℕ) where
  abbrev F : Type 0
  F = Follows (lines_of s) (counted s ws) a b

  abbrev steps : ℕ
  steps = length (our_steps (lines_of s) (counted s ws) n m a b)

  abbrev rows : ℕ
  rows = length (our_rows (lines_of s) (counted s ws) n m)

  -- OURS IS ACCEPTED: our yes sheet where the goal follows, our no sheet where it does not
  pub ours_yes : Taken n m s ws a b → F → GivesYes n m s ws a b (yes_bytes n m s ws a b) 0 0
  ours_yes t f =
      let q = (taken_admitted n m s ws a b t).1 in
      yes_told_lem n m s ws a b (yes_bytes n m s ws a b) {r = Ok tt} (sym (yes_taken n m s ws a b q ((held_right n m s ws a b q).1 f)))

  pub ours_no : Taken n m s ws a b → (F → ⊥) → GivesNo n m s ws a b (no_bytes n m s ws) 0 0
  ours_no t f =
      let q = (taken_admitted n m s ws a b t).1 in
      no_told_lem n m s ws a b (no_bytes n m s ws) {r = Ok tt} (sym (no_taken n m s ws a b q (by (goal_held n m s ws a b) refl (held_right n m s ws a b q).0)))
    where
      by : (u : Bool) → goal_held n m s ws a b ≡ u → (goal_held n m s ws a b ≡ true → F) → goal_held n m s ws a b ≡ false
      by true e right = absurd (f (right e))
      by false e right = e

  -- EXACTLY ONE SORT OF SHEET IS ACCEPTED, of a question that is taken
  pub exactly_one : Taken n m s ws a b → (SomeYes n m s ws a b × (SomeNo n m s ws a b → ⊥)) ⊎ (SomeNo n m s ws a b × (SomeYes n m s ws a b → ⊥))
  exactly_one t = go (goal_held n m s ws a b) refl
    where
      go : (u : Bool) → goal_held n m s ws a b ≡ u → (SomeYes n m s ws a b × (SomeNo n m s ws a b → ⊥)) ⊎ (SomeNo n m s ws a b × (SomeYes n m s ws a b → ⊥))
      go true e =
          let y = ours_yes t ((held_right n m s ws a b (taken_admitted n m s ws a b t).1).0 e) in
          inl ((yes_bytes n m s ws a b, y), λ z. never_both n m s ws a b (yes_bytes n m s ws a b) z.0 y z.1)
      go false e =
          let z = ours_no t (λ f. never ((held_right n m s ws a b (taken_admitted n m s ws a b t).1).1 f) e) in
          inr ((no_bytes n m s ws, z), λ y. never_both n m s ws a b y.0 (no_bytes n m s ws) y.1 z)

module _ (n m : ℕ) (s ws : List ℕ) (a b : ℕ) (sheet : List ℕ) where
  abbrev given : List ℕ → ℕ → Type 0
  given after value =
      (F n m s ws a b × (value ≡ 2 * steps n m s ws a b + 1) × (after ≡ with_ours (yes_bytes n m s ws a b) sheet))
      ⊎ ((F n m s ws a b → ⊥) × (value ≡ 2 * rows n m s ws a b) × (after ≡ with_ours (no_bytes n m s ws) sheet))

  given_sheet_one : {x y : ℕ} {after after' : List ℕ} → given after x → given after' y → (x ≡ y) × (after ≡ after')
  given_sheet_one (inl g) (inl h) = (g.1 ∙ sym h.1, g.2 ∙ sym h.2)
  given_sheet_one (inl g) (inr h) = absurd (h.0 g.0)
  given_sheet_one (inr g) (inl h) = absurd (g.0 h.0)
  given_sheet_one (inr g) (inr h) = (g.1 ∙ sym h.1, g.2 ∙ sym h.2)

  abbrev yb : List ℕ
  yb = yes_bytes n m s ws a b

  abbrev nb : List ℕ
  nb = no_bytes n m s ws

  -- rows of the room, behind those of the verdict, of a question that is admitted
  abbrev room_rows : List Row
  room_rows = refuse_with 8 (F n m s ws a b × (length sheet < length yb)) (length yb) ∷ refuse_with 8 ((F n m s ws a b → ⊥) × (length sheet < length nb)) (length nb) ∷ []

  behind : {k : ℕ} → check_question n m s ws a b ≡ Ok k → (after : List ℕ) (number value : ℕ) → Given (after ≡ sheet) room_rows (given after) number value → GivesSheet n m s ws a b sheet after number value
  behind {k} e after number value g =
      given_after (after ≡ sheet) (given after) {k = number} {v = value} (question_rows n m s ws a b) (refuse 6 (36800 < length (finished (lines_of s) (counted s ws) n m)) ∷ room_rows) (record_count s) question_numbered (Ok k)
      (rw e at (question_given n m s ws a b))
      (λ why h. clash cc)
      (λ j h. inr ((λ _ _ q. omega (arith, q.0, finished_few n m s ws a b e)), g))

  -- THE WRITER GIVES WHAT ITS ROWS SAY
  pub sheet_given : GivesSheet n m s ws a b sheet (written_sheet n m s ws a b sheet) (sheet_number (ask_sheet n m s ws a b sheet)) (sheet_value (ask_sheet n m s ws a b sheet))
  unfolding ask_sheet written_sheet
  sheet_given = go (check_question n m s ws a b) refl
    where
      taken : {k : ℕ} → check_question n m s ws a b ≡ Ok k → (t room : Bool) → goal_held n m s ws a b ≡ t → leb (length (cond t yb nb)) (length sheet) ≡ room
          → let r = sheet_answer t (cond t (steps n m s ws a b) (rows n m s ws a b)) room in let after = sheet_out r (cond t yb nb) sheet in GivesSheet n m s ws a b sheet after (sheet_number r) (sheet_value r)
      taken e true true f g =
          let yes = (held_right n m s ws a b e).0 f in
          behind e (with_ours yb sheet) 0 (2 * steps n m s ws a b + 1)
          (inr ((λ _ _ q. let l = leb-true (length yb) (length sheet) g in omega (arith, q.0.1)), inr ((λ _ _ q. q.0.0 yes), (refl, inl (yes, refl, refl)))))
      taken e true false f g =
          behind e sheet 8 (8 * steps n m s ws a b)
          (inl ((((held_right n m s ws a b e).0 f, leb-false (length yb) (length sheet) g), refl, sym (yes_length n m s ws a b)), refl))
      taken e false true f g =
          let no : F n m s ws a b → ⊥ = λ y. never ((held_right n m s ws a b e).1 y) f in
          behind e (with_ours nb sheet) 0 (2 * rows n m s ws a b)
          (inr ((λ _ _ q. no q.0.0), inr ((λ _ _ q. let l = leb-true (length nb) (length sheet) g in omega (arith, q.0.1)), (refl, inr (no, refl, refl)))))
      taken e false false f g =
          let no : F n m s ws a b → ⊥ = λ y. never ((held_right n m s ws a b e).1 y) f in
          behind e sheet 8 (8 * rows n m s ws a b)
          (inr ((λ _ _ q. no q.0.0), inl (((no, leb-false (length nb) (length sheet) g), refl, sym (no_length n m s ws)), refl)))

      go : (q : Result ℕ Refusal) → check_question n m s ws a b ≡ q → let r = sheet_after q n m s ws a b sheet in GivesSheet n m s ws a b sheet (sheet_out r (our_sheet n m s ws a b) sheet) (sheet_number r) (sheet_value r)
      go (Err why) e =
          given_after (sheet ≡ sheet) (given sheet) {k = refusal_number why} {v = refusal_place why} (question_rows n m s ws a b) (refuse 6 (36800 < length (finished (lines_of s) (counted s ws) n m)) ∷ room_rows) (record_count s) question_numbered (Err why)
          (rw e at (question_given n m s ws a b))
          (λ w h. let same : why ≡ w = cc in (ap refusal_number same, ap refusal_place same, refl))
          (λ j h. clash cc)
      go (Ok k) e = rw (too_long_never n m s ws a b e) (taken e (goal_held n m s ws a b) (leb (length (our_sheet n m s ws a b)) (length sheet)) refl refl)

  pub sheet_told_lem : {r : Result Sheet SheetError} {after : List ℕ} → (r ≡ ask_sheet n m s ws a b sheet) × (after ≡ written_sheet n m s ws a b sheet) → GivesSheet n m s ws a b sheet after (sheet_number r) (sheet_value r)
  sheet_told_lem p = rw (p.0, p.1) sheet_given

  pub sheet_refused : {why : Refusal} → check_question n m s ws a b ≡ Err why → GivesSheet n m s ws a b sheet sheet (refusal_number why) (refusal_place why)
  unfolding ask_sheet written_sheet
  sheet_refused {why} e = sheet_told_lem {r = Err (refused.Refused why)} {after = sheet} (rw e, rw e)

  -- one number, one value and one later content are given
  pub sheet_same : {k v k' v' : ℕ} {after after' : List ℕ} → GivesSheet n m s ws a b sheet after k v → GivesSheet n m s ws a b sheet after' k' v' → (k ≡ k') × (v ≡ v') × (after ≡ after')
  sheet_same {after = after} {after' = after'} g h =
      let e = given_one (after ≡ sheet) (after' ≡ sheet) (given after) (given after') (sheet_rows n m s ws a b sheet) g h in
      ⊎_elim (λ r. (e.0, r.0, r.1 ∙ sym r.2)) (λ r. let o = given_sheet_one r.0 r.1 in (e.0, o.0, o.1)) e.1

  -- NO SECOND RESULT, no second later content of the sheet
  pub sheet_fixed : (r r' : Result Sheet SheetError) (after after' : List ℕ) → GivesSheet n m s ws a b sheet after (sheet_told r).0 (sheet_told r).1 → GivesSheet n m s ws a b sheet after' (sheet_told r').0 (sheet_told r').1 → (r ≡ r') × (after ≡ after')
  sheet_fixed r r' after after' p q = let e = sheet_same p q in (sheet_told_by r r' e.0 e.1, e.2)

  pub sheet_is : {r : Result Sheet SheetError} {after : List ℕ} → GivesSheet n m s ws a b sheet after (sheet_number r) (sheet_value r) → (r ≡ ask_sheet n m s ws a b sheet) × (after ≡ written_sheet n m s ws a b sheet)
  sheet_is {r} {after} p = sheet_fixed r (ask_sheet n m s ws a b sheet) after (written_sheet n m s ws a b sheet) p sheet_given

  -- WHAT THE WRITER SAYS IS SO OF WHAT IT WROTE: so many steps or rows of the sheet afterwards are accepted
  pub joined : Taken n m s ws a b → {after : List ℕ} {v : ℕ} → GivesSheet n m s ws a b sheet after 0 v → Shows n m s ws a b after v
  joined t {after} {v} g = by (given_zero (after ≡ sheet) (given after) (sheet_rows n m s ws a b sheet) (omega arith, (omega arith, (omega arith, (omega arith, (omega arith, (omega arith, (omega arith, (omega arith, tt)))))))) g)
    where
      by : given after v → Shows n m s ws a b after v
      by (inl r) = (
        λ j e.
            let l = yes_length n m s ws a b in
            let same : take (8 * j) after ≡ yb = ap (take (8 * j)) r.2 ∙ take_at yb (drop (length yb) sheet) (8 * j) (omega (arith, r.1)) in
            rw same (ours_yes n m s ws a b t r.0),
        λ j e. absurd (omega (arith, r.1)),
      )
      by (inr r) = (
        λ j e. absurd (omega (arith, r.1)),
        λ j e.
            let l = no_length n m s ws in
            let same : take (8 * j) after ≡ nb = ap (take (8 * j)) r.2 ∙ take_at nb (drop (length nb) sheet) (8 * j) (omega (arith, r.1)) in
            rw same (ours_no n m s ws a b t r.0),
      )
