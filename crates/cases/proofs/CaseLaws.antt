-- What is worked out of a case, and the laws that lead from it to what the case claims: one for each sort of case.
use mathlib.Core.Path.{◌≡◌, refl, sym, ap, subst, subst₂, ◌∙◌}
use mathlib.Core.Logic.{inl, inr}
use mathlib.Core.Bool.{Bool, true, false, cond, ◌&&◌}
use mathlib.Core.List.{List, [], ◌∷◌, ◌++◌, map}
use Prim.Native.Nat.{ℕ, ◌+◌, ◌-◌, ◌*◌, ◌/◌, ◌%◌, ◌≤◌, ◌<◌}
use native.Mathlib.Omega.{arith}
use lib.Dec.{eqb, leb}
use lib.ListN.{length, take, drop, replicate, length-replicate, replicate-append-replicate}
use lib.Seq.{take_at, drop_at}
use borrow.Author.Tests.{le-leb}
use Rattle.bits.proofs.Truth.{never, both_true}
use Rattle.marks.specs.Marks.{mark_count}
use Rattle.std.specs.Prelude.{Result, Ok, Err}
use Rattle.pack.specs.declared.check.Refusal.{Refusal}
use Rattle.pack.specs.declared.line.Fact.{Fact}
use Rattle.pack.specs.declared.line.Fact.TheVariants.{In}
use Rattle.pack.specs.declared.line.Step.{Step}
use Rattle.pack.specs.Bytes.{little_endian, part}
use Rattle.pack.specs.Computed.{check_pack, check_question, checked_number, checked_value}
use Rattle.pack.specs.Pack.{GivesPack}
use Rattle.pack.specs.Question.{counted}
use Rattle.pack.specs.Record.{lines_of, record_count}
use Rattle.pack.specs.Rules.{rule_at, usable, free}
use Rattle.pack.proofs.Promises.{pack_given}
use Rattle.yes.specs.declared.check.YesError.TheVariants as yes
use Rattle.yes.specs.Answers.{GivesYes}
use Rattle.yes.specs.Computed.{check_yes, yes_number, yes_place}
use Rattle.yes.specs.YesSheet.{steps_of, known, premises_known, good_over, good_at, yes_length_fits}
use Rattle.yes.proofs.Promises.{yes_given, yes_told_lem}
use Rattle.yes.proofs.YesLaws.{good_accepts}
use Rattle.no.specs.Answers.{GivesNo}
use Rattle.no.specs.Computed.{check_no, no_number, no_place}
use Rattle.no.proofs.Promises.{no_given}
use Rattle.sheets.specs.Answers.{code}
use Rattle.passes.specs.Ours.{our_steps, our_rows}
use Rattle.passes.specs.Passes.{el}
use Rattle.passes.specs.Saturation.{holds}
use Rattle.engine.specs.declared.answer.Verdict.TheVariants as verdicts
use Rattle.engine.specs.Computed.{goal_held}
use Rattle.engine.proofs.Promises.{verdict_told_lem}
use Rattle.engine.proofs.VerdictLaws.{too_long_never, verdict_is}
use Rattle.engine.proofs.VerdictRight.{held_right}
use Rattle.writer.specs.declared.answer.Sheet.TheVariants as sheets
use Rattle.writer.specs.Computed.{ask_sheet, written_sheet}
use Rattle.writer.specs.Sheet.{yes_bytes, no_bytes, with_ours, GivesSheet}
use Rattle.writer.proofs.SheetLaws.{yes_length, no_length}
use Rattle.writer.proofs.Promises.{sheet_told_lem}
use Rattle.reasons.specs.declared.set.SetError.TheVariants as sets
use Rattle.reasons.specs.Computed.{module_marks, set_marks}
use Rattle.reasons.specs.Module.{GivesModule}
use Rattle.reasons.specs.Set.{GivesSet}
use Rattle.reasons.proofs.OutLaws.{reason_asked}
use Rattle.reasons.proofs.Promises.{module_taken, set_taken}
use Rattle.cases.specs.Cases.{Follows, Not, Case, Ask, OnePass, CheckPack, CheckYes, CheckNo, CheckZeros, blank, lent, words, steps_bytes, one_pass, Holds, AllHold, zero_bytes}

-- of a question: its check, and that of the module's; whether the goal is held; our sheet and its length; the marks of the
-- module, those of the set, and how many they are. Of a pass: its steps, and whether the goal is held. Of a check: numbers
pub data Told : Type 0 where
  asked : Result ℕ Refusal → Result ℕ Refusal → Bool → List ℕ → ℕ → List ℕ → ℕ → List ℕ → ℕ → Told
  passed : List ℕ → Bool → Told
  checked : ℕ → ℕ → ℕ → Told
  zeros : Result ℕ Refusal → Bool → Bool → ℕ → Told

-- the step of 8 bytes of zero, and whether so many bytes are a length of a yes sheet
abbrev pub zero_step : Step
zero_step = record { place = 0; x = 0; y = 0; z = 0 }

abbrev pub length_of : ℕ → Bool
length_of bytes = eqb (bytes % 8) 0 && leb bytes 524288

-- AS IT IS WORKED OUT
unfoldable pub worked : Case → Told
worked (Ask q (Follows steps bytes count low) in_module first) =
    asked (check_question q.n q.m q.pack q.marks q.a q.b) (check_question q.n q.m q.pack q.marks q.a q.a) (goal_held q.n q.m q.pack q.marks q.a q.b)
    (yes_bytes q.n q.m q.pack q.marks q.a q.b) (length bytes)
    (module_marks q.n q.m q.pack q.marks q.a) (mark_count (words first))
    (set_marks q.n q.m q.pack q.marks q.a q.b) (mark_count (words low))
worked (Ask q (Not rows bytes) in_module first) =
    asked (check_question q.n q.m q.pack q.marks q.a q.b) (check_question q.n q.m q.pack q.marks q.a q.a) (goal_held q.n q.m q.pack q.marks q.a q.b)
    (no_bytes q.n q.m q.pack q.marks) (length bytes)
    (module_marks q.n q.m q.pack q.marks q.a) (mark_count (words first))
    [] 0
worked (OnePass q bytes) = passed (steps_bytes (one_pass q)) (holds (el (lines_of q.pack)) (free q.n) (one_pass q) (In q.a q.b))
worked (CheckPack n m pack number value) = checked (checked_number (check_pack n m pack)) (checked_value (check_pack n m pack)) 0
worked (CheckYes q sheet number place c) =
    let r = check_yes q.n q.m q.pack q.marks q.a q.b sheet in checked (yes_number r) (yes_place r) (code number place)
worked (CheckNo q sheet number place c) =
    let r = check_no q.n q.m q.pack q.marks q.a q.b sheet in checked (no_number r) (no_place r) (code number place)
worked (CheckZeros q bytes number) =
    zeros (check_question q.n q.m q.pack q.marks q.a q.b) (good_over (lines_of q.pack) (counted q.pack q.marks) q.n (free q.n) zero_step) (free q.n (In q.a q.b)) (cond (length_of bytes) 0 9)

-- AS THE CASE HAS IT
unfoldable pub claimed : Case → Told
claimed (Ask q (Follows steps bytes count low) in_module first) =
    asked (Ok (record_count q.pack)) (Ok (record_count q.pack)) true bytes (8 * steps) (words first) in_module (words low) count
claimed (Ask q (Not rows bytes) in_module first) =
    asked (Ok (record_count q.pack)) (Ok (record_count q.pack)) false bytes (8 * rows) (words first) in_module [] 0
claimed (OnePass q bytes) = passed bytes false
claimed (CheckPack n m pack number value) = checked number value 0
claimed (CheckYes q sheet number place c) = checked number place c
claimed (CheckNo q sheet number place c) = checked number place c
claimed (CheckZeros q bytes number) = zeros (Ok (record_count q.pack)) true true number

-- behind the first k bytes of k + 8 there are 8
behind : (k : ℕ) → drop k (blank (k + 8)) ≡ blank 8
behind k = ap (drop k) (sym (replicate-append-replicate k 8 0x5a)) ∙ drop_at (replicate k 0x5a) (blank 8) k (length-replicate k 0x5a)

-- A QUESTION THAT IS TAKEN
module _ (n m : ℕ) (s ws : List ℕ) (a b : ℕ) {c : ℕ} (taken : check_question n m s ws a b ≡ Ok c) where
  -- the writer's answer and the lent sheet afterwards, where there is room for ours
  wrote_yes : goal_held n m s ws a b ≡ true → (sheet : List ℕ) → length (yes_bytes n m s ws a b) ≤ length sheet
      → (Ok (sheets.Follows (length (our_steps (lines_of s) (counted s ws) n m a b))) ≡ ask_sheet n m s ws a b sheet) × (with_ours (yes_bytes n m s ws a b) sheet ≡ written_sheet n m s ws a b sheet)
  unfolding ask_sheet written_sheet
  wrote_yes h sheet l =
      let room = le-leb (length (yes_bytes n m s ws a b)) (length sheet) l in
      let few = too_long_never n m s ws a b taken in
      (rw (taken, few, h, room), rw (taken, few, h, room))

  wrote_no : goal_held n m s ws a b ≡ false → (sheet : List ℕ) → length (no_bytes n m s ws) ≤ length sheet
      → (Ok (sheets.Not (length (our_rows (lines_of s) (counted s ws) n m))) ≡ ask_sheet n m s ws a b sheet) × (with_ours (no_bytes n m s ws) sheet ≡ written_sheet n m s ws a b sheet)
  unfolding ask_sheet written_sheet
  wrote_no h sheet l =
      let room = le-leb (length (no_bytes n m s ws)) (length sheet) l in
      let few = too_long_never n m s ws a b taken in
      (rw (taken, few, h, room), rw (taken, few, h, room))

  -- ours, in a buffer that is 8 bytes longer
  ours_written : (ours bytes : List ℕ) → ours ≡ bytes → bytes ++ blank 8 ≡ with_ours ours (blank (length bytes + 8))
  ours_written ours bytes e = rw e (ap (λ (rest : List ℕ). bytes ++ rest) (sym (behind (length bytes))))

  pub follows_sheet : goal_held n m s ws a b ≡ true → (steps : ℕ) (bytes : List ℕ) → yes_bytes n m s ws a b ≡ bytes → length bytes ≡ 8 * steps
      → GivesSheet n m s ws a b (blank (length bytes + 8)) (bytes ++ blank 8) 0 (2 * steps + 1)
  follows_sheet h steps bytes e l =
      let same : length (yes_bytes n m s ws a b) ≡ length bytes = ap length e in
      let w = wrote_yes h (blank (length bytes + 8)) (omega (arith, same, length-replicate {A = ℕ} (length bytes + 8) 0x5a)) in
      let k : steps ≡ length (our_steps (lines_of s) (counted s ws) n m a b) = omega (arith, same, l, yes_length n m s ws a b) in
      sheet_told_lem n m s ws a b (blank (length bytes + 8)) {r = Ok (sheets.Follows steps)} (ap (λ (k : ℕ). Ok (sheets.Follows k)) k ∙ w.0, ours_written (yes_bytes n m s ws a b) bytes e ∙ w.1)

  pub not_sheet : goal_held n m s ws a b ≡ false → (rows : ℕ) (bytes : List ℕ) → no_bytes n m s ws ≡ bytes → length bytes ≡ 8 * rows
      → GivesSheet n m s ws a b (blank (length bytes + 8)) (bytes ++ blank 8) 0 (2 * rows)
  not_sheet h rows bytes e l =
      let same : length (no_bytes n m s ws) ≡ length bytes = ap length e in
      let w = wrote_no h (blank (length bytes + 8)) (omega (arith, same, length-replicate {A = ℕ} (length bytes + 8) 0x5a)) in
      let k : rows ≡ length (our_rows (lines_of s) (counted s ws) n m) = omega (arith, same, l, no_length n m s ws) in
      sheet_told_lem n m s ws a b (blank (length bytes + 8)) {r = Ok (sheets.Not rows)} (ap (λ (k : ℕ). Ok (sheets.Not k)) k ∙ w.0, ours_written (no_bytes n m s ws) bytes e ∙ w.1)

  -- the set, counted; and none, the out marks being as they were
  pub its_set : goal_held n m s ws a b ≡ true → (count low : ℕ) → set_marks n m s ws a b ≡ words low → mark_count (words low) ≡ count → GivesSet n m s ws a b lent (words low) 0 count
  its_set h count low e k =
      subst (λ (v : ℕ). GivesSet n m s ws a b lent (words low) 0 v) (ap mark_count e ∙ k)
      (set_taken n m s ws a b lent (reason_asked n m s ws a b 16 refl ∙ taken) (Ok (mark_count (set_marks n m s ws a b))) (inl ((held_right n m s ws a b taken).0 h, refl, sym e)))

  pub no_set : goal_held n m s ws a b ≡ false → GivesSet n m s ws a b lent lent 7 0
  no_set h =
      set_taken n m s ws a b lent (reason_asked n m s ws a b 16 refl ∙ taken) (Err sets.NotFollows)
      (inr ((λ f. never ((held_right n m s ws a b taken).1 f) h), refl, refl))

-- the module, counted
its_module : (n m : ℕ) (s ws : List ℕ) (a : ℕ) {c : ℕ} → check_question n m s ws a a ≡ Ok c → (count first : ℕ) → module_marks n m s ws a ≡ words first → mark_count (words first) ≡ count
    → GivesModule n m s ws a lent (words first) 0 count
its_module n m s ws a taken count first e k =
    subst (λ (v : ℕ). GivesModule n m s ws a lent (words first) 0 v) (ap mark_count e ∙ k)
    (module_taken n m s ws a lent (reason_asked n m s ws a a 16 refl ∙ taken) (sym e))

-- A YES SHEET OF ZEROS: each of its parts is 8 zeros, so many bytes are a length or not
zero_part : (c i : ℕ) → i * 8 + 8 ≤ c → part (zero_bytes c) i ≡ zero_bytes 8
zero_part c i l =
    let rest : ℕ = c - (i * 8 + 8) in
    let whole : c ≡ i * 8 + (8 + rest) = omega arith in
    let split : zero_bytes c ≡ zero_bytes (i * 8) ++ (zero_bytes 8 ++ zero_bytes rest) =
    ap zero_bytes whole ∙ sym (replicate-append-replicate (i * 8) (8 + rest) 0) ∙ ap (λ (t : List ℕ). zero_bytes (i * 8) ++ t) (sym (replicate-append-replicate 8 rest 0)) in
    ap (λ (t : List ℕ). take 8 (drop (i * 8) t)) split
    ∙ ap (take 8) (drop_at (zero_bytes (i * 8)) (zero_bytes 8 ++ zero_bytes rest) (i * 8) (length-replicate {A = ℕ} (i * 8) 0))
    ∙ take_at (zero_bytes 8) (zero_bytes rest) 8 refl

zeros_length : (c : ℕ) → yes_length_fits (zero_bytes c) ≡ length_of c
zeros_length c = ap (λ (k : ℕ). eqb (k % 8) 0 && leb k 524288) (length-replicate {A = ℕ} c 0)

module _ (n m : ℕ) (s ws : List ℕ) (a b : ℕ) {k : ℕ} (taken : check_question n m s ws a b ≡ Ok k)
    (good : good_over (lines_of s) (counted s ws) n (free n) zero_step ≡ true) (goal : free n (In a b) ≡ true) (c : ℕ) where
  -- what is free is known
  free_known : (ss : List Step) (f : Fact) → free n f ≡ true → known (lines_of s) n ss f ≡ true
  unfolding known
  free_known ss f h = rw h

  zero_good : (i : ℕ) → i < length (zero_bytes c) / 8 → good_at (lines_of s) (counted s ws) n (zero_bytes c) i ≡ true
  unfolding good_at good_over little_endian
  zero_good i l =
      let rule = rule_at (lines_of s) zero_step in
      let p = both_true (usable (lines_of s) (counted s ws) n zero_step) (premises_known rule (free n)) good in
      let q = both_true (free n rule.one) (free n rule.two) p.1 in
      let earlier = take i (steps_of (zero_bytes c)) in
      let one = free_known earlier rule.one q.0 in
      let two = free_known earlier rule.two q.1 in
      rw (zero_part c i (omega (arith, length-replicate {A = ℕ} c 0)), p.0, one, two)

  zeros_given : GivesYes n m s ws a b (zero_bytes c) (cond (length_of c) 0 9) 0
  unfolding check_yes
  zeros_given = go (length_of c) refl
    where
      go : (t : Bool) → length_of c ≡ t → GivesYes n m s ws a b (zero_bytes c) (cond t 0 9) 0
      go true e =
          yes_told_lem n m s ws a b (zero_bytes c) {r = Ok tt}
          (sym (good_accepts n m s ws a b (zero_bytes c) taken (zeros_length c ∙ e) zero_good (free_known (steps_of (zero_bytes c)) (In a b) goal)))
      go false e = yes_told_lem n m s ws a b (zero_bytes c) {r = Err yes.Length} (rw (taken, zeros_length c ∙ e))

-- WHERE WHAT IS WORKED OUT IS WHAT THE CASE HAS, THE CASE HOLDS
pub worked_holds : (c : Case) → worked c ≡ claimed c → Holds c
unfolding worked claimed
worked_holds (Ask q (Follows steps bytes count low) in_module first) e =
    let taken : check_question q.n q.m q.pack q.marks q.a q.b ≡ Ok (record_count q.pack) = cc in
    let own : check_question q.n q.m q.pack q.marks q.a q.a ≡ Ok (record_count q.pack) = cc in
    let held : goal_held q.n q.m q.pack q.marks q.a q.b ≡ true = cc in
    let ours : yes_bytes q.n q.m q.pack q.marks q.a q.b ≡ bytes = cc in
    let long : length bytes ≡ 8 * steps = cc in
    let reach : module_marks q.n q.m q.pack q.marks q.a ≡ words first = cc in
    let many : mark_count (words first) ≡ in_module = cc in
    let set : set_marks q.n q.m q.pack q.marks q.a q.b ≡ words low = cc in
    let few : mark_count (words low) ≡ count = cc in (
      verdict_told_lem q.n q.m q.pack q.marks q.a q.b {r = Ok verdicts.Follows} (sym (verdict_is q.n q.m q.pack q.marks q.a q.b taken held)),
      follows_sheet q.n q.m q.pack q.marks q.a q.b taken held steps bytes ours long,
      its_module q.n q.m q.pack q.marks q.a own in_module first reach many,
      its_set q.n q.m q.pack q.marks q.a q.b taken held count low set few,
    )
worked_holds (Ask q (Not rows bytes) in_module first) e =
    let taken : check_question q.n q.m q.pack q.marks q.a q.b ≡ Ok (record_count q.pack) = cc in
    let own : check_question q.n q.m q.pack q.marks q.a q.a ≡ Ok (record_count q.pack) = cc in
    let held : goal_held q.n q.m q.pack q.marks q.a q.b ≡ false = cc in
    let ours : no_bytes q.n q.m q.pack q.marks ≡ bytes = cc in
    let long : length bytes ≡ 8 * rows = cc in
    let reach : module_marks q.n q.m q.pack q.marks q.a ≡ words first = cc in
    let many : mark_count (words first) ≡ in_module = cc in (
      verdict_told_lem q.n q.m q.pack q.marks q.a q.b {r = Ok verdicts.Not} (sym (verdict_is q.n q.m q.pack q.marks q.a q.b taken held)),
      not_sheet q.n q.m q.pack q.marks q.a q.b taken held rows bytes ours long,
      its_module q.n q.m q.pack q.marks q.a own in_module first reach many,
      no_set q.n q.m q.pack q.marks q.a q.b taken held,
    )
worked_holds (OnePass q bytes) e = (cc, cc)
worked_holds (CheckPack n m pack number value) e =
    let k : checked_number (check_pack n m pack) ≡ number = cc in
    let v : checked_value (check_pack n m pack) ≡ value = cc in
    subst₂ (GivesPack n m pack) k v (pack_given n m pack)
worked_holds (CheckYes q sheet number place c) e =
    let r = check_yes q.n q.m q.pack q.marks q.a q.b sheet in
    let k : yes_number r ≡ number = cc in
    let v : yes_place r ≡ place = cc in
    (subst₂ (GivesYes q.n q.m q.pack q.marks q.a q.b sheet) k v (yes_given q.n q.m q.pack q.marks q.a q.b sheet), cc)
worked_holds (CheckNo q sheet number place c) e =
    let r = check_no q.n q.m q.pack q.marks q.a q.b sheet in
    let k : no_number r ≡ number = cc in
    let v : no_place r ≡ place = cc in
    (subst₂ (GivesNo q.n q.m q.pack q.marks q.a q.b sheet) k v (no_given q.n q.m q.pack q.marks q.a q.b sheet), cc)
worked_holds (CheckZeros q bytes number) e =
    let taken : check_question q.n q.m q.pack q.marks q.a q.b ≡ Ok (record_count q.pack) = cc in
    let good : good_over (lines_of q.pack) (counted q.pack q.marks) q.n (free q.n) zero_step ≡ true = cc in
    let goal : free q.n (In q.a q.b) ≡ true = cc in
    let k : cond (length_of bytes) 0 9 ≡ number = cc in
    subst (λ (k : ℕ). GivesYes q.n q.m q.pack q.marks q.a q.b (zero_bytes bytes) k 0) {x = cond (length_of bytes) 0 9} k
    (zeros_given q.n q.m q.pack q.marks q.a q.b taken good goal bytes)

-- and so for all cases of a list
pub all_hold : (cs : List Case) → map worked cs ≡ map claimed cs → AllHold cs
all_hold [] e = tt
all_hold (c ∷ cs) e = (worked_holds c cc, all_hold cs cc)
