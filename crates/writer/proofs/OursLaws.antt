-- Our sheets are accepted, what the writer says is so of what it wrote, and no second result keeps its promise.
use mathlib.Core.Path.{◌≡◌, refl, sym, ap, ap₂, ◌∙◌, subst, fun_ext}
use mathlib.Core.Bool.{Bool, true, false, cond, ◌&&◌}
use mathlib.Core.List.{List, map, flatten}
use Prim.Native.Nat.{ℕ, ◌+◌, ◌*◌, ◌/◌, ◌%◌, ◌≤◌, ◌<◌}
use native.Mathlib.Nat.{mul_left_comm, mul-div_cancel, mul-mod_left}
use native.Mathlib.Omega.{arith}
use lib.Dec.{eqb, ltb, leb}
use lib.ListN.{length, get_or, take}
use lib.Pow.{pow_mono}
use borrow.Author.Tests.{eq-eqb, le-leb, leb-true}
use Rattle.std.specs.Prelude.{Ok}
use Rattle.bits.specs.Bit.{has}
use Rattle.bits.proofs.BitLaws.{has_high}
use Rattle.bits.proofs.SetLaws.{some_false}
use Rattle.bits.proofs.Truth.{true_both}
use Rattle.pack.specs.declared.line.Fact.TheVariants.{In}
use Rattle.pack.specs.declared.line.Step.{Step}
use Rattle.pack.specs.Bytes.{part}
use Rattle.pack.specs.Question.{counted}
use Rattle.pack.specs.Computed.{check_question}
use Rattle.pack.specs.Record.{lines_of}
use Rattle.pack.specs.World.{World, Is, Obeys}
use Rattle.pack.proofs.Parts.{parts_length, parts_all}
use Rattle.pack.proofs.RecordLaws.{lines_length}
use Rattle.pack.proofs.QuestionLaws.{asked, asked_valid}
use Rattle.yes.specs.YesSheet.{step_in, zeros_in, steps_of, known, good_over, good_at}
use Rattle.yes.specs.Computed.{check_yes}
use Rattle.yes.proofs.YesLaws.{good_accepts}
use Rattle.no.specs.NoSheet.{row_at, forbidden, world_of}
use Rattle.no.specs.Computed.{things_by, no_length_by, check_no}
use Rattle.no.proofs.NoLaws.{world_accepts}
use Rattle.passes.specs.Ours.{our_steps, our_rows}
use Rattle.passes.proofs.PassLaws.{not_free_most}
use Rattle.passes.proofs.StepsLaws.{ours_good, ours_usable, ours_known, ours_most}
use Rattle.passes.proofs.RowsLaws.{rows_length, rows_small, our_world, rows_obey, rows_refute}
use Rattle.sweep.specs.Writing.{step_bytes}
use Rattle.engine.specs.Computed.{goal_held}
use Rattle.writer.specs.Sheet.{yes_bytes, no_bytes}
use Rattle.writer.proofs.SheetLaws.{zeros_in_lem, step_in_lem, steps_of_lem, rows_of_lem, no_length}

-- the world that the bytes of our rows describe is the one of our rows
module _ (n m : ℕ) (s ws : List ℕ) (few : n ≤ 64) where
  no_whole : length (no_bytes n m s ws) ≡ n * (8 * (1 + m))
  no_whole = no_length n m s ws ∙ ap (λ (k : ℕ). 8 * k) (rows_length (lines_of s) (counted s ws) n m) ∙ mul_left_comm 8 n (1 + m)

  no_things : things_by m (no_bytes n m s ws) ≡ n
  no_things = ap (λ (k : ℕ). k / (8 * (1 + m))) no_whole ∙ mul-div_cancel n (omega arith)

  no_fits : 1 ≤ n → no_length_by m (no_bytes n m s ws) ≡ true
  no_fits h =
      let size = length (no_bytes n m s ws) in
      let k = things_by m (no_bytes n m s ws) in
      let things = no_things in
      let rest : size % (8 * (1 + m)) ≡ 0 = ap (λ (l : ℕ). l % (8 * (1 + m))) no_whole ∙ mul-mod_left n (8 * (1 + m)) in
      true_both (eqb (size % (8 * (1 + m))) 0) (leb 1 k && leb k 64) (eq-eqb (size % (8 * (1 + m))) 0 rest)
      (true_both (leb 1 k) (leb k 64) (le-leb 1 k (omega arith)) (le-leb k 64 (omega arith)))

  no_rows : (i : ℕ) → row_at (no_bytes n m s ws) i ≡ get_or (our_rows (lines_of s) (counted s ws) n m) i 0
  unfolding no_bytes
  no_rows =
      rows_of_lem (our_rows (lines_of s) (counted s ws) n m)
      (λ i. omega (arith, rows_small (lines_of s) (counted s ws) n m i, pow_mono few))

  no_clean : (i : ℕ) → forbidden n (things_by m (no_bytes n m s ws)) (no_bytes n m s ws) i ≡ false
  unfolding forbidden
  no_clean i = rw no_things (some_false (λ j. leb (cond (ltb i n) n n) j && has (row_at (no_bytes n m s ws) i) j) 64 (λ j _. at j (ltb i n)))
    where
      high : (j : ℕ) (t : Bool) → leb n j ≡ t → (t && has (row_at (no_bytes n m s ws) i) j) ≡ false
      high j true e = ap (λ (w : ℕ). has w j) (no_rows i) ∙ has_high n (get_or (our_rows (lines_of s) (counted s ws) n m) i 0) j (rows_small (lines_of s) (counted s ws) n m i) (leb-true n j e)
      high j false e = refl

      at : (j : ℕ) (t : Bool) → (leb (cond t n n) j && has (row_at (no_bytes n m s ws) i) j) ≡ false
      at j true = high j (leb n j) refl
      at j false = high j (leb n j) refl

  no_world : world_of (things_by m (no_bytes n m s ws)) (no_bytes n m s ws) ≡ our_world (lines_of s) (counted s ws) n m
  no_world =
      ap₂ (λ (k : ℕ) (row : ℕ → ℕ). record { things = k; is_in = λ x a. has (row x) a; linked = λ x r y. has (row (k + (r * k + x))) y })
      no_things (fun_ext no_rows)

-- a question that is taken
module _ (n m : ℕ) (s ws : List ℕ) (a b : ℕ) {k : ℕ} (taken : check_question n m s ws a b ≡ Ok k) where
  -- OURS IS ACCEPTED: our yes sheet where the goal follows
  pub yes_taken : goal_held n m s ws a b ≡ true → check_yes n m s ws a b (yes_bytes n m s ws a b) ≡ Ok tt
  unfolding goal_held yes_bytes good_at
  yes_taken h =
      let ls = lines_of s in
      let S = counted s ws in
      let ss = our_steps ls S n m a b in
      let sheet = flatten (map step_bytes ss) in
      let d : Step = record { place = 0; x = 0; y = 0; z = 0 } in
      let l = parts_length step_bytes (λ s. refl) ss in
      let most = ours_most ls S n m a b (asked_valid n m s ws a b taken) (asked n m s ws a b taken).goal_a h in
      let few = not_free_most n m (asked n m s ws a b taken).pack.n_most (asked n m s ws a b taken).pack.m_most in
      let size = (asked n m s ws a b taken).pack.size in
      let lines = lines_length s in
      let small : (i : ℕ) → i < length ss → (get_or ss i d).place < 65536 =
      λ i g. (let p = (ours_usable ls S n m a b (asked_valid n m s ws a b taken) (asked n m s ws a b taken).goal_a h i d g).there in omega arith) in
      let all : steps_of sheet ≡ ss = steps_of_lem ss d small in
      good_accepts n m s ws a b sheet taken
      (true_both (eqb (length sheet % 8) 0) (leb (length sheet) 524288) (eq-eqb (length sheet % 8) 0 (omega arith)) (le-leb (length sheet) 524288 (omega arith)))
      (λ i g.
      let there : i < length ss = omega arith in
      let p = parts_all step_bytes (λ s. refl) ss i d there in
      true_both (zeros_in (part sheet i)) (good_over ls S n (known ls n (take i (steps_of sheet))) (step_in (part sheet i)))
      (ap zeros_in p ∙ zeros_in_lem (get_or ss i d))
      (ap₂ (λ (before : List Step) (step : Step). good_over ls S n (known ls n (take i before)) step) all (ap step_in p ∙ step_in_lem (get_or ss i d) (small i there))
      ∙ ours_good ls S n m a b (asked_valid n m s ws a b taken) (asked n m s ws a b taken).goal_a h i d there))
      (ap (λ (steps : List Step). known ls n steps (In a b)) all ∙ ours_known ls S n m a b (asked_valid n m s ws a b taken) (asked n m s ws a b taken).goal_a h)

  -- and our no sheet where it does not
  pub no_taken : goal_held n m s ws a b ≡ false → check_no n m s ws a b (no_bytes n m s ws) ≡ Ok tt
  unfolding goal_held
  no_taken h =
      let ls = lines_of s in
      let S = counted s ws in
      let few = (asked n m s ws a b taken).pack.n_most in
      let there = (asked n m s ws a b taken).goal_a in
      let world = sym (no_world n m s ws few) in
      let things = no_things n m s ws few in
      let goal = rows_refute ls S n m (asked_valid n m s ws a b taken) a b (asked n m s ws a b taken).goal_a (asked n m s ws a b taken).goal_b h in
      world_accepts n m s ws a b (no_bytes n m s ws) taken (no_fits n m s ws few (asked n m s ws a b taken).pack.n_some) (λ i _. no_clean n m s ws few i)
      (subst (λ (w : World). Obeys w ls S) world (rows_obey ls S n m (asked_valid n m s ws a b taken)))
      a (omega arith)
      (subst (λ (w : World). Is w a a) world goal.0)
      (subst (λ (w : World). w.is_in a b ≡ false) world goal.1)
