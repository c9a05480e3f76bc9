-- Laws of the sheet writer: the rows of the finished passes, and what the answers leave on the sheet.
use mathlib.Core.Path.{◌≡◌, refl, sym, ap, ◌∙◌, subst}
use mathlib.Core.Bool.{Bool, true, false, cond}
use mathlib.Core.List.{List, [], ◌++◌, map, flatten, reverse, append-nil}
use Prim.Native.Nat.{ℕ, ◌+◌, ◌-◌, ◌*◌, ◌/◌, ◌%◌, ◌^◌, ◌≤◌, ◌<◌}
use native.Mathlib.Decide.{dec_lt}
use native.Mathlib.Nat.{zero-add, mul_comm, mul-le-mul_left, mul-add, mul-one, mod-lt, div-add-mod', div-lt_iff_lt-mul}
use native.Mathlib.Omega.{arith}
use lib.Dec.{leb}
use lib.ListN.{length, get_or, take, drop, length-take, length-reverse, drop_of_length-le}
use borrow.Author.Tests.{le-leb, lt-leb, lt-ltb, le-ltb, eq-eqb}
use Rattle.std.specs.Prelude.{Result, Ok, Err, Some}
use Rattle.std.proofs.lemmas.List.{get_or-take, get_or-drop}
use Rattle.std.proofs.lemmas.Nat.{div-mul-add, mod-mul-add}
use Rattle.bits.specs.Bit.{has, row}
use Rattle.bits.specs.Lists.{listed}
use Rattle.bits.proofs.BitLaws.{has_high}
use Rattle.bits.proofs.Truth.{never}
use Rattle.bits.proofs.RowLaws.{row_only}
use Rattle.bits.proofs.ListLaws.{listed_is}
use Rattle.pack.specs.declared.line.Fact.{Fact}
use Rattle.pack.specs.declared.line.Fact.TheVariants.{In, Link}
use Rattle.pack.specs.declared.line.Line.{Line}
use Rattle.pack.specs.declared.line.Step.{Step}
use Rattle.pack.specs.Bytes.{words_bytes}
use Rattle.pack.specs.Question.{counted}
use Rattle.pack.specs.Computed.{check_question}
use Rattle.pack.specs.Record.{lines_of}
use Rattle.pack.specs.Rules.{free}
use Rattle.pack.proofs.QuestionLaws.{Asked, asked}
use Rattle.tables.specs.Tables.{held}
use Rattle.tables.proofs.TableLaws.{in_bit, link_bit}
use Rattle.passes.specs.Saturation.{holds}
use Rattle.passes.specs.Passes.{el, finished, at_end}
use Rattle.passes.specs.Ours.{our_steps, our_rows}
use Rattle.passes.proofs.RowsLaws.{row_concepts, row_links}
use Rattle.passes.proofs.RowsLaws as ours
use Rattle.passes.proofs.StopLaws.{ours_none, goal_free}
use Rattle.sweep.specs.Inner.{Agree}
use Rattle.sweep.specs.Writing.{step_bytes}
use Rattle.engine.specs.Computed.{goal_held}
use Rattle.engine.specs.Inner.{Ran}
use Rattle.engine.proofs.VerdictLaws.{too_long_never, end_held, end_not}
use Rattle.writer.specs.declared.answer.Sheet.{Sheet}
use Rattle.writer.specs.declared.answer.Sheet.TheVariants as sheets
use Rattle.writer.specs.declared.answer.SheetError.{SheetError}
use Rattle.writer.specs.declared.answer.SheetError.TheVariants as refused
use Rattle.writer.specs.Sheet.{yes_bytes, no_bytes}
use Rattle.writer.specs.Computed.{our_sheet, sheet_answer, sheet_out, ask_sheet, written_sheet}
use Rattle.writer.specs.Inner.{row_in, rows_bytes}
use Rattle.writer.proofs.SheetLaws.{with_steps_lem, yes_length, no_length}

-- the rows of a no sheet are at most 9 for a thing: its concepts and 8 roles
pub rows_few : (n m : ℕ) → m ≤ 8 → n * (1 + m) ≤ n * 9
rows_few n m h = mul-le-mul_left {m = 1 + m} {n = 9} n (omega arith)

-- with so many rows, what is answered where there is room for them, and where there is none
pub no_fits : (rows : ℕ) {size : ℕ} → rows * 8 ≤ size → Ok (sheets.Not rows) ≡ sheet_answer false rows (leb (rows * 8) size)
no_fits rows {size} h = rw (le-leb (rows * 8) size h)

pub no_short : (rows : ℕ) {size : ℕ} → size < rows * 8 → Err (refused.NoRoom (rows * 8)) ≡ sheet_answer false rows (leb (rows * 8) size)
no_short rows {size} h = rw (lt-leb (rows * 8) size h) (ap (λ (k : ℕ). Err (refused.NoRoom k)) (mul_comm rows 8))

-- the rows of one role more
pub rows_next : (n r : ℕ) → n * (1 + r) + n ≡ n * (1 + (r + 1))
rows_next n r = let e : 1 + (r + 1) ≡ 1 + r + 1 = omega arith in rw (e, mul-add n (1 + r) 1, mul-one n)

-- the rows in order: those of concepts, then those of each role
module _ (n : ℕ) (cs lks : List ℕ) where
  pub concept_row_in : (x : ℕ) → x < n → row_in n cs lks x ≡ get_or cs x 0
  concept_row_in x h = rw (lt-ltb x n h)

  pub link_row_in : (r x : ℕ) → x < n → row_in n cs lks (n * (1 + r) + x) ≡ get_or lks (r * 64 + x) 0
  link_row_in r x h =
      let past : n * (1 + r) ≡ n + r * n = omega (arith, mul-add n 1 r, mul-one n, mul_comm n r) in
      let at : n * (1 + r) + x - n ≡ r * n + x = omega arith in
      rw (le-ltb (n * (1 + r) + x) n (omega arith), at, div-mul-add r n x h, mod-mul-add r n x h)

  -- as they are cut out of the tables
  pub concept_part : (i : ℕ) → i < length (take n cs) → get_or (take n cs) i 0 ≡ row_in n cs lks (0 + i)
  concept_part i h =
      let l : i < n = omega (arith, length-take n cs) in
      rw zero-add (get_or-take n cs i 0 l ∙ sym (concept_row_in i l))

  pub link_part : (r i : ℕ) → i < length (take n (drop (r * 64) lks)) → get_or (take n (drop (r * 64) lks)) i 0 ≡ row_in n cs lks (n * (1 + r) + i)
  link_part r i h =
      let l : i < n = omega (arith, length-take n (drop (r * 64) lks)) in
      get_or-take n (drop (r * 64) lks) i 0 l ∙ get_or-drop (r * 64) lks i 0 ∙ sym (link_row_in r i l)

-- what holds below j and of the k from j on holds below j + k
pub below_both : (P : ℕ → Type 0) (j k : ℕ) → ((i : ℕ) → i < j → P i) → ((i : ℕ) → i < k → P (j + i)) → (i : ℕ) → i < j + k → P i
below_both P j k low high i h = go (dec_lt i j)
  where
    go : Dec (i < j) → P i
    go (yes l) = low i l
    go (no l) = let e : j + (i - j) ≡ i = omega arith in subst P e (high (i - j) (omega arith))

-- the answers and what they leave, for a question that is taken
module _ (n m : ℕ) (s ws : List ℕ) (a b : ℕ) {c : ℕ} (taken : check_question n m s ws a b ≡ Ok c) (sheet : List ℕ) where
  abbrev pub Answers : Result Sheet SheetError → List ℕ → Type 0
  Answers r after = (r ≡ ask_sheet n m s ws a b sheet) × (after ≡ written_sheet n m s ws a b sheet)

  -- our sheet is so many parts: the answer goes by whether there is room for them
  module _ (positive : Bool) (said : goal_held n m s ws a b ≡ positive) (ours : List ℕ) (parts : ℕ) (is : ours ≡ cond positive (yes_bytes n m s ws a b) (no_bytes n m s ws)) (long : length ours ≡ parts * 8) where
    whole : our_sheet n m s ws a b ≡ ours
    whole = ap (λ (t : Bool). cond t (yes_bytes n m s ws a b) (no_bytes n m s ws)) said ∙ sym is

    parts_are : cond positive (length (our_steps (lines_of s) (counted s ws) n m a b)) (length (our_rows (lines_of s) (counted s ws) n m)) ≡ parts
    parts_are = go positive is
      where
        go : (t : Bool) → ours ≡ cond t (yes_bytes n m s ws a b) (no_bytes n m s ws) → cond t (length (our_steps (lines_of s) (counted s ws) n m a b)) (length (our_rows (lines_of s) (counted s ws) n m)) ≡ parts
        go true e = omega (arith, ap length e, long, yes_length n m s ws a b)
        go false e = omega (arith, ap length e, long, no_length n m s ws)

    asked_parts : ask_sheet n m s ws a b sheet ≡ sheet_answer positive parts (leb (parts * 8) (length sheet))
    unfolding ask_sheet
    asked_parts = rw (taken, too_long_never n m s ws a b taken, said, sym is, long, parts_are)

    pub too_short : length sheet < parts * 8 → Answers (Err (refused.NoRoom (parts * 8))) sheet
    unfolding written_sheet
    too_short h =
        let e : ask_sheet n m s ws a b sheet ≡ Err (refused.NoRoom (parts * 8)) =
        asked_parts ∙ rw (lt-leb (parts * 8) (length sheet) h) (ap (λ (k : ℕ). Err (refused.NoRoom k)) (mul_comm 8 parts)) in
        (sym e, rw e)

    long_enough : parts * 8 ≤ length sheet → Answers (cond positive (Ok (sheets.Follows parts)) (Ok (sheets.Not parts))) (ours ++ drop (parts * 8) sheet)
    unfolding written_sheet
    long_enough h = go positive refl
      where
        e : ask_sheet n m s ws a b sheet ≡ cond positive (Ok (sheets.Follows parts)) (Ok (sheets.Not parts))
        e = asked_parts ∙ rw (le-leb (parts * 8) (length sheet) h)

        go : (t : Bool) → positive ≡ t → Answers (cond t (Ok (sheets.Follows parts)) (Ok (sheets.Not parts))) (ours ++ drop (parts * 8) sheet)
        go true p = let f : ask_sheet n m s ws a b sheet ≡ Ok (sheets.Follows parts) = e ∙ rw p in (sym f, rw (f, whole, long))
        go false p = let f : ask_sheet n m s ws a b sheet ≡ Ok (sheets.Not parts) = e ∙ rw p in (sym f, rw (f, whole, long))

-- THE ROWS OF THE FINISHED PASSES ARE OUR ROWS
module _ (n m : ℕ) (ls : List Line) (S : ℕ → Bool) (blank cs lks sheet : List ℕ) (k : ℕ) (some : 1 ≤ n) (most : n ≤ 64)
    (agree : Agree n m (free n) ls blank (finished ls S n m) cs lks sheet k) (words : (i : ℕ) → i < n * (1 + m) → row_in n cs lks i < 2 ^ 64) where
  -- a row of words that hold a fact for each bit
  row_is : (w : ℕ) (f : ℕ → Fact) → w < 2 ^ 64 → ((j : ℕ) → j < 64 → has w j ≡ held cs lks (f j)) → ((j : ℕ) → held cs lks (f j) ≡ true → j < n) → w ≡ row n (λ j. at_end ls S n m (f j))
  unfolding at_end
  row_is w f h bits small =
      row_only 64 n (λ j. holds (el ls) (free n) (finished ls S n m) (f j)) w most h
      (λ j l. bits j (omega arith) ∙ agree.facts (f j))
      (λ j l. high j l (dec_lt j 64))
    where
      none : (j : ℕ) → n ≤ j → (t : Bool) → held cs lks (f j) ≡ t → t ≡ false
      none j l true e = let q = small j e in absurd (omega arith)
      none j l false e = refl

      high : (j : ℕ) → n ≤ j → Dec (j < 64) → has w j ≡ false
      high j l (yes q) = bits j q ∙ none j l (held cs lks (f j)) refl
      high j l (no q) = has_high 64 w j h (omega arith)

  concept-row : (x : ℕ) → x < n → get_or cs x 0 < 2 ^ 64 → get_or cs x 0 ≡ row n (λ b. at_end ls S n m (In x b))
  concept-row x l h = row_is (get_or cs x 0) (In x) h (λ j. in_bit cs lks x j (omega arith)) (λ j e. (agree.sizes (In x j) e).1)

  link_row : (r x : ℕ) → r < m → m ≤ 8 → x < n → get_or lks (r * 64 + x) 0 < 2 ^ 64 → get_or lks (r * 64 + x) 0 ≡ row n (λ y. at_end ls S n m (Link x r y))
  link_row r x lr lm lx h = row_is (get_or lks (r * 64 + x) 0) (Link x r) h (λ j. link_bit cs lks x r j (omega arith) (omega arith)) (λ j e. (agree.sizes (Link x r j) e).2)

  row_at_lem : m ≤ 8 → (i : ℕ) → i < n * (1 + m) → row_in n cs lks i ≡ get_or (our_rows ls S n m) i 0
  row_at_lem lm i h = go (dec_lt i n)
    where
      go : Dec (i < n) → row_in n cs lks i ≡ get_or (our_rows ls S n m) i 0
      go (yes l) =
          let e = lt-ltb i n l in
          let w : get_or cs i 0 < 2 ^ 64 = rw e at (words i h) in
          rw e (concept-row i l w ∙ sym (row_concepts ls S n m i l))
      go (no l) =
          let e = le-ltb i n (omega arith) in
          let x = (i - n) % n in
          let r = (i - n) / n in
          let lx : x < n = mod-lt (i - n) some in
          let lr : r < m = (div-lt_iff_lt-mul some).1 (omega (arith, mul-add n 1 m, mul-one n, mul_comm m n)) in
          let w : get_or lks (r * 64 + x) 0 < 2 ^ 64 = rw e at (words i h) in
          let there : n + (r * n + x) ≡ i = omega (arith, div-add-mod' (i - n) n) in
          rw e (link_row r x lr lm lx w ∙ sym (row_links ls S n m r x lr lx) ∙ ap (λ (j : ℕ). get_or (our_rows ls S n m) j 0) there)

  our_rows_lem : m ≤ 8 → listed (n * (1 + m)) 0 (row_in n cs lks) ≡ our_rows ls S n m
  our_rows_lem lm = listed_is (row_in n cs lks) 0 (n * (1 + m)) (our_rows ls S n m) (ours.rows_length ls S n m) (row_at_lem lm)

-- the sheets of a question that is taken
module _ (n m : ℕ) (s ws : List ℕ) (a b : ℕ) {c : ℕ} (taken : check_question n m s ws a b ≡ Ok c) (sheet : List ℕ) where
  -- A EQUAL TO B: nothing to show
  pub same_sheet : a ≡ b → Answers n m s ws a b taken sheet (Ok (sheets.Follows 0)) sheet
  unfolding yes_bytes goal_held flatten
  same_sheet e =
      let q = asked n m s ws a b taken in
      let none : our_steps (lines_of s) (counted s ws) n m a b ≡ [] = ours_none (lines_of s) (counted s ws) n m a b (eq-eqb a b e) in
      let empty : [] ≡ yes_bytes n m s ws a b = sym (ap (λ (l : List Step). flatten (map step_bytes l)) none) in
      long_enough n m s ws a b taken sheet true (goal_free (lines_of s) (counted s ws) n m a b (eq-eqb a b e) q.goal_a) [] 0 empty refl (omega arith)

  module _ (yes : goal_held n m s ws a b ≡ true) (steps : ℕ) (many : steps ≡ length (our_steps (lines_of s) (counted s ws) n m a b)) where
    bytes_long : length (yes_bytes n m s ws a b) ≡ steps * 8
    bytes_long = yes_length n m s ws a b ∙ omega arith

    pub yes_short : length sheet < steps * 8 → Answers n m s ws a b taken sheet (Err (refused.NoRoom (steps * 8))) sheet
    yes_short = too_short n m s ws a b taken sheet true yes (yes_bytes n m s ws a b) steps refl bytes_long

    -- OUR YES SHEET, written by the passes into a part as long as it
    pub yes_full : (differ : a ≡ b → ⊥) (blank cs lks part : List ℕ) (k : ℕ) → steps * 8 ≤ length sheet → length blank ≡ steps * 8
        → Ran n m (Some (In a b)) (free n) (lines_of s) blank (finished (lines_of s) (counted s ws) n m) cs lks part k
        → Answers n m s ws a b taken sheet (Ok (sheets.Follows k)) (part ++ drop (steps * 8) sheet)
    unfolding yes_bytes
    yes_full differ blank cs lks part k room long ran = go (held cs lks (In a b)) refl
      where
        go : (t : Bool) → held cs lks (In a b) ≡ t → Answers n m s ws a b taken sheet (Ok (sheets.Follows k)) (part ++ drop (steps * 8) sheet)
        go true h =
            let e = (end_held n m s ws a b taken differ blank cs lks part k ran h).1 in
            let same : length e.0 ≡ steps = sym (length-reverse e.0) ∙ ap length (sym e.1) ∙ sym many in
            let full : length e.0 * 8 ≡ length blank = omega arith in
            let rest : drop (length e.0 * 8) blank ≡ [] = drop_of_length-le blank {i = length e.0 * 8} (omega arith) in
            let bytes : part ≡ yes_bytes n m s ws a b =
            e.3.bytes ∙ with_steps_lem blank e.0 (omega arith) ∙ ap (λ (l : List ℕ). flatten (map step_bytes (reverse e.0)) ++ l) rest ∙ append-nil (flatten (map step_bytes (reverse e.0)))
            ∙ ap (λ (l : List Step). flatten (map step_bytes l)) (sym e.1) in
            let count : k ≡ steps = e.3.counts ∙ same in
            rw count (long_enough n m s ws a b taken sheet true yes part steps bytes (ap length bytes ∙ bytes_long) room)
        go false h = never yes (end_not n m s ws a b taken differ blank cs lks part k ran h).0

  -- OUR NO SHEET, written from the rows
  pub no_sheet : (differ : a ≡ b → ⊥) (blank cs lks blank' : List ℕ) (k : ℕ) → Ran n m (Some (In a b)) (free n) (lines_of s) blank (finished (lines_of s) (counted s ws) n m) cs lks blank' k → held cs lks (In a b) ≡ false
      → {r : Result Sheet SheetError} {after : List ℕ} → r ≡ sheet_answer false (n * (1 + m)) (leb (n * (1 + m) * 8) (length sheet)) → after ≡ sheet_out r (rows_bytes n (n * (1 + m)) cs lks) sheet
      → (n * (1 + m) * 8 ≤ length sheet → (i : ℕ) → i < n * (1 + m) → row_in n cs lks i < 2 ^ 64) → Answers n m s ws a b taken sheet r after
  unfolding no_bytes rows_bytes
  no_sheet differ blank cs lks blank' k ran h {r} {after} e f words = go (dec_lt (length sheet) (n * (1 + m) * 8))
    where
      q : Asked n m s ws a b c
      q = asked n m s ws a b taken

      end : (goal_held n m s ws a b ≡ false) × Agree n m (free n) (lines_of s) blank (finished (lines_of s) (counted s ws) n m) cs lks blank' k
      end = end_not n m s ws a b taken differ blank cs lks blank' k ran h

      ours_long : length (no_bytes n m s ws) ≡ n * (1 + m) * 8
      ours_long = no_length n m s ws ∙ omega (arith, ours.rows_length (lines_of s) (counted s ws) n m)

      go : Dec (length sheet < n * (1 + m) * 8) → Answers n m s ws a b taken sheet r after
      go (yes l) =
          let d : r ≡ Err (refused.NoRoom (n * (1 + m) * 8)) = e ∙ sym (no_short (n * (1 + m)) l) in
          let g : after ≡ sheet = f ∙ rw d in
          rw (d, g) (too_short n m s ws a b taken sheet false end.0 (no_bytes n m s ws) (n * (1 + m)) refl ours_long l)
      go (no l) =
          let room : n * (1 + m) * 8 ≤ length sheet = omega arith in
          let d : r ≡ Ok (sheets.Not (n * (1 + m))) = e ∙ sym (no_fits (n * (1 + m)) room) in
          let same : words_bytes (listed (n * (1 + m)) 0 (row_in n cs lks)) ≡ no_bytes n m s ws =
          ap words_bytes (our_rows_lem n m (lines_of s) (counted s ws) blank cs lks blank' k q.pack.n_some q.pack.n_most end.1 (words room) q.pack.m_most) in
          let g : after ≡ no_bytes n m s ws ++ drop (n * (1 + m) * 8) sheet = f ∙ rw (d, same, ours_long) in
          rw (d, g) (long_enough n m s ws a b taken sheet false end.0 (no_bytes n m s ws) (n * (1 + m)) refl ours_long room)
