-- Laws of a no sheet: its rows, what an accepted one shows, and which one is accepted.
use mathlib.Core.Path.{◌≡◌, refl, sym, ap, ◌∙◌}
use mathlib.Core.Bool.{Bool, true, false, cond, not, ◌&&◌}
use mathlib.Core.List.{List}
use Prim.Native.Nat.{ℕ, suc, ◌+◌, ◌*◌, ◌/◌, ◌%◌, ◌≤◌, ◌<◌}
use native.Mathlib.Nat.{mul-add, mul-one, mul_comm, mul_assoc, suc-mul, mul-le-mul_right, mul-le-mul_left, mul-div_cancel, div-add-mod', zero-add}
use native.Mathlib.Decide.{dec_lt}
use native.Mathlib.Omega.{arith}
use borrow.Author.Count.{below_more}
use lib.Dec.{eqb, ltb, leb}
use lib.ListN.{length}
use borrow.Author.Tests.{eqb-true, le-ltb, ltb-false, leb-true, le-leb, not-true, not-false}
use Rattle.std.specs.Prelude.{Some, None, Result, Ok, Err}
use Rattle.bits.specs.Bit.{has}
use Rattle.bits.specs.Sets.{lowest, found_below}
use Rattle.bits.proofs.Truth.{both_true, true_both, and_no, never, is_no, clash, cond_first, cond_second}
use Rattle.bits.proofs.FoundLaws.{Found, Missing, found_at, found_end}
use Rattle.bits.proofs.SetLaws.{lowest_is, lowest_none, none_lowest, first_none, some_true, true_some}
use Rattle.pack.specs.declared.check.Refusal.{Refusal}
use Rattle.pack.specs.declared.line.Line.{Line}
use Rattle.pack.specs.declared.line.Line.TheVariants.{Under, BothUnder, UnderSome, SomeUnder, RoleUnder, ChainUnder, ToItself, NoLine}
use Rattle.pack.specs.World.{World, Is, Obeys, Follows, line_at}
use Rattle.pack.specs.Computed.{obeys, check_question}
use Rattle.pack.specs.Record.{lines_of, record_count, ValidLine, Valid}
use Rattle.pack.specs.Question.{counted}
use Rattle.no.proofs.ThingLaws.{lowest_first}
use Rattle.pack.proofs.QuestionLaws.{asked}
use Rattle.pack.proofs.WorldLaws.{obeys_line, line_obeys}
use Rattle.no.specs.declared.check.NoError.{NoError}
use Rattle.no.specs.declared.check.NoError.TheVariants as no
use Rattle.no.specs.Inner.{RoleFits, LineFits, LinesFit}
use Rattle.no.specs.NoSheet.{row_at, rows_of, forbidden, world_of}
use Rattle.no.specs.Computed.{things_by, no_length_by, lowest_forbidden, lowest_broken, refutes, check_world, check_rows, no_after, check_no}

-- the rows: k, and k for each role
rows_are : (m k : ℕ) → rows_of m k ≡ k + m * k
rows_are m k = mul-add k 1 m ∙ rw (mul-one k, mul_comm k m)

pub rows_few : (m k : ℕ) → m ≤ 8 → k ≤ 64 → rows_of m k ≤ 576
rows_few m k h l = omega (arith, rows_are m k, mul-le-mul_left m l, mul_comm m k)

-- a length that is a multiple of 8 · (1 + m) is that of its things' rows
pub whole_rows : (m : ℕ) (sheet : List ℕ) → length sheet % (8 * (1 + m)) ≡ 0 → length sheet ≡ rows_of m (things_by m sheet) * 8
whole_rows m sheet e =
    let k = things_by m sheet in
    let d : k * (8 * (1 + m)) + length sheet % (8 * (1 + m)) ≡ length sheet = div-add-mod' (length sheet) (8 * (1 + m)) in
    let f : k * (8 * (1 + m)) ≡ k * (1 + m) * 8 = ap (λ (v : ℕ). k * v) (mul_comm 8 (1 + m)) ∙ sym (mul_assoc k (1 + m) 8) in
    omega arith

-- a length that fits is that of at most 64 things
pub rows_fit : (m : ℕ) (sheet : List ℕ) {k : ℕ} → (k ≡ things_by m sheet) × (no_length_by m sheet ≡ true) → (k ≤ 64) × (length sheet ≡ rows_of m k * 8)
rows_fit m sheet h =
    let p = both_true (eqb (length sheet % (8 * (1 + m))) 0) (leb 1 (things_by m sheet) && leb (things_by m sheet) 64) h.1 in
    rw h.0 (leb-true (things_by m sheet) 64 (both_true (leb 1 (things_by m sheet)) (leb (things_by m sheet) 64) p.1).1, whole_rows m sheet (eqb-true (length sheet % (8 * (1 + m))) 0 p.0))

module _ (n m k : ℕ) (sheet : List ℕ) (whole : length sheet ≡ rows_of m k * 8) where
  -- the search for a forbidden bit: the lowest row, or the end of the rows
  rows_by : length sheet / 8 ≡ rows_of m k
  rows_by = ap (λ (l : ℕ). l / 8) whole ∙ mul-div_cancel (rows_of m k) (omega arith)

  pub row_found : {r : ℕ} → Some r ≡ found_below (length sheet / 8) (lowest (forbidden n k sheet) 0 (length sheet / 8)) → (lowest_forbidden n m k sheet ≡ r) × (r < rows_of m k)
  unfolding lowest_forbidden
  row_found e = found_at (sym (rw rows_by at e))

  pub row_missing : None ≡ found_below (length sheet / 8) (lowest (forbidden n k sheet) 0 (length sheet / 8)) → lowest_forbidden n m k sheet ≡ rows_of m k
  unfolding lowest_forbidden
  row_missing e =
      let past = found_end (sym (rw rows_by at e)) in
      let w = (lowest_is (forbidden n k sheet) 0 (rows_of m k)).within in
      omega (arith, zero-add (rows_of m k), past)

  -- a role below m has its rows in the sheet
  role_rows : (r : ℕ) → r < m → k + (r * k + k) ≤ rows_of m k
  role_rows r h =
      let l : suc r * k ≤ m * k = mul-le-mul_right k h in
      omega (arith, rows_are m k, suc-mul r k)

  pub things_fit : k ≤ length sheet / 8
  things_fit = omega (arith, rows_are m k)

  -- where no row has a forbidden bit, no link leaves the things
  role_fits : lowest_forbidden n m k sheet ≡ rows_of m k → (r : ℕ) → r < m → RoleFits k sheet r
  unfolding lowest_forbidden forbidden
  role_fits e r h = record {
    rows = omega (arith, role_rows r h);
    inside = λ x y lx ly b. is_no (none x y lx ly b);
  }
    where
      none : (x y : ℕ) → x < k → k ≤ y → y < 64 → has (row_at sheet (k + (r * k + x))) y ≡ true → ⊥
      none x y lx ly b g =
          let i = k + (r * k + x) in
          let far : i < rows_of m k = omega (arith, role_rows r h) in
          let clean = lowest_none (forbidden n k sheet) 0 (rows_of m k) (e ∙ sym (zero-add (rows_of m k))) i (omega arith) (omega arith) in
          never
          (rw (le-ltb i k (omega arith)) (true_some (λ j. leb k j && has (row_at sheet i) j) 64 y b (true_both (leb k y) (has (row_at sheet i) y) (le-leb k y ly) g)))
          clean

  line_fits : n ≤ 64 → lowest_forbidden n m k sheet ≡ rows_of m k → (l : Line) → ValidLine n m l → LineFits k sheet l
  line_fits h e (Under a b) v = (omega arith, omega arith)
  line_fits h e (BothUnder a₁ a₂ b) v = (omega arith, omega arith, omega arith)
  line_fits h e (UnderSome a r b) v = (omega arith, role_fits e r v.1, omega arith)
  line_fits h e (SomeUnder r a b) v = (role_fits e r v.0, omega arith, omega arith)
  line_fits h e (RoleUnder r s) v = (role_fits e r v.0, role_fits e s v.1)
  line_fits h e (ChainUnder r s t) v = (role_fits e r v.0, role_fits e s v.1, role_fits e t v.2)
  line_fits h e (ToItself r) v = role_fits e r v
  line_fits h e NoLine v = tt

  pub lines_fit : n ≤ 64 → lowest_forbidden n m k sheet ≡ rows_of m k → (ls : List Line) → Valid n m ls → LinesFit k sheet ls
  lines_fit h e ls v i l = line_fits h e (line_at ls i) (v i l)

-- a place that counts is that of a record
pub counted_below : (n m : ℕ) (s ws : List ℕ) (a b : ℕ) → check_question n m s ws a b ≡ Ok (record_count s) → (i : ℕ) → counted s ws i ≡ true → i < record_count s
counted_below n m s ws a b e i h = go (dec_lt i (record_count s))
  where
    go : Dec (i < record_count s) → i < record_count s
    go (yes l) = l
    go (no l) = never h ((asked n m s ws a b e).marks.above i (omega (arith, l)))

-- what came to the end is not below it
pub not_below : {i k : ℕ} → i ≡ k → ltb i k ≡ false
not_below {i} {k} e = le-ltb i k (omega arith)

-- the two tests of a world
pub refuting : (w : World) (a b : ℕ) → refutes w a b ≡ true → (x : ℕ) × (x < w.things) × Is w x a × (w.is_in x b ≡ false)
unfolding refutes
refuting w a b h =
    let e = some_true (λ x. w.is_in x a && not (w.is_in x b)) w.things h in
    let p = both_true (w.is_in e.0 a) (not (w.is_in e.0 b)) e.2 in
    (e.0, e.1, p.0, not-true (w.is_in e.0 b) p.1)

pub refuted : (w : World) (a b x : ℕ) → x < w.things → Is w x a → w.is_in x b ≡ false → refutes w a b ≡ true
unfolding refutes
refuted w a b x l p q = true_some (λ x. w.is_in x a && not (w.is_in x b)) w.things x l (rw (p, q))

module _ (w : World) (ls : List Line) (S : ℕ → Bool) where
  -- place i counts, and its line is broken
  abbrev pub broken_at : ℕ → Bool
  broken_at i = S i && not (obeys w (line_at ls i))

  -- at the next place of S, past those that are not in S: none before it is broken
  pub passed : {i c j : ℕ} → ((x : ℕ) → x < i → broken_at x ≡ false) → Found S i c j → (x : ℕ) → x < j → broken_at x ≡ false
  passed {i} f t x l = go (dec_lt x i)
    where
      go : Dec (x < i) → broken_at x ≡ false
      go (yes h) = f x h
      go (no h) = rw (t.before x (omega arith) l)

  -- nor it, where the world obeys its line; nor any, where none is left
  pub passed_on : {i c j : ℕ} → ((x : ℕ) → x < i → broken_at x ≡ false) → Found S i c j → obeys w (line_at ls j) ≡ true → (x : ℕ) → x < j + 1 → broken_at x ≡ false
  passed_on {j = j} f t o = below_more _ _ (passed f t) (and_no (S j) (not (obeys w (line_at ls j))) (rw o))

  pub passed_all : {i c : ℕ} → ((x : ℕ) → x < i → broken_at x ≡ false) → Missing S i c → length ls ≤ c → lowest_broken w ls S ≡ length ls
  unfolding lowest_broken
  passed_all {i} f m h = none_lowest broken_at 0 (length ls) (λ x g l. go x (omega (arith, zero-add (length ls))) (dec_lt x i)) ∙ zero-add (length ls)
    where
      go : (x : ℕ) → x < length ls → Dec (x < i) → broken_at x ≡ false
      go x l (yes q) = f x q
      go x l (no q) = rw (m.none x (omega arith) (omega arith))

  -- the first that is broken is the lowest
  pub broken_first : (i : ℕ) → i < length ls → ((x : ℕ) → x < i → broken_at x ≡ false) → S i ≡ true → obeys w (line_at ls i) ≡ false → lowest_broken w ls S ≡ i
  unfolding lowest_broken
  broken_first i l f s o = lowest_first broken_at (length ls) i l f (rw (s, o))

  none_broken : length ls ≤ lowest_broken w ls S → Obeys w ls S
  unfolding lowest_broken
  none_broken h i l s = obeys_line w (line_at ls i) (not-false (obeys w (line_at ls i)) (rw s at (first_none broken_at refl h i l)))

  obeyed : Obeys w ls S → lowest_broken w ls S ≡ length ls
  unfolding lowest_broken
  obeyed o = none_lowest broken_at 0 (length ls) (λ i g l. at i (omega (arith, zero-add (length ls))) (S i) refl) ∙ zero-add (length ls)
    where
      at : (i : ℕ) → i < length ls → (t : Bool) → S i ≡ t → (t && not (obeys w (line_at ls i))) ≡ false
      at i l true s = ap not (line_obeys w (line_at ls i) (o i l s))
      at i l false s = refl

-- the answers to a question that is taken, one below the other
module _ (n m : ℕ) (s ws : List ℕ) (a b : ℕ) (sheet : List ℕ) where
  abbrev k : ℕ
  k = things_by m sheet

  abbrev w : World
  w = world_of (things_by m sheet) sheet

  abbrev row : ℕ
  row = lowest_forbidden n m (things_by m sheet) sheet

  abbrev place : ℕ
  place = lowest_broken (world_of (things_by m sheet) sheet) (lines_of s) (counted s ws)

  -- an answer other than a refusal of the question is one of those
  taken : {r : Result (Unit {0}) NoError} → check_no n m s ws a b sheet ≡ r → ((why : Refusal) → Err (no.Refused why) ≡ r → ⊥) → cond (no_length_by m sheet) (check_rows n m k (lines_of s) (counted s ws) a b sheet) (Err no.Length) ≡ r
  unfolding check_no
  taken {r} e question = after (check_question n m s ws a b) e
    where
      after : (q : Result ℕ Refusal) → no_after q n m s ws a b sheet ≡ r → cond (no_length_by m sheet) (check_rows n m k (lines_of s) (counted s ws) a b sheet) (Err no.Length) ≡ r
      after (Err why) h = absurd (question why h)
      after (Ok c) h = h

  -- AN ACCEPTED NO SHEET IS A WORLD that obeys every line that counts and has a thing of a that is not in b: the goal does not follow
  pub no_sound : check_no n m s ws a b sheet ≡ Ok tt → Follows (lines_of s) (counted s ws) a b → ⊥
  unfolding check_rows check_world
  no_sound e f =
      let l = cond_first (no_length_by m sheet) (taken e (λ why q. clash cc)) (λ q. clash cc) in
      let r = cond_second (ltb row (rows_of m k)) l.1 (λ q. clash cc) in
      let p = cond_second (ltb place (length (lines_of s))) r.1 (λ q. clash cc) in
      let g = cond_first (refutes w a b) p.1 (λ q. clash cc) in
      let t = refuting w a b g.0 in
      let some = leb-true 1 k (both_true (leb 1 k) (leb k 64) (both_true (eqb (length sheet % (8 * (1 + m))) 0) (leb 1 k && leb k 64) l.0).1).0 in
      never {a = (world_of (things_by m sheet) sheet).is_in t.0 b} (f w some (none_broken w (lines_of s) (counted s ws) (ltb-false place (length (lines_of s)) p.0)) t.0 t.1 t.2) t.3

  -- A SHEET THAT KEEPS THE RULES IS ACCEPTED
  pub world_accepts : {c : ℕ} → check_question n m s ws a b ≡ Ok c → no_length_by m sheet ≡ true → ((i : ℕ) → i < rows_of m k → forbidden n k sheet i ≡ false) → Obeys w (lines_of s) (counted s ws) → (x : ℕ) → x < k → Is w x a → w.is_in x b ≡ false → check_no n m s ws a b sheet ≡ Ok tt
  unfolding check_no check_rows check_world lowest_forbidden
  world_accepts e fit clean o x l p q =
      rw (
        e,
        fit,
        none_lowest (forbidden n k sheet) 0 (rows_of m k) (λ i g h. clean i (omega (arith, zero-add (rows_of m k)))),
        zero-add (rows_of m k),
        le-ltb (rows_of m k) (rows_of m k) (omega arith),
        obeyed w (lines_of s) (counted s ws) o,
        le-ltb (length (lines_of s)) (length (lines_of s)) (omega arith),
        refuted w a b x l p q,
      )
