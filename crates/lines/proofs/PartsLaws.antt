-- What the writer's answer tells of a question that is taken is the number of our steps or rows, whether there is room or not.
use mathlib.Core.Path.{◌≡◌, refl, ◌∙◌}
use mathlib.Core.Bool.{Bool, true, false}
use mathlib.Core.List.{List}
use Prim.Native.Nat.{ℕ, ◌/◌}
use native.Mathlib.Omega.{arith}
use lib.Dec.{leb}
use lib.ListN.{length}
use Rattle.bits.proofs.Truth.{is_no}
use Rattle.marks.specs.Marks.{mark_count}
use Rattle.pack.specs.declared.question.Question.{Question}
use Rattle.pack.specs.Computed.{Admitted}
use Rattle.pack.specs.Question.{counted, Taken}
use Rattle.pack.specs.Record.{lines_of}
use Rattle.pack.specs.World.{Follows}
use Rattle.pack.proofs.Promises.{taken_admitted}
use Rattle.engine.specs.Computed.{goal_held}
use Rattle.engine.proofs.VerdictLaws.{too_long_never}
use Rattle.engine.proofs.VerdictRight.{held_right}
use Rattle.std.proofs.Common.{Result, Ok, Err}
use Rattle.writer.specs.declared.answer.Sheet.{Sheet}
use Rattle.writer.specs.declared.answer.Sheet.TheVariants as sheet
use Rattle.writer.specs.declared.answer.SheetError.{SheetError}
use Rattle.writer.specs.declared.answer.SheetError.TheVariants as refused
use Rattle.writer.specs.Sheet.{GivesSheet}
use Rattle.writer.specs.Computed.{our_sheet, our_parts, sheet_answer, ask_sheet, sheet_number, sheet_value}
use Rattle.writer.proofs.Promises.{sheet_is}
use Rattle.reasons.specs.Module.{MarksModule, GivesModule}
use Rattle.reasons.specs.Set.{MarksSet, GivesSet}
use Rattle.reasons.proofs.Promises.{module_right, set_right}
use Rattle.lines.specs.Prints.{TellsSteps, TellsRows}

-- NO ROOM tells them by the bytes needed, 8 for each
abbrev pub parts_in : Result Sheet SheetError → ℕ
parts_in (Ok (sheet.Follows steps)) = steps
parts_in (Ok (sheet.Not rows)) = rows
parts_in (Err (refused.Refused why)) = 0
parts_in (Err refused.TooLong) = 0
parts_in (Err (refused.NoRoom bytes)) = bytes / 8

module _ (n m : ℕ) (s ws : List ℕ) (a b : ℕ) where
  abbrev F : Type 0
  F = Follows (lines_of s) (counted s ws) a b

  parts_told : (sheet : List ℕ) → Admitted n m s ws a b → parts_in (ask_sheet n m s ws a b sheet) ≡ our_parts n m s ws a b
  unfolding ask_sheet
  parts_told sheet t =
      rw (t.1, too_long_never n m s ws a b t.1) (go (goal_held n m s ws a b) (leb (length (our_sheet n m s ws a b)) (length sheet)) (our_parts n m s ws a b))
    where
      go : (positive room : Bool) (parts : ℕ) → parts_in (sheet_answer positive parts room) ≡ parts
      go true true parts = refl
      go false true parts = refl
      go positive false parts = omega arith

  -- of an answer that is the writer's
  tell : {sheet after : List ℕ} (r : Result Sheet SheetError) {parts : ℕ} → Taken n m s ws a b → GivesSheet n m s ws a b sheet after (sheet_number r) (sheet_value r) → parts ≡ parts_in r
      → (F → TellsSteps n m s ws a b parts) × ((F → ⊥) → TellsRows n m s ws parts)
  tell {sheet} {after} r {parts} t g e =
      let q = taken_admitted n m s ws a b t in
      let same : r ≡ ask_sheet n m s ws a b sheet = (sheet_is n m s ws a b sheet {r = r} {after = after} g).0 in
      let are : parts ≡ our_parts n m s ws a b = e ∙ rw same (parts_told sheet q) in
      let right = held_right n m s ws a b q.1 in
      (λ f. let yes = right.1 f in rw yes at are, λ no. let held = is_no (λ h. no (right.0 h)) in rw held at are)

pub parts_tell : (q : Question) {sheet after : List ℕ} (r : Result Sheet SheetError) {parts : ℕ} → Taken q.n q.m q.pack.now q.marks.now q.a q.b → GivesSheet q.n q.m q.pack.now q.marks.now q.a q.b sheet after (sheet_number r) (sheet_value r) → parts ≡ parts_in r
    → let F = Follows (lines_of q.pack.now) (counted q.pack.now q.marks.now) q.a q.b in (F → TellsSteps q.n q.m q.pack.now q.marks.now q.a q.b parts) × ((F → ⊥) → TellsRows q.n q.m q.pack.now q.marks.now parts)
parts_tell q = tell q.n q.m q.pack.now q.marks.now q.a q.b

-- THE MARKS OF THE MODULE AND OF THE SET, of a question that is taken, in 16 words
module _ (n m : ℕ) (s ws : List ℕ) (a : ℕ) {out after : List ℕ} {k v : ℕ} where
  pub module_told : Taken n m s ws a a → length out ≡ 16 → GivesModule n m s ws a out after k v → MarksModule s ws a (mark_count after) after
  module_told t l g = let p = (module_right n m s ws a out t l g).1 in rw p.count at p

  pub set_told_lem : (b : ℕ) → Taken n m s ws a b → Follows (lines_of s) (counted s ws) a b → length out ≡ 16 → GivesSet n m s ws a b out after k v → MarksSet s ws a b (mark_count after) after
  set_told_lem b t f l g = let p = ((set_right n m s ws a b out t l g).0 f).1 in rw p.count at p
