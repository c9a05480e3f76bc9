-- Laws of out marks as bytes: 16 words are lent for 128 bytes, and none for any other number, which is MARKS; what is found in the
-- words goes into the bytes.
use mathlib.Core.Path.{◌≡◌, refl, ap, ◌∙◌}
use mathlib.Core.Logic.{inl, inr}
use mathlib.Core.Bool.{Bool, true, false, cond, ◌&&◌}
use mathlib.Core.List.{List, [], ◌∷◌, ◌++◌, append-nil}
use Rattle.std.specs.Prelude.{Result}
use Prim.Native.Nat.{ℕ, ◌/◌, ◌%◌, ◌≤◌, ◌<◌}
use native.Mathlib.Omega.{arith}
use lib.Dec.{eqb}
use lib.ListN.{length, take, drop, length-append, length-take, length-drop, drop_of_length-le}
use borrow.Author.Tests.{eqb-true, eq-eqb}
use Rattle.bits.proofs.Truth.{both_true}
use Rattle.marks.specs.Marks.{marks_fit}
use Rattle.pack.specs.declared.check.Refusal.{Refusal}
use Rattle.pack.specs.Bytes.{words_bytes, marks_in}
use Rattle.pack.specs.Computed.{checked_number, checked_value}
use Rattle.pack.specs.Question.{counted, asked_rows}
use Rattle.pack.specs.Record.{lines_of, record_count}
use Rattle.pack.specs.Table.{Row, refuse, Given}
use Rattle.pack.specs.World.{Follows}
use Rattle.pack.proofs.GivenLaws.{given_map}
use Rattle.pack.proofs.Promises.{question_numbered}
use Rattle.passes.specs.Passes.{finished}
use Rattle.reasons.specs.declared.set.SetError.{SetError}
use Rattle.reasons.specs.OutMarks.{reason_rows}
use Rattle.reasons.specs.Module.{MarksModule, GivesModule}
use Rattle.reasons.specs.Set.{MarksSet, set_rows, GivesSet}
use Rattle.reasons.specs.Computed.{set_number, set_value}
use Rattle.reasons.proofs.Promises.{set_numbered}
use Rattle.desk.specs.Desk.{desk_code, GivesModuleC, GivesSetC}
use Rattle.desk.specs.Inner.{PutFound}
use Rattle.desk.proofs.CodeLaws.{checked_small, set_small, coded}

-- where 0 is given behind the rows of a question, its marks fit
given_fit : (kept : Type 0) (otherwise : ℕ → Type 0) (n m : ℕ) (s : List ℕ) (fit : Bool) (a b : ℕ) (more : List Row) {v : ℕ} → Given kept (asked_rows n m s fit a b ++ more) otherwise 0 v → fit ≡ true
given_fit kept otherwise n m s fit a b more (inl g) = absurd (omega (arith, g.0.1))
given_fit kept otherwise n m s fit a b more (inr (_, inl g)) = absurd (omega (arith, g.0.1))
given_fit kept otherwise n m s fit a b more (inr (_, inr (_, inl g))) = absurd (omega (arith, g.0.0))
given_fit kept otherwise n m s fit a b more (inr (_, inr (_, inr (_, inl g)))) = absurd (omega (arith, g.0.1))
given_fit kept otherwise n m s fit a b more (inr (_, inr (_, inr (_, inr (none, _))))) = go fit refl
  where
    go : (t : Bool) → fit ≡ t → fit ≡ true
    go true e = e
    go false e = absurd (none 4 0 (e, refl, refl))

-- of 16 words so many are lent as the bytes ask for, from the first on, and all of them are found where nothing is refused
module _ (zeros out : List ℕ) (lent : ℕ) (sixteen : length zeros ≡ 16) (asks : lent ≡ cond (eqb (length out) 128) 16 0) where
  same : eqb (length (take lent zeros)) 16 ≡ eqb (length out) 128
  same = rw asks (go (eqb (length out) 128))
    where
      go : (t : Bool) → eqb (length (take (cond t 16 0) zeros)) 16 ≡ t
      go true = eq-eqb _ 16 (simp length-take (omega arith))
      go false = refl

  -- then what was lent is all of the words
  found : length out ≡ 128 → (words : List ℕ) → words ++ drop lent zeros ≡ words
  found h words =
      let e : lent ≡ 16 = asks ∙ rw (eq-eqb _ 128 h) in
      rw (e, drop_of_length-le zeros {i = 16} (omega arith)) (append-nil words)

  -- the words are 16 again after the call
  pub lent_back : (words : List ℕ) → length words ≡ length (take lent zeros) → length (words ++ drop lent zeros) ≡ 16
  lent_back words e = simp (length-append, length-drop) (omega (arith, e, length-take lent zeros, small (eqb (length out) 128) refl))
    where
      small : (t : Bool) → eqb (length out) 128 ≡ t → lent ≤ 16
      small true h = omega (arith, rw h at asks)
      small false h = omega (arith, rw h at asks)

  module _ (n m : ℕ) (s marks : List ℕ) where
    -- 0 is given only where 16 words are lent, for 128 bytes
    all_lent : (kept : Type 0) (otherwise : ℕ → Type 0) (a b : ℕ) (more : List Row) {k v : ℕ} → Given kept (reason_rows n m s (marks_in marks) a b (eqb (length out) 128) ++ more) otherwise k v → k ≡ 0 → length out ≡ 128
    all_lent kept otherwise a b more {v = v} g e =
        let fit = marks_fit (marks_in marks) (record_count s) in
        eqb-true _ _ (both_true fit (eqb (length out) 128) (given_fit kept otherwise n m s (fit && eqb (length out) 128) a b more {v = v} (rw e at g))).1

    module _ {words : List ℕ} where
      pub module_lent : (a : ℕ) {k v : ℕ} → GivesModule n m s (marks_in marks) a (take lent zeros) words k v → k ≡ 0 → length out ≡ 128
      module_lent a g = all_lent (words ≡ take lent zeros) (λ v. MarksModule s (marks_in marks) a v words) a a [] (rw same at g)

      pub module_read : (a : ℕ) (x : Result ℕ Refusal) {r : ℕ} {after : List ℕ} → GivesModule n m s (marks_in marks) a (take lent zeros) words (checked_number x) (checked_value x)
          → r ≡ desk_code (checked_number x) (checked_value x) → PutFound (checked_number x) (words ++ drop lent zeros) out after → GivesModuleC n m s marks a out after (r % 256) (r / 256)
      module_read a x {after = after} g e put =
          coded (GivesModuleC n m s marks a out after) (checked_number x) (checked_value x) (checked_small x) e
          (given_map (words ≡ take lent zeros) (after ≡ out) (λ v. MarksModule s (marks_in marks) a v words) (λ v. (found : List ℕ) × MarksModule s (marks_in marks) a v found × (after ≡ words_bytes found))
          (reason_rows n m s (marks_in marks) a a (eqb (length out) 128)) question_numbered (rw same at g) put.1 (λ z q. (words, q, put.0 z ∙ ap words_bytes (found (module_lent a g z) words))))

      pub set_lent : (a b : ℕ) {k v : ℕ} → GivesSet n m s (marks_in marks) a b (take lent zeros) words k v → k ≡ 0 → length out ≡ 128
      set_lent a b g =
          all_lent (words ≡ take lent zeros) (λ v. MarksSet s (marks_in marks) a b v words) a b
          (refuse 6 (36800 < length (finished (lines_of s) (counted s (marks_in marks)) n m)) ∷ refuse 7 (Follows (lines_of s) (counted s (marks_in marks)) a b → ⊥) ∷ [])
          (rw same at g)

      pub set_read : (a b : ℕ) (x : Result ℕ SetError) {r : ℕ} {after : List ℕ} → GivesSet n m s (marks_in marks) a b (take lent zeros) words (set_number x) (set_value x)
          → r ≡ desk_code (set_number x) (set_value x) → PutFound (set_number x) (words ++ drop lent zeros) out after → GivesSetC n m s marks a b out after (r % 256) (r / 256)
      set_read a b x {after = after} g e put =
          coded (GivesSetC n m s marks a b out after) (set_number x) (set_value x) (set_small x) e
          (given_map (words ≡ take lent zeros) (after ≡ out) (λ v. MarksSet s (marks_in marks) a b v words) (λ v. (found : List ℕ) × MarksSet s (marks_in marks) a b v found × (after ≡ words_bytes found))
          (set_rows n m s (marks_in marks) a b (eqb (length out) 128)) set_numbered (rw same at g) put.1 (λ z q. (words, q, put.0 z ∙ ap words_bytes (found (set_lent a b g z) words))))
