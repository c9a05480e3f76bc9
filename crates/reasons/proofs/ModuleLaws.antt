-- Laws of the module: the words that are found mark exactly the module, and no place past the records.
use mathlib.Core.Path.{◌≡◌, refl, sym, ◌∙◌}
use mathlib.Core.Bool.{Bool, true, false}
use mathlib.Core.List.{List}
use Rattle.std.specs.Prelude.{Ok}
use Prim.Native.Nat.{ℕ, ◌≤◌, ◌<◌}
use native.Mathlib.Decide.{dec_lt}
use native.Mathlib.Omega.{arith}
use lib.ListN.{length}
use Rattle.bits.proofs.Truth.{never}
use Rattle.marks.specs.Marks.{marked, marks_of}
use Rattle.marks.proofs.WordLaws.{marked_of, marked_past, marks_alike}
use Rattle.pack.specs.declared.line.Line.{Line}
use Rattle.pack.specs.Question.{counted}
use Rattle.pack.specs.Record.{lines_of, Valid}
use Rattle.pack.proofs.QuestionLaws.{Asked, asked, asked_valid}
use Rattle.pack.proofs.RecordLaws.{lines_length, valid_most}
use Rattle.reasons.specs.declared.names.Name.{Name}
use Rattle.reasons.specs.Reach.{module_in, IsModule}
use Rattle.reasons.specs.Computed.{reached, module_of, module_marks}
use Rattle.pack.specs.Computed.{check_question}
use Rattle.reasons.proofs.ReachLaws.{module_is, module_one}

module _ (ls : List Line) (S : ℕ → Bool) (R : Name → Bool) where
  -- a place that is not marked is not in the module
  outside_unmarked : (i : ℕ) → S i ≡ false → module_in ls S R i ≡ false
  unfolding module_in
  outside_unmarked i h = rw h

-- of a question about a that is taken
module _ (n m : ℕ) (s ws : List ℕ) (a b : ℕ) {c : ℕ} (taken : check_question n m s ws a b ≡ Ok c) where
  pub asked_of : Asked n m s ws a b c
  asked_of = asked n m s ws a b taken

  pub lines_right : Valid n m (lines_of s)
  lines_right = asked_valid n m s ws a b taken

  pub lines_widest : Valid 64 8 (lines_of s)
  lines_widest = valid_most asked_of.pack.n_most asked_of.pack.m_most (lines_of s) lines_right

  -- no place past the records counts
  pub none_past : (i : ℕ) → length (lines_of s) ≤ i → counted s ws i ≡ false
  none_past i h = asked_of.marks.above i (omega (arith, lines_length s, asked_of.pack.count))

  -- the module has no place past the records
  pub module_past : (i : ℕ) → length (lines_of s) ≤ i → module_of (lines_of s) (counted s ws) n m a i ≡ false
  unfolding module_of
  module_past i h = outside_unmarked (lines_of s) (counted s ws) (reached (lines_of s) (counted s ws) n m a) i (none_past i h)

  -- WORDS THAT MARK THE MODULE, and no place that does not count, are the module's, however it was found
  pub module_found : (r : List ℕ) → (r ≡ marks_of (marked r)) × ((i : ℕ) → i < 1024 → marked r i ≡ true → counted s ws i ≡ true) × IsModule (lines_of s) (counted s ws) a (marked r) → r ≡ module_marks n m s ws a
  module_found r p = p.0 ∙ marks_alike (marked r) (module_of (lines_of s) (counted s ws) n m a) (λ i few. go i few (dec_lt i (length (lines_of s))))
    where
      none : (i : ℕ) → i < 1024 → length (lines_of s) ≤ i → (t : Bool) → marked r i ≡ t → t ≡ false
      none i few h true e = never (p.1 i few e) (none_past i h)
      none i few h false e = refl

      go : (i : ℕ) → i < 1024 → Dec (i < length (lines_of s)) → marked r i ≡ module_of (lines_of s) (counted s ws) n m a i
      go i few (yes h) = module_one (lines_of s) (counted s ws) a (marked r) (module_of (lines_of s) (counted s ws) n m a) p.2 (module_is (lines_of s) (counted s ws) n m a lines_right asked_of.goal_a) i h
      go i few (no h) = none i few (omega arith) (marked r i) refl ∙ sym (module_past i (omega arith))

  -- THEY MARK EXACTLY THE MODULE
  pub marks_module : IsModule (lines_of s) (counted s ws) a (marked (module_marks n m s ws a))
  marks_module =
      let im = module_is (lines_of s) (counted s ws) n m a lines_right asked_of.goal_a in
      record {
        names = im.names;
        reached = im.reached;
        places = λ i l. marked_of (module_of (lines_of s) (counted s ws) n m a) i (omega (arith, lines_length s, asked_of.pack.size)) ∙ im.places i l;
      }

  pub marks_past : (i : ℕ) → length (lines_of s) ≤ i → marked (module_marks n m s ws a) i ≡ false
  marks_past i h = go (dec_lt i 1024)
    where
      go : Dec (i < 1024) → marked (module_marks n m s ws a) i ≡ false
      go (yes l) = marked_of (module_of (lines_of s) (counted s ws) n m a) i l ∙ module_past i h
      go (no l) = marked_past (module_of (lines_of s) (counted s ws) n m a) i (omega arith)
