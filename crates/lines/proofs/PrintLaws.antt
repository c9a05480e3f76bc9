-- Laws of what is printed: an outcome of each sort, and that one text is printed at most.
use mathlib.Core.Path.{◌≡◌, refl, sym, ap, ◌∙◌}
use mathlib.Core.Bool.{Bool}
use mathlib.Core.List.{List}
use Prim.Native.Nat.{ℕ, ◌<◌}
use native.Mathlib.Decide.{dec_lt}
use native.Mathlib.Omega.{arith}
use lib.ListN.{length, take}
use Rattle.std.proofs.Common.{Result, Ok, Err}
use Rattle.marks.specs.Marks.{marked}
use Rattle.text.specs.Text.{Outcome, WroteText, list_line, text_of, letters}
use Rattle.text.specs.Text.Outcome.{refused, refused_at, follows, not_follows}
use Rattle.text.proofs.LineLaws.{list_line_same, follows_of_marks, not_of_marks}
use Rattle.pack.specs.declared.check.Refusal.TheVariants.{Sizes, Pack, Record, Marks, Goal}
use Rattle.pack.specs.declared.question.Question.{Question}
use Rattle.pack.specs.Question.{counted}
use Rattle.pack.specs.Record.{lines_of}
use Rattle.pack.proofs.RecordLaws.{lines_length}
use Rattle.engine.specs.declared.answer.VerdictError.{VerdictError}
use Rattle.engine.specs.declared.answer.VerdictError.TheVariants.{Refused, TooLong}
use Rattle.engine.specs.Verdict.{verdict_error_told, GivesVerdict}
use Rattle.engine.proofs.Promises.{verdict_same}
use Rattle.reasons.specs.Module.{MarksModule}
use Rattle.reasons.specs.Set.{MarksSet}
use Rattle.reasons.proofs.ReachLaws.{module_one}
use Rattle.reasons.proofs.PrintedLaws.{printed_one}
use Rattle.lines.specs.declared.input.Asked.{Asked}
use Rattle.lines.specs.declared.input.InputError.{InputError}
use Rattle.lines.specs.Input.{input_error_told, input_of}
use Rattle.lines.specs.Prints.{all_marks, OfRecords, TellsModule, TellsSet, TellsSteps, TellsRows, PrintsAsked, PrintsRead, Prints, WritesThe}

-- places of records that are the same below the records' end are the same
same_places : (s : List ℕ) (P Q : ℕ → Bool) → OfRecords s P → OfRecords s Q → ((i : ℕ) → i < length (lines_of s) → P i ≡ Q i) → (i : ℕ) → P i ≡ Q i
same_places s P Q p q same i = go (dec_lt i (length (lines_of s)))
  where
    go : Dec (i < length (lines_of s)) → P i ≡ Q i
    go (yes l) = same i l
    go (no l) = p i (omega (arith, lines_length s)) ∙ sym (q i (omega (arith, lines_length s)))

module _ (n m : ℕ) (s ws : List ℕ) (a b : ℕ) where
  -- ONE MODULE, ONE SET: one line of each
  module_line : (word : List ℕ) (M M' : ℕ → Bool) → TellsModule s ws a M → TellsModule s ws a M' → list_line word M ≡ list_line word M'
  module_line word M M' p q = list_line_same word M M' (λ i _. same_places s M M' p.1 q.1 (module_one (lines_of s) (counted s ws) a M M' p.0 q.0) i)

  set_line : (word : List ℕ) (S S' : ℕ → Bool) → TellsSet s ws a b S → TellsSet s ws a b S' → list_line word S ≡ list_line word S'
  set_line word S S' p q = list_line_same word S S' (λ i _. same_places s S S' p.1 q.1 (printed_one (lines_of s) (counted s ws) a b S p.0 S' q.0) i)

  -- ONE TEXT of a question
  pub asked_one : (o o' : Outcome) → PrintsAsked n m s ws a b o → PrintsAsked n m s ws a b o' → text_of o ≡ text_of o'
  unfolding PrintsAsked text_of
  asked_one (refused k) (refused k') p q = let e = (verdict_same n m s ws a b p.0 q.0).0 in rw e
  asked_one (refused k) (refused_at i) p q = absurd (p.2 (verdict_same n m s ws a b p.0 q).0)
  asked_one (refused k) (follows c M S) p q = absurd (p.1 (verdict_same n m s ws a b p.0 q.0).0)
  asked_one (refused k) (not_follows c M) p q = absurd (p.1 (verdict_same n m s ws a b p.0 q.0).0)
  asked_one (refused_at i) (refused k) p q = absurd (q.2 (verdict_same n m s ws a b q.0 p).0)
  asked_one (refused_at i) (refused_at i') p q = let e = (verdict_same n m s ws a b p q).1 in rw e
  asked_one (refused_at i) (follows c M S) p q = let e = (verdict_same n m s ws a b p q.0).0 in absurd (omega arith)
  asked_one (refused_at i) (not_follows c M) p q = let e = (verdict_same n m s ws a b p q.0).0 in absurd (omega arith)
  asked_one (follows c M S) (refused k) p q = absurd (q.1 (verdict_same n m s ws a b q.0 p.0).0)
  asked_one (follows c M S) (refused_at i) p q = let e = (verdict_same n m s ws a b p.0 q).0 in absurd (omega arith)
  asked_one (follows c M S) (follows c' M' S') p q =
      rw (p.1 ∙ sym q.1, module_line (letters "module ") M M' p.2 q.2, set_line (letters "set ") S S' p.3 q.3)
  asked_one (follows c M S) (not_follows c' M') p q = let e = (verdict_same n m s ws a b p.0 q.0).1 in absurd (omega arith)
  asked_one (not_follows c M) (refused k) p q = absurd (q.1 (verdict_same n m s ws a b q.0 p.0).0)
  asked_one (not_follows c M) (refused_at i) p q = let e = (verdict_same n m s ws a b p.0 q).0 in absurd (omega arith)
  asked_one (not_follows c M) (follows c' M' S') p q = let e = (verdict_same n m s ws a b p.0 q.0).1 in absurd (omega arith)
  asked_one (not_follows c M) (not_follows c' M') p q = rw (p.1 ∙ sym q.1, module_line (letters "module ") M M' p.2 q.2)

module _ (q : Question) {before after : List ℕ} {end : ℕ} where
  -- AN OUTCOME OF EACH SORT: refused
  refused_not_3 : (number : ℕ) → (number ≡ 0 → ⊥) → (number ≡ 3 → ⊥) → GivesVerdict q.n q.m q.pack.now q.marks.now q.a q.b number 0 → WroteText (refused number) before after end → WritesThe (PrintsAsked q.n q.m q.pack.now q.marks.now q.a q.b) before after end
  unfolding PrintsAsked
  refused_not_3 number some other g w = record { outcome = refused number; is = (g, some, other); text = w }

  pub writes_record : {place : ℕ} → GivesVerdict q.n q.m q.pack.now q.marks.now q.a q.b 3 place → WroteText (refused_at place) before after end → WritesThe (PrintsAsked q.n q.m q.pack.now q.marks.now q.a q.b) before after end
  unfolding PrintsAsked
  writes_record {place} g w = record { outcome = refused_at place; is = g; text = w }

  pub writes_refusal : (why : VerdictError) {number : ℕ} → number ≡ (verdict_error_told why).0 → (number ≡ 3 → ⊥) → GivesVerdict q.n q.m q.pack.now q.marks.now q.a q.b (verdict_error_told why).0 (verdict_error_told why).1 → WroteText (refused number) before after end → WritesThe (PrintsAsked q.n q.m q.pack.now q.marks.now q.a q.b) before after end
  writes_refusal (Refused Sizes) {number} e h g w = refused_not_3 number (λ z. omega arith) h (rw e g) w
  writes_refusal (Refused Pack) {number} e h g w = refused_not_3 number (λ z. omega arith) h (rw e g) w
  writes_refusal (Refused (Record i)) e h g w = absurd (h e)
  writes_refusal (Refused Marks) {number} e h g w = refused_not_3 number (λ z. omega arith) h (rw e g) w
  writes_refusal (Refused Goal) {number} e h g w = refused_not_3 number (λ z. omega arith) h (rw e g) w
  writes_refusal TooLong {number} e h g w = refused_not_3 number (λ z. omega arith) h (rw e g) w

  -- FOLLOWS, NOT: by the marks of the module and of the set
  pub writes_follows : {c k l : ℕ} {module_words set_words : List ℕ} → GivesVerdict q.n q.m q.pack.now q.marks.now q.a q.b 0 1 → TellsSteps q.n q.m q.pack.now q.marks.now q.a q.b c → MarksModule q.pack.now q.marks.now q.a k module_words → MarksSet q.pack.now q.marks.now q.a q.b l set_words
      → WroteText (follows c (marked module_words) (marked set_words)) before after end → WritesThe (PrintsAsked q.n q.m q.pack.now q.marks.now q.a q.b) before after end
  unfolding PrintsAsked
  writes_follows {c} g t p r w = record {
    outcome = follows c p.places r.places;
    is = (g, t, (p.is, p.past), (r.is, r.past));
    text = follows_of_marks p.places p.are c r.places r.are w;
  }

  pub writes_not : {c k : ℕ} {module_words : List ℕ} → GivesVerdict q.n q.m q.pack.now q.marks.now q.a q.b 0 0 → TellsRows q.n q.m q.pack.now q.marks.now c → MarksModule q.pack.now q.marks.now q.a k module_words
      → WroteText (not_follows c (marked module_words)) before after end → WritesThe (PrintsAsked q.n q.m q.pack.now q.marks.now q.a q.b) before after end
  unfolding PrintsAsked
  writes_not {c} g t p w = record { outcome = not_follows c p.places; is = (g, t, (p.is, p.past)); text = not_of_marks p.places p.are c w }

-- OF AN INPUT: its own refusal, or its question
module _ (s : List ℕ) {before after : List ℕ} {end : ℕ} where
  pub writes_input_refused : {why : InputError} {number : ℕ} → input_of s ≡ Err why → number ≡ (input_error_told why).0 → WroteText (refused number) before after end → WritesThe (Prints s) before after end
  unfolding Prints
  writes_input_refused {number = number} e f w = record { outcome = refused number; is = rw (e, f) refl; text = w }

  pub writes_question : {q : Asked} → input_of s ≡ Ok q → WritesThe (PrintsAsked q.n q.m (take q.at s) (all_marks (take q.at s)) q.a q.b) before after end → WritesThe (Prints s) before after end
  unfolding Prints
  writes_question e w = record { outcome = w.outcome; is = rw e w.is; text = w.text }

-- ONE TEXT of an input
pub prints_one : (s : List ℕ) (o o' : Outcome) → Prints s o → Prints s o' → text_of o ≡ text_of o'
unfolding Prints
prints_one s o o' = go (input_of s)
  where
    go : (i : Result Asked InputError) → PrintsRead s i o → PrintsRead s i o' → text_of o ≡ text_of o'
    go (Err why) p q = ap text_of (p ∙ sym q)
    go (Ok r) p q = asked_one r.n r.m (take r.at s) (all_marks (take r.at s)) r.a r.b o o' p q
