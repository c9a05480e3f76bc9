-- No second result, and no second later content of a lent buffer, satisfies the promise of a C call.
use mathlib.Core.Path.{◌≡◌, sym, ap, ◌∙◌}
use mathlib.Core.Logic.{⊎_elim}
use mathlib.Core.List.{List}
use Prim.Native.Nat.{ℕ, ◌/◌, ◌%◌}
use lib.Dec.{eqb}
use lib.ListN.{length}
use Rattle.bits.proofs.Promises.{no_second}
use Rattle.pack.specs.Bytes.{words_bytes, marks_in}
use Rattle.pack.specs.Pack.{pack_rows, GivesPack}
use Rattle.pack.specs.Question.{counted, question_rows, GivesQuestion}
use Rattle.pack.specs.Record.{lines_of, record_count}
use Rattle.pack.proofs.GivenLaws.{given_one, given_same}
use Rattle.engine.specs.Verdict.{GivesVerdict}
use Rattle.engine.proofs.Promises.{verdict_same}
use Rattle.writer.specs.Sheet.{GivesSheet}
use Rattle.writer.proofs.Promises.{sheet_same}
use Rattle.reasons.specs.OutMarks.{reason_rows}
use Rattle.reasons.specs.Printed.{IsPrinted}
use Rattle.reasons.specs.Reach.{IsModule}
use Rattle.reasons.specs.Module.{MarksModule}
use Rattle.reasons.specs.Set.{MarksSet, set_rows}
use Rattle.reasons.proofs.Promises.{marks_one}
use Rattle.reasons.proofs.PrintedLaws.{printed_one}
use Rattle.reasons.proofs.ReachLaws.{module_one}
use Rattle.desk.specs.Desk.{GivesModuleC, GivesSetC}
use Rattle.desk.proofs.CodeLaws.{one_code}

pub check_pack_call_fixed : (n m : ℕ) (s : List ℕ) (r r' : ℕ) → GivesPack n m s (r % 256) (r / 256) → GivesPack n m s (r' % 256) (r' / 256) → r ≡ r'
check_pack_call_fixed n m s r r' p q = let e = given_same (Unit {0}) (λ value. value ≡ record_count s) (pack_rows n m s) (λ x y. no_second) p q in one_code e.0 e.1

pub check_question_call_fixed : (n m : ℕ) (s marks : List ℕ) (a b r r' : ℕ) → GivesQuestion n m s (marks_in marks) a b (r % 256) (r / 256) → GivesQuestion n m s (marks_in marks) a b (r' % 256) (r' / 256) → r ≡ r'
check_question_call_fixed n m s marks a b r r' p q = let e = given_same (Unit {0}) (λ value. value ≡ record_count s) (question_rows n m s (marks_in marks) a b) (λ x y. no_second) p q in one_code e.0 e.1

pub verdict_call_fixed : (n m : ℕ) (s marks : List ℕ) (a b r r' : ℕ) → GivesVerdict n m s (marks_in marks) a b (r % 256) (r / 256) → GivesVerdict n m s (marks_in marks) a b (r' % 256) (r' / 256) → r ≡ r'
verdict_call_fixed n m s marks a b r r' p q = let e = verdict_same n m s (marks_in marks) a b p q in one_code e.0 e.1

pub sheet_call_fixed : (n m : ℕ) (s marks : List ℕ) (a b : ℕ) (sheet after after' : List ℕ) (r r' : ℕ)
    → GivesSheet n m s (marks_in marks) a b sheet after (r % 256) (r / 256) → GivesSheet n m s (marks_in marks) a b sheet after' (r' % 256) (r' / 256) → (r ≡ r') × (after ≡ after')
sheet_call_fixed n m s marks a b sheet after after' r r' p q = let e = sheet_same n m s (marks_in marks) a b sheet p q in (one_code e.0 e.1, e.2)

-- one number, one value and one later content are given
pub module_call_same : (n m : ℕ) (s marks : List ℕ) (a : ℕ) (out : List ℕ) {k v k' v' : ℕ} {after after' : List ℕ} → GivesModuleC n m s marks a out after k v → GivesModuleC n m s marks a out after' k' v' → (k ≡ k') × (v ≡ v') × (after ≡ after')
module_call_same n m s marks a out {after = after} {after' = after'} g h =
    let back : List ℕ → ℕ → Type 0 = λ now value. (words : List ℕ) × MarksModule s (marks_in marks) a value words × (now ≡ words_bytes words) in
    let e = given_one (after ≡ out) (after' ≡ out) (back after) (back after') (reason_rows n m s (marks_in marks) a a (eqb (length out) 128)) g h in
    ⊎_elim (λ r. (e.0, r.0, r.1 ∙ sym r.2))
    (λ r.
    let o = marks_one (IsModule (lines_of s) (counted s (marks_in marks)) a) s (module_one (lines_of s) (counted s (marks_in marks)) a) r.0.1 r.1.1 in
    (e.0, o.0, r.0.2 ∙ ap words_bytes o.1 ∙ sym r.1.2)) e.1

pub module_call_fixed : (n m : ℕ) (s marks : List ℕ) (a : ℕ) (out after after' : List ℕ) (r r' : ℕ)
    → GivesModuleC n m s marks a out after (r % 256) (r / 256) → GivesModuleC n m s marks a out after' (r' % 256) (r' / 256) → (r ≡ r') × (after ≡ after')
module_call_fixed n m s marks a out after after' r r' p q = let e = module_call_same n m s marks a out p q in (one_code e.0 e.1, e.2)

pub set_call_same : (n m : ℕ) (s marks : List ℕ) (a b : ℕ) (out : List ℕ) {k v k' v' : ℕ} {after after' : List ℕ} → GivesSetC n m s marks a b out after k v → GivesSetC n m s marks a b out after' k' v' → (k ≡ k') × (v ≡ v') × (after ≡ after')
set_call_same n m s marks a b out {after = after} {after' = after'} g h =
    let back : List ℕ → ℕ → Type 0 = λ now value. (words : List ℕ) × MarksSet s (marks_in marks) a b value words × (now ≡ words_bytes words) in
    let e = given_one (after ≡ out) (after' ≡ out) (back after) (back after') (set_rows n m s (marks_in marks) a b (eqb (length out) 128)) g h in
    ⊎_elim (λ r. (e.0, r.0, r.1 ∙ sym r.2))
    (λ r.
    let o = marks_one (IsPrinted (lines_of s) (counted s (marks_in marks)) a b) s (λ P Q p q. printed_one (lines_of s) (counted s (marks_in marks)) a b P p Q q) r.0.1 r.1.1 in
    (e.0, o.0, r.0.2 ∙ ap words_bytes o.1 ∙ sym r.1.2)) e.1

pub set_call_fixed : (n m : ℕ) (s marks : List ℕ) (a b : ℕ) (out after after' : List ℕ) (r r' : ℕ)
    → GivesSetC n m s marks a b out after (r % 256) (r / 256) → GivesSetC n m s marks a b out after' (r' % 256) (r' / 256) → (r ≡ r') × (after ≡ after')
set_call_fixed n m s marks a b out after after' r r' p q = let e = set_call_same n m s marks a b out p q in (one_code e.0 e.1, e.2)
