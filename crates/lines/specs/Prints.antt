-- What the bench program prints (document 01, "The valve pack"): the outcome for the bytes of its input. The outcome's text is `text_of`, in the crate text.
use Rattle.std.specs.Prelude.{◌≡◌, Bool, false, List, ℕ, ◌≤◌, ltb, length, take, Result, Ok, Err}
use Rattle.marks.specs.Marks.{marks_of}
use Rattle.text.specs.Text.{Outcome, WroteText}
use Rattle.text.specs.Text.Outcome.{refused, refused_at, follows, not_follows}
use Rattle.pack.specs.Question.{counted}
use Rattle.pack.specs.Record.{lines_of, record_count}
use Rattle.passes.specs.Ours.{our_steps, our_rows}
use Rattle.engine.specs.Verdict.{GivesVerdict}
use Rattle.reasons.specs.Printed.{IsPrinted}
use Rattle.reasons.specs.Reach.{IsModule}
use Rattle.lines.specs.declared.input.Asked.{Asked}
use Rattle.lines.specs.declared.input.InputError.{InputError}
use Rattle.lines.specs.Input.{input_error_told, input_of}

-- everything is marked: each record of the pack
unfoldable pub all_marks : List ℕ → List ℕ
all_marks s = marks_of (λ i. ltb i (record_count s))

-- places of records of the pack: none past its end
abbrev pub OfRecords : List ℕ → (ℕ → Bool) → Type 0
OfRecords s P = (i : ℕ) → record_count s ≤ i → P i ≡ false

-- what the lines of an answer tell: the module for a, the printed set, the steps and the rows of our sheets
abbrev pub TellsModule : List ℕ → List ℕ → ℕ → (ℕ → Bool) → Type 0
TellsModule s ws a M = IsModule (lines_of s) (counted s ws) a M × OfRecords s M

abbrev pub TellsSet : List ℕ → List ℕ → ℕ → ℕ → (ℕ → Bool) → Type 0
TellsSet s ws a b S = IsPrinted (lines_of s) (counted s ws) a b S × OfRecords s S

abbrev pub TellsSteps : ℕ → ℕ → List ℕ → List ℕ → ℕ → ℕ → ℕ → Type 0
TellsSteps n m s ws a b steps = steps ≡ length (our_steps (lines_of s) (counted s ws) n m a b)

abbrev pub TellsRows : ℕ → ℕ → List ℕ → List ℕ → ℕ → Type 0
TellsRows n m s ws rows = rows ≡ length (our_rows (lines_of s) (counted s ws) n m)

-- THE OUTCOME OF A QUESTION goes by the number and the value that the verdict gives: a refusal by its number, 3 by its
-- place; 0 and 1 is FOLLOWS, 0 and 0 is NOT
unfoldable pub PrintsAsked : ℕ → ℕ → List ℕ → List ℕ → ℕ → ℕ → Outcome → Type 0
PrintsAsked n m s ws a b (refused number) = GivesVerdict n m s ws a b number 0 × (number ≡ 0 → ⊥) × (number ≡ 3 → ⊥)
PrintsAsked n m s ws a b (refused_at place) = GivesVerdict n m s ws a b 3 place
PrintsAsked n m s ws a b (follows steps M S) = GivesVerdict n m s ws a b 0 1 × TellsSteps n m s ws a b steps × TellsModule s ws a M × TellsSet s ws a b S
PrintsAsked n m s ws a b (not_follows rows M) = GivesVerdict n m s ws a b 0 0 × TellsRows n m s ws rows × TellsModule s ws a M

-- of an input: its own refusal by its number, or the question about the pack that ends at `at`, with everything marked
abbrev pub PrintsRead : List ℕ → Result Asked InputError → Outcome → Type 0
PrintsRead s (Err why) o = o ≡ refused (input_error_told why).0
PrintsRead s (Ok q) o = PrintsAsked q.n q.m (take q.at s) (all_marks (take q.at s)) q.a q.b o

unfoldable pub Prints : List ℕ → Outcome → Type 0
Prints s = PrintsRead s (input_of s)

-- a buffer afterwards: the text of the outcome that is meant from its start on, and `end` is the position behind the text
pub record WritesThe (meant : Outcome → Type 0) (before after : List ℕ) (end : ℕ) : Type 0 where
  pub outcome : Outcome
  pub is : meant outcome
  pub text : WroteText outcome before after end
