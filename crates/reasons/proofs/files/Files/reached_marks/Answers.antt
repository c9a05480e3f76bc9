-- `reached_marks`: of the 16 words nothing is cut out (`copy_marked`).
use mathlib.Core.Path.{ap}
use mathlib.Core.Bool.{Bool}
use Prim.Native.Nat.{ℕ}
use Rattle.std.proofs.Common.{rules}
use Rattle.marks.proofs.WordLaws.{marks_again}
use Rattle.marks.proofs.CutLaws.{copy_marked}
use Rattle.reasons.proofs.files.Files.reached_marks.Goals as goal

pub returns : goal.returns
returns c = record {
  words = marks_again _ _ c.cut_marks.ensures;
  places = λ i. ap (λ (p : ℕ → Bool). p i) (copy_marked _ _ (search rules) c.cut_marks.ensures);
}
