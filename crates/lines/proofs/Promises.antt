-- No second result, and no second later content of the buffer, satisfies the promise of the public call.
use mathlib.Core.Path.{◌≡◌, sym, ap, ◌∙◌}
use mathlib.Core.List.{List}
use Prim.Native.Nat.{ℕ, ◌+◌}
use lib.ListN.{length}
use Rattle.text.specs.Buffer.{put}
use Rattle.lines.specs.Prints.{Prints, WritesThe}
use Rattle.lines.proofs.PrintLaws.{prints_one}

pub answer_fixed : (s out after after' : List ℕ) (r r' : ℕ) → WritesThe (Prints s) out after r → WritesThe (Prints s) out after' r' → (r ≡ r') × (after ≡ after')
answer_fixed s out after after' r r' p q =
    let same = prints_one s p.outcome q.outcome p.is q.is in (
      p.text.text.behind ∙ ap (λ (t : List ℕ). 0 + length t) same ∙ sym q.text.text.behind,
      p.text.text.buffer ∙ ap (put out 0) same ∙ sym q.text.text.buffer,
    )
