-- No second result, and no second later content of the buffer, satisfies the promise of a public call.
use mathlib.Core.Path.{◌≡◌}
use mathlib.Core.List.{List}
use Prim.Native.Nat.{ℕ}
use Rattle.bits.proofs.Promises.{no_second}
use Rattle.marks.specs.Marks.{marked}
use Rattle.text.specs.Text.{Outcome, WroteText}

-- whatever the outcome
text_fixed : (o : Outcome) (out after after' : List ℕ) (r r' : ℕ) → WroteText o out after r → WroteText o out after' r' → (r ≡ r') × (after ≡ after')
text_fixed o out after after' r r' f g = (no_second f.text.behind g.text.behind, no_second f.text.buffer g.text.buffer)

pub write_refused_fixed : (number : ℕ) (out after after' : List ℕ) (r r' : ℕ) → WroteText (Outcome.refused number) out after r → WroteText (Outcome.refused number) out after' r' → (r ≡ r') × (after ≡ after')
write_refused_fixed number = text_fixed (Outcome.refused number)

pub write_refused_at_fixed : (place : ℕ) (out after after' : List ℕ) (r r' : ℕ) → WroteText (Outcome.refused_at place) out after r → WroteText (Outcome.refused_at place) out after' r' → (r ≡ r') × (after ≡ after')
write_refused_at_fixed place = text_fixed (Outcome.refused_at place)

pub write_follows_fixed : (steps : ℕ) (ws vs out after after' : List ℕ) (r r' : ℕ) → WroteText (Outcome.follows steps (marked ws) (marked vs)) out after r → WroteText (Outcome.follows steps (marked ws) (marked vs)) out after' r' → (r ≡ r') × (after ≡ after')
write_follows_fixed steps ws vs = text_fixed (Outcome.follows steps (marked ws) (marked vs))

pub write_not_fixed : (rows : ℕ) (ws out after after' : List ℕ) (r r' : ℕ) → WroteText (Outcome.not_follows rows (marked ws)) out after r → WroteText (Outcome.not_follows rows (marked ws)) out after' r' → (r ≡ r') × (after ≡ after')
write_not_fixed rows ws = text_fixed (Outcome.not_follows rows (marked ws))
