-- `mark`: the word of the place with its bit (`place_on`).
use native.Mathlib.Omega.{arith}
use Rattle.reasons.proofs.FileLaws.{place_on}
use Rattle.reasons.proofs.files.mark.Goals as goal

pub returns : goal.returns
returns c = place_on _ _ (omega arith) c.with_bit-w.ensures
