-- `write_marks`: before word j the bytes of the words before it are in, the rest as it was (`Filled`).
use Rattle.std.proofs.Common.{◌≡◌, get_or}
use Rattle.pack.proofs.BytesLaws.{Filled}
use Rattle.pack.proofs.bytes.write_marks.Given as goal

abbrev pub invariant-loop-j : goal.invariant-loop-j
invariant-loop-j l = l.out ≡ Filled (λ i. get_or l.words i 0) l.initial.out l.j
