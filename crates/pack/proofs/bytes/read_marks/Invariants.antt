-- `read_marks`: before word j the words before it are those of the bytes.
use Rattle.std.proofs.Common.{◌≡◌, length, take}
use Rattle.bits.specs.Lists.{listed}
use Rattle.pack.specs.Bytes.{word_in, part}
use Rattle.pack.proofs.bytes.read_marks.Given as goal

abbrev pub invariant-loop-j : goal.invariant-loop-j
invariant-loop-j l = (length l.words ≡ 16) × (take l.j l.words ≡ listed l.j 0 (λ i. word_in (part l.s i)))
