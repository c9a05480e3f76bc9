-- `next_marked`: nothing from `from` on is marked in the words before k.
use Prim.Native.Nat.{◌*◌}
use Rattle.bits.proofs.FoundLaws.{Missing}
use Rattle.marks.specs.Marks.{marked}
use Rattle.marks.proofs.look.next_marked.Given as goal

abbrev pub invariant-loop-k : goal.invariant-loop-k
invariant-loop-k l = Missing (marked l.marks) l.from (l.k * 64)
