-- `reached_records`: the names are no more than are reached, and every marked record is filed, under no name that is
-- done (`Reaching`).
use Prim.Native.Nat.{◌-◌}
use Rattle.marks.specs.Marks.{marked}
use Rattle.pack.specs.Record.{lines_of}
use Rattle.reasons.proofs.NameLaws.{name_count, Reaching}
use Rattle.reasons.proofs.reach.reached_records.Given as goal

abbrev pub invariant-loop-name : goal.invariant-loop-name
invariant-loop-name l = Reaching (lines_of l.pack) (marked l.marks) l.a l.reached l.done

abbrev pub decreases-loop-name : goal.decreases-loop-name
decreases-loop-name l = 128 - name_count l.done
