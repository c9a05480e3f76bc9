-- `check_records`: what is left of the search from a place on gives the answer of the whole (`Left`).
use Rattle.std.proofs.Common.{◌≡◌}
use Rattle.bits.proofs.SetLaws.{Left}
use Rattle.pack.specs.Computed.{lowest_unkept}
use Rattle.pack.specs.Record.{record_count}
use Rattle.pack.proofs.PackLaws.{unkept}
use Rattle.pack.proofs.check.check_records.Given as goal

abbrev pub invariant-loop-place : goal.invariant-loop-place
invariant-loop-place l = (l.count ≡ record_count l.pack) × Left (unkept l.n l.m l.pack) l.place l.count (lowest_unkept l.n l.m l.pack)
