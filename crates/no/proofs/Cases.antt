-- C12 of document 01, by computation over the bytes.
use mathlib.Core.Path.{◌≡◌, refl}
use mathlib.Core.List.{List, [], ◌∷◌}
use Prim.Native.Nat.{ℕ}
use lib.ListN.{replicate}
use Rattle.std.specs.Prelude.{Err}
use Rattle.bits.specs.Bit.{has}
use Rattle.bits.specs.Sets.{lowest, every, some}
use Rattle.bits.specs.Lists.{listed}
use Rattle.marks.specs.Marks.{marked, marks_fit}
use Rattle.pack.specs.World.{line_at}
use Rattle.pack.specs.Computed.{implies, obeys_at, obeys, check_records, check_pack, check_question}
use Rattle.pack.specs.Bytes.{little_endian}
use Rattle.pack.specs.Record.{line_in, keeps_in, lines_of}
use Rattle.pack.proofs.Examples.{record_bytes, one_under}
use Rattle.no.specs.declared.check.NoError.TheVariants as no
use Rattle.no.specs.NoSheet.{row_at, forbidden}
use Rattle.no.specs.Computed.{lowest_forbidden, lowest_broken, refutes, check_world, check_rows, check_no}

-- the one record marked, and a world of one thing
unfoldable pub one : List ℕ
one = 1 ∷ replicate 15 0

unfoldable pub world_of_one : ℕ → List ℕ
world_of_one row = row ∷ 0 ∷ 0 ∷ 0 ∷ 0 ∷ 0 ∷ 0 ∷ 0 ∷ []

-- C12: ROW 00 SHOWS NOTHING, ROW 01 BREAKS RECORD 0
pub c12 : (check_no 2 0 one_under one 0 1 (world_of_one 0) ≡ Err no.NotShown) × (check_no 2 0 one_under one 0 1 (world_of_one 1) ≡ Err (no.Broken 0))
unfolding
    record_bytes one_under one world_of_one has lowest every some line_at implies obeys_at obeys little_endian listed line_in keeps_in lines_of marked marks_fit check_records
    check_pack check_question row_at forbidden lowest_forbidden lowest_broken refutes check_world check_rows check_no
c12 = (refl, refl)
