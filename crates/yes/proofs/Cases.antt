-- C11 of document 01, by computation over the bytes.
use mathlib.Core.Path.{◌≡◌, refl}
use mathlib.Core.List.{List, [], ◌∷◌, ◌++◌}
use Prim.Native.Nat.{ℕ}
use lib.ListN.{replicate}
use Rattle.std.specs.Prelude.{Ok, Err}
use Rattle.bits.specs.Bit.{has}
use Rattle.bits.specs.Sets.{lowest, some}
use Rattle.bits.specs.Lists.{listed}
use Rattle.marks.specs.Marks.{marked, marks_fit}
use Rattle.pack.specs.World.{line_at}
use Rattle.pack.specs.Bytes.{little_endian}
use Rattle.pack.specs.Record.{line_in, keeps_in, lines_of}
use Rattle.pack.specs.Computed.{check_records, check_pack, check_question}
use Rattle.pack.specs.Rules.{usable, free, same_fact}
use Rattle.pack.proofs.Examples.{record_bytes, valve}
use Rattle.yes.specs.declared.check.YesError.TheVariants.{Step}
use Rattle.yes.specs.YesSheet.{steps_of, concluded, known, good_over, good_at}
use Rattle.yes.specs.Computed.{lowest_bad, check_steps, check_yes}

-- a step at a place below 256
unfoldable pub case_step : ℕ → ℕ → ℕ → ℕ → List ℕ
case_step place x y z = place ∷ 0 ∷ x ∷ y ∷ z ∷ 0 ∷ 0 ∷ 0 ∷ []

-- all records of the valve pack marked, and C3's sheet from its second step on
unfoldable pub all_six : List ℕ
all_six = 63 ∷ replicate 15 0

unfoldable pub later : List ℕ
later = case_step 1 2 0 0 ++ case_step 2 0 2 3 ++ case_step 3 0 3 0

-- C11: WITHOUT ITS FIRST STEP, STEP AT 1; and whole, accepted
pub c11 : (check_yes 5 2 valve all_six 0 1 later ≡ Err (Step 1)) × (check_yes 5 2 valve all_six 0 1 (case_step 0 0 0 0 ++ later) ≡ Ok tt)
unfolding
    record_bytes case_step valve all_six later has lowest some line_at little_endian listed line_in keeps_in lines_of marked marks_fit check_records check_pack check_question
    free same_fact steps_of concluded known usable good_over good_at lowest_bad check_steps check_yes
c11 = (refl, refl)
