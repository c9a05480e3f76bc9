-- No second result satisfies the promise of a public call.
use mathlib.Core.Path.{◌≡◌}
use mathlib.Core.Bool.{Bool}
use mathlib.Core.List.{List}
use Prim.Native.Nat.{ℕ, ◌-◌}
use Rattle.std.specs.Prelude.{Option}
use Rattle.marks.specs.declared.walk.Places.{Places}
use Rattle.bits.specs.Sets.{lowest, found_below}
use Rattle.bits.proofs.Promises.{no_second}
use Rattle.marks.specs.Marks.{marked, marks_fit, mark_count, marks_of, cut_out}

pub is_marked_fixed : (ws : List ℕ) (i : ℕ) (r r' : Bool) → r ≡ marked ws i → r' ≡ marked ws i → r ≡ r'
is_marked_fixed ws i r r' = no_second

pub next_marked_fixed : (ws : List ℕ) (i : ℕ) (r r' : Option ℕ) → r ≡ found_below 1024 (lowest (marked ws) i (1024 - i)) → r' ≡ found_below 1024 (lowest (marked ws) i (1024 - i)) → r ≡ r'
next_marked_fixed ws i r r' = no_second

pub places_fixed : (ws : List ℕ) (r r' : Places) → r.from ≡ 0 → r.marks.now ≡ ws → r'.from ≡ 0 → r'.marks.now ≡ ws → (r.from ≡ r'.from) × (r.marks.now ≡ r'.marks.now)
places_fixed ws r r' f m f' m' = (no_second f f', no_second m m')

pub count_marked_fixed : (ws : List ℕ) (r r' : ℕ) → r ≡ mark_count ws → r' ≡ mark_count ws → r ≡ r'
count_marked_fixed ws r r' = no_second

pub marks_fit_fixed : (ws : List ℕ) (count : ℕ) (r r' : Bool) → r ≡ marks_fit ws count → r' ≡ marks_fit ws count → r ≡ r'
marks_fit_fixed ws count r r' = no_second

pub cut_marks_fixed : (ws : List ℕ) (i k : ℕ) (r r' : List ℕ) → r ≡ marks_of (cut_out (marked ws) i k) → r' ≡ marks_of (cut_out (marked ws) i k) → r ≡ r'
cut_marks_fixed ws i k r r' = no_second
