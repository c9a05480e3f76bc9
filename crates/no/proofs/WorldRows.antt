-- Laws of the world that rows describe.
use mathlib.Core.Path.{◌≡◌, ap, ◌∙◌}
use mathlib.Core.Bool.{Bool, true, ◌&&◌}
use mathlib.Core.List.{List}
use Prim.Native.Nat.{ℕ, ◌+◌, ◌*◌, ◌≤◌, ◌<◌}
use native.Mathlib.Decide.{dec_lt}
use native.Mathlib.Omega.{arith}
use borrow.Author.Tests.{lt-ltb, le-ltb}
use Rattle.bits.specs.Bit.{has}
use Rattle.bits.specs.Sets.{every, some}
use Rattle.bits.proofs.Truth.{and_no, never}
use Rattle.bits.proofs.SetLaws.{every_same}
use Rattle.pack.specs.Computed.{implies}
use Rattle.pack.proofs.WorldLaws.{true_implies}
use Rattle.no.specs.NoSheet.{row_at, world_of}
use Rattle.no.specs.Inner.{ThingsColumn, RoleFits}
use Rattle.no.proofs.ThingLaws.{some_things, every_things}

-- a thing that is linked to is one of the k things
pub link_below : (k : ℕ) (sheet : List ℕ) (r x y : ℕ) → RoleFits k sheet r → x < k → y < 64 → has (row_at sheet (k + (r * k + x))) y ≡ true → y < k
link_below k sheet r x y f h b t = go (dec_lt y k)
  where
    go : Dec (y < k) → y < k
    go (yes l) = l
    go (no l) = never t (f.inside x y h (omega arith) b)

-- over the k things, the tests of whole rows say what the world says
pub meets_things : (k : ℕ) (sheet : List ℕ) (links column a : ℕ) → k ≤ 64 → ThingsColumn (world_of k sheet) a column → some 64 (λ y. has links y && has column y) ≡ some k (λ y. has links y && has (row_at sheet y) a)
meets_things k sheet links column a h col =
    some_things (λ y. has links y && has column y) (λ y. has links y && has (row_at sheet y) a) k h
    (λ j l. ap (λ (t : Bool). has links j && t) (col j ∙ ap (λ (t : Bool). t && has (row_at sheet j) a) (lt-ltb j k l)))
    (λ j l. and_no (has links j) (has column j) (col j ∙ ap (λ (t : Bool). t && has (row_at sheet j) a) (le-ltb j k l)))

pub inside_things : (k : ℕ) (sheet : List ℕ) (s y other : ℕ) → k ≤ 64 → RoleFits k sheet s → y < k → every 64 (λ z. implies (has (row_at sheet (k + (s * k + y))) z) (has other z)) ≡ every k (λ z. implies (has (row_at sheet (k + (s * k + y))) z) (has other z))
inside_things k sheet s y other h f l =
    every_things (λ z. implies (has (row_at sheet (k + (s * k + y))) z) (has other z)) k h
    (λ j g b. true_implies (has (row_at sheet (k + (s * k + y))) j) (has other j) (λ t. never t (f.inside y j l g b)))

-- the chain at x, with the inner test over 64 bits or over the k things
pub chain_things : (k : ℕ) (sheet : List ℕ) (first s other : ℕ) → k ≤ 64 → RoleFits k sheet s
    → every k (λ y. implies (has first y) (every 64 (λ z. implies (has (row_at sheet (k + (s * k + y))) z) (has other z)))) ≡ every k (λ y. implies (has first y) (every k (λ z. implies (has (row_at sheet (k + (s * k + y))) z) (has other z))))
chain_things k sheet first s other h f =
    every_same (λ y. implies (has first y) (every 64 (λ z. implies (has (row_at sheet (k + (s * k + y))) z) (has other z))))
    (λ y. implies (has first y) (every k (λ z. implies (has (row_at sheet (k + (s * k + y))) z) (has other z)))) k
    (λ y l. ap (implies (has first y)) (inside_things k sheet s y other h f l))
