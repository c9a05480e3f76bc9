-- What inner functions promise to each other: where the next place is that is kept, and the set of a question that is taken.
-- Only functions that docs/PROMISES.md lists as inner cite this page.
use Rattle.std.specs.Prelude.{◌≡◌, ◌⊎◌, Bool, List, ℕ, ◌+◌, ◌≤◌, ◌<◌, Result, Ok, Err}
use Rattle.marks.specs.Marks.{mark_count, cut_out}
use Rattle.pack.specs.Question.{counted}
use Rattle.pack.specs.Record.{lines_of}
use Rattle.pack.specs.World.{Follows}
use Rattle.reasons.specs.declared.set.SetError.{SetError}
use Rattle.reasons.specs.declared.set.SetError.TheVariants.{NotFollows}
use Rattle.reasons.specs.Computed.{set_marks}

-- the next place that is kept lies from lo on and below hi: the places from i on can go together below lo, and cannot below hi
pub record Between (F : (ℕ → Bool) → Type 0) (P : ℕ → Bool) (i lo hi : ℕ) : Type 0 where
  pub from : i ≤ lo
  pub some : lo < hi
  pub most : hi ≤ 1024
  pub goes : F (cut_out P i lo)
  pub stays : F (cut_out P i hi) → ⊥

-- it is k; or k is 1,024, and all from i on can go
pub record Next (F : (ℕ → Bool) → Type 0) (P : ℕ → Bool) (i k : ℕ) : Type 0 where
  pub from : i ≤ k
  pub most : k ≤ 1024
  pub goes : F (cut_out P i k)
  pub stays : k < 1024 → F (cut_out P i (k + 1)) → ⊥

-- the set of a question that is taken: the goal follows, the set's words are written and counted; or it does not, 7, and
-- the out marks stay
abbrev pub SetTaken : ℕ → ℕ → List ℕ → List ℕ → ℕ → ℕ → List ℕ → List ℕ → Result ℕ SetError → Type 0
SetTaken n m s ws a b out after r =
    (Follows (lines_of s) (counted s ws) a b × (r ≡ Ok (mark_count (set_marks n m s ws a b))) × (after ≡ set_marks n m s ws a b))
    ⊎ ((Follows (lines_of s) (counted s ws) a b → ⊥) × (r ≡ Err NotFollows) × (after ≡ out))
