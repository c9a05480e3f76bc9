-- Laws of lists by a rule: their length, their elements, and a buffer filled with them.
use mathlib.Core.Path.{◌≡◌, refl, sym, ap, ◌∙◌}
use mathlib.Core.List.{List, [], ◌∷◌, ◌++◌}
use Prim.Native.Nat.{ℕ, zero, suc, ◌+◌, ◌≤◌, ◌<◌}
use native.Mathlib.Numerals.{add-one}
use native.Mathlib.Omega.{arith}
use lib.ListN.{length, get_or, take, set}
use lib.Seq.{take-suc-set, take_all, ext_get_or}
use Rattle.bits.specs.Lists.{listed}

module _ {A : Type 0} (f : ℕ → A) where
  pub listed_length : (c i : ℕ) → length (listed c i f) ≡ c
  unfolding listed
  listed_length zero i = refl
  listed_length (suc c) i = ap suc (listed_length c (i + 1))

  pub listed_at : (d : A) (c i j : ℕ) → j < c → get_or (listed c i f) j d ≡ f (i + j)
  unfolding listed
  listed_at d zero i j h = absurd (omega arith)
  listed_at d (suc c) i zero h = ap f (omega arith)
  listed_at d (suc c) i (suc j) h = listed_at d c (i + 1) j (omega arith) ∙ ap f (omega arith)

  -- a list whose elements go by the rule is the listed one
  pub listed_is : (d : A) (c : ℕ) (l : List A) → length l ≡ c → ((j : ℕ) → j < c → f j ≡ get_or l j d) → listed c 0 f ≡ l
  listed_is d c l e h =
      ext_get_or d (listed c 0 f) l (listed_length c 0 ∙ sym e)
      (λ j k. let b : j < c = omega (arith, listed_length c 0) in listed_at d c 0 j b ∙ ap f (omega arith) ∙ h j b)

  -- one more at the end
  pub listed_snoc : (c i : ℕ) → listed (suc c) i f ≡ listed c i f ++ (f (i + c) ∷ [])
  unfolding listed
  listed_snoc zero i = ap (λ (j : ℕ). f j ∷ []) (omega arith)
  listed_snoc (suc c) i = ap (λ (l : List A). f i ∷ l) (listed_snoc c (i + 1) ∙ ap (λ (j : ℕ). listed c (i + 1) f ++ (f j ∷ [])) (omega arith))

-- a buffer filled from the start: its first j elements are the listed ones
module _ (f : ℕ → ℕ) where
  pub fill_on : (l : List ℕ) (j w : ℕ) → j < length l → take j l ≡ listed j 0 f → w ≡ f j → take (j + 1) (set l j w) ≡ listed (j + 1) 0 f
  fill_on l j w h e g =
      rw add-one
      (take-suc-set l j w h ∙ ap (λ (k : List ℕ). k ++ (w ∷ [])) e ∙ ap (λ (v : ℕ). listed j 0 f ++ (v ∷ [])) (g ∙ ap f (omega arith)) ∙ sym (listed_snoc f j 0))

  pub fill_end : (l : List ℕ) (j : ℕ) → length l ≤ j → take j l ≡ listed j 0 f → l ≡ listed j 0 f
  fill_end l j h e = sym (take_all j l h) ∙ e
