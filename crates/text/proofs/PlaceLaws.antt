-- Laws of listed places: those that are not in the set are passed over, how many bytes there are, and places written one
-- after the other.
use mathlib.Core.Path.{◌≡◌, refl, sym, ap, ◌∙◌}
use mathlib.Core.Bool.{Bool, true, false}
use mathlib.Core.List.{List, ◌∷◌, ◌++◌, append-nil}
use Prim.Native.Nat.{ℕ, zero, suc, ◌+◌, ◌-◌, ◌*◌, ◌^◌, ◌≤◌, ◌<◌}
use native.Mathlib.Nat.{add-zero, add-suc, suc-mul, zero-mul}
use native.Mathlib.Numerals.{add-one}
use native.Mathlib.Omega.{arith}
use lib.ListN.{length, length-append}
use Rattle.bits.proofs.FoundLaws.{Found, Missing}
use Rattle.text.specs.declared.line.Text.{Text}
use Rattle.text.specs.Inner.{Added}
use Rattle.text.specs.Text.{decimal, places}
use Rattle.text.proofs.BufferLaws.{wrote_none, added_then}
use Rattle.text.proofs.DigitLaws.{decimal_most}

module _ (P : ℕ → Bool) where
  -- one place further: in the set, or not
  places_on : (i : ℕ) → P i ≡ true → places P (i + 1) ≡ places P i ++ (32 ∷ decimal i)
  unfolding places
  places_on i h = rw (add-one, h)

  places_off : (i : ℕ) → P i ≡ false → places P (i + 1) ≡ places P i
  unfolding places
  places_off i h = rw (add-one, h) (append-nil (places P i))

  -- where no place from i on is in the set, nothing is listed
  places_skip : (i c : ℕ) → ((j : ℕ) → i ≤ j → j < i + c → P j ≡ false) → places P (i + c) ≡ places P i
  places_skip i zero none = ap (places P) (omega arith)
  places_skip i (suc c) none = ap (places P) (omega arith) ∙ places_off (i + c) (none (i + c) (omega arith) (omega arith)) ∙ places_skip i c (λ j a b. none j a (omega arith))

  -- one place more adds at most a space and its number
  abbrev Step : ℕ → Type 0
  Step i = (length (places P i) ≤ length (places P (i + 1))) × (length (places P (i + 1)) ≤ length (places P i) + (1 + length (decimal i)))

  places_step : (i : ℕ) → Step i
  places_step i = go (P i) refl
    where
      go : (t : Bool) → P i ≡ t → Step i
      go true e = let n = ap length (places_on i e) ∙ length-append (places P i) (32 ∷ decimal i) in (omega arith, omega arith)
      go false e = let n = ap length (places_off i e) in (omega arith, omega arith)

  places_grow : (i c : ℕ) → length (places P i) ≤ length (places P (i + c))
  places_grow i zero = rw add-zero (omega arith)
  places_grow i (suc c) = omega (arith, places_grow i c, (places_step (i + c)).0, ap (λ (k : ℕ). length (places P k)) (add-suc i c ∙ sym (add-one (i + c))))

  -- AT MOST 4,010 BYTES: 10 places of two bytes with the space, 90 of three, 900 of four and 24 of five
  places_more : (d i c : ℕ) → ((j : ℕ) → j < i + c → j < 10 ^ suc d) → length (places P (i + c)) ≤ length (places P i) + c * (d + 2)
  places_more d i zero h = omega (arith, ap (λ (k : ℕ). length (places P k)) (add-zero i), zero-mul (d + 2))
  places_more d i (suc c) h =
      omega (
        arith,
        ap (λ (k : ℕ). length (places P k)) (add-suc i c ∙ sym (add-one (i + c))),
        (places_step (i + c)).1,
        decimal_most d (i + c) (h (i + c) (omega arith)),
        places_more d i c (λ j l. h j (omega arith)),
        suc-mul c (d + 2),
      )

  places_none : length (places P 0) ≡ 0
  unfolding places
  places_none = refl

  pub places_most : length (places P 1024) ≤ 4010
  places_most =
      omega (
        arith,
        places_none,
        places_more 0 0 10 (λ j l. omega arith),
        places_more 1 10 90 (λ j l. omega arith),
        places_more 2 100 900 (λ j l. omega arith),
        places_more 3 1000 24 (λ j l. omega arith),
      )

-- sets with the same places below c have the same list
pub places_same : (P Q : ℕ → Bool) (c : ℕ) → ((j : ℕ) → j < c → P j ≡ Q j) → places P c ≡ places Q c
unfolding places
places_same P Q zero h = refl
places_same P Q (suc c) h = rw (places_same P Q c (λ j l. h j (omega arith)), h c (omega arith))

-- PLACES ONE AFTER THE OTHER: those below the next one are followed by it, and are all where there is no next one
module _ {P : ℕ → Bool} {i : ℕ} where
  pub places_next : {r : ℕ} → Found P i 1024 r → places P (r + 1) ≡ places P i ++ (32 ∷ decimal r)
  places_next {r} f =
      let from = f.from in
      let all : i + (r - i) ≡ r = omega arith in
      let skipped : places P r ≡ places P i = sym (ap (places P) all) ∙ places_skip P i (r - i) (λ j g l. f.before j g (omega arith)) in
      places_on P r f.here ∙ ap (λ (bytes : List ℕ). bytes ++ (32 ∷ decimal r)) skipped

  pub places_all : i ≤ 1024 → Missing P i 1024 → places P 1024 ≡ places P i
  places_all h f =
      let all : i + (1024 - i) ≡ 1024 = omega arith in
      sym (ap (places P) all) ∙ places_skip P i (1024 - i) (λ j g l. f.none j g (omega arith))

  -- room for all places is room for the next one
  pub next_room : {r : ℕ} → Found P i 1024 r → length (places P i) + (1 + length (decimal r)) ≤ length (places P 1024)
  next_room {r} f =
      let there = f.there in
      let all : r + 1 + (1024 - (r + 1)) ≡ 1024 = omega arith in
      omega (
        arith,
        ap length (places_next f) ∙ length-append (places P i) (32 ∷ decimal r),
        places_grow P (r + 1) (1024 - (r + 1)),
        ap (λ (k : ℕ). length (places P k)) all,
      )

-- A TEXT WITH THE PLACES BELOW i behind what it had
pub record Listed (P : ℕ → Bool) (i : ℕ) (before after : Text) : Type 0 where
  pub within : i ≤ 1024
  pub added : Added (places P i) before after

module _ {P : ℕ → Bool} {before : Text} where
  pub listed_none : Listed P 0 before before
  unfolding places
  listed_none = record { within = omega arith; added = record { written = wrote_none; same_buffer = refl } }

  pub listed_next : {i r : ℕ} {between after : Text} → Found P i 1024 r → Listed P i before between → Added (32 ∷ decimal r) between after → Listed P (r + 1) before after
  listed_next f l g =
      let there = f.there in
      record { within = omega arith; added = rw (places_next f) (added_then l.added g) }

  pub listed_all : {i : ℕ} {after : Text} → Missing P i 1024 → Listed P i before after → Added (places P 1024) before after
  listed_all f l = rw (places_all l.within f) l.added

  pub listed_room : {i r : ℕ} {after : Text} → Found P i 1024 r → Listed P i before after → after.end + (1 + length (decimal r)) ≤ before.end + length (places P 1024)
  listed_room f l = omega (arith, l.added.written.behind, next_room f)
