-- Laws of the bench program's input: its three lengths, each byte of the question record that must be zero, and that the pack lies before the record.
use mathlib.Core.Path.{◌≡◌, refl, ap, ◌∙◌}
use mathlib.Core.Bool.{Bool, true, false, cond, ◌&&◌}
use mathlib.Core.List.{List}
use Prim.Native.Nat.{ℕ, ◌+◌, ◌-◌, ◌≤◌, ◌<◌}
use native.Mathlib.Omega.{arith}
use lib.Dec.{eqb, ltb}
use lib.ListN.{length, get_or, take, drop}
use Rattle.std.proofs.Common.{Result, Ok, Err}
use Rattle.std.proofs.lemmas.List.{get_or-take, get_or-drop}
use borrow.Author.Tests.{eq-eqb, ne_eqb, lt-ltb, le-ltb}
use Rattle.bits.proofs.Truth.{and_no}
use Rattle.lines.specs.declared.input.Asked.{Asked}
use Rattle.lines.specs.declared.input.InputError.{InputError}
use Rattle.lines.specs.declared.input.InputError.TheVariants.{Shape, TooLong}
use Rattle.lines.specs.Input.{question_in, input_of}

module _ (s : List ℕ) where
  pub too_long_lem : 8200 < length s → Err TooLong ≡ input_of s
  unfolding input_of
  too_long_lem h = rw (lt-ltb 8200 (length s) h)

  pub too_short : length s ≤ 8200 → length s < 8 → Err Shape ≡ input_of s
  unfolding input_of
  too_short h g = rw (le-ltb 8200 (length s) h, lt-ltb (length s) 8 g)

-- THE QUESTION RECORD is the last 8 bytes
module _ (s : List ℕ) (most : length s ≤ 8200) (some : 8 ≤ length s) where
  -- the byte that so many bytes reach up to the end
  abbrev byte : ℕ → ℕ
  byte k = get_or s (length s - k) 0

  byte_at : (j k : ℕ) → j < 8 → j + k ≡ 8 → get_or (take 8 (drop (length s - 8) s)) j 0 ≡ byte k
  byte_at j k h e =
      let same : length s - 8 + j ≡ length s - k = omega arith in
      get_or-take 8 (drop (length s - 8) s) j 0 h ∙ get_or-drop (length s - 8) s j 0 ∙ ap (λ (i : ℕ). get_or s i 0) same

  -- by the bytes that must be zero
  pub last_eight : input_of s ≡ cond (eqb (byte 8) 0 && eqb (byte 3) 0 && eqb (byte 2) 0 && eqb (byte 1) 0) (Ok (record { n = byte 7; m = byte 6; a = byte 5; b = byte 4; at = length s - 8 })) (Err Shape)
  unfolding input_of
  last_eight =
      rw (le-ltb 8200 (length s) most, le-ltb (length s) 8 some)
      (rw (byte_at 0 8 (omega arith) refl, byte_at 1 7 (omega arith) refl, byte_at 2 6 (omega arith) refl, byte_at 3 5 (omega arith) refl, byte_at 4 4 (omega arith) refl, byte_at 5 3 (omega arith) refl, byte_at 6 2 (omega arith) refl, byte_at 7 1 (omega arith) refl) refl)

  pub all_zero : {at : ℕ} → byte 8 ≡ 0 → byte 3 ≡ 0 → byte 2 ≡ 0 → byte 1 ≡ 0 → at ≡ length s - 8 → Ok (record { n = byte 7; m = byte 6; a = byte 5; b = byte 4; at = at }) ≡ input_of s
  all_zero h₈ h₃ h₂ h₁ e = rw (last_eight, eq-eqb (byte 8) 0 h₈, eq-eqb (byte 3) 0 h₃, eq-eqb (byte 2) 0 h₂, eq-eqb (byte 1) 0 h₁, e) refl

  -- a byte that is not zero makes another shape
  other : (eqb (byte 8) 0 && eqb (byte 3) 0 && eqb (byte 2) 0 && eqb (byte 1) 0) ≡ false → Err Shape ≡ input_of s
  other h = rw (last_eight, h) refl

  pub not_8 : (byte 8 ≡ 0 → ⊥) → Err Shape ≡ input_of s
  not_8 h = other (ap (λ (t : Bool). t && eqb (byte 3) 0 && eqb (byte 2) 0 && eqb (byte 1) 0) (ne_eqb (byte 8) 0 h))

  pub not_3 : (byte 3 ≡ 0 → ⊥) → Err Shape ≡ input_of s
  not_3 h = other (ap (λ (t : Bool). t && eqb (byte 2) 0 && eqb (byte 1) 0) (and_no (eqb (byte 8) 0) (eqb (byte 3) 0) (ne_eqb (byte 3) 0 h)))

  pub not_2 : (byte 2 ≡ 0 → ⊥) → Err Shape ≡ input_of s
  not_2 h = other (ap (λ (t : Bool). t && eqb (byte 1) 0) (and_no (eqb (byte 8) 0 && eqb (byte 3) 0) (eqb (byte 2) 0) (ne_eqb (byte 2) 0 h)))

  pub not_1 : (byte 1 ≡ 0 → ⊥) → Err Shape ≡ input_of s
  not_1 h = other (and_no (eqb (byte 8) 0 && eqb (byte 3) 0 && eqb (byte 2) 0) (eqb (byte 1) 0) (ne_eqb (byte 1) 0 h))

-- each way to ask nothing
pub ruleset no_question = (too_long_lem, too_short, not_8, not_3, not_2, not_1)

-- THE PACK LIES WITHIN THE INPUT
abbrev pub Fits : Result Asked InputError → ℕ → Type 0
Fits (Err why) size = Unit {0}
Fits (Ok q) size = q.at ≤ size

pub input_fits : (s : List ℕ) → Fits (input_of s) (length s)
unfolding input_of
input_fits s = go (ltb 8200 (length s)) (ltb (length s) 8)
  where
    q : List ℕ
    q = take 8 (drop (length s - 8) s)

    shape : (t : Bool) → Fits (cond t (Ok (record { n = get_or q 1 0; m = get_or q 2 0; a = get_or q 3 0; b = get_or q 4 0; at = length s - 8 })) (Err Shape)) (length s)
    shape true = omega arith
    shape false = tt

    go : (t u : Bool) → Fits (cond t (Err TooLong) (cond u (Err Shape) (question_in q (length s - 8)))) (length s)
    go true u = tt
    go false true = tt
    go false false = shape (eqb (get_or q 0 0) 0 && eqb (get_or q 5 0) 0 && eqb (get_or q 6 0) 0 && eqb (get_or q 7 0) 0)
