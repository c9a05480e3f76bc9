-- Laws of bytes put into a buffer: its length stays, and what is put one behind the other is put in one.
use mathlib.Core.Path.{◌≡◌, refl, sym, ap, ap₂, ◌∙◌}
use mathlib.Core.List.{List, [], ◌∷◌, ◌++◌, append_assoc}
use Prim.Native.Nat.{ℕ, suc, ◌+◌, ◌-◌, ◌≤◌}
use native.Mathlib.Numerals.{add-one}
use native.Mathlib.Omega.{arith}
use lib.ListN.{length, take, drop, set, length-set, length-append}
use lib.Seq.{sets, sets-eq, take_at, drop-drop}
use borrow.Rule.Slice.PartMut.{put_mid}
use Rattle.text.specs.declared.line.Text.{Text}
use Rattle.text.specs.Buffer.{put, Wrote}
use Rattle.text.specs.Inner.{Added}

pub put_length : (buffer : List ℕ) (at : ℕ) (bytes : List ℕ) → length (put buffer at bytes) ≡ length buffer
unfolding put
put_length buffer at [] = refl
put_length buffer at (b ∷ bytes) = put_length (set buffer at b) (at + 1) bytes ∙ length-set buffer at b

pub put_append : (buffer : List ℕ) (at : ℕ) (xs ys : List ℕ) → put buffer at (xs ++ ys) ≡ put (put buffer at xs) (at + length xs) ys
unfolding put
put_append buffer at [] ys = ap (λ (k : ℕ). put buffer k ys) (omega arith)
put_append buffer at (x ∷ xs) ys = put_append (set buffer at x) (at + 1) xs ys ∙ ap (λ (k : ℕ). put (put (set buffer at x) (at + 1) xs) k ys) (omega arith)

-- WITH ROOM FOR THEM, the bytes stand from `at` on, and before and behind them all is as it was
put_sets : (buffer : List ℕ) (at : ℕ) (bytes : List ℕ) → put buffer at bytes ≡ sets buffer at bytes
unfolding put
put_sets buffer at [] = refl
put_sets buffer at (b ∷ bytes) = rw add-one (put_sets (set buffer at b) (suc at) bytes)

pub put_is : (buffer : List ℕ) (at : ℕ) (bytes : List ℕ) → at + length bytes ≤ length buffer → put buffer at bytes ≡ take at buffer ++ bytes ++ drop (at + length bytes) buffer
put_is buffer at bytes h = put_sets buffer at bytes ∙ sets-eq bytes buffer at h

-- so what was written from the start on stands there
pub wrote_front : (bytes before : List ℕ) {after : List ℕ} {end : ℕ} → length bytes ≤ length before → Wrote bytes before 0 after end → take end after ≡ bytes
wrote_front bytes before {after} {end} h f =
    let e : end ≡ length bytes = omega (arith, f.behind) in
    let room : 0 + length bytes ≤ length before = omega arith in
    rw (e, f.buffer, put_is before 0 bytes room) (take_at bytes (drop (0 + length bytes) before) (length bytes) refl)

-- none, one word in one copy, and one text behind another
module _ {before : List ℕ} {at : ℕ} where
  pub wrote_none : Wrote [] before at before at
  unfolding put
  wrote_none = record { behind = omega arith; buffer = refl }

  pub wrote_word : {word part : List ℕ} → part ≡ word → at + length word ≤ length before → Wrote word before at (put_mid at (at + length word - at) before part) (at + length word)
  wrote_word {word} e h =
      let n : at + length word - at ≡ length word = omega arith in
      record { behind = refl; buffer = rw (e, n, put_is before at word h, drop-drop (length word) at before, append_assoc) refl }

  pub wrote_then : {xs ys between after : List ℕ} {middle end : ℕ} → Wrote xs before at between middle → Wrote ys between middle after end → Wrote (xs ++ ys) before at after end
  wrote_then {xs} {ys} {between} {after} {middle} {end} f g =
      let e = f.behind in
      record {
        behind = omega (arith, g.behind, length-append xs ys);
        buffer = g.buffer ∙ ap₂ (λ (l : List ℕ) (k : ℕ). put l k ys) f.buffer f.behind ∙ sym (put_append before at xs ys);
      }

-- A TEXT that grows in its buffer: one word behind another
pub added_then : {xs ys : List ℕ} {before between after : Text} → Added xs before between → Added ys between after → Added (xs ++ ys) before after
added_then f g = record { written = wrote_then f.written g.written; same_buffer = g.same_buffer ∙ f.same_buffer }
