-- Laws of the files, 1,024 marks for each number: a place marked, the 16 words of a number, and that at first nothing is filed.
use mathlib.Core.Path.{◌≡◌, refl, sym, ap, ◌∙◌, subst}
use mathlib.Core.Bool.{Bool, true, false, ◌||◌, or-false}
use mathlib.Core.List.{List, []}
use Rattle.std.specs.Prelude.{Option, None, Some}
use Prim.Native.Nat.{ℕ, ◌/◌, ◌%◌, ◌<◌}
use native.Mathlib.Decide.{ℕ_discrete, dec_lt}
use native.Mathlib.Omega.{arith}
use lib.Dec.{eqb}
use lib.ListN.{length, get_or, set, replicate, length-replicate, get_or-replicate, get_or-eq_default}
use lib.Seq.{get_or-set_same, get_or-set_other}
use borrow.Author.Tests.{eqb-true, eq-eqb, ne_eqb}
use Rattle.bits.specs.Bit.{has, with_bit}
use Rattle.bits.proofs.BitLaws.{has_zero, has_with}
use Rattle.bits.proofs.Truth.{or_left, or_right, never}
use Rattle.marks.specs.Marks.{marked}
use Rattle.reasons.specs.declared.names.Name.{Name}
use Rattle.reasons.specs.declared.names.Name.TheVariants.{Concept, Role}
use Rattle.reasons.specs.declared.files.Files.{Files}
use Rattle.reasons.specs.Names.{filed, IsFiled}
use Rattle.marks.proofs.MarkLaws.{at_word, unmarked_past}

-- PLACE i PUT ON, and no other place touched
module _ (ws : List ℕ) (i : ℕ) (h : i / 64 < length ws) where
  pub place_on : {w : ℕ} → w ≡ with_bit (get_or ws (i / 64) 0) (i % 64) → (k : ℕ) → marked (set ws (i / 64) w) k ≡ (marked ws k || eqb i k)
  place_on {w} bit k = go (ℕ_discrete (k / 64) (i / 64))
    where
      same : k / 64 ≡ i / 64 → Dec (i % 64 ≡ k % 64) → eqb (i % 64) (k % 64) ≡ eqb i k
      same e (yes f) = eq-eqb (i % 64) (k % 64) f ∙ sym (eq-eqb i k (omega arith))
      same e (no f) = ne_eqb (i % 64) (k % 64) f ∙ sym (ne_eqb i k (λ z. f (ap (λ (x : ℕ). x % 64) z)))

      go : Dec (k / 64 ≡ i / 64) → marked (set ws (i / 64) w) k ≡ (marked ws k || eqb i k)
      go (yes e) =
          at_word (set ws (i / 64) w) k (i / 64) (k % 64) e refl
          ∙ ap (λ (v : ℕ). has v (k % 64)) (get_or-set_same ws (i / 64) w 0 h ∙ bit)
          ∙ has_with (get_or ws (i / 64) 0) (i % 64) (k % 64)
          ∙ rw (at_word ws k (i / 64) (k % 64) e refl, same e (ℕ_discrete (i % 64) (k % 64)))
      go (no e) =
          at_word (set ws (i / 64) w) k (k / 64) (k % 64) refl refl
          ∙ ap (λ (v : ℕ). has v (k % 64)) (get_or-set_other ws (i / 64) (k / 64) w 0 e)
          ∙ sym (at_word ws k (k / 64) (k % 64) refl refl)
          ∙ rw (ne_eqb i k (λ z. e (ap (λ (x : ℕ). x / 64) (sym z)))) (sym (or-false (marked ws k)))

-- of clear words nothing is marked
pub clear_marked : (c k : ℕ) → marked (replicate c 0) k ≡ false
clear_marked c k = go (dec_lt (k / 64) c)
  where
    go : Dec (k / 64 < c) → marked (replicate c 0) k ≡ false
    go (yes h) = at_word (replicate c 0) k (k / 64) (k % 64) refl refl ∙ ap (λ (w : ℕ). has w (k % 64)) (get_or-replicate c (k / 64) 0 0 h) ∙ has_zero (k % 64)
    go (no h) = unmarked_past (replicate c 0) k (omega (arith, length-replicate {A = ℕ} c 0))

pub rows_clear : (c x i : ℕ) → marked (get_or (replicate c (replicate 16 0)) x []) i ≡ false
rows_clear c x i = go (dec_lt x c)
  where
    go : Dec (x < c) → marked (get_or (replicate c (replicate 16 0)) x []) i ≡ false
    go (yes h) = ap (λ (ws : List ℕ). marked ws i) (get_or-replicate c x (replicate 16 0) [] h) ∙ clear_marked 16 i
    go (no h) =
        ap (λ (ws : List ℕ). marked ws i) (get_or-eq_default (replicate c (replicate 16 0)) [] (omega (arith, length-replicate {A = List ℕ} c (replicate 16 0))))
        ∙ unmarked_past [] i (omega arith)

-- A PLACE PUT ON IN ONE ROW of a table of marks: it is there, and nothing else comes
module _ (rows : List (List ℕ)) (x i : ℕ) (h : x < length rows) (row : List ℕ) (on : (k : ℕ) → marked row k ≡ (marked (get_or rows x []) k || eqb i k)) where
  row_at : (k : ℕ) → marked (get_or (set rows x row) x []) k ≡ (marked (get_or rows x []) k || eqb i k)
  row_at k = ap (λ (ws : List ℕ). marked ws k) (get_or-set_same rows x row [] h) ∙ on k

  row_other : (y k : ℕ) → (y ≡ x → ⊥) → marked (get_or (set rows x row) y []) k ≡ marked (get_or rows y []) k
  row_other y k e = ap (λ (ws : List ℕ). marked ws k) (get_or-set_other rows x y row [] e)

  pub row_there : marked (get_or (set rows x row) x []) i ≡ true
  row_there = row_at i ∙ or_right (marked (get_or rows x []) i) (eqb i i) (eq-eqb i i refl)

  pub row_stays : (y k : ℕ) → marked (get_or rows y []) k ≡ true → marked (get_or (set rows x row) y []) k ≡ true
  row_stays y k g = go (ℕ_discrete y x)
    where
      go : Dec (y ≡ x) → marked (get_or (set rows x row) y []) k ≡ true
      go (yes e) = rw e (row_at k ∙ or_left (marked (get_or rows x []) k) (eqb i k) (rw e at g))
      go (no e) = row_other y k e ∙ g

  pub row_comes : (y k : ℕ) → marked (get_or (set rows x row) y []) k ≡ true → marked (get_or rows y []) k ≡ false → (x ≡ y) × (i ≡ k)
  row_comes y k g f = go (ℕ_discrete y x)
    where
      go : Dec (y ≡ x) → (x ≡ y) × (i ≡ k)
      go (yes e) =
          let g' : marked (get_or (set rows x row) x []) k ≡ true = subst (λ (z : ℕ). marked (get_or (set rows x row) z []) k ≡ true) e g in
          (sym e, eqb-true i k (sym (ap (λ (t : Bool). t || eqb i k) (subst (λ (z : ℕ). marked (get_or rows z []) k ≡ false) e f)) ∙ sym (row_at k) ∙ g'))
      go (no e) = never (sym (row_other y k e) ∙ g) f

-- a place filed under a concept, under a role
module _ (files : Files) (name : Option Name) (x i : ℕ) (row : List ℕ) where
  pub filed_concept : name ≡ Some (Concept x) → x < length files.concepts → ((k : ℕ) → marked row k ≡ (marked (get_or files.concepts x []) k || eqb i k))
      → IsFiled files (record { concepts = set files.concepts x row; roles = files.roles; reached = files.reached }) name i
  filed_concept e h on = record { there = subst (λ (y : Option Name). filed files' y i ≡ true) (sym e) (row_there files.concepts x i h row on); stays = stays; comes = comes }
    where
      files' : Files
      files' = record { concepts = set files.concepts x row; roles = files.roles; reached = files.reached }

      stays : (y : Option Name) (k : ℕ) → filed files y k ≡ true → filed files' y k ≡ true
      stays None k g = g
      stays (Some (Concept y)) k g = row_stays files.concepts x i h row on y k g
      stays (Some (Role r)) k g = g

      comes : (y : Option Name) (k : ℕ) → filed files' y k ≡ true → filed files y k ≡ false → (name ≡ y) × (i ≡ k)
      comes None k g f = never g f
      comes (Some (Concept y)) k g f = let c = row_comes files.concepts x i h row on y k g f in (e ∙ ap (λ (z : ℕ). Some (Concept z)) c.0, c.1)
      comes (Some (Role r)) k g f = never g f

  pub filed_role : name ≡ Some (Role x) → x < length files.roles → ((k : ℕ) → marked row k ≡ (marked (get_or files.roles x []) k || eqb i k))
      → IsFiled files (record { concepts = files.concepts; roles = set files.roles x row; reached = files.reached }) name i
  filed_role e h on = record { there = subst (λ (y : Option Name). filed files' y i ≡ true) (sym e) (row_there files.roles x i h row on); stays = stays; comes = comes }
    where
      files' : Files
      files' = record { concepts = files.concepts; roles = set files.roles x row; reached = files.reached }

      stays : (y : Option Name) (k : ℕ) → filed files y k ≡ true → filed files' y k ≡ true
      stays None k g = g
      stays (Some (Concept y)) k g = g
      stays (Some (Role r)) k g = row_stays files.roles x i h row on r k g

      comes : (y : Option Name) (k : ℕ) → filed files' y k ≡ true → filed files y k ≡ false → (name ≡ y) × (i ≡ k)
      comes None k g f = never g f
      comes (Some (Concept y)) k g f = never g f
      comes (Some (Role r)) k g f = let c = row_comes files.roles x i h row on r k g f in (e ∙ ap (λ (z : ℕ). Some (Role z)) c.0, c.1)
