-- Picking over any property F of place sets: there is one, ascending deletion finds it, and no place of it can be spared.
use mathlib.Core.Path.{◌≡◌, refl, sym, ap, ◌∙◌}
use mathlib.Core.Logic.{◌↔◌}
use mathlib.Core.Bool.{Bool, true, false, not, and-true, Bool-discrete}
use Prim.Native.Nat.{ℕ, zero, suc, ◌+◌, ◌≤◌, ◌<◌}
use native.Mathlib.Decide.{ℕ_discrete, dec_lt}
use native.Mathlib.Omega.{arith}
use lib.Dec.{eqb}
use borrow.Author.Tests.{eqb-false, eq-eqb, ne_eqb, not-true}
use Rattle.bits.proofs.Truth.{both_true, and_no, never}
use Rattle.reasons.specs.Printed.{Subset, Differ, IsPicked, IsMinimal, without}
use Rattle.reasons.specs.Computed.{spared, picked}

-- one place taken out
module _ (S : ℕ → Bool) (i : ℕ) where
  pub without_true : (j : ℕ) → without S i j ≡ true → (S j ≡ true) × (j ≡ i → ⊥)
  unfolding without
  without_true j h = let p = both_true (S j) (not (eqb j i)) h in (p.0, eqb-false j i (not-true (eqb j i) p.1))

  without_other : (j : ℕ) → (j ≡ i → ⊥) → without S i j ≡ S j
  unfolding without
  without_other j h = rw (ne_eqb j i h) (and-true (S j))

  without_self : without S i i ≡ false
  unfolding without
  without_self = rw (eq-eqb i i refl) (and_no (S i) false refl)

  -- a subset that lacks the place
  without_within : (len : ℕ) (Q : ℕ → Bool) → Subset len Q S → Q i ≡ false → Subset len Q (without S i)
  without_within len Q w e j l h = without_other j (λ z. never h (ap Q z ∙ e)) ∙ w j l h

module _ (len : ℕ) (F : (ℕ → Bool) → Type 0) (S P : ℕ → Bool) (p : IsPicked len F S P) where
  -- THERE IS ONE, however it was found
  pub picked_one : (Q : ℕ → Bool) → IsPicked len F S Q → (i : ℕ) → i < len → P i ≡ Q i
  picked_one Q q i l = upto (i + 1) i (omega arith) l
    where
      upto : (k i : ℕ) → i < k → i < len → P i ≡ Q i
      upto zero i h l = absurd (omega arith)
      upto (suc k) i h l = go (Bool-discrete (P i) (Q i)) (λ j g. upto k j (omega arith) (omega arith))
        where
          go : Dec (P i ≡ Q i) → ((j : ℕ) → j < i → P j ≡ Q j) → P i ≡ Q i
          go (yes e) same = e
          go (no e) same =
              p.lacks Q q.within q.holds i (record { inside = l; below = same; here = e })
              ∙ sym (q.lacks P p.within p.holds i (record { inside = l; below = λ j g. sym (same j g); here = λ z. e (sym z) }))

  -- WITH ANY ONE PLACE TAKEN OUT, F IS LOST
  pub picked_needs : (i : ℕ) → i < len → P i ≡ true → F (without P i) → ⊥
  picked_needs i l h f =
      never h
      (p.lacks (without P i) (λ j k g. p.within j k (without_true P i j g).0) f i (record {
        inside = l;
        below = λ j g. sym (without_other P i j (omega arith));
        here = λ e. never h (e ∙ without_self P i);
      }))

-- every subset of T with F has the places of T below i
abbrev pub Settled : ℕ → ((ℕ → Bool) → Type 0) → ℕ → (ℕ → Bool) → Type 0
Settled len F i T = (Q : ℕ → Bool) → Subset len Q T → F Q → (j : ℕ) → j < i → j < len → T j ≡ true → Q j ≡ true

-- T' is T but for the places from i on and below k
pub record Cut (len i k : ℕ) (T T' : ℕ → Bool) : Type 0 where
  pub gone : (j : ℕ) → i ≤ j → j < k → T' j ≡ false
  pub before : (j : ℕ) → j < i → T' j ≡ T j
  pub after : (j : ℕ) → k ≤ j → j < len → T' j ≡ T j

module _ (len i k : ℕ) (T T' : ℕ → Bool) (cut : Cut len i k T T') where
  cut_within : Subset len T' T
  cut_within j l h = go (dec_lt j i) (dec_lt j k)
    where
      go : Dec (j < i) → Dec (j < k) → T j ≡ true
      go (yes p) q = sym (cut.before j p) ∙ h
      go (no p) (yes q) = never h (cut.gone j (omega arith) q)
      go (no p) (no q) = sym (cut.after j (omega arith) l) ∙ h

  within_cut : (Q : ℕ → Bool) → Subset len Q T → ((j : ℕ) → i ≤ j → j < k → j < len → Q j ≡ false) → Subset len Q T'
  within_cut Q w lacks j l h = go (dec_lt j i) (dec_lt j k)
    where
      go : Dec (j < i) → Dec (j < k) → T' j ≡ true
      go (yes p) q = cut.before j p ∙ w j l h
      go (no p) (yes q) = never h (lacks j (omega arith) q l)
      go (no p) (no q) = cut.after j (omega arith) l ∙ w j l h

  module _ (F : (ℕ → Bool) → Type 0) (settled : Settled len F i T) where
    cut_below : (Q : ℕ → Bool) → Subset len Q T' → F Q → (j : ℕ) → j < i → j < len → T' j ≡ true → Q j ≡ true
    cut_below Q w f j p l h = settled Q (λ x lx hx. cut_within x lx (w x lx hx)) f j p l (cut_within j l h)

    -- what is left is settled up to k
    pub cut_settled : Settled len F k T'
    cut_settled Q w f j q l h = go (dec_lt j i)
      where
        go : Dec (j < i) → Q j ≡ true
        go (yes p) = cut_below Q w f j p l h
        go (no p) = never h (cut.gone j (omega arith) q)

    -- PLACES THAT CAN BE SPARED TOGETHER, from the first that is not settled on, GO AT ONCE
    pub cut_picked : (P : ℕ → Bool) → IsPicked len F T' P → IsPicked len F T P
    cut_picked P p = record { within = λ j l h. cut_within j l (p.within j l h); holds = p.holds; lacks = λ Q w f d x. lacks Q w f d x (P d) refl }
      where
        lacks : (Q : ℕ → Bool) → Subset len Q T → F Q → (d : ℕ) → Differ len P Q d → (t : Bool) → P d ≡ t → P d ≡ false
        lacks Q w f d x false e = e
        lacks Q w f d x true e = go (dec_lt d i) (dec_lt d k)
          where
            go : Dec (d < i) → Dec (d < k) → P d ≡ false
            go (yes u) v = absurd (x.here (e ∙ sym (settled Q w f d u x.inside (cut_within d x.inside (p.within d x.inside e)))))
            go (no u) (yes v) = never (p.within d x.inside e) (cut.gone d (omega arith) v)
            go (no u) (no v) = p.lacks Q (within_cut Q w (λ j g h l. sym (x.below j (omega arith)) ∙ out j l (cut.gone j g h))) f d x
              where
                out : (j : ℕ) → j < len → T' j ≡ false → P j ≡ false
                out j l g = again (P j) refl
                  where
                    again : (t : Bool) → P j ≡ t → t ≡ false
                    again true h = never (p.within j l h) g
                    again false h = refl

-- A PLACE THAT CANNOT BE SPARED IS KEPT
pub kept_settled : (len i : ℕ) (T T' : ℕ → Bool) → Cut len i (i + 1) T T' → (F : (ℕ → Bool) → Type 0) → ((P Q : ℕ → Bool) → Subset len P Q → F P → F Q) → (F T' → ⊥) → Settled len F i T → Settled len F (i + 1) T
kept_settled len i T T' cut F mono lost settled Q w f j q l h = go (ℕ_discrete j i) (Q j) refl
  where
    go : Dec (j ≡ i) → (t : Bool) → Q j ≡ t → t ≡ true
    go d true e = refl
    go (no z) false e = never (settled Q w f j (omega arith) l h) e
    go (yes z) false e = absurd (lost (mono Q T' (within_cut len i (i + 1) T T' cut Q w (λ x g k _. let y : x ≡ j = omega arith in ap Q y ∙ e)) f))

-- ALL SETTLED, IT IS THE ONE
pub settled_picked : (len : ℕ) (F : (ℕ → Bool) → Type 0) (T : ℕ → Bool) → Settled len F len T → F T → IsPicked len F T T
settled_picked len F T settled f = record { within = λ i l h. h; holds = f; lacks = λ Q w g i d. go Q w g i d (T i) refl }
  where
    go : (Q : ℕ → Bool) → Subset len Q T → F Q → (i : ℕ) → Differ len T Q i → (t : Bool) → T i ≡ t → t ≡ false
    go Q w g i d true e = absurd (d.here (e ∙ sym (settled Q w g i d.inside d.inside e)))
    go Q w g i d false e = refl

without_cut : (len i : ℕ) (S : ℕ → Bool) → Cut len i (i + 1) S (without S i)
without_cut len i S = record {
  gone = λ j g h. let z : j ≡ i = omega arith in ap (without S i) z ∙ without_self S i;
  before = λ j g. without_other S i j (omega arith);
  after = λ j g _. without_other S i j (omega arith);
}

module _ (len : ℕ) (F : (ℕ → Bool) → Type 0) (mono : (P Q : ℕ → Bool) → Subset len P Q → F P → F Q) where
  -- so no smaller subset has F
  pub picked_minimal : (S P : ℕ → Bool) → IsPicked len F S P → IsMinimal len F P
  picked_minimal S P p = record { holds = p.holds; whole = λ Q w f i l h. go Q w f i l h (Q i) refl }
    where
      go : (Q : ℕ → Bool) → Subset len Q P → F Q → (i : ℕ) → i < len → P i ≡ true → (t : Bool) → Q i ≡ t → Q i ≡ true
      go Q w f i l h true e = e
      go Q w f i l h false e = absurd (picked_needs len F S P p i l h (mono Q (without P i) (without_within P i len Q w e) f))

  -- sets that agree below len are picked together
  pub picked_same : (S S' P P' : ℕ → Bool) → ((i : ℕ) → i < len → S i ≡ S' i) → ((i : ℕ) → i < len → P i ≡ P' i) → IsPicked len F S P → IsPicked len F S' P'
  picked_same S S' P P' s e p = record {
    within = λ i l h. sym (s i l) ∙ p.within i l (e i l ∙ h);
    holds = mono P P' (λ i l h. sym (e i l) ∙ h) p.holds;
    lacks = λ Q w f i d.
        let l = d.inside in
        sym (e i l)
        ∙ p.lacks Q (λ j k h. s j k ∙ w j k h) f i (record { inside = l; below = λ j g. e j (omega arith) ∙ d.below j g; here = λ z. d.here (sym (e i l) ∙ z) });
  }

  module _ (D : (ℕ → Bool) → Bool) (dec : (P : ℕ → Bool) → (D P ≡ true) ↔ F P) where
    spared_is : (c i : ℕ) → i + c ≡ len → (S : ℕ → Bool) → Settled len F i S → F S → IsPicked len F S (spared D c i S)
    unfolding spared
    spared_is zero i h S settled f = settled_picked len F S (λ Q w g j l. settled Q w g j (omega arith)) f
    spared_is (suc c) i h S settled f = go (D (without S i)) refl (spared_is c (i + 1) (omega arith) (without S i)) (spared_is c (i + 1) (omega arith) S)
      where
        Rest : (ℕ → Bool) → Type 0
        Rest T = Settled len F (i + 1) T → F T → IsPicked len F T (spared D c (i + 1) T)

        go : (t : Bool) → D (without S i) ≡ t → Rest (without S i) → Rest S → IsPicked len F S (elim t [ true ↦ spared D c (i + 1) (without S i) | false ↦ spared D c (i + 1) S ])
        go true e spare keep =
            let cut = without_cut len i S in
            cut_picked len i (i + 1) S (without S i) cut F settled (spared D c (i + 1) (without S i))
            (spare (cut_settled len i (i + 1) S (without S i) cut F settled) ((dec (without S i)).0 e))
        go false e spare keep = keep (kept_settled len i S (without S i) (without_cut len i S) F mono (λ g. never ((dec (without S i)).1 g) e) settled) f

    -- ASCENDING DELETION PICKS
    pub picked_is : (S : ℕ → Bool) → F S → IsPicked len F S (picked D len S)
    unfolding picked
    picked_is S f = spared_is len 0 (omega arith) S (λ Q w g j l. absurd (omega arith)) f

    -- THERE IS ONE EXACTLY WHERE S HAS F
    pub picked_exists : (S : ℕ → Bool) → ((P : ℕ → Bool) × IsPicked len F S P) ↔ F S
    picked_exists S = (λ p. mono p.0 S p.1.within p.1.holds, λ f. (picked D len S, picked_is S f))
