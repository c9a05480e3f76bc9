-- Laws of halving: of the places from i on those that can go together are cut out, the next one is kept, and so on; what is left is picked.
use mathlib.Core.Path.{◌≡◌, sym, ap, ◌∙◌, subst}
use mathlib.Core.Bool.{Bool, true, false}
use mathlib.Core.List.{List}
use Prim.Native.Nat.{ℕ, ◌+◌, ◌≤◌, ◌<◌}
use native.Mathlib.Decide.{dec_lt}
use native.Mathlib.Omega.{arith}
use Rattle.bits.proofs.Truth.{never}
use Rattle.marks.specs.Marks.{marked, marks_of, cut_out}
use Rattle.marks.proofs.CutLaws.{cut_before, cut_after, cut_gone, cut_fewer, cut_marked}
use Rattle.marks.proofs.WordLaws.{sixteen_again}
use Rattle.reasons.specs.Printed.{Subset, IsPicked}
use Rattle.reasons.specs.Inner.{Between, Next}
use Rattle.reasons.proofs.PickLaws.{Settled, Cut, cut_settled, cut_picked, kept_settled, settled_picked}

-- the places of a range cut out
cut_out_lem : (P : ℕ → Bool) (i k len : ℕ) → Cut len i k P (cut_out P i k)
cut_out_lem P i k len = record { gone = cut_gone P i k; before = cut_before P i k; after = λ j h _. cut_after P i k j h }

-- of S, the places of T are left, and those below i are settled
pub record Halved (len : ℕ) (F : (ℕ → Bool) → Type 0) (S T : ℕ → Bool) (i : ℕ) : Type 0 where
  pub fewer : (j : ℕ) → T j ≡ true → S j ≡ true
  pub holds : F T
  pub settled : Settled len F i T
  picks : (P : ℕ → Bool) → IsPicked len F T P → IsPicked len F S P

module _ (len : ℕ) (F : (ℕ → Bool) → Type 0) (mono : (P Q : ℕ → Bool) → Subset len P Q → F P → F Q) where
  pub halved_start : (S : ℕ → Bool) → F S → Halved len F S S 0
  halved_start S f = record { fewer = λ j h. h; holds = f; settled = λ Q w g j l. absurd (omega arith); picks = λ P p. p }

  module _ (S T : ℕ → Bool) (i : ℕ) (t : Halved len F S T i) where
    -- places that nothing is left of are settled
    halved_on : (k : ℕ) → ((j : ℕ) → i ≤ j → j < k → T j ≡ false) → Halved len F S T k
    halved_on k none = record { fewer = t.fewer; holds = t.holds; settled = λ Q w f j h l e. go Q w f j h l e (dec_lt j i); picks = t.picks }
      where
        go : (Q : ℕ → Bool) → Subset len Q T → F Q → (j : ℕ) → j < k → j < len → T j ≡ true → Dec (j < i) → Q j ≡ true
        go Q w f j h l e (yes p) = t.settled Q w f j p l e
        go Q w f j h l e (no p) = never e (none j (omega arith) h)

    -- ALL SETTLED, WHAT IS LEFT IS THE PICKED SET
    pub halved_end : len ≤ i → IsPicked len F S T
    halved_end h = t.picks T (settled_picked len F T (λ Q w f j l. t.settled Q w f j (omega arith)) t.holds)

    -- A TURN: those that can go are cut out, and the next one is kept
    pub halved_next : len ≤ 1024 → (k : ℕ) → Next F T i k → Halved len F S (cut_out T i k) (k + 1)
    halved_next most k x = record {
      fewer = λ j h. t.fewer j (cut_fewer T i k j h);
      holds = x.goes;
      settled = go (dec_lt k 1024);
      picks = λ P p. t.picks P (cut_picked len i k T (cut_out T i k) (cut_out_lem T i k len) F t.settled P p);
    }
      where
        before : Settled len F k (cut_out T i k)
        before = cut_settled len i k T (cut_out T i k) (cut_out_lem T i k len) F t.settled

        one : Cut len k (k + 1) (cut_out T i k) (cut_out T i (k + 1))
        one = record {
          gone = λ j h g. cut_gone T i (k + 1) j (omega (arith, x.from)) g;
          before = λ j h. same j h (dec_lt j i);
          after = λ j h _. cut_after T i (k + 1) j h ∙ sym (cut_after T i k j (omega arith));
        }
          where
            same : (j : ℕ) → j < k → Dec (j < i) → cut_out T i (k + 1) j ≡ cut_out T i k j
            same j h (yes p) = cut_before T i (k + 1) j p ∙ sym (cut_before T i k j p)
            same j h (no p) = cut_gone T i (k + 1) j (omega arith) (omega arith) ∙ sym (cut_gone T i k j (omega arith) h)

        go : Dec (k < 1024) → Settled len F (k + 1) (cut_out T i k)
        go (yes p) = kept_settled len k (cut_out T i k) (cut_out T i (k + 1)) one F mono (x.stays p) before
        go (no p) = λ Q w f j h l. before Q w f j (omega arith) l

  -- WHERE BUT ONE PLACE IS LEFT BETWEEN lo AND hi, that is the next one
  pub between_end : (T : ℕ → Bool) (i lo hi : ℕ) → Between F T i lo hi → ((j : ℕ) → lo + 1 ≤ j → j < hi → T j ≡ false) → Next F T i lo
  between_end T i lo hi b none = record {
    from = b.from;
    most = omega (arith, b.some, b.most);
    goes = b.goes;
    stays = λ _ f. b.stays (mono (cut_out T i (lo + 1)) (cut_out T i hi) (λ j _ h. go j h (dec_lt j i) (dec_lt j hi) (dec_lt j (lo + 1))) f);
  }
    where
      go : (j : ℕ) → cut_out T i (lo + 1) j ≡ true → Dec (j < i) → Dec (j < hi) → Dec (j < lo + 1) → cut_out T i hi j ≡ true
      go j h (yes p) q r = cut_before T i hi j p ∙ cut_fewer T i (lo + 1) j h
      go j h (no p) (no q) r = cut_after T i hi j (omega arith) ∙ cut_fewer T i (lo + 1) j h
      go j h (no p) (yes q) (yes r) = never h (cut_gone T i (lo + 1) j (omega arith) r)
      go j h (no p) (yes q) (no r) = never (cut_fewer T i (lo + 1) j h) (none j (omega arith) q)

  -- nothing is cut out of an empty range
  pub between_start : (T : ℕ → Bool) (i : ℕ) → i < 1024 → F T → (F (cut_out T i 1024) → ⊥) → Between F T i i 1024
  between_start T i h f lost = record {
    from = omega arith;
    some = h;
    most = omega arith;
    goes = mono T (cut_out T i i) (λ j _ e. go j (dec_lt j i) ∙ e) f;
    stays = lost;
  }
    where
      go : (j : ℕ) → Dec (j < i) → cut_out T i i j ≡ T j
      go j (yes p) = cut_before T i i j p
      go j (no p) = cut_after T i i j (omega arith)

-- words that mark what is left of S, those below i settled
pub record Rest (len : ℕ) (F : (ℕ → Bool) → Type 0) (S : ℕ → Bool) (ws : List ℕ) (i : ℕ) : Type 0 where
  pub words : ws ≡ marks_of (marked ws)
  pub halved : Halved len F S (marked ws) i

module _ (len : ℕ) (F : (ℕ → Bool) → Type 0) (mono : (P Q : ℕ → Bool) → Subset len P Q → F P → F Q) (most : len ≤ 1024) (S : ℕ → Bool) (ws : List ℕ) where
  -- up to the next marked place
  pub rest_on : (i k : ℕ) → Rest len F S ws i → ((j : ℕ) → i ≤ j → j < k → marked ws j ≡ false) → Rest len F S ws k
  rest_on i k t none = record { words = t.words; halved = halved_on len F mono S (marked ws) i t.halved k none }

  -- a turn of the loop
  pub rest_next : (i k : ℕ) → Rest len F S ws i → Next F (marked ws) i k → (ws' : List ℕ) → ws' ≡ marks_of (cut_out (marked ws) i k) → Rest len F S ws' (k + 1)
  rest_next i k t x ws' e =
      let same : marked ws' ≡ cut_out (marked ws) i k = ap marked e ∙ cut_marked ws i k (sixteen_again ws t.words) in
      record {
        words = e ∙ ap marks_of (sym same);
        halved = subst (λ (T : ℕ → Bool). Halved len F S T (k + 1)) (sym same) (halved_next len F mono S (marked ws) i t.halved most k x);
      }
