-- The test of a line in a world is right: it is yes exactly when the world obeys the line.
use mathlib.Core.Path.{◌≡◌, refl}
use mathlib.Core.Bool.{Bool, true, false, ◌&&◌}
use Prim.Native.Nat.{ℕ, ◌<◌}
use Rattle.bits.specs.Sets.{every, some}
use Rattle.bits.proofs.Truth.{both_true, true_both, never}
use Rattle.bits.proofs.SetLaws.{every_true, true_every, some_true, true_some}
use Rattle.pack.specs.declared.line.Line.{Line}
use Rattle.pack.specs.declared.line.Line.TheVariants.{Under, BothUnder, UnderSome, SomeUnder, RoleUnder, ChainUnder, ToItself, NoLine}
use Rattle.pack.specs.World.{World, Is, To, ObeysLine}
use Rattle.pack.specs.Computed.{implies, obeys_at, obeys}

pub implies_true : (p q : Bool) → implies p q ≡ true → p ≡ true → q ≡ true
unfolding implies
implies_true true q h g = h
implies_true false q h g = never g refl

pub true_implies : (p q : Bool) → (p ≡ true → q ≡ true) → implies p q ≡ true
unfolding implies
true_implies true q h = h refl
true_implies false q h = refl

module _ (w : World) where
  -- some thing y that x is linked to by r is in b
  abbrev Some : ℕ → ℕ → ℕ → Bool
  Some x r b = some w.things (λ y. w.linked x r y && w.is_in y b)

  some_link : (x r b : ℕ) → Some x r b ≡ true → (y : ℕ) × (y < w.things) × To w x r y × Is w y b
  some_link x r b h =
      let e = some_true (λ y. w.linked x r y && w.is_in y b) w.things h in
      let f = both_true (w.linked x r e.0) (w.is_in e.0 b) e.2 in
      (e.0, e.1, f.0, f.1)

  link_some : (x r b y : ℕ) → y < w.things → To w x r y → Is w y b → Some x r b ≡ true
  link_some x r b y l p q = true_some (λ y. w.linked x r y && w.is_in y b) w.things y l (true_both (w.linked x r y) (w.is_in y b) p q)

  -- THE TEST SAYS YES only of a world that obeys
  pub obeys_line : (l : Line) → obeys w l ≡ true → ObeysLine w l
  unfolding obeys obeys_at
  obeys_line (Under a b) h = λ x k. implies_true (w.is_in x a) (w.is_in x b) (every_true (obeys_at w (Under a b)) w.things h x k)
  obeys_line (BothUnder a₁ a₂ b) h = λ x k p q.
      implies_true (w.is_in x a₁ && w.is_in x a₂) (w.is_in x b) (every_true (obeys_at w (BothUnder a₁ a₂ b)) w.things h x k) (true_both (w.is_in x a₁) (w.is_in x a₂) p q)
  obeys_line (UnderSome a r b) h = λ x k p.
      some_link x r b (implies_true (w.is_in x a) (Some x r b) (every_true (obeys_at w (UnderSome a r b)) w.things h x k) p)
  obeys_line (SomeUnder r a b) h = λ x y k l p q.
      implies_true (Some x r a) (w.is_in x b) (every_true (obeys_at w (SomeUnder r a b)) w.things h x k) (link_some x r a y l p q)
  obeys_line (RoleUnder r s) h = λ x y k l p.
      implies_true (w.linked x r y) (w.linked x s y)
      (every_true (λ y. implies (w.linked x r y) (w.linked x s y)) w.things (every_true (obeys_at w (RoleUnder r s)) w.things h x k) y l) p
  obeys_line (ChainUnder r s t) h = λ x y z k l j p q.
      implies_true (w.linked y s z) (w.linked x t z)
      (every_true (λ z. implies (w.linked y s z) (w.linked x t z)) w.things
      (implies_true (w.linked x r y) (every w.things (λ z. implies (w.linked y s z) (w.linked x t z)))
      (every_true (λ y. implies (w.linked x r y) (every w.things (λ z. implies (w.linked y s z) (w.linked x t z)))) w.things
      (every_true (obeys_at w (ChainUnder r s t)) w.things h x k) y l) p) z j) q
  obeys_line (ToItself r) h = every_true (obeys_at w (ToItself r)) w.things h
  obeys_line NoLine h = tt

  -- and of every such world
  pub line_obeys : (l : Line) → ObeysLine w l → obeys w l ≡ true
  unfolding obeys obeys_at
  line_obeys (Under a b) o = true_every (obeys_at w (Under a b)) w.things (λ x k. true_implies (w.is_in x a) (w.is_in x b) (o x k))
  line_obeys (BothUnder a₁ a₂ b) o =
      true_every (obeys_at w (BothUnder a₁ a₂ b)) w.things
      (λ x k. true_implies (w.is_in x a₁ && w.is_in x a₂) (w.is_in x b) (λ p. let q = both_true (w.is_in x a₁) (w.is_in x a₂) p in o x k q.0 q.1))
  line_obeys (UnderSome a r b) o =
      true_every (obeys_at w (UnderSome a r b)) w.things
      (λ x k. true_implies (w.is_in x a) (Some x r b) (λ p. let e = o x k p in link_some x r b e.0 e.1 e.2 e.3))
  line_obeys (SomeUnder r a b) o =
      true_every (obeys_at w (SomeUnder r a b)) w.things
      (λ x k. true_implies (Some x r a) (w.is_in x b) (λ p. let e = some_link x r a p in o x e.0 k e.1 e.2 e.3))
  line_obeys (RoleUnder r s) o =
      true_every (obeys_at w (RoleUnder r s)) w.things
      (λ x k. true_every (λ y. implies (w.linked x r y) (w.linked x s y)) w.things (λ y l. true_implies (w.linked x r y) (w.linked x s y) (o x y k l)))
  line_obeys (ChainUnder r s t) o =
      true_every (obeys_at w (ChainUnder r s t)) w.things
      (λ x k. true_every (λ y. implies (w.linked x r y) (every w.things (λ z. implies (w.linked y s z) (w.linked x t z)))) w.things
      (λ y l. true_implies (w.linked x r y) (every w.things (λ z. implies (w.linked y s z) (w.linked x t z)))
      (λ p. true_every (λ z. implies (w.linked y s z) (w.linked x t z)) w.things (λ z j. true_implies (w.linked y s z) (w.linked x t z) (o x y z k l j p)))))
  line_obeys (ToItself r) o = true_every (obeys_at w (ToItself r)) w.things o
  line_obeys NoLine o = true_every (obeys_at w NoLine) w.things (λ x k. refl)
