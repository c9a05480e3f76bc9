-- Laws of the names as bits and of the files: what a line adds, what a walk over some places makes of them, name by name to the end.
use mathlib.Core.Path.{◌≡◌, refl, sym, ap, ◌∙◌, subst}
use mathlib.Core.Bool.{Bool, true, false, cond, not, ◌&&◌, ◌||◌, or-false}
use mathlib.Core.List.{List, [], ◌∷◌}
use Rattle.std.specs.Prelude.{Option, None, Some, is_some}
use Rattle.std.specs.Option.{option_or}
use Prim.Native.Nat.{ℕ, ◌+◌, ◌^◌, ◌≤◌, ◌<◌}
use native.Mathlib.Decide.{dec_lt, ℕ_discrete}
use native.Mathlib.Omega.{arith}
use lib.Dec.{eqb}
use lib.ListN.{length}
use borrow.Author.Tests.{eq-eqb, not-true, not-false}
use Rattle.bits.specs.Bit.{has, with_bit}
use Rattle.bits.specs.Sets.{count_to}
use Rattle.bits.proofs.Truth.{both_true, true_both, or_elim, or_left, or_right, never, alike}
use Rattle.bits.proofs.BitLaws.{has_with, has_zero, has_high}
use Rattle.bits.proofs.FoundLaws.{Found, Missing}
use Rattle.bits.proofs.SetLaws.{count_le, count_less}
use Rattle.pack.specs.declared.line.Line.{Line}
use Rattle.pack.specs.World.{line_at}
use Rattle.reasons.specs.declared.names.Name.{Name}
use Rattle.reasons.specs.declared.names.Name.TheVariants.{Concept, Role}
use Rattle.reasons.specs.declared.names.Names.{Names}
use Rattle.reasons.specs.declared.files.Files.{Files}
use Rattle.reasons.specs.declared.reach.Reached.{Reached}
use Rattle.reasons.specs.Reach.{left_names, right_names, all_in, Reaches, module_in, IsModule}
use Rattle.reasons.specs.Computed.{same_name}
use Rattle.reasons.specs.Names.{IsShort, name_in, no_names, with_name, with_names, with_line, Inside, BothSides, waits_for, filed, IsFiled, Lacks, Filed, Walked, Fresh}
use Rattle.reasons.proofs.ReachLaws.{name_self, name_one}

-- ONE NAME MORE: that name and those that were there
with_name_lem : (ns : Names) (x y : Name) → name_in (with_name ns x) y ≡ (name_in ns y || same_name x y)
unfolding same_name
with_name_lem ns (Concept a) (Concept b) = has_with ns.concepts a b
with_name_lem ns (Concept a) (Role s) = sym (or-false (has ns.roles s))
with_name_lem ns (Role r) (Concept b) = sym (or-false (has ns.concepts b))
with_name_lem ns (Role r) (Role s) = has_with ns.roles r s

name_keeps : (ns : Names) (x : Name) → Inside (name_in ns) (name_in (with_name ns x))
name_keeps ns x y h = with_name_lem ns x y ∙ or_left (name_in ns y) (same_name x y) h

name_there : (ns : Names) (x : Name) → name_in (with_name ns x) x ≡ true
name_there ns x = with_name_lem ns x x ∙ or_right (name_in ns x) (same_name x x) (name_self x)

name_least : (ns : Names) (x : Name) (Q : Name → Bool) → Inside (name_in ns) Q → Q x ≡ true → Inside (name_in (with_name ns x)) Q
name_least ns x Q h g y e =
    or_elim {C = Q y ≡ true} (name_in ns y) (same_name x y) (sym (with_name_lem ns x y) ∙ e) (h y) (λ s. ap Q (sym (name_one x y s)) ∙ g)

-- a list of them
names_keep : (xs : List Name) (ns : Names) → Inside (name_in ns) (name_in (with_names ns xs))
names_keep [] ns y h = h
names_keep (x ∷ xs) ns y h = names_keep xs (with_name ns x) y (name_keeps ns x y h)

names_there : (xs : List Name) (ns : Names) → all_in (name_in (with_names ns xs)) xs ≡ true
unfolding all_in
names_there [] ns = refl
names_there (x ∷ xs) ns =
    let ms = with_names (with_name ns x) xs in
    true_both (name_in ms x) (all_in (name_in ms) xs) (names_keep xs (with_name ns x) x (name_there ns x)) (names_there xs (with_name ns x))

names_least : (xs : List Name) (ns : Names) (Q : Name → Bool) → Inside (name_in ns) Q → all_in Q xs ≡ true → Inside (name_in (with_names ns xs)) Q
unfolding all_in
names_least [] ns Q h g = h
names_least (x ∷ xs) ns Q h g =
    let p = both_true (Q x) (all_in Q xs) g in
    names_least xs (with_name ns x) Q (name_least ns x Q h p.0) p.1

all_inside : (R R' : Name → Bool) → Inside R R' → (xs : List Name) → all_in R xs ≡ true → all_in R' xs ≡ true
unfolding all_in
all_inside R R' h [] g = refl
all_inside R R' h (x ∷ xs) g =
    let p = both_true (R x) (all_in R xs) g in
    true_both (R' x) (all_in R' xs) (h x p.0) (all_inside R R' h xs p.1)

-- ONE LINE
line_keeps : (ns : Names) (l : Line) → Inside (name_in ns) (name_in (with_line ns l))
line_keeps ns l = go (all_in (name_in ns) (left_names l))
  where
    go : (t : Bool) → Inside (name_in ns) (name_in (cond t (with_names ns (right_names l)) ns))
    go true = names_keep (right_names l) ns
    go false = λ x h. h

line_goes : (ns : Names) (l : Line) → all_in (name_in ns) (left_names l) ≡ true → all_in (name_in (with_line ns l)) (right_names l) ≡ true
line_goes ns l h = rw h (names_there (right_names l) ns)

line_least : (ns : Names) (l : Line) (Q : Name → Bool) → (all_in Q (left_names l) ≡ true → all_in Q (right_names l) ≡ true) → Inside (name_in ns) Q → Inside (name_in (with_line ns l)) Q
line_least ns l Q f h = go (all_in (name_in ns) (left_names l)) refl
  where
    go : (t : Bool) → all_in (name_in ns) (left_names l) ≡ t → Inside (name_in (cond t (with_names ns (right_names l)) ns)) Q
    go true e = names_least (right_names l) ns Q h (f (all_inside (name_in ns) Q h (left_names l) e))
    go false e = h

-- what a list of names waits for: none, or one that R lacks
module _ (R : Name → Bool) where
  pub waits_all : (xs : List Name) → all_in R xs ≡ not (is_some (waits_for R xs))
  unfolding all_in
  waits_all [] = refl
  waits_all (x ∷ xs) = go (R x) (waits_all xs)
    where
      go : (t : Bool) → all_in R xs ≡ not (is_some (waits_for R xs)) → (t && all_in R xs) ≡ not (is_some (option_or (cond t None (Some x)) (waits_for R xs)))
      go true h = h
      go false h = refl

  one_lacks : (xs : List Name) (y : Name) → waits_for R xs ≡ Some y → Lacks R xs y
  unfolding all_in
  one_lacks [] y h = cc
  one_lacks (x ∷ xs) y h = go (R x) refl h (one_lacks xs y)
    where
      go : (t : Bool) → R x ≡ t → option_or (cond t None (Some x)) (waits_for R xs) ≡ Some y → (waits_for R xs ≡ Some y → Lacks R xs y) → Lacks R (x ∷ xs) y
      go true e g rest = let l = rest g in record { lacks = l.lacks; needs = λ Q h. l.needs Q (both_true (Q x) (all_in Q xs) h).1 }
      go false e g rest = let same : x ≡ y = cc in record { lacks = sym (ap R same) ∙ e; needs = λ Q h. sym (ap Q same) ∙ (both_true (Q x) (all_in Q xs) h).0 }

-- what a larger set lacks
lacks_less : (R R' : Name → Bool) → Inside R R' → (xs : List Name) (x : Name) → Lacks R' xs x → Lacks R xs x
lacks_less R R' h xs x l = record { lacks = go (R x) refl; needs = l.needs }
  where
    go : (t : Bool) → R x ≡ t → t ≡ false
    go true e = never (h x e) l.lacks
    go false e = refl

filed_less : (ls : List Line) (files : Files) (R R' : Name → Bool) → Inside R R' → (i : ℕ) → Filed ls files R' i → Filed ls files R i
filed_less ls files R R' h i f = record { under = f.under; there = f.there; waits = λ x g. lacks_less R R' h (left_names (line_at ls i)) x (f.waits x g) }

both_inside : (R R' : Name → Bool) → Inside R R' → (l : Line) → BothSides R l → BothSides R' l
both_inside R R' h l b = (all_inside R R' h (left_names l) b.0, all_inside R R' h (right_names l) b.1)

-- A WALK, from one place to the next
module _ (ls : List Line) (D : ℕ → Bool) (p : Reached) where
  pub walked_start : Walked ls D 0 p p
  walked_start = record { keeps = λ x h. h; least = λ a Q r h. h; stays = λ x i h. h; comes = λ x i h g. never h g; placed = λ i l. absurd (omega arith) }

  -- no place from i on and before j is to be visited
  pub walked_on : (i j : ℕ) {q : Reached} → ((k : ℕ) → i ≤ k → k < j → k < length ls → D k ≡ false) → Walked ls D i p q → Walked ls D j p q
  walked_on i j {q} none w = record { keeps = w.keeps; least = w.least; stays = w.stays; comes = w.comes; placed = λ k l t d. go k l t d (dec_lt k i) }
    where
      go : (k : ℕ) → k < j → k < length ls → D k ≡ true → Dec (k < i) → Filed ls q.files (name_in p.names) k
      go k l t d (yes h) = w.placed k h t d
      go k l t d (no h) = never d (none k (omega arith) l t)

  -- the line at a place of D
  module _ (i : ℕ) (q r : Reached) (w : Walked ls D i p q) (there : i < length ls) (here : D i ≡ true)
      (names : r.names ≡ with_line q.names (line_at ls i)) (files : IsFiled q.files r.files (waits_for (name_in q.names) (left_names (line_at ls i))) i) where
    abbrev at : Option Name
    at = waits_for (name_in q.names) (left_names (line_at ls i))

    keeps : Inside (name_in q.names) (name_in r.names)
    keeps = rw names (line_keeps q.names (line_at ls i))

    line_both : at ≡ None → BothSides (name_in r.names) (line_at ls i)
    line_both h =
        let e = waits_all (name_in q.names) (left_names (line_at ls i)) ∙ ap (λ (x : Option Name). not (is_some x)) h in
        (all_inside (name_in q.names) (name_in r.names) keeps (left_names (line_at ls i)) e, rw names (line_goes q.names (line_at ls i) e))

    line_filed : Filed ls r.files (name_in p.names) i
    line_filed = record {
      under = at;
      there = files.there;
      waits = λ x h. lacks_less (name_in p.names) (name_in q.names) w.keeps (left_names (line_at ls i)) x (one_lacks (name_in q.names) (left_names (line_at ls i)) x h);
    }

    pub walked_next : Walked ls D (i + 1) p r
    walked_next = record {
      keeps = λ x h. keeps x (w.keeps x h);
      least = λ a Q f h. rw names (line_least q.names (line_at ls i) Q (f.goes i there here) (w.least a Q f h));
      stays = λ x k h. files.stays x k (w.stays x k h);
      comes = λ x k h g. comes x k h g (filed q.files x k) refl;
      placed = λ k l t d. placed k l t d (ℕ_discrete i k);
    }
      where
        comes : (x : Option Name) (k : ℕ) → filed r.files x k ≡ true → filed p.files x k ≡ false → (t : Bool) → filed q.files x k ≡ t → (D k ≡ true) × (x ≡ None → BothSides (name_in r.names) (line_at ls k))
        comes x k h g true e =
            let c = w.comes x k e g in
            (c.0, λ z. both_inside (name_in q.names) (name_in r.names) keeps (line_at ls k) (c.1 z))
        comes x k h g false e =
            let c = files.comes x k h e in
            (subst (λ (y : ℕ). D y ≡ true) c.1 here, λ z. subst (λ (y : ℕ). BothSides (name_in r.names) (line_at ls y)) c.1 (line_both (c.0 ∙ z)))

        placed : (k : ℕ) → k < i + 1 → k < length ls → D k ≡ true → Dec (i ≡ k) → Filed ls r.files (name_in p.names) k
        placed k l t d (yes z) = subst (λ (y : ℕ). Filed ls r.files (name_in p.names) y) z line_filed
        placed k l t d (no z) =
            let f = w.placed k (omega arith) t d in
            record { under = f.under; there = files.stays f.under k f.there; waits = f.waits }

-- how many names there are
abbrev pub name_count : Names → ℕ
name_count ns = count_to (has ns.concepts) 64 + count_to (has ns.roles) 64

bits_rise : (w j : ℕ) → j < 64 → has w j ≡ false → count_to (has w) 64 < count_to (has (with_bit w j)) 64
bits_rise w j l f =
    count_less (has w) (has (with_bit w j)) (λ i g. has_with w j i ∙ or_left (has w i) (eqb j i) g) 64 j l f
    (has_with w j j ∙ or_right (has w j) (eqb j j) (eq-eqb j j refl))

pub count_most : (ns : Names) → name_count ns ≤ 128
count_most ns = omega (arith, count_le (has ns.concepts) 64, count_le (has ns.roles) 64)

-- A NAME THAT WAS NOT THERE MAKES THEM MORE
pub name_rise : (ns : Names) (x : Name) → IsShort x → name_in ns x ≡ false → name_count ns < name_count (with_name ns x)
name_rise ns (Concept x) l e = omega (arith, bits_rise ns.concepts x l e)
name_rise ns (Role r) l e = omega (arith, bits_rise ns.roles r l e)

-- THE NEXT NAME: a bit of a word that the other lacks, or none
module _ (w v u : ℕ) (bits : (j : ℕ) → has w j ≡ (has v j && not (has u j))) where
  pub next_there : {x : ℕ} → Found (has w) 0 64 x → (has v x ≡ true) × (has u x ≡ false)
  next_there {x} f = let p = both_true (has v x) (not (has u x)) (sym (bits x) ∙ f.here) in (p.0, not-true (has u x) p.1)

  pub next_none : v < 2 ^ 64 → Missing (has w) 0 64 → (j : ℕ) → has v j ≡ true → has u j ≡ true
  next_none small m j h = go (dec_lt j 64)
    where
      go : Dec (j < 64) → has u j ≡ true
      go (yes l) = not-false (has u j) (sym (ap (λ (t : Bool). t && not (has u j)) h) ∙ sym (bits j) ∙ m.none j (omega arith) l)
      go (no l) = never h (has_high 64 v j small (omega arith))

module _ (names done : Names) where
  pub fresh_some : (x : Name) → IsShort x → (name_in names x ≡ true) × (name_in done x ≡ false) → Fresh names done (Some x)
  fresh_some x l h = record { some = λ y e. let same : x ≡ y = cc in subst (λ (z : Name). IsShort z × (name_in names z ≡ true) × (name_in done z ≡ false)) same (l, h.0, h.1); none = λ e. cc }

  pub fresh_none : ((j : ℕ) → has names.concepts j ≡ true → has done.concepts j ≡ true) → ((j : ℕ) → has names.roles j ≡ true → has done.roles j ≡ true) → Fresh names done None
  fresh_none f g = record { some = λ y e. cc; none = λ e. inside }
    where
      inside : Inside (name_in names) (name_in done)
      inside (Concept x) = f x
      inside (Role r) = g r

-- NAME BY NAME FROM CONCEPT a ON: a is there, and nothing that a set which reaches can lack; the names that are done are
-- among them; what is filed is of S, as reached with both sides there; and all of S is filed, under no name that is done
module _ (ls : List Line) (S : ℕ → Bool) (a : ℕ) where
  pub record Reaching (p : Reached) (ds : Names) : Type 0 where
    pub start : name_in p.names (Concept a) ≡ true
    pub least : (Q : Name → Bool) → Reaches ls S a Q → Inside (name_in p.names) Q
    pub inside : Inside (name_in ds) (name_in p.names)
    pub only : (x : Option Name) (i : ℕ) → filed p.files x i ≡ true → (S i ≡ true) × (x ≡ None → BothSides (name_in p.names) (line_at ls i))
    pub placed : (i : ℕ) → i < length ls → S i ≡ true → Filed ls p.files (name_in ds) i

  none_there : (Q : Name → Bool) → Inside (name_in no_names) Q
  none_there Q (Concept x) h = never h (has_zero x)
  none_there Q (Role x) h = never h (has_zero x)

  -- the first walk, over all of S
  pub reaching_start : (p q : Reached) → p.names ≡ with_name no_names (Concept a) → ((x : Option Name) (i : ℕ) → filed p.files x i ≡ false) → Walked ls S (length ls) p q → Reaching q no_names
  reaching_start p q e clear w = record {
    start = w.keeps (Concept a) (rw e (name_there no_names (Concept a)));
    least = λ Q r. w.least a Q r (rw e (name_least no_names (Concept a) Q (none_there Q) r.start));
    inside = none_there (name_in q.names);
    only = λ x i h. w.comes x i h (clear x i);
    placed = λ i l h. filed_less ls q.files (name_in no_names) (name_in p.names) (none_there (name_in p.names)) i (w.placed i l l h);
  }

  module _ (p : Reached) (ds : Names) (r : Reaching p ds) where
    -- a name is done: what waits for it is visited
    pub reaching_next : (y : Name) → name_in p.names y ≡ true → (D : ℕ → Bool) → ((i : ℕ) → D i ≡ filed p.files (Some y) i)
        → (q : Reached) → Walked ls D (length ls) p q → Reaching q (with_name ds y)
    reaching_next y known D at q w =
        record {
          start = w.keeps (Concept a) r.start;
          least = λ Q f. w.least a Q (record { start = f.start; goes = λ i l h. f.goes i l (r.only (Some y) i (sym (at i) ∙ h)).0 }) (r.least Q f);
          inside = λ x h. w.keeps x (among x h);
          only = λ x i h. only x i h (filed p.files x i) refl;
          placed = λ i l h. let f = r.placed i l h in placed i l h f.under refl;
        }
      where
        among : Inside (name_in (with_name ds y)) (name_in p.names)
        among = name_least ds y (name_in p.names) r.inside known

        only : (x : Option Name) (i : ℕ) → filed q.files x i ≡ true → (t : Bool) → filed p.files x i ≡ t → (S i ≡ true) × (x ≡ None → BothSides (name_in q.names) (line_at ls i))
        only x i h true f = let o = r.only x i f in (o.0, λ z. both_inside (name_in p.names) (name_in q.names) w.keeps (line_at ls i) (o.1 z))
        only x i h false f = let o = w.comes x i h f in ((r.only (Some y) i (sym (at i) ∙ o.0)).0, o.1)

        -- as before, unless it waited for y
        placed : (i : ℕ) (l : i < length ls) (h : S i ≡ true) (x : Option Name) → (r.placed i l h).under ≡ x → Filed ls q.files (name_in (with_name ds y)) i
        placed i l h None e = let f = r.placed i l h in record { under = None; there = w.stays None i (subst (λ (x : Option Name). filed p.files x i ≡ true) e f.there); waits = λ x g. cc }
        placed i l h (Some x) e = go (same_name y x) refl
          where
            there : filed p.files (Some x) i ≡ true
            there = subst (λ (o : Option Name). filed p.files o i ≡ true) e (r.placed i l h).there

            lacks : Lacks (name_in ds) (left_names (line_at ls i)) x
            lacks = (r.placed i l h).waits x e

            go : (t : Bool) → same_name y x ≡ t → Filed ls q.files (name_in (with_name ds y)) i
            go true s =
                filed_less ls q.files (name_in (with_name ds y)) (name_in p.names) among i
                (w.placed i l l (at i ∙ ap (λ (z : Name). filed p.files (Some z) i) (name_one y x s) ∙ there))
            go false s = record {
              under = Some x;
              there = w.stays (Some x) i there;
              waits = λ z g.
                  let e : x ≡ z = cc in
                  subst (Lacks (name_in (with_name ds y)) (left_names (line_at ls i))) e (record { lacks = with_name_lem ds y x ∙ rw (lacks.lacks, s); needs = lacks.needs });
            }

    -- ALL DONE: the names are the smallest set, and what is filed as reached is the module
    pub reaching_end : Inside (name_in p.names) (name_in ds) → (M : ℕ → Bool) → ((i : ℕ) → i < length ls → M i ≡ filed p.files None i) → IsModule ls S a M
    unfolding module_in
    reaching_end all M at = record {
      names = name_in p.names;
      reached = record { reaches = record { start = r.start; goes = λ i l h g. ((r.only None i (taken i l h g)).1 refl).1 }; least = r.least };
      places = λ i l. alike (M i) (S i && all_in (name_in p.names) (left_names (line_at ls i))) (inside i l) (λ h. let c = both_true (S i) (all_in (name_in p.names) (left_names (line_at ls i))) h in at i l ∙ taken i l c.0 c.1);
    }
      where
        -- with its left side there it waits for none
        taken : (i : ℕ) → i < length ls → S i ≡ true → all_in (name_in p.names) (left_names (line_at ls i)) ≡ true → filed p.files None i ≡ true
        taken i l h g = go (r.placed i l h).under refl
          where
            go : (x : Option Name) → (r.placed i l h).under ≡ x → filed p.files None i ≡ true
            go None z = subst (λ (x : Option Name). filed p.files x i ≡ true) z (r.placed i l h).there
            go (Some x) z = let k = (r.placed i l h).waits x z in never (all x (k.needs (name_in p.names) g)) k.lacks

        inside : (i : ℕ) → i < length ls → M i ≡ true → (S i && all_in (name_in p.names) (left_names (line_at ls i))) ≡ true
        inside i l h =
            let o = r.only None i (sym (at i l) ∙ h) in
            true_both (S i) (all_in (name_in p.names) (left_names (line_at ls i))) o.0 (o.1 refl).0
