-- Our no sheet is good: its world obeys the marked lines, and the thing of a is not in b.
use mathlib.Core.Path.{◌≡◌, sym, ap, ◌∙◌}
use mathlib.Core.Bool.{Bool, false}
use mathlib.Core.List.{List, [], ◌∷◌, ◌++◌, flatten}
use Prim.Native.Nat.{ℕ, zero, suc, ◌+◌, ◌*◌, ◌^◌, ◌<◌}
use native.Mathlib.Nat.{zero-add, suc-mul, zero-mul, mul-add, mul-one, mul_comm}
use native.Mathlib.Omega.{arith}
use lib.ListN.{length, get_or, length-append, get_or-append}
use lib.Pow.{pow_pos}
use lib.Seq.{get_or-append-add}
use Rattle.bits.specs.Bit.{has, row}
use Rattle.bits.specs.Lists.{listed}
use Rattle.bits.proofs.ListLaws.{listed_length, listed_at}
use Rattle.bits.proofs.RowLaws.{row_lt, row_has}
use Rattle.pack.specs.declared.line.Line.{Line}
use Rattle.pack.specs.declared.line.Fact.{Fact}
use Rattle.pack.specs.declared.line.Fact.TheVariants.{In, Link}
use Rattle.pack.specs.World.{World, Is, Obeys}
use Rattle.pack.specs.Record.{Valid}
use Rattle.pack.specs.Rules.{free, InRange}
use Rattle.pack.proofs.Soundness.{free_self}
use Rattle.passes.specs.Passes.{at_end, goal_at_end}
use Rattle.passes.specs.Ours.{our_rows}
use Rattle.passes.proofs.Exact.{ClosedTable, closed_agrees, table_obeys}
use Rattle.passes.proofs.PassLaws.{table_exact}

-- blocks of n numbers, one after the other
module _ (n : ℕ) (f : ℕ → ℕ → ℕ) where
  blocks : ℕ → ℕ → List ℕ
  blocks c i = flatten (listed c i (λ r. listed n 0 (f r)))

  blocks_length : (c i : ℕ) → length (blocks c i) ≡ c * n
  unfolding blocks listed flatten
  blocks_length zero i = rw zero-mul
  blocks_length (suc c) i = rw (length-append, suc-mul) (omega (arith, listed_length (f i) n 0, blocks_length c (i + 1)))

  blocks_at : (c i r x : ℕ) → r < c → x < n → get_or (blocks c i) (r * n + x) 0 ≡ f (i + r) x
  unfolding blocks listed flatten
  blocks_at zero i r x h g = absurd (omega arith)
  blocks_at (suc c) i zero x h g =
      let e : zero * n + x ≡ x = rw zero-mul (omega arith) in
      let l = listed_length (f i) n 0 in
      ap (λ (j : ℕ). get_or (listed n 0 (f i) ++ blocks c (i + 1)) j 0) e
      ∙ get_or-append (listed n 0 (f i)) (blocks c (i + 1)) 0 x (omega arith)
      ∙ listed_at (f i) 0 n 0 x g
      ∙ ap (f i) (zero-add x)
      ∙ ap (λ (j : ℕ). f j x) (omega arith)
  blocks_at (suc c) i (suc r) x h g =
      let l = listed_length (f i) n 0 in
      let e : suc r * n + x ≡ length (listed n 0 (f i)) + (r * n + x) = rw suc-mul (omega arith) in
      ap (λ (j : ℕ). get_or (listed n 0 (f i) ++ blocks c (i + 1)) j 0) e
      ∙ get_or-append-add (listed n 0 (f i)) (blocks c (i + 1)) (r * n + x) 0
      ∙ blocks_at c (i + 1) r x (omega arith) g
      ∙ ap (λ (j : ℕ). f j x) (omega arith)

-- what is so of 0 and of each number put into a list is so of each number read from it
module _ (P : ℕ → Type 0) where
  append_all : (l k : List ℕ) → ((i : ℕ) → P (get_or l i 0)) → ((i : ℕ) → P (get_or k i 0)) → (i : ℕ) → P (get_or (l ++ k) i 0)
  append_all [] k p q i = q i
  append_all (w ∷ l) k p q zero = p 0
  append_all (w ∷ l) k p q (suc i) = append_all l k (λ j. p (suc j)) q i

  listed_all : (f : ℕ → ℕ) → P 0 → ((x : ℕ) → P (f x)) → (c j i : ℕ) → P (get_or (listed c j f) i 0)
  unfolding listed
  listed_all f p q zero j i = p
  listed_all f p q (suc c) j zero = q j
  listed_all f p q (suc c) j (suc i) = listed_all f p q c (j + 1) i

  blocks_all : (n : ℕ) (f : ℕ → ℕ → ℕ) → P 0 → ((r x : ℕ) → P (f r x)) → (c j i : ℕ) → P (get_or (blocks n f c j) i 0)
  unfolding blocks listed flatten
  blocks_all n f p q zero j i = p
  blocks_all n f p q (suc c) j i = append_all (listed n 0 (f j)) (blocks n f c (j + 1)) (listed_all (f j) p (q j) n 0) (blocks_all n f p q c (j + 1)) i

module _ (ls : List Line) (S : ℕ → Bool) (n m : ℕ) where
  concept_row : ℕ → ℕ
  concept_row x = row n (λ b. at_end ls S n m (In x b))

  link_row : ℕ → ℕ → ℕ
  link_row r x = row n (λ y. at_end ls S n m (Link x r y))

  pub rows_length : length (our_rows ls S n m) ≡ n * (1 + m)
  unfolding our_rows concept_row link_row blocks
  rows_length =
      rw (length-append, mul-add)
      (omega (arith, listed_length concept_row n 0, blocks_length n link_row m 0, mul-one n, mul_comm m n))

  -- row x and row n + (r * n + x)
  pub row_concepts : (x : ℕ) → x < n → get_or (our_rows ls S n m) x 0 ≡ row n (λ b. at_end ls S n m (In x b))
  unfolding our_rows concept_row link_row blocks
  row_concepts x h =
      let l = listed_length concept_row n 0 in
      get_or-append (listed n 0 concept_row) (blocks n link_row m 0) 0 x (omega arith) ∙ listed_at concept_row 0 n 0 x h ∙ ap concept_row (zero-add x)

  pub row_links : (r x : ℕ) → r < m → x < n → get_or (our_rows ls S n m) (n + (r * n + x)) 0 ≡ row n (λ y. at_end ls S n m (Link x r y))
  unfolding our_rows concept_row link_row blocks
  row_links r x h g =
      ap (λ (j : ℕ). get_or (listed n 0 concept_row ++ blocks n link_row m 0) (j + (r * n + x)) 0) (sym (listed_length concept_row n 0))
      ∙ get_or-append-add (listed n 0 concept_row) (blocks n link_row m 0) (r * n + x) 0
      ∙ blocks_at n link_row m 0 r x h g
      ∙ ap (λ (j : ℕ). link_row j x) (zero-add r)

  -- NO ROW HAS A BIT AT n OR ABOVE
  pub rows_small : (i : ℕ) → get_or (our_rows ls S n m) i 0 < 2 ^ n
  unfolding our_rows concept_row link_row blocks
  rows_small =
      append_all (λ w. w < 2 ^ n) (listed n 0 concept_row) (blocks n link_row m 0)
      (listed_all (λ w. w < 2 ^ n) concept_row (pow_pos n) (λ x. row_lt n (λ b. at_end ls S n m (In x b))) n 0)
      (blocks_all (λ w. w < 2 ^ n) n link_row (pow_pos n) (λ r x. row_lt n (λ y. at_end ls S n m (Link x r y))) m 0)

  -- the world that our rows describe
  abbrev pub our_world : World
  our_world = record {
    things = n;
    is_in = λ x b. has (get_or (our_rows ls S n m) x 0) b;
    linked = λ x r y. has (get_or (our_rows ls S n m) (n + (r * n + x)) 0) y;
  }

  -- read as a table it is the finished one
  our_table : Fact → Bool
  our_table (In x b) = our_world.is_in x b
  our_table (Link x r y) = our_world.linked x r y

  our-table : (f : Fact) → InRange n m f → at_end ls S n m f ≡ our_table f
  unfolding our_table
  our-table (In x b) h = sym (ap (λ (w : ℕ). has w b) (row_concepts x h.0) ∙ row_has n (λ b. at_end ls S n m (In x b)) b h.1)
  our-table (Link x r y) h = sym (ap (λ (w : ℕ). has w y) (row_links r x h.1 h.0) ∙ row_has n (λ y. at_end ls S n m (Link x r y)) y h.2)

  module _ (valid : Valid n m ls) where
    our_closed : ClosedTable ls S n (free n) our_table
    our_closed = closed_agrees ls S n m valid (at_end ls S n m) our_table our-table (table_exact ls S n m valid).closed

    -- OUR WORLD OBEYS the marked lines
    pub rows_obey : Obeys our_world ls S
    unfolding our_table
    rows_obey = table_obeys ls S n m our_table valid our_closed

    -- THE THING OF a IS IN a AND NOT IN b where the goal does not follow
    pub rows_refute : (a b : ℕ) → a < n → b < n → goal_at_end ls S n m a b ≡ false → Is our_world a a × (our_world.is_in a b ≡ false)
    unfolding our_table goal_at_end
    rows_refute a b ha hb h = (our_closed.start (In a a) (free_self n a ha), sym (our-table (In a b) (ha, hb)) ∙ h)
