-- Laws of the pack check: the place that it gives is the lowest that breaks a rule, and it counts exactly when none does.
use mathlib.Core.Path.{◌≡◌, refl, ap}
use mathlib.Core.Bool.{Bool, true, not, ◌&&◌}
use mathlib.Core.List.{List}
use Prim.Native.Nat.{ℕ, ◌%◌, ◌≤◌, ◌<◌}
use native.Mathlib.Omega.{arith}
use lib.Dec.{ltb, leb, eqb}
use lib.ListN.{length}
use borrow.Author.Tests.{ltb-false, leb-true, eqb-true, lt-ltb, le-ltb, le-leb, eq-eqb, not-false}
use Rattle.std.specs.Prelude.{Ok, Err}
use Rattle.bits.proofs.SetLaws.{lowest_at, first_none}
use Rattle.bits.proofs.Truth.{both_true, clash, cond_first, cond_second}
use Rattle.pack.specs.declared.check.Refusal.TheVariants.{Record}
use Rattle.pack.specs.Record.{keeps_at, record_count}
use Rattle.pack.specs.Pack.{sizes_fit, length_fits}
use Rattle.pack.specs.Computed.{lowest_unkept, check_records, check_pack}

module _ (n m : ℕ) (s : List ℕ) where
  abbrev pub unkept : ℕ → Bool
  unkept i = not (keeps_at n m s i)

  -- the answers of the code: where the search stopped, or that it came to the end
  pub broken_here : (i : ℕ) → i < record_count s → i ≡ lowest_unkept n m s → Err (Record i) ≡ check_records n m s
  unfolding check_records
  broken_here i h e = rw (← e, lt-ltb i (record_count s) h)

  pub broken_none : (i : ℕ) → record_count s ≤ i → i ≡ lowest_unkept n m s → Ok (record_count s) ≡ check_records n m s
  unfolding check_records
  broken_none i h e = rw (← e, le-ltb i (record_count s) h)

  -- a pack that is counted has right sizes and length, every record keeps its rules, and the count is the number of records
  pub record Accepted (k : ℕ) : Type 0 where
    pub n_some : 1 ≤ n
    pub n_most : n ≤ 64
    pub m_most : m ≤ 8
    pub whole : length s % 8 ≡ 0
    pub size : length s ≤ 8192
    pub all : (i : ℕ) → i < record_count s → keeps_at n m s i ≡ true
    pub count : k ≡ record_count s

  -- THE COUNT IS GIVEN exactly when every rule is kept
  pub accepted : {k : ℕ} → check_pack n m s ≡ Ok k → Accepted k
  unfolding check_pack check_records
  accepted {k} e =
      let p = cond_first (sizes_fit n m) e (λ q. clash cc) in
      let q = cond_first (length_fits s) p.1 (λ q. clash cc) in
      let t = cond_second (ltb (lowest_unkept n m s) (record_count s)) q.1 (λ q. clash cc) in
      let a = both_true (leb 1 n && leb n 64) (leb m 8) p.0 in
      let b = both_true (leb 1 n) (leb n 64) a.0 in
      let d = both_true (eqb (length s % 8) 0) (leb (length s) 8192) q.0 in
      let counts = t.1 in
      record {
        n_some = leb-true 1 n b.0;
        n_most = leb-true n 64 b.1;
        m_most = leb-true m 8 a.1;
        whole = eqb-true _ _ d.0;
        size = leb-true _ _ d.1;
        all = λ i h. not-false (keeps_at n m s i) (first_none unkept refl (ltb-false (lowest_unkept n m s) (record_count s) t.0) i h);
        count = cc;
      }

  pub accepts : {k : ℕ} → Accepted k → check_pack n m s ≡ Ok k
  unfolding check_pack check_records
  accepts {k} a =
      let none : record_count s ≡ lowest_unkept n m s =
      lowest_at (λ j. not (keeps_at n m s j))
      (record {
        from = omega arith;
        within = omega arith;
        none = λ j h l. ap not (a.all j l);
        found = λ h. absurd (omega arith);
      }) in
      rw (
        le-leb 1 n a.n_some,
        le-leb n 64 a.n_most,
        le-leb m 8 a.m_most,
        eq-eqb (length s % 8) 0 a.whole,
        le-leb (length s) 8192 a.size,
        le-ltb (lowest_unkept n m s) (record_count s) (omega arith),
        a.count,
      )
