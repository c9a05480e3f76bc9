-- `check_records`: a record that keeps its rules is passed over, another ends the search (`broken_here`), and past the
-- last there is none (`broken_none`).
use Rattle.std.proofs.Common.{◌≡◌, sym, ap, ◌∙◌, arith, not, Bool, ℕ, List}
use Rattle.bits.proofs.SetLaws.{left_on, left_here, left_end}
use Rattle.pack.specs.declared.line.Fields.{Fields}
use Rattle.pack.specs.Bytes.{part}
use Rattle.pack.specs.Record.{fields_in, keeps, keeps_in, keeps_at}
use Rattle.pack.proofs.PackLaws.{broken_here, broken_none}
use Rattle.pack.proofs.check.check_records.Goals as goal

-- what `Fields::keep` says of the fields at a place is what the definition says of the place
kept : (n m : ℕ) (s : List ℕ) (i : ℕ) (f : Fields) {t u : Bool} → f ≡ fields_in (part s i) → t ≡ keeps n m f.kind f.a f.b f.c → t ≡ u → keeps_at n m s i ≡ u
unfolding fields_in keeps_in
kept n m s i f e k h = rw e at (sym k ∙ h)

pub returns-then-not-keep : goal.returns-then-not-keep
returns-then-not-keep c =
    let a = c.args in
    broken_here a.n a.m a.pack.now _ (omega arith)
    (left_here _ (omega arith) (ap not (kept a.n a.m a.pack.now _ _ c.fields_at.ensures c.keep.ensures c.if-not-keep.true)) c.loop-place.invariant.1)

pub loop-place-preserved : goal.loop-place-preserved
loop-place-preserved c =
    let a = c.args in
    (c.loop-place.invariant.0, left_on _ (omega arith) (ap not (kept a.n a.m a.pack.now _ _ c.fields_at.ensures c.keep.ensures c.if-not-keep.false)) c.loop-place.invariant.1)

pub returns : goal.returns
returns c = broken_none _ _ _ _ (omega arith) (left_end _ (omega arith) c.loop-place.invariant.1)
