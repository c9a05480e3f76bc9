-- `check_lines`: a place that counts is that of a record (`counted_below`), and its line is that of the list
-- (`line_read`); no place before it is broken (`passed`).
use mathlib.Core.Path.{◌≡◌, refl, sym, ap, ◌∙◌}
use mathlib.Core.Bool.{true, false}
use Prim.Native.Nat.{◌<◌}
use native.Mathlib.Omega.{arith}
use Rattle.bits.proofs.WalkLaws.{turn, ended, held}
use Rattle.pack.specs.Computed.{obeys}
use Rattle.pack.specs.Question.{counted}
use Rattle.pack.specs.Record.{lines_of, record_count}
use Rattle.pack.proofs.RecordLaws.{lines_length, line_read}
use Rattle.pack.proofs.QuestionLaws.{asked}
use Rattle.no.specs.NoSheet.{world_of}
use Rattle.no.specs.Computed.{lowest_broken}
use Rattle.no.proofs.NoLaws.{counted_below, passed, passed_on, passed_all, broken_first}
use Rattle.no.proofs.check.check_lines.Goals as goal

pub line_at-requires : goal.line_at-requires
line_at-requires c = counted_below _ _ _ _ _ _ c.args.q.now.admitted _ (turn c.in-Some.ensures.steps c.loop-place.invariant.0).found.here

pub obeys-requires : goal.obeys-requires
obeys-requires c =
    let q = c.args.q.now in
    let l : c.in-Some.place < record_count q.pack.now = counted_below _ _ _ _ _ _ q.admitted _ (turn c.in-Some.ensures.steps c.loop-place.invariant.0).found.here in
    rw (← line_read q.pack.now c.in-Some.place l c.line_at.ensures) (c.requires c.in-Some.place (omega (arith, lines_length q.pack.now)))

pub returns-then-not-obeys : goal.returns-then-not-obeys
returns-then-not-obeys c =
    let q = c.args.q.now in
    let w = world_of c.args.world.now.things c.args.world.now.sheet.now in
    let t = turn c.in-Some.ensures.steps c.loop-place.invariant.0 in
    let l : c.in-Some.place < record_count q.pack.now = counted_below _ _ _ _ _ _ q.admitted _ t.found.here in
    let broken : obeys w c.line_at.result ≡ false = sym c.obeys.ensures ∙ c.if-not-obeys.true in
    let e : lowest_broken w (lines_of q.pack.now) (counted q.pack.now q.marks.now) ≡ c.in-Some.place =
    broken_first w _ _ c.in-Some.place (omega (arith, lines_length q.pack.now)) (passed w _ _ c.loop-place.invariant.1 t.found) t.found.here
    (ap (obeys w) (line_read q.pack.now c.in-Some.place l c.line_at.ensures) ∙ broken) in
    rw e (refl, omega (arith, lines_length q.pack.now))

pub loop-place-preserved : goal.loop-place-preserved
loop-place-preserved c =
    let q = c.args.q.now in
    let w = world_of c.args.world.now.things c.args.world.now.sheet.now in
    let t = turn c.in-Some.ensures.steps c.loop-place.invariant.0 in
    let l : c.in-Some.place < record_count q.pack.now = counted_below _ _ _ _ _ _ q.admitted _ t.found.here in
    let kept : obeys w c.line_at.result ≡ true = sym c.obeys.ensures ∙ c.if-not-obeys.false in (
      held c.in-Some.ensures.steps c.loop-place.invariant.0,
      rw t.on (passed_on w _ _ c.loop-place.invariant.1 t.found (ap (obeys w) (line_read q.pack.now c.in-Some.place l c.line_at.ensures) ∙ kept)),
    )

pub returns : goal.returns
returns c =
    let q = c.args.q.now in
    passed_all _ _ _ c.loop-place.invariant.1 (ended c.in-None.ensures.steps c.loop-place.invariant.0).missing (omega (arith, lines_length q.pack.now, (asked _ _ _ _ _ _ q.admitted).pack.size))
