-- `take_all`: each place is one `take` (`walked_next`), and between two of them, and past the records, there is nothing to do
-- (`walked_on`).
use mathlib.Core.Path.{◌≡◌, subst}
use Prim.Native.Nat.{◌<◌}
use native.Mathlib.Omega.{arith}
use lib.ListN.{length}
use Rattle.bits.proofs.WalkLaws.{turn, ended, held}
use Rattle.pack.specs.Record.{lines_of, ValidLine}
use Rattle.pack.specs.World.{line_at}
use Rattle.pack.proofs.RecordLaws.{lines_length, line_read}
use Rattle.reasons.proofs.NameLaws.{walked_start, walked_on, walked_next}
use Rattle.reasons.proofs.reach.Reached.take_all.Goals as goal
use Rattle.reasons.proofs.reach.Reached.take_all.Goals.{After-line_at}

-- the place's line; that it is a place
here : (c : After-line_at) → line_at (lines_of c.args.pack.now) c.in-Some.i ≡ c.line_at.result
here c = line_read _ _ c.if-records-i.false c.line_at.ensures

there : (c : After-line_at) → c.in-Some.i < length (lines_of c.args.pack.now)
there c = omega (arith, lines_length c.args.pack.now, c.if-records-i.false)

pub loop-i-init : goal.loop-i-init
loop-i-init c = rw c.into_iter-i-iterator.ensures.into_iter_gives (c.places-i-items.ensures.marks, rw c.places-i-items.ensures.from (walked_start _ _ _))

pub take-requires : goal.take-requires
take-requires c =
    let k = (goal.at.take-requires c).After-line_at in
    let t = turn c.in-Some.ensures.steps c.loop-i.invariant.0 in
    (subst (ValidLine 64 8) (here k) (c.requires.0 c.in-Some.i (there k)), t.found.there)

pub loop-i-preserved : goal.loop-i-preserved
loop-i-preserved c =
    let l = c.loop-i in
    let k = (goal.at.loop-i-preserved c).After-line_at in
    let t = turn c.in-Some.ensures.steps l.invariant.0 in (
      held c.in-Some.ensures.steps l.invariant.0,
      rw t.on (walked_next _ _ _ _ l.self _ (walked_on _ _ _ _ _ (λ j h f _. t.found.before j h f) l.invariant.1) (there k) t.found.here (rw (here k) c.take.ensures.names) (rw (here k) c.take.ensures.files)),
    )

pub returns-then-records-i : goal.returns-then-records-i
returns-then-records-i c =
    let l = c.loop-i in
    let found = (turn c.in-Some.ensures.steps l.invariant.0).found in
    walked_on _ _ _ _ _ (λ j h _ g. found.before j h (omega (arith, lines_length c.args.pack.now, c.if-records-i.true))) l.invariant.1

pub returns : goal.returns
returns c =
    let l = c.loop-i in
    let e = ended c.in-None.ensures.steps l.invariant.0 in
    walked_on _ _ _ _ _ (λ j h _ g. e.missing.none j h (omega (arith, lines_length c.args.pack.now, c.requires.1))) l.invariant.1
