-- `next_kept`: all can go, or the range of the next one (`Between`) is halved to one marked place (`between_end`).
use native.Mathlib.Omega.{arith}
use lib.ListN.{length}
use Rattle.bits.proofs.Truth.{never}
use Rattle.pack.specs.Record.{lines_of}
use Rattle.pack.specs.World.{Follows}
use Rattle.reasons.proofs.HalveLaws.{between_start, between_end}
use Rattle.reasons.proofs.PrintedLaws.{follows_more}
use Rattle.reasons.proofs.halve.next_kept.Goals as goal

pub loop-middle-init : goal.loop-middle-init
loop-middle-init c =
    let q = c.args.q.now in
    between_start (length (lines_of q.pack.now)) (λ P. Follows (lines_of q.pack.now) P q.a q.b) (follows_more (lines_of q.pack.now) q.a q.b) _ _ c.requires.0 c.requires.1 (λ f. never (c.goes_without.ensures.1 f) c.if-goes_without.false)

pub returns : goal.returns
returns c =
    let q = c.args.q.now in
    between_end (length (lines_of q.pack.now)) (λ P. Follows (lines_of q.pack.now) P q.a q.b) (follows_more (lines_of q.pack.now) q.a q.b) _ _ _ _ c.loop-middle.invariant
    (λ j h l. c.in_default.ensures.none j (omega arith) l)
