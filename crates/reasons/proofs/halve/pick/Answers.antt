-- `pick`: a turn cuts out what can go and keeps the next place (`pick_next`); with all settled it is the picked set (`pick_end`,
-- `pick_none`).
use native.Mathlib.Omega.{arith}
use Rattle.bits.proofs.FoundLaws.{found, missing}
use Rattle.reasons.proofs.AskLaws.{pick_start, pick_on, pick_next, pick_end, pick_none}
use Rattle.reasons.proofs.halve.pick.Goals as goal

pub loop-i-init : goal.loop-i-init
loop-i-init c = pick_start _ _ _ _ _ _ c.args.q.now.admitted _ c.cut_marks-rest.ensures c.requires

pub loop-i-smaller : goal.loop-i-smaller
loop-i-smaller c = let f = found c.in-Some.ensures in omega (arith, f.from, f.there, c.in-Some-next_kept.ensures.from)

pub loop-i-preserved : goal.loop-i-preserved
loop-i-preserved c =
    let taken = c.args.q.now.admitted in
    let words = c.with_marks.ensures.words in
    let goal = c.with_marks.ensures.goal in
    let x = rw (words.0, words.1, goal.0, goal.1, c.in-Some-next_kept.is) at c.next_kept.ensures in
    pick_next _ _ _ _ _ _ taken _ _ _ _ (pick_on _ _ _ _ _ _ taken c.loop-i.invariant (found c.in-Some.ensures)) x c.cut_marks-rest-in-Some-next_kept.ensures

pub returns-in-None : goal.returns-in-None
returns-in-None c =
    let taken = c.args.q.now.admitted in
    let words = c.with_marks.ensures.words in
    let goal = c.with_marks.ensures.goal in
    let x = rw (words.0, words.1, goal.0, goal.1, c.in-None.is) at c.next_kept.ensures in
    let p = pick_next _ _ _ _ _ _ taken _ _ _ _ (pick_on _ _ _ _ _ _ taken c.loop-i.invariant (found c.in-Some.ensures)) x c.cut_marks.ensures in
    record { words = (p.words, p.halved.fewer); picked = pick_end _ _ _ _ _ _ taken _ _ (omega arith) p }

pub returns-clause-picked : goal.returns-clause-picked
returns-clause-picked c = pick_none _ _ _ _ _ _ c.args.q.now.admitted c.loop-i.invariant (missing c.in_default.ensures)
