-- `push_places`: the places that the walk has passed are written (`Listed`).
use native.Mathlib.Omega.{arith}
use Rattle.bits.proofs.WalkLaws.{turn, ended, held}
use Rattle.text.proofs.BufferLaws.{added_then}
use Rattle.text.proofs.PlaceLaws.{listed_none, listed_next, listed_room, listed_all}
use Rattle.text.proofs.line.Text.push_places.Goals as goal

pub loop-i-init : goal.loop-i-init
loop-i-init c = rw (c.into_iter-i-iterator.ensures.into_iter_gives, c.places-i-items.ensures.from) (c.places-i-items.ensures.marks, listed_none)

pub push_word-requires : goal.push_word-requires
push_word-requires c = let l = c.loop-i.invariant in omega (arith, listed_room (turn c.in-Some.ensures.steps l.0).found l.1)

pub push_number-requires : goal.push_number-requires
push_number-requires c = let l = c.loop-i.invariant in omega (arith, listed_room (turn c.in-Some.ensures.steps l.0).found l.1)

pub loop-i-preserved : goal.loop-i-preserved
loop-i-preserved c =
    let l = c.loop-i.invariant in
    let t = turn c.in-Some.ensures.steps l.0 in
    (held c.in-Some.ensures.steps l.0, rw t.on (listed_next t.found l.1 (added_then c.push_word.ensures c.push_number.ensures)))

pub returns : goal.returns
returns c = let l = c.loop-i.invariant in listed_all (ended c.in-None.ensures.steps l.0).missing l.1
