-- `chain_at`: a walk over the things that x is linked to by r, bit after bit taken off: those that are gone are okay
-- (`Walked`); one that is not ends it (`walk_fails`), and past the last all are (`walk_end`).
use mathlib.Core.Path.{sym, ◌∙◌}
use Rattle.bits.proofs.FoundLaws.{found, missing}
use Rattle.no.proofs.WorldRows.{link_below}
use Rattle.no.proofs.ThingLaws.{walk_less, walk_end, walk_fails}
use Rattle.no.proofs.world.World.chain_at.Goals as goal

pub links_of-requires : goal.links_of-requires
links_of-requires c =
    let t = found c.in-Some.ensures in
    (c.requires.1, link_below _ _ c.args.r c.args.x c.in-Some.y c.requires.0 c.requires.3 t.there (c.loop-y.invariant.set c.in-Some.y t.here))

pub returns-then-not-row_inside : goal.returns-then-not-row_inside
returns-then-not-row_inside c =
    let t = found c.in-Some.ensures in
    let linked = c.loop-y.invariant.set c.in-Some.y t.here in
    let told = rw (c.links_of.ensures, c.links_of-whole.ensures) at c.row_inside.ensures in
    walk_fails _ _ _ c.in-Some.y (link_below _ _ c.args.r c.args.x c.in-Some.y c.requires.0 c.requires.3 t.there linked) linked (sym told ∙ c.if-not-row_inside.true)

pub loop-y-smaller : goal.loop-y-smaller
loop-y-smaller c = walk_less c.loop-y.rest _ c.without_lowest-rest.ensures (found c.in-Some.ensures)

pub returns : goal.returns
returns c = walk_end _ _ _ c.loop-y.rest c.args.self.now.few c.loop-y.invariant (missing c.in_default.ensures)
