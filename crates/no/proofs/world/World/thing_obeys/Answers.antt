-- `thing_obeys`: where a variant needs more than a bit of a row, a test of 64 bits says what the world says of its k things
-- (`meets_things`, `inside_things`, `chain_things`).
use mathlib.Core.Path.{ap, ◌∙◌}
use mathlib.Core.Bool.{Bool}
use Rattle.bits.specs.Bit.{has}
use Rattle.pack.specs.Computed.{implies, obeys_at}
use Rattle.no.specs.NoSheet.{row_at}
use Rattle.no.proofs.WorldRows.{meets_things, inside_things, chain_things}
use Rattle.no.proofs.world.World.thing_obeys.Goals as goal

pub returns-in-UnderSome : goal.returns-in-UnderSome
unfolding obeys_at
returns-in-UnderSome c =
    let col = rw c.in-UnderSome.is at c.requires.1 in
    rw c.in-UnderSome.is
    ((rw (c.row-in-UnderSome.ensures, c.links_of.ensures) at c.row_under_some.ensures) ∙ ap (implies _) (meets_things _ _ _ _ _ c.args.self.now.few col))

pub returns-in-SomeUnder : goal.returns-in-SomeUnder
unfolding obeys_at
returns-in-SomeUnder c =
    let a = c.args in
    let w = a.self.now in
    let col = rw c.in-SomeUnder.is at c.requires.1 in
    rw c.in-SomeUnder.is
    ((rw (c.row-in-SomeUnder.ensures, c.links_of-in-SomeUnder.ensures) at c.row_some_under.ensures)
    ∙ ap (λ (t : Bool). implies t (has (row_at w.sheet.now a.x) c.in-SomeUnder.b)) (meets_things _ _ _ _ _ w.few col))

pub returns-in-RoleUnder : goal.returns-in-RoleUnder
unfolding obeys_at
returns-in-RoleUnder c =
    let w = c.args.self.now in
    let fits = rw c.in-RoleUnder.is at c.requires.0 in
    rw c.in-RoleUnder.is
    ((rw (c.links_of-in-RoleUnder-2.ensures, c.links_of-in-RoleUnder.ensures) at c.row_inside.ensures)
    ∙ inside_things _ _ _ _ _ w.few fits.0 c.requires.2)

pub returns-in-ChainUnder : goal.returns-in-ChainUnder
unfolding obeys_at
returns-in-ChainUnder c =
    let w = c.args.self.now in
    let fits = rw c.in-ChainUnder.is at c.requires.0 in
    rw c.in-ChainUnder.is (c.chain_at.ensures ∙ chain_things _ _ _ _ _ w.few fits.1)
