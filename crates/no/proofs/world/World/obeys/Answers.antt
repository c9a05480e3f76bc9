-- `obeys`: `all` over the things tests each as the definition does (`list_every`).
use mathlib.Core.Path.{◌∙◌}
use native.Mathlib.Nat.{sub-zero}
use borrow.Author.Tests.{tests}
use Rattle.std.proofs.Common.{rules}
use Rattle.std.proofs.lemmas.Iterator.{YieldsList-from_range}
use Rattle.std.proofs.lemmas.Iterator.Search.{all_from_yields_List}
use Rattle.pack.specs.Computed.{obeys_at, obeys}
use Rattle.no.specs.NoSheet.{world_of}
use Rattle.no.proofs.ThingLaws.{list_every}
use Rattle.no.proofs.world.World.obeys.Goals as goal

pub returns : goal.returns
unfolding obeys
returns c =
    let w = c.args.self.now in
    all_from_yields_List (obeys_at (world_of w.things w.sheet.now) c.args.l) _ _ _ c.all.ensures.ran (YieldsList-from_range 0 w.things w.things (cc) (sub-zero _)) (λ x b q k. search (rules, tests)) ∙ list_every _ w.things
