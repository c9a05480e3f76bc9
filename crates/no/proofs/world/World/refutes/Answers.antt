-- `refutes`: `any` over the things tests each as the definition does (`any_below`).
use mathlib.Core.Path.{◌∙◌}
use mathlib.Core.Bool.{not, ◌&&◌}
use native.Mathlib.Nat.{sub-zero}
use borrow.Author.Tests.{tests}
use Rattle.std.proofs.Common.{rules}
use Rattle.std.proofs.lemmas.Iterator.{YieldsList-from_range}
use Rattle.std.proofs.lemmas.Iterator.Search.{any_from_yields_List}
use Rattle.bits.specs.Bit.{has}
use Rattle.no.specs.NoSheet.{row_at}
use Rattle.no.specs.Computed.{refutes}
use Rattle.no.proofs.ThingLaws.{list_some}
use Rattle.no.proofs.world.World.refutes.Goals as goal

pub returns : goal.returns
unfolding refutes
returns c =
    let a = c.args in
    let w = a.self.now in
    any_from_yields_List (λ x. has (row_at w.sheet.now x) a.a && not (has (row_at w.sheet.now x) a.b)) _ _ _ c.any.ensures.ran (YieldsList-from_range 0 w.things w.things (cc) (sub-zero _)) (λ x b q k. search (rules, tests)) ∙ list_some _ w.things
