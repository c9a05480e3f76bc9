-- `lowest_forbidden`: `find` over the rows gives the first with a forbidden bit (`first_from_Range`), and that is the lowest.
use mathlib.Core.Path.{◌≡◌}
use mathlib.Core.Bool.{true, false}
use borrow.Author.Tests.{tests}
use Rattle.std.proofs.Common.{rules}
use Rattle.std.proofs.lemmas.Iterator.{first_from_Range}
use Rattle.no.specs.NoSheet.{forbidden}
use Rattle.no.proofs.ThingLaws.{found_first}
use Rattle.no.proofs.row.lowest_forbidden.Goals as goal

pub returns : goal.returns
returns c =
    let a = c.args in
    found_first _ _ c.find.result
    (first_from_Range _ _ _ c.find.result (λ i. forbidden a.n a.k a.sheet.now i ≡ true) (λ i. forbidden a.n a.k a.sheet.now i ≡ false) c.find.ensures.ran (λ x q h. search (rules, tests)) (λ x q h. search (rules, tests)))
