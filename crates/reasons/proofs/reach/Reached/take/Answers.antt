-- `take`: the place is filed under what it waits for; where that is none, the right side comes in (`waits_all`).
use mathlib.Core.Path.{◌≡◌, sym, ap, ◌∙◌}
use mathlib.Core.Bool.{true, false, not}
use Rattle.std.specs.Prelude.{is_some}
use Rattle.reasons.specs.Names.{name_in}
use Rattle.reasons.specs.Reach.{left_names, all_in}
use Rattle.reasons.proofs.NameLaws.{waits_all}
use Rattle.reasons.proofs.reach.Reached.take.Goals as goal

pub returns-then-is_none-clause-names : goal.returns-then-is_none-clause-names
returns-then-is_none-clause-names c =
    let all : all_in (name_in c.args.self.now.names) (left_names c.args.l) ≡ true = waits_all _ _ ∙ ap not (ap is_some (sym c.waits_for-name.ensures) ∙ c.is_none.ensures ∙ ap not c.if-is_none.true) in
    rw all c.with_right-self.ensures

pub returns-else-is_none-clause-names : goal.returns-else-is_none-clause-names
returns-else-is_none-clause-names c =
    let all : all_in (name_in c.args.self.now.names) (left_names c.args.l) ≡ false = waits_all _ _ ∙ ap not (ap is_some (sym c.waits_for-name.ensures) ∙ c.is_none.ensures ∙ ap not c.if-is_none.false) in
    rw all
