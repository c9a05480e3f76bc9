-- `past_limit`: the search from the limit on ends below 64 exactly where some bit from there on is set (`lowest_past`).
use mathlib.Core.Path.{◌∙◌}
use Rattle.bits.proofs.FoundLaws.{some_below}
use Rattle.bits.proofs.SetLaws.{lowest_past}
use Rattle.no.proofs.row.past_limit.Goals as goal

pub returns : goal.returns
returns c = c.is_some.ensures ∙ some_below _ _ c.next_bit.ensures ∙ lowest_past _ _ 64
