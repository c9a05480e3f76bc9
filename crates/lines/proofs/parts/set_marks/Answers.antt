-- `set_marks`: of a question that is taken and whose goal follows the set is given, with 16 words for it (`set_told_lem`).
use mathlib.Core.Path.{refl}
use Rattle.lines.proofs.PartsLaws.{set_told_lem}
use Rattle.lines.proofs.parts.set_marks.Goals as goal

pub returns : goal.returns
returns c = set_told_lem _ _ _ _ _ _ c.requires.taken c.requires.follows refl c.printed_set.ensures
