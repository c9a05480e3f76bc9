-- `module_marks`: of a question that is taken the module is given, with 16 words for it (`module_told`).
use mathlib.Core.Path.{refl}
use Rattle.lines.proofs.PartsLaws.{module_told}
use Rattle.lines.proofs.parts.module_marks.Goals as goal

pub returns : goal.returns
returns c = module_told _ _ _ _ _ c.requires refl c.module_for.ensures
