-- `clear`: of clear words nothing is marked (`rows_clear`, `clear_marked`).
use Rattle.std.specs.Prelude.{None, Some}
use Rattle.reasons.specs.declared.names.Name.TheVariants.{Concept, Role}
use Rattle.reasons.proofs.FileLaws.{clear_marked, rows_clear}
use Rattle.reasons.proofs.files.Files.clear.Goals as goal

pub returns : goal.returns
returns c None i = clear_marked 16 i
returns c (Some (Concept x)) i = rows_clear 64 x i
returns c (Some (Role r)) i = rows_clear 64 r i
