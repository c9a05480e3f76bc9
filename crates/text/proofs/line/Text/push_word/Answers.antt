-- `push_word`: the word in one copy (`wrote_word`).
use mathlib.Core.Path.{refl}
use native.Mathlib.Omega.{arith}
use Rattle.text.proofs.BufferLaws.{wrote_word}
use Rattle.text.proofs.line.Text.push_word.Goals as goal

pub returns : goal.returns
returns c = record { written = wrote_word c.copy_from_slice.ensures.after (omega arith); same_buffer = refl }
