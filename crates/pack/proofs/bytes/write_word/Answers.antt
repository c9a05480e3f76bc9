-- `write_word`: the library's bytes of a word are those of the definition.
use Rattle.std.proofs.Common.{◌∙◌}
use native.Mathlib.Nat.{div-one}
use Rattle.bits.specs.Lists.{listed}
use Rattle.pack.specs.Bytes.{word_bytes}
use Rattle.pack.proofs.bytes.write_word.Goals as goal

pub returns : goal.returns
unfolding word_bytes listed
returns c = c.copy_from_slice.ensures.after ∙ c.to_le_bytes.ensures ∙ rw div-one
