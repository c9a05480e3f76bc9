-- `read_word`: the library's number of eight bytes is the word of the definition, byte by byte.
use Rattle.std.proofs.Common.{arith}
use Rattle.pack.specs.Bytes.{little_endian}
use Rattle.pack.proofs.bytes.read_word.Goals as goal

pub returns : goal.returns
unfolding little_endian
returns c = omega (arith, c.from_le_bytes.ensures)
