-- `read_step`: the place is the number of the first two bytes, by arithmetic; X, Y and Z are the three after them.
use mathlib.Core.Path.{◌≡◌}
use native.Mathlib.Omega.{arith}
use Rattle.pack.specs.Bytes.{little_endian}
use Rattle.yes.proofs.step.read_step.Goals as goal

pub returns : goal.returns
unfolding little_endian
returns c =
    let two = c.two_bytes in
    let e : two.result ≡ little_endian 2 c.args.part.now = omega arith in
    rw e
