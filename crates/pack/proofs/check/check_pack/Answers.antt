-- `check_pack`: where sizes and length fit, what `check_records` gives, which is the table's (`pack_told`).
use Rattle.pack.specs.Computed.{check_pack}
use Rattle.pack.proofs.Promises.{pack_told}
use Rattle.pack.proofs.check.check_pack.Goals as goal

pub returns : goal.returns
unfolding check_pack
returns c =
    let a = c.args in
    pack_told a.n a.m a.pack.now {r = c.check_records.result} (rw (c.if-not-sizes_fit.false, c.if-not-length_fits.false) c.check_records.ensures)
