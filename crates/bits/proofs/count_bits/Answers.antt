-- `count_bits`: the ones of a word of 64 bits are its set bits below 64, counted (`ones_count`).
use Rattle.bits.proofs.SearchLaws.{ones_count}
use Rattle.bits.proofs.count_bits.Goals as goal

pub returns : goal.returns
returns c = ones_count 64 c.args.w c.ranges.w.fits
