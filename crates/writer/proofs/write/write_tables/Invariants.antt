-- `write_tables`: before the rows of role r those before them are in, the rest as it was (`filled`), and they are words.
use Rattle.std.proofs.Common.{◌≡◌, ℕ, ◌+◌, ◌*◌, ◌^◌, ◌<◌}
use Rattle.writer.specs.Inner.{row_in, filled}
use Rattle.writer.proofs.write.write_tables.Given as goal

abbrev pub invariant-loop-r : goal.invariant-loop-r
invariant-loop-r l =
    (l.sheet ≡ filled (row_in l.q.n l.tables.concepts l.tables.links) l.fn.sheet (l.q.n * (1 + l.r)))
    × ((i : ℕ) → i < l.q.n * (1 + l.r) → row_in l.q.n l.tables.concepts l.tables.links i < 2 ^ 64)
