-- `write_rows`: before row i the bytes of the rows before it are in, the rest as it was (`filled`, `filled_more`).
use Rattle.std.proofs.Common.{◌≡◌, ℕ, ◌+◌, ◌<◌, List, length, get_or}
use Rattle.writer.specs.Inner.{filled}
use Rattle.writer.proofs.write.write_rows.Given as goal

abbrev pub invariant-loop-i : goal.invariant-loop-i
invariant-loop-i l =
    (f : ℕ → ℕ) (blank : List ℕ) → length blank ≡ length l.initial.sheet → l.initial.sheet ≡ filled f blank l.from → ((i : ℕ) → i < length l.rows → get_or l.rows i 0 ≡ f (l.from + i)) → l.sheet ≡ filled f blank (l.from + l.i)
