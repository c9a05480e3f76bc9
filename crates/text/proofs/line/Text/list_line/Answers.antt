-- `list_line`: its five parts, one behind the other (`added_then`); there is room, for a count has at most 4 digits and the
-- places have at most 4,010 bytes (`count_digits`, `places_most`).
use native.Mathlib.Omega.{arith}
use Rattle.marks.specs.Marks.{marked}
use Rattle.text.specs.Text.{list_line}
use Rattle.text.proofs.BufferLaws.{added_then}
use Rattle.text.proofs.PlaceLaws.{places_most}
use Rattle.text.proofs.LineLaws.{count_digits}
use Rattle.text.proofs.line.Text.list_line.Goals as goal

pub push_number-requires : goal.push_number-requires
push_number-requires c = omega (arith, count_digits _ c.count_marked.ensures)

pub push_word-requires-2 : goal.push_word-requires-2
push_word-requires-2 c = omega (arith, count_digits _ c.count_marked.ensures)

pub push_places-requires : goal.push_places-requires
push_places-requires c = omega (arith, count_digits _ c.count_marked.ensures, places_most (marked c.args.marks.now))

pub push_word-requires-3 : goal.push_word-requires-3
push_word-requires-3 c = omega (arith, count_digits _ c.count_marked.ensures, places_most (marked c.args.marks.now))

pub returns : goal.returns
unfolding list_line
returns c =
    rw (← c.count_marked.ensures)
    (added_then (added_then (added_then (added_then c.push_word.ensures c.push_number.ensures) c.push_word-2.ensures) c.push_places.ensures) c.push_word-3.ensures)
