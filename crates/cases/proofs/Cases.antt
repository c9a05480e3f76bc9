-- C1 TO C12 of document 01 and the other rows of the table, by computation over the bytes.
use mathlib.Core.Path.{refl}
use mathlib.Core.List.{flatten}
use Rattle.bits.specs.Bit.{has, with_bit, row as row_of}
use Rattle.bits.specs.Sets.{lowest, count_to, every, some}
use Rattle.bits.specs.Lists.{listed}
use Rattle.marks.specs.Marks.{marked, marks_fit, marks_of}
use Rattle.pack.specs.World.{line_at}
use Rattle.pack.specs.Computed.{implies, obeys_at, obeys, check_records, check_pack, check_question}
use Rattle.pack.specs.Bytes.{little_endian, word_bytes}
use Rattle.pack.specs.Record.{line_in, keeps_in, lines_of}
use Rattle.pack.specs.Rules.{usable, free, same_fact}
use Rattle.yes.specs.YesSheet.{steps_of, concluded, known, good_over, good_at}
use Rattle.yes.specs.Computed.{lowest_bad, check_steps, check_yes}
use Rattle.no.specs.NoSheet.{row_at, forbidden}
use Rattle.no.specs.Computed.{lowest_forbidden, lowest_broken, refutes, check_world, check_rows, check_no}
use Rattle.passes.specs.Loop.{loop}
use Rattle.passes.specs.Saturation.{said, holds, fresh, attempt, runs}
use Rattle.passes.specs.Passes.{at_xyz, at_xy, at_x, at_range, at_record, pass, not_free, finished_from, at_end, goal_at_end}
use Rattle.passes.specs.Ours.{up_to, our_steps, our_rows}
use Rattle.engine.specs.Computed.{goal_held}
use Rattle.writer.specs.Sheet.{yes_bytes, no_bytes}
use Rattle.reasons.specs.Printed.{without}
use Rattle.reasons.specs.Reach.{all_in, module_in}
use Rattle.reasons.specs.Computed.{same_name, both_sides, reach_pass, reached, module_of, spared, picked, printed}
use Rattle.cases.specs.Cases.{AllHold, record_of, step, row, rows, ask, valve, turned, itself, anatomy, parts, later, unchained, document_cases, question_cases, broken_records, record_cases, sheet_cases, case_table}
use Rattle.cases.proofs.CaseLaws.{worked, claimed, all_hold}

-- EVERY ROW HOLDS
pub cases : AllHold case_table
unfolding
    record_of step row rows ask valve turned itself anatomy parts later unchained document_cases question_cases broken_records record_cases sheet_cases case_table worked claimed flatten has with_bit row_of lowest count_to every some listed marked marks_fit marks_of line_at implies obeys_at obeys check_records check_pack check_question
    little_endian word_bytes line_in keeps_in lines_of usable free same_fact steps_of concluded known good_over good_at lowest_bad check_steps check_yes row_at forbidden lowest_forbidden lowest_broken refutes check_world check_rows check_no loop said
    holds fresh attempt runs at_xyz at_xy at_x at_range at_record pass not_free finished_from at_end goal_at_end up_to our_steps our_rows goal_held yes_bytes no_bytes without all_in module_in same_name
    both_sides reach_pass reached module_of spared picked printed
cases = all_hold case_table refl
