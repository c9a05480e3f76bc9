-- `answer`: the refusal of the input, or its question about the pack, which lies within it (`input_fits`).
use mathlib.Core.Path.{sym, ◌∙◌}
use Rattle.std.proofs.lemmas.List.{length-take-le}
use Rattle.lines.proofs.InputLaws.{input_fits}
use Rattle.lines.proofs.PrintLaws.{writes_input_refused, writes_question}
use Rattle.lines.proofs.answer.Goals as goal

pub slice_bounds-ask-end : goal.slice_bounds-ask-end
slice_bounds-ask-end c = let within = rw (sym c.read_input.ensures ∙ c.in-Ok.is) at (input_fits c.args.s.now) in sym (length-take-le _ c.args.s.now within)

pub returns-in-Ok : goal.returns-in-Ok
returns-in-Ok c = writes_question _ (sym c.read_input.ensures ∙ c.in-Ok.is) c.ask.ensures

pub returns-in-Err : goal.returns-in-Err
returns-in-Err c = writes_input_refused _ (sym c.read_input.ensures ∙ c.in-Err.is) c.number.ensures c.write_refused.ensures
