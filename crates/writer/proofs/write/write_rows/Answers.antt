-- `write_rows`: before row i the bytes of the rows before it are in, the rest as it was (`filled`, `filled_more`).
use Rattle.std.proofs.Common.{◌≡◌, ℕ, ◌+◌, length, ◌∙◌, ap, add-zero, arith}
use Rattle.pack.proofs.BytesLaws.{filled_more}
use Rattle.writer.specs.Inner.{filled}
use Rattle.writer.proofs.write.write_rows.Goals as goal

pub loop-i-init : goal.loop-i-init
loop-i-init c = λ f blank long old each. rw add-zero old

pub loop-i-preserved : goal.loop-i-preserved
loop-i-preserved c = λ f blank long old each.
    let l = c.loop-i in
    let a = c.args in
    let next : a.from + l.i + 1 ≡ a.from + (l.i + 1) = omega arith in
    filled_more f blank l.sheet (a.from + l.i) (omega arith) (l.invariant f blank long old each) (each l.i (omega arith)) c.write_word.ensures ∙ ap (filled f blank) next

pub returns-clause-rows : goal.returns-clause-rows
returns-clause-rows c = λ f blank long old each.
    let l = c.loop-i in
    let a = c.args in
    let all : l.i ≡ length a.rows.now = omega arith in
    l.invariant f blank long old each ∙ ap (λ (k : ℕ). filled f blank (a.from + k)) all
