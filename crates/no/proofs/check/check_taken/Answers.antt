-- `check_taken`: test by test, as the definition goes; the rows of a sheet of right length are those of its things (`rows_fit`),
-- and where none has a forbidden bit the lines fit them (`lines_fit`).
use mathlib.Core.Path.{sym, ◌∙◌}
use native.Mathlib.Omega.{arith}
use borrow.Author.Tests.{lt-ltb}
use Rattle.std.proofs.lemmas.Result.{err_from_is_err_and}
use Rattle.pack.proofs.QuestionLaws.{asked, asked_valid}
use Rattle.no.specs.Computed.{check_no, check_rows, check_world}
use Rattle.no.proofs.NoLaws.{rows_few, rows_fit, row_found, row_missing, things_fit, lines_fit, not_below}
use Rattle.no.proofs.check.check_taken.Goals as goal

pub count_things-requires : goal.count_things-requires
count_things-requires c = (asked _ _ _ _ _ _ c.args.q.now.admitted).pack.m_most

pub returns-in_err-things : goal.returns-in_err-things
unfolding check_no
returns-in_err-things c =
    let p = err_from_is_err_and c.from_residual.result c.from_residual.ensures.1 in
    let h = c.in_err-things.ensures in
    rw (p.1, p.2, h.0, c.args.q.now.admitted, h.1)

pub overflow_cast-result : goal.overflow_cast-result
overflow_cast-result c =
    let q = c.args.q.now in
    let fit = rows_fit q.m c.args.sheet.now c.in_ok-things.ensures in
    omega (arith, (row_found q.n q.m _ c.args.sheet.now fit.1 c.in-Some.ensures).1, rows_few q.m c.in_ok-things.things (asked _ _ _ _ _ _ q.admitted).pack.m_most fit.0)

pub returns-in-Some : goal.returns-in-Some
unfolding check_no check_rows
returns-in-Some c =
    let q = c.args.q.now in
    let k = c.in_ok-things.ensures in
    let f = row_found q.n q.m _ c.args.sheet.now (rows_fit q.m c.args.sheet.now k).1 c.in-Some.ensures in
    rw (q.admitted, k.1, ← k.0, f.0, lt-ltb _ _ f.1)

pub invariant_of-world : goal.invariant_of-world
invariant_of-world c =
    let fit = rows_fit c.args.q.now.m c.args.sheet.now c.in_ok-things.ensures in
    record { few = fit.0; rows = things_fit c.args.q.now.n c.args.q.now.m _ _ fit.1 }

pub check_lines-requires : goal.check_lines-requires
check_lines-requires c =
    let q = c.args.q.now in
    let fit = rows_fit q.m c.args.sheet.now c.in_ok-things.ensures in
    lines_fit q.n q.m _ _ fit.1 (asked _ _ _ _ _ _ q.admitted).pack.n_most (row_missing q.n q.m _ _ fit.1 c.in_default.ensures) _ (asked_valid _ _ _ _ _ _ q.admitted)

pub returns-in_err-check_lines : goal.returns-in_err-check_lines
unfolding check_no check_rows check_world
returns-in_err-check_lines c =
    let q = c.args.q.now in
    let p = err_from_is_err_and c.from_residual-in_err-check_lines.result c.from_residual-in_err-check_lines.ensures.1 in
    let k = c.in_ok-things.ensures in
    let none = row_missing q.n q.m _ c.args.sheet.now (rows_fit q.m c.args.sheet.now k).1 c.in_default.ensures in
    let h = c.in_err-check_lines.ensures in
    rw (p.1, p.2, h.0, q.admitted, k.1, ← k.0, not_below none, lt-ltb _ _ h.1)

pub overflow_cast-q : goal.overflow_cast-q
overflow_cast-q c = let k = asked _ _ _ _ _ _ c.args.q.now.admitted in omega (arith, k.pack.n_most, k.goal_a)

pub overflow_cast-q-2 : goal.overflow_cast-q-2
overflow_cast-q-2 c = let k = asked _ _ _ _ _ _ c.args.q.now.admitted in omega (arith, k.pack.n_most, k.goal_b)

pub refutes-requires : goal.refutes-requires
refutes-requires c = let k = asked _ _ _ _ _ _ c.args.q.now.admitted in (omega (arith, k.pack.n_most, k.goal_a), omega (arith, k.pack.n_most, k.goal_b))

pub returns-then-refutes : goal.returns-then-refutes
unfolding check_no check_rows check_world
returns-then-refutes c =
    let q = c.args.q.now in
    let k = c.in_ok-things.ensures in
    let none = row_missing q.n q.m _ c.args.sheet.now (rows_fit q.m c.args.sheet.now k).1 c.in_default.ensures in
    rw (q.admitted, k.1, ← k.0, not_below none, not_below c.in_ok-check_lines.ensures, sym c.refutes.ensures ∙ c.if-refutes.true)

pub returns : goal.returns
unfolding check_no check_rows check_world
returns c =
    let q = c.args.q.now in
    let k = c.in_ok-things.ensures in
    let none = row_missing q.n q.m _ c.args.sheet.now (rows_fit q.m c.args.sheet.now k).1 c.in_default.ensures in
    rw (q.admitted, k.1, ← k.0, not_below none, not_below c.in_ok-check_lines.ensures, sym c.refutes.ensures ∙ c.if-refutes.false)
