-- `write_no`: at most 9 rows a thing (`rows_few`): NO ROOM, the sheet as it was (`no_short`), or each row in 8 bytes
-- (`no_fits`, `words_length`).
use mathlib.Core.Path.{refl}
use Prim.Native.Nat.{◌+◌, ◌*◌}
use native.Mathlib.Omega.{arith}
use Rattle.pack.proofs.BytesLaws.{words_length}
use Rattle.pack.proofs.QuestionLaws.{asked}
use Rattle.writer.specs.Inner.{row_in, rows_bytes}
use Rattle.writer.proofs.WriteLaws.{rows_few, no_fits, no_short}
use Rattle.writer.proofs.write.write_no.Goals as goal

pub overflow_add-rows : goal.overflow_add-rows
overflow_add-rows c = let q = asked _ _ _ _ _ _ c.args.q.now.admitted in omega (arith, q.pack.m_most)

pub overflow_mul-rows : goal.overflow_mul-rows
overflow_mul-rows c = let q = asked _ _ _ _ _ _ c.args.q.now.admitted in omega (arith, q.pack.n_most, rows_few c.args.q.now.n c.args.q.now.m q.pack.m_most)

pub overflow_mul-need : goal.overflow_mul-need
overflow_mul-need c = let q = asked _ _ _ _ _ _ c.args.q.now.admitted in omega (arith, q.pack.n_most, rows_few c.args.q.now.n c.args.q.now.m q.pack.m_most)

pub overflow_cast-result : goal.overflow_cast-result
overflow_cast-result c = let q = asked _ _ _ _ _ _ c.args.q.now.admitted in omega (arith, q.pack.n_most, rows_few c.args.q.now.n c.args.q.now.m q.pack.m_most)

pub overflow_cast-result-2 : goal.overflow_cast-result-2
overflow_cast-result-2 c = let q = asked _ _ _ _ _ _ c.args.q.now.admitted in omega (arith, q.pack.n_most, rows_few c.args.q.now.n c.args.q.now.m q.pack.m_most)

pub returns-then-sheet-need : goal.returns-then-sheet-need
returns-then-sheet-need c = record {
  answer = no_short _ c.if-sheet-need.true;
  sheet = refl;
  words = λ h. absurd (omega arith);
}

pub returns : goal.returns
unfolding rows_bytes
returns c =
    let q = c.args.q.now in
    let t = c.args.tables.now in
    let w = c.write_tables.ensures in
    record {
      answer = no_fits _ c.if-sheet-need.false;
      sheet = rw (words_length (row_in q.n t.concepts t.links) (q.n * (1 + q.m))) w.0;
      words = λ h. w.1;
    }
