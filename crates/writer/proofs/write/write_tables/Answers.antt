-- `write_tables`: before the rows of role r those before them are in, the rest as it was (`filled`), and they are words.
use Rattle.std.proofs.Common.{◌≡◌, ◌+◌, ◌-◌, ◌*◌, ◌^◌, ◌<◌, length, take, drop, refl, zero-add, arith, length-take, length-drop}
use Rattle.pack.proofs.BytesLaws.{filled_start}
use Rattle.pack.proofs.QuestionLaws.{asked}
use Rattle.writer.specs.Inner.{row_in, rows_bytes}
use Rattle.writer.proofs.WriteLaws.{rows_next, concept_part, link_part, below_both}
use Rattle.writer.proofs.write.write_tables.Goals as goal

pub slice_bounds-write_rows-end : goal.slice_bounds-write_rows-end
slice_bounds-write_rows-end c = omega (arith, (asked _ _ _ _ _ _ c.args.q.now.admitted).pack.n_most, length-take c.args.q.now.n c.args.tables.now.concepts)

pub overflow_mul-first : goal.overflow_mul-first
overflow_mul-first c = let q = (asked _ _ _ _ _ _ c.args.q.now.admitted).pack in omega (arith, q.m_most)

pub overflow_add-end : goal.overflow_add-end
overflow_add-end c = let q = (asked _ _ _ _ _ _ c.args.q.now.admitted).pack in omega (arith, q.n_most, q.m_most)

pub offset_bounds-links-first : goal.offset_bounds-links-first
offset_bounds-links-first c = let q = (asked _ _ _ _ _ _ c.args.q.now.admitted).pack in omega (arith, q.m_most)

pub slice_bounds-write_rows-end-in-loop-r : goal.slice_bounds-write_rows-end-in-loop-r
slice_bounds-write_rows-end-in-loop-r c = let q = (asked _ _ _ _ _ _ c.args.q.now.admitted).pack in omega (arith, q.n_most, q.m_most)

pub loop-r-init : goal.loop-r-init
loop-r-init c =
    let q = c.args.q.now in
    let t = c.args.tables.now in
    let each = concept_part q.n t.concepts t.links in
    let whole : length (take q.n t.concepts) ≡ q.n = omega (arith, (asked _ _ _ _ _ _ q.admitted).pack.n_most, length-take q.n t.concepts) in
    let all : 0 + length (take q.n t.concepts) ≡ q.n * 1 = omega arith in
    let put = c.write_rows.ensures in (
      rw all at (put.rows (row_in q.n t.concepts t.links) c.args.sheet.now refl (filled_start _ _) each),
      λ i h. let k : i < length (take q.n t.concepts) = omega arith in rw (← zero-add i, ← each i k) (put.words i k),
    )

pub loop-r-preserved : goal.loop-r-preserved
loop-r-preserved c =
    let q = c.args.q.now in
    let t = c.args.tables.now in
    let l = c.loop-r in
    let size = (asked _ _ _ _ _ _ q.admitted).pack in
    let each = link_part q.n t.concepts t.links l.r in
    let rows = take q.n (drop (l.r * 64) t.links) in
    let wide : l.r * 64 + q.n - l.r * 64 ≡ q.n = omega arith in
    let whole : length rows ≡ q.n = omega (arith, size.n_most, size.m_most, length-take q.n (drop (l.r * 64) t.links), length-drop (l.r * 64) t.links) in
    let all : q.n * (1 + l.r) + length rows ≡ q.n * (1 + (l.r + 1)) = omega (arith, rows_next q.n l.r) in
    let put = rw wide at c.write_rows-in-loop-r.ensures.rows in
    let words = rw wide at c.write_rows-in-loop-r.ensures.words in (
      rw all at (put (row_in q.n t.concepts t.links) c.args.sheet.now (omega arith) l.invariant.0 each),
      λ i h.
          below_both (λ i. row_in q.n t.concepts t.links i < 2 ^ 64) (q.n * (1 + l.r)) q.n l.invariant.1
          (λ j k. let b : j < length rows = omega arith in rw (← each j b) (words j b)) i (rw (rows_next q.n l.r) h),
    )

pub returns : goal.returns
unfolding rows_bytes
returns c =
    let all : c.loop-r.r ≡ c.args.q.now.m = omega arith in
    rw all at c.loop-r.invariant
