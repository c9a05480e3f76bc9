-- `noolukask_printed_set`: 16 words are lent for 128 bytes, and what is found in them goes into the bytes (`set_read`).
use Rattle.std.proofs.Common.{refl, sym, ◌∙◌}
use Rattle.desk.proofs.MarksLaws.{lent_back, set_lent, set_read}
use Rattle.desk.proofs.reason.noolukask_printed_set.Goals as goal

pub put_found-requires : goal.put_found-requires
put_found-requires c =
    let q = c.from_c-question.ensures in
    let found = rw (q.sizes.0, q.sizes.1, q.pack, q.marks, q.goal.0, q.goal.1) at c.printed_set-set.ensures in
    (lent_back _ _ _ refl c.words_for-lent.ensures _ c.printed_set-set.auto.out, λ z. set_lent _ _ _ refl c.words_for-lent.ensures _ _ _ _ _ _ found (sym c.number.ensures ∙ z))

pub returns : goal.returns
returns c =
    let q = c.from_c-question.ensures in
    let found = rw (q.sizes.0, q.sizes.1, q.pack, q.marks, q.goal.0, q.goal.1) at c.printed_set-set.ensures in
    set_read _ _ _ refl c.words_for-lent.ensures _ _ _ _ _ _ c.printed_set-set.result found c.coded.ensures (rw c.number.ensures at c.put_found.ensures)
