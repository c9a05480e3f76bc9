-- `noolukask_module`: 16 words are lent for 128 bytes, and what is found in them goes into the bytes (`module_read`).
use Rattle.std.proofs.Common.{refl, sym, ◌∙◌}
use Rattle.desk.proofs.MarksLaws.{lent_back, module_lent, module_read}
use Rattle.desk.proofs.reason.noolukask_module.Goals as goal

pub put_found-requires : goal.put_found-requires
put_found-requires c =
    let q = c.from_c-question.ensures in
    let found = rw (q.sizes.0, q.sizes.1, q.pack, q.marks, q.goal.0) at c.module_for-module.ensures in
    (lent_back _ _ _ refl c.words_for-lent.ensures _ c.module_for-module.auto.out, λ z. module_lent _ _ _ refl c.words_for-lent.ensures _ _ _ _ _ found (sym c.number.ensures ∙ z))

pub returns : goal.returns
returns c =
    let q = c.from_c-question.ensures in
    let found = rw (q.sizes.0, q.sizes.1, q.pack, q.marks, q.goal.0) at c.module_for-module.ensures in
    module_read _ _ _ refl c.words_for-lent.ensures _ _ _ _ _ c.module_for-module.result found c.coded.ensures (rw c.number.ensures at c.put_found.ensures)
