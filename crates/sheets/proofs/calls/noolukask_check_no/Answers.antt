-- `noolukask_check_no`: the code of what `check_no` answers for the question that C asks.
use Rattle.sheets.proofs.Promises.{no_coded}
use Rattle.sheets.proofs.calls.noolukask_check_no.Goals as goal

pub returns : goal.returns
returns c =
    let h = c.checked.ensures in
    let q = h.4 in
    no_coded _ _ _ _ _ _ _ h.2 h.6 (rw (q.0, q.1, q.2, q.3, q.4, q.5, h.5) at h.3)
