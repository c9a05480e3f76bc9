-- `reached_records`: each turn does a name more (`name_rise`), up to where all are done (`reaching_end`).
use mathlib.Core.Path.{sym, ◌∙◌}
use Prim.Native.Nat.{◌<◌}
use Rattle.std.specs.Prelude.{None}
use native.Mathlib.Omega.{arith}
use Rattle.reasons.proofs.NameLaws.{name_count, count_most, name_rise, reaching_start, reaching_next, reaching_end}
use Rattle.reasons.proofs.reach.reached_records.Goals as goal

pub loop-name-init : goal.loop-name-init
loop-name-init c = rw c.none-done.ensures (reaching_start _ _ _ _ _ (rw c.none.ensures at c.with.ensures) c.clear.ensures c.take_all.ensures)

pub loop-name-smaller : goal.loop-name-smaller
loop-name-smaller c =
    let l = c.loop-name in
    let new = c.next_after.ensures.some _ c.in-Some.is in
    let next = c.with-done in
    let more : name_count l.done < name_count next.result = rw next.ensures (name_rise l.done _ new.0 new.2) in
    omega (arith, count_most next.result)

pub loop-name-preserved : goal.loop-name-preserved
loop-name-preserved c =
    let l = c.loop-name in
    let new = c.next_after.ensures.some _ c.in-Some.is in
    rw c.with-done.ensures (reaching_next _ _ _ l.reached l.done l.invariant _ new.1 _ c.under-waiting.ensures _ c.take_all-in-Some.ensures)

pub returns : goal.returns
returns c =
    let l = c.loop-name in
    let at = c.reached_marks.ensures.places in (
      c.reached_marks.ensures.words,
      λ i few h. (l.invariant.only None i (sym (at i) ∙ h)).0,
      reaching_end _ _ _ l.reached l.done l.invariant (c.next_after.ensures.none c.in_default.is) _ (λ i few. at i),
    )
