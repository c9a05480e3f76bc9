-- `next_marked`: a word with a bit from `from` on has the place (`word_found`), a word with none leads to the next (`word_missing`).
use native.Mathlib.Omega.{arith}
use Rattle.bits.proofs.FoundLaws.{found, missing, gives_found, gives_none}
use Rattle.marks.proofs.MarkLaws.{word_found, word_missing}
use Rattle.marks.proofs.look.next_marked.Goals as goal

pub returns-in-Some : goal.returns-in-Some
returns-in-Some c =
    gives_found (word_found c.args.marks.now _ c.loop-k.invariant c.mark_word.ensures c.saturating_sub.ensures (omega arith) (found c.in-Some.ensures))

pub loop-k-preserved : goal.loop-k-preserved
loop-k-preserved c = word_missing c.args.marks.now _ c.loop-k.invariant c.mark_word.ensures c.saturating_sub.ensures (missing c.in_default.ensures)

pub returns : goal.returns
returns c = let m = c.loop-k.invariant in gives_none (record { none = λ i h l. m.none i h (omega arith) })
