-- `count_marked`: the words' counts, added up (`count_words`); each is at most 64.
use Rattle.std.proofs.Common.{◌≡◌, ℕ, List, map, sum, get_or, refl, ◌∙◌, rules, tests, arith}
use Rattle.std.specs.List.{range_with_len}
use Rattle.std.proofs.lemmas.Iterator.{YieldsList-from_range, YieldsList-from_map}
use Rattle.std.proofs.lemmas.Iterator.Consumers.{YieldsList-at, sum_from_yields_List, fits_from_yields_list}
use Rattle.bits.specs.Bit.{has}
use Rattle.bits.specs.Sets.{count_to}
use Rattle.bits.proofs.SetLaws.{count_le}
use Rattle.marks.specs.Marks.{marked, mark_count}
use Rattle.marks.proofs.MarkLaws.{count_words}
use Rattle.marks.proofs.look.count_marked.Goals as goal

total : (ws : List ℕ) → sum (map (λ j. count_to (has (get_or ws j 0)) 64) (range_with_len 0 16)) ≡ mark_count ws
unfolding count_to
total ws = count_words ws 0 16 0 refl

pub sum-requires-clause-fits : goal.sum-requires-clause-fits
sum-requires-clause-fits c =
    let ws = c.args.marks.now in
    fits_from_yields_list c.map.result _
    (YieldsList-from_map _ (λ j. count_to (has (get_or ws j 0)) 64) (YieldsList-at c.map.ensures.source (YieldsList-from_range 0 16 16 refl refl)) c.map.ensures.closure (λ x r q k. search (rules, tests)))
    (rw (total ws) (omega (arith, count_le (marked ws) 1024)))

pub returns : goal.returns
returns c =
    let ws = c.args.marks.now in
    sum_from_yields_List c.map.result c.sum.result c.sum.ensures.ran
    (YieldsList-from_map _ (λ j. count_to (has (get_or ws j 0)) 64) (YieldsList-at c.map.ensures.source (YieldsList-from_range 0 16 16 refl refl)) c.map.ensures.closure (λ x r q k. search (rules, tests)))
    ∙ total ws
