-- `check_step`: what the tests show is the definition (`good_parts`); where all are passed, the fact that is added is the
-- conclusion of the step (`concludes`).
use mathlib.Core.Path.{◌≡◌, sym}
use borrow.Author.Tests.{ltb-true}
use Rattle.bits.proofs.Truth.{both_true}
use Rattle.pack.specs.Record.{lines_of}
use Rattle.pack.specs.Rules.{conclusion_of}
use Rattle.yes.specs.YesSheet.{step_in}
use Rattle.yes.proofs.StepLaws.{concludes}
use Rattle.yes.proofs.step.check_step.Goals as goal
use Rattle.yes.proofs.step.check_step.Goals.{After-rule_of-rule}

conclusion_is : (c : After-rule_of-rule) → conclusion_of (lines_of c.args.q.now.pack.now) (step_in c.args.part.now) ≡ c.rule_of-rule.result.gives
conclusion_is c =
    concludes _ _ c.read_step-s.ensures c.line_at.ensures c.rule_of-rule.ensures (ltb-true _ _ (both_true _ _ (sym c.if-place_counts.ensures)).0)

pub returns-then-holds-2-clause-concepts : goal.returns-then-holds-2-clause-concepts
returns-then-holds-2-clause-concepts c = rw (conclusion_is (goal.at.returns-then-holds-2-clause-concepts c).After-rule_of-rule) c.add.ensures.0

pub returns-then-holds-2-clause-links : goal.returns-then-holds-2-clause-links
returns-then-holds-2-clause-links c = rw (conclusion_is (goal.at.returns-then-holds-2-clause-links c).After-rule_of-rule) c.add.ensures.1
