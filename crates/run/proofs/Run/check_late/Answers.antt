-- `run::Run::check_late` meets its contract: it makes the tests of refusals 12 and 14 in their order. Assumes nothing.
use Rattle.std.proofs.Common.{arith}
use Rattle.std.proofs.lemmas.Bool.Decides.{nat_tests}
use Rattle.counting.specs.Refuse.{first_of}
use Rattle.run.specs.Inside.{late_refusal}
use Rattle.run.proofs.Run.check_late.Goals as goal

pub returns-then-self : goal.returns-then-self
unfolding late_refusal first_of
returns-then-self c = grind (arith, nat_tests)

pub returns-then-is_bad : goal.returns-then-is_bad
unfolding late_refusal first_of
returns-then-is_bad c = grind (arith, nat_tests)

pub returns : goal.returns
unfolding late_refusal first_of
returns c = grind (arith, nat_tests)
