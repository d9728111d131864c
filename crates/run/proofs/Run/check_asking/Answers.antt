-- `run::Run::check_asking` meets its contract: it makes the tests of refusals 14 and 15 in their order. Assumes
-- nothing.
use Rattle.std.proofs.Common.{arith}
use Rattle.std.proofs.lemmas.Bool.Decides.{nat_tests}
use Rattle.counting.specs.Refuse.{first_of}
use Rattle.run.specs.Inside.{asking_refusal}
use Rattle.run.specs.State.{overdone}
use Rattle.run.proofs.Run.check_asking.Goals as goal

pub returns-then-from : goal.returns-then-from
unfolding asking_refusal first_of overdone
returns-then-from c = grind (arith, nat_tests)

pub returns-then-is_not_asked : goal.returns-then-is_not_asked
unfolding asking_refusal first_of overdone
returns-then-is_not_asked c = grind (arith, nat_tests)

pub returns : goal.returns
unfolding asking_refusal first_of overdone
returns c = grind (arith, nat_tests)
