-- `run::Reason::is_kept` meets its contract: something is kept where one of the three parts is not 0. Assumes nothing.
use Rattle.std.proofs.Common.{arith}
use Rattle.std.proofs.lemmas.Bool.Decides.{nat_tests}
use Rattle.run.specs.State.{kept}
use Rattle.run.proofs.Reason.is_kept.Goals as goal

pub returns-then-self-ne0-2 : goal.returns-then-self-ne0-2
unfolding kept
returns-then-self-ne0-2 c = grind (arith, nat_tests)

pub returns-else-self-ne0-2 : goal.returns-else-self-ne0-2
unfolding kept
returns-else-self-ne0-2 c = grind (arith, nat_tests)
