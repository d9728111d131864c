-- `run::Run::is_bad` meets its contract: it makes the three tests of refusal 14 one after another. Assumes nothing.
use Rattle.std.proofs.Common.{arith}
use Rattle.std.proofs.lemmas.Bool.Decides.{nat_tests}
use Rattle.run.specs.State.{bad_state}
use Rattle.run.proofs.Run.is_bad.Goals as goal

pub returns-then-has_too_many_sent : goal.returns-then-has_too_many_sent
unfolding bad_state
returns-then-has_too_many_sent c = grind (arith, nat_tests)

pub returns-else-has_too_many_sent : goal.returns-else-has_too_many_sent
unfolding bad_state
returns-else-has_too_many_sent c = grind (arith, nat_tests)
