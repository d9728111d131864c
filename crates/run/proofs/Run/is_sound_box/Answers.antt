-- `run::Run::is_sound_box` meets its contract: it tests the bound and then the faulty set. Assumes nothing.
use Rattle.std.proofs.Common.{arith}
use Rattle.std.proofs.lemmas.Bool.Decides.{nat_tests}
use Rattle.sizes.specs.Sizes.{sound}
use Rattle.run.proofs.Run.is_sound_box.Goals as goal

pub returns-then-k-self : goal.returns-then-k-self
unfolding sound
returns-then-k-self c = grind (arith, nat_tests)
