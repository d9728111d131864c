-- `run::Run::is_no_box` meets its contract: it makes the two tests of a box number. Assumes nothing.
use Rattle.std.proofs.Common.{arith}
use Rattle.std.proofs.lemmas.Bool.Decides.{nat_tests}
use Rattle.run.specs.Why.{no_box}
use Rattle.run.proofs.Run.is_no_box.Goals as goal

pub returns : goal.returns
unfolding no_box
returns c = grind (arith, nat_tests, c.contains.ensures, c.new.ensures, c.from.ensures)
