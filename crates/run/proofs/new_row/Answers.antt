-- `run::new_row` meets its contract: where no row is chosen the old one stays. Assumes nothing.
use Rattle.std.proofs.Common.{arith}
use Rattle.std.proofs.lemmas.Bool.Decides.{nat_tests}
use Rattle.run.specs.Inside.{row_from}
use Rattle.run.proofs.new_row.Goals as goal

pub returns-then-chosen-eq0 : goal.returns-then-chosen-eq0
unfolding row_from
returns-then-chosen-eq0 c = grind (arith, nat_tests)

pub returns : goal.returns
unfolding row_from
returns c = grind (arith, nat_tests)
