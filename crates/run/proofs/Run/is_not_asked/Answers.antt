-- `run::Run::is_not_asked` meets its contract: a number that is no box cannot be asked, and of a box its place in the
-- faulty set decides. Assumes nothing.
use mathlib.Core.Path.{sym, ◌∙◌}
use Rattle.std.proofs.Common.{arith}
use Rattle.std.proofs.lemmas.Bool.Decides.{nat_tests}
use Rattle.run.specs.Why.{not_asked}
use Rattle.run.proofs.Accepted.{is_number}
use Rattle.run.proofs.Run.is_not_asked.Goals as goal

pub overflow_sub-asked : goal.overflow_sub-asked
overflow_sub-asked c = (is_number (sym c.is_no_box.ensures ∙ c.if-is_no_box.false)).0

pub returns-then-is_no_box : goal.returns-then-is_no_box
unfolding not_asked
returns-then-is_no_box c = grind (arith, nat_tests)

pub returns-else-is_no_box : goal.returns-else-is_no_box
unfolding not_asked
returns-else-is_no_box c = grind (arith, nat_tests)
