-- `hall::sent_in` meets its contract: the rows in the cells that were looked at are counted. Assumes nothing.
use mathlib.Core.Bool.{not}
use lib.Dec.{eqb}
use lib.ListN.{length, get_or}
use Rattle.counting.proofs.Loops.{Counted}
use Rattle.gradecast.proofs.hall.sent_in.Given as goal

abbrev pub invariant-loop-row : goal.invariant-loop-row
invariant-loop-row l = Counted (length l.cells) (λ k. not (eqb (get_or l.cells k 0) 0)) l.row-index l.sent
