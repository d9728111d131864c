-- `hall::odd_boxes` meets its contract: after i turns the set has the faulty boxes and those on the first i
-- lists. Assumes nothing.
use Rattle.gradecast.specs.Inside.{OddSet}
use Rattle.gradecast.proofs.hall.odd_boxes.Given as goal

abbrev pub invariant-loop-list : goal.invariant-loop-list
invariant-loop-list l = OddSet l.list-index l.faulty l.lists l.odd
