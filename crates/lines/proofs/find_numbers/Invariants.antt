-- The loop goes from part to part, and `count` numbers are passed. What is left of the line falls. Assumes nothing.
use lib.ListN.{length}
use Rattle.lines.proofs.Walk.{Left}
use Rattle.lines.proofs.find_numbers.Given as goal

abbrev pub invariant-loop-left : goal.invariant-loop-left
invariant-loop-left l = Left l.line l.left l.count

abbrev pub decreases-loop-left : goal.decreases-loop-left
decreases-loop-left l = length l.left
