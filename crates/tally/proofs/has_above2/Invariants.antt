-- None of the confidences that were looked at is above 2.
use lib.Dec.{ltb}
use lib.ListN.{length, get_or}
use Rattle.counting.proofs.Loops.{NoneYet}
use Rattle.tally.proofs.has_above2.Given as goal

abbrev pub invariant-loop-confidence : goal.invariant-loop-confidence
invariant-loop-confidence l = NoneYet (length l.confidences) (λ k. ltb 2 (get_or l.confidences k 0)) l.confidence-index
