-- `Hall::confidences_of` meets its contract: after p turns the first p places have the confidences that the
-- supports give. Assumes nothing.
use Prim.Native.Nat.{◌*◌}
use lib.ListN.{get_or, replicate}
use Rattle.counting.proofs.Loops.{Filled}
use Rattle.tally.specs.Tally.{confidence_at}
use Rattle.gradecast.proofs.hall.Hall.confidences_of.Given as goal

abbrev pub invariant-loop-p : goal.invariant-loop-p
invariant-loop-p l =
    Filled (l.self.settings.n * l.self.settings.n) (λ q. confidence_at l.self.settings.t (get_or l.supports q 0))
    (replicate 169 0) l.p l.out
