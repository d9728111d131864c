-- After i turns the leaders below i with confidence 2 that hold the chosen row are counted.
use mathlib.Core.Bool.{◌&&◌}
use lib.Dec.{eqb}
use lib.ListN.{length, get_or}
use Rattle.counting.proofs.Loops.{Counted}
use Rattle.tally.proofs.firm_for.Given as goal

abbrev pub invariant-loop-i : goal.invariant-loop-i
invariant-loop-i l =
    Counted (length l.rows) (λ k. eqb (get_or l.confidences k 0) 2 && eqb (get_or l.rows k 0) l.chosen) l.i l.firm
