-- The places that were looked at and hold v are counted.
use lib.Dec.{eqb}
use lib.ListN.{length, get_or}
use Rattle.counting.proofs.Loops.{Counted}
use Rattle.tally.proofs.places_of.Given as goal

abbrev pub invariant-loop-row : goal.invariant-loop-row
invariant-loop-row l = Counted (length l.rows) (λ k. eqb (get_or l.rows k 0) l.v) l.row-index l.found
