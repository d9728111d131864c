-- After i turns the first i places hold the counted rows of the leaders below i.
use mathlib.Core.Bool.{cond}
use lib.Dec.{eqb}
use lib.ListN.{length, get_or, replicate}
use Rattle.counting.proofs.Loops.{Filled}
use Rattle.tally.proofs.counted_rows.Given as goal

abbrev pub invariant-loop-i : goal.invariant-loop-i
invariant-loop-i l =
    Filled (length l.rows) (λ k. cond (eqb (get_or l.confidences k 0) 0) 0 (get_or l.rows k 0))
    (replicate 13 0) l.i l.out
