-- None of the rows that were looked at is carried; they are among the first t + 1.
use Prim.Native.Nat.{◌+◌}
use lib.ListN.{get_or}
use Rattle.counting.proofs.Loops.{NoneYet}
use Rattle.tally.specs.Tally.{carried}
use Rattle.tally.proofs.vote_of.Given as goal

abbrev pub invariant-loop-row : goal.invariant-loop-row
invariant-loop-row l = NoneYet (l.t + 1) (λ k. carried l.t l.rows (get_or l.rows k 0)) l.row-index
