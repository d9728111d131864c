-- `Hall::step3` meets its contract: after i turns the votes of the boxes below i are put, and what every box hears
-- alike is there, as it was put down before the first. Assumes nothing.
use Rattle.gradecast.specs.Inside.{PlainHeard}
use Rattle.gradecast.specs.Seats.{votes}
use Rattle.gradecast.proofs.Cells.{BoxesTo}
use Rattle.gradecast.proofs.hall.Hall.step3.Given as goal

abbrev pub invariant-loop-i : goal.invariant-loop-i
invariant-loop-i l = record {
  alike : PlainHeard l.self.settings l.self.lists.now l.second l.heard;
  put : BoxesTo l.self.settings.n (votes l.self) l.i l.out;
}
