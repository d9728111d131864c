-- `Hall::step1` meets its contract: after i turns the cells of the boxes below i are put. Assumes nothing.
use Rattle.gradecast.specs.Seats.{firsts}
use Rattle.gradecast.proofs.Cells.{BoxesTo}
use Rattle.gradecast.proofs.hall.Hall.step1.Given as goal

abbrev pub invariant-loop-i : goal.invariant-loop-i
invariant-loop-i l = BoxesTo l.self.settings.n (firsts l.self) l.i l.out
