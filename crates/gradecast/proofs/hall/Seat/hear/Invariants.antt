-- `Seat::hear` meets its contract: after j turns all that the box hears from the senders below j is there. What the
-- senders say that are neither faulty nor listed is there all along, and is what the box hears from them; the rows of
-- any other sender are put down and leave those as they are. Where the step counts, the echoes of those that are gone
-- through are counted. Assumes nothing.
use mathlib.Core.Path.{◌≡◌}
use mathlib.Core.Bool.{true, not}
use lib.Dec.{eqb}
use Rattle.gradecast.specs.Inside.{SendersTo, echoes_of}
use Rattle.gradecast.specs.Seats.{Alike, heard_by, said_here}
use Rattle.gradecast.proofs.hall.Seat.hear.Given as goal

abbrev pub invariant-loop-j : goal.invariant-loop-j
invariant-loop-j g l = record {
  heard_so_far : SendersTo l.self.hall.settings.n l.j (heard_by l.self) l.heard;
  alike : Alike l.self l.heard;
  counted : not (eqb g.row.COUNTS 0) ≡ true → l.echoes ≡ echoes_of (said_here l.self) (heard_by l.self)
      l.self.hall.odd l.self.hall.settings.n l.j;
}
