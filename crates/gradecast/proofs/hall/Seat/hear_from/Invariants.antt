-- `Seat::hear_from` meets its contract: after k turns what the box hears from j about the leaders below k is put down,
-- the other senders' rows stand as they did, and where the step counts, the echoes of the leaders below k are one more
-- where j says what the box said itself. Assumes nothing.
use mathlib.Core.Path.{◌≡◌}
use mathlib.Core.Bool.{true, not}
use lib.Dec.{eqb}
use Rattle.counting.proofs.Loops.{Filled}
use Rattle.gradecast.specs.Inside.{FromSender, one_more}
use Rattle.gradecast.specs.Seats.{heard_by, said_here}
use Rattle.gradecast.proofs.hall.Seat.hear_from.Given as goal

abbrev pub invariant-loop-k : goal.invariant-loop-k
invariant-loop-k g l = record {
  from_sender : FromSender l.self.hall.settings.n l.j l.k (λ m. heard_by l.self m l.j)
      l.initial.heard l.heard;
  counted : not (eqb g.row.COUNTS 0) ≡ true →
      Filled l.self.hall.settings.n (one_more (said_here l.self) (heard_by l.self) l.initial.echoes l.j)
      l.initial.echoes l.k l.echoes;
}
