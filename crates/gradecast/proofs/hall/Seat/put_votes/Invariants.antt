-- `Seat::put_votes` meets its contract: after k turns the votes on the leaders below k are put. Assumes nothing.
use Rattle.gradecast.specs.Inside.{PutTo}
use Rattle.gradecast.specs.Seats.{vote_by}
use Rattle.gradecast.proofs.hall.Seat.put_votes.Given as goal

abbrev pub invariant-loop-k : goal.invariant-loop-k
invariant-loop-k l = PutTo l.self.hall.settings.n l.self.i l.k (vote_by l.self l.heard) l.initial.out l.out
