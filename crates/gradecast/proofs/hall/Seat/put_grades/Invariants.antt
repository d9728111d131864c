-- `Seat::put_grades` meets its contract: after k turns the grades of the leaders below k are put, their rows and their
-- supports. Assumes nothing.
use Rattle.gradecast.specs.Inside.{PutTo}
use Rattle.gradecast.specs.Seats.{row_by, support_by}
use Rattle.gradecast.proofs.hall.Seat.put_grades.Given as goal

abbrev pub invariant-loop-k : goal.invariant-loop-k
invariant-loop-k l = record {
  put_rows : PutTo l.self.hall.settings.n l.self.i l.k (row_by l.self l.heard) l.initial.out.rows l.out.rows;
  put_supports : PutTo l.self.hall.settings.n l.self.i l.k (λ m. support_by l.self l.heard m l.echoes)
      l.initial.out.supports l.out.supports;
}
