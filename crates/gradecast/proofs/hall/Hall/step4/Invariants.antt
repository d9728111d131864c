-- `Hall::step4` meets its contract: after i turns the grades of the boxes below i are put, and what every box hears
-- alike is there, as it was put down before the first. Assumes nothing.
use Rattle.gradecast.specs.Inside.{PlainHeard}
use Rattle.gradecast.specs.Seats.{rows_found, supports_found}
use Rattle.gradecast.proofs.Cells.{BoxesTo}
use Rattle.gradecast.proofs.hall.Hall.step4.Given as goal

abbrev pub invariant-loop-i : goal.invariant-loop-i
invariant-loop-i l = record {
  alike : PlainHeard l.self.settings l.self.lists.now l.third l.heard;
  put_rows : BoxesTo l.self.settings.n (rows_found l.self) l.i l.out.rows;
  put_supports : BoxesTo l.self.settings.n (supports_found l.self) l.i l.out.supports;
}
