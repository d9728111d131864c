-- `Hall::sent_in_step1` meets its contract: after j turns it has counted the sound boxes below j that have a row.
-- Assumes nothing.
use Rattle.counting.proofs.Loops.{Counted}
use Rattle.gradecast.specs.Inside.{sends_first}
use Rattle.gradecast.proofs.hall.Hall.sent_in_step1.Given as goal

abbrev pub invariant-loop-j : goal.invariant-loop-j
invariant-loop-j l = Counted l.self.settings.n (sends_first l.self.settings.faulty l.self.rows.now) l.j l.sent
