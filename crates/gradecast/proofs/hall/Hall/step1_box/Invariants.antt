-- `Hall::step1_box` meets its contract: a faulty box's cells are 0 as they stand; for a sound box the first k are put
-- after k turns. Assumes nothing.
use Rattle.gradecast.specs.Steps.{heard1}
use Rattle.gradecast.specs.Inside.{PutTo}
use Rattle.gradecast.proofs.hall.Hall.step1_box.Given as goal

abbrev pub invariant-loop-k : goal.invariant-loop-k
invariant-loop-k l =
    PutTo l.n l.i l.k
    (heard1 l.n l.self.settings.faulty l.self.rows.now l.self.lists.now l.self.table.now l.i) l.initial.out l.out
