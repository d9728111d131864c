-- `Hall::hear_plain` meets its contract: after j turns what the senders below j say is put down. Assumes nothing.
use Rattle.gradecast.specs.Inside.{SendersTo, said_by}
use Rattle.gradecast.proofs.hall.Hall.hear_plain.Given as goal

abbrev pub invariant-loop-j : goal.invariant-loop-j
invariant-loop-j l = SendersTo l.self.settings.n l.j (said_by l.self.settings.n l.said) l.heard
