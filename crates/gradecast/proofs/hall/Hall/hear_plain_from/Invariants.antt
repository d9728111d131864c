-- `Hall::hear_plain_from` meets its contract: after k turns what box j says about the leaders below k is put down, and
-- the other senders' rows stand as they did. Assumes nothing.
use Rattle.gradecast.specs.Inside.{FromSender, said_by}
use Rattle.gradecast.proofs.hall.Hall.hear_plain_from.Given as goal

abbrev pub invariant-loop-k : goal.invariant-loop-k
invariant-loop-k l =
    FromSender l.self.settings.n l.j l.k (λ m. said_by l.self.settings.n l.said m l.j) l.initial.heard l.heard
