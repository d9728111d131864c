-- `run::Reasons::count_kept`: after p turns those of the first p places are counted.
use Rattle.counting.proofs.Loops.{Counted}
use Rattle.run.specs.Iteration.{reason_in}
use Rattle.run.specs.State.{kept}
use Rattle.run.proofs.Reasons.count_kept.Given as goal

abbrev pub invariant-loop-p : goal.invariant-loop-p
invariant-loop-p l = Counted 169 (λ p. kept (reason_in l.self p)) l.p l.found
