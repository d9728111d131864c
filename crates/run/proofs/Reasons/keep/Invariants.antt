-- `run::Reasons::keep`: after i turns the places of the first i boxes hold what they should.
use Rattle.run.specs.Inside.{cell_of}
use Rattle.run.proofs.Keep.{Boxes}
use Rattle.run.proofs.Reasons.keep.Given as goal

abbrev pub invariant-loop-i : goal.invariant-loop-i
invariant-loop-i l =
    Boxes l.j (λ a b. l.j.iteration) l.initial.self.iterations l.i l.self.iterations ×
    Boxes l.j (cell_of l.j.n l.cast.confidences) l.initial.self.confidences l.i l.self.confidences ×
    Boxes l.j (cell_of l.j.n l.cast.supports) l.initial.self.supports l.i l.self.supports
