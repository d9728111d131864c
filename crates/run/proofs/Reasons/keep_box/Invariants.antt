-- `run::Reasons::keep_box`: the places of box i are looked at one by one, and after k turns the first k hold what they
-- should.
use Rattle.run.specs.Inside.{cell_of}
use Rattle.run.proofs.Keep.{SoFar}
use Rattle.run.proofs.Reasons.keep_box.Given as goal

abbrev pub invariant-loop-k : goal.invariant-loop-k
invariant-loop-k l =
    SoFar l.j (λ a b. l.j.iteration) l.i l.initial.self.iterations l.k l.self.iterations ×
    SoFar l.j (cell_of l.j.n l.cast.confidences) l.i l.initial.self.confidences l.k l.self.confidences ×
    SoFar l.j (cell_of l.j.n l.cast.supports) l.i l.initial.self.supports l.k l.self.supports
