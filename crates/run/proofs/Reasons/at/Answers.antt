-- `run::Reasons::at` meets its contract: it reads the three parts in their order. Assumes nothing.
use mathlib.Core.Path.{refl}
use Rattle.run.specs.Iteration.{reason_in, reason_from}
use Rattle.run.proofs.Reasons.at.Goals as goal

pub returns : goal.returns
unfolding reason_in reason_from
returns c = refl
