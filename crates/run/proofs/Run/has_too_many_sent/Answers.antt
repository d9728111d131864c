-- `run::Run::has_too_many_sent` meets its contract: its limit is the definition's. Assumes nothing.
use mathlib.Core.Path.{refl}
use Rattle.run.specs.State.{too_many_sent}
use Rattle.run.proofs.Run.has_too_many_sent.Goals as goal

pub returns : goal.returns
unfolding too_many_sent
returns c = rw (c.from.ensures, c.saturating_sub.ensures, c.from-n.ensures) refl
