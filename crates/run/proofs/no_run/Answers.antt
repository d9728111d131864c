-- `run::no_run` meets its contract: each number is 0, and each array is made of zeros. Assumes nothing.
use mathlib.Core.Path.{◌≡◌, refl, sym, ◌∙◌}
use Rattle.run.specs.State.{no_reasons, zeros}
use Rattle.run.proofs.no_run.Reads as Reads
use Rattle.run.proofs.no_run.Goals as goal

-- the contract admits one reply
pub only_one : (κs : _) (a : _) (r s : _) (x y : _) → Reads.Post κs a r x → Reads.Post κs a s y → r ≡ s
only_one κs a r s x y p q = p ∙ sym q

pub returns : goal.returns
unfolding zeros no_reasons
returns c = refl
