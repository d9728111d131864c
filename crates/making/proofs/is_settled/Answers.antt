-- `making::is_settled` meets its contract: it asks of the unfinished line what the definition asks, and the check
-- opens that. Its contract admits one reply. Assumes nothing.
use mathlib.Core.Path.{◌≡◌, sym, ◌∙◌}
use Rattle.making.proofs.is_settled.Reads as Reads

-- the contract admits one reply
pub only_one : (κs : _) (a : _) (r s : _) (x y : _) → Reads.Post κs a r x → Reads.Post κs a s y → r ≡ s
only_one κs a r s x y p q = p ∙ sym q
