-- `making::no_text` meets its contract: field by field it is the definition, which the check opens. Its contract
-- admits one reply. Assumes nothing.
use mathlib.Core.Path.{◌≡◌, sym, ◌∙◌}
use Rattle.making.proofs.no_text.Reads as Reads

-- the contract admits one reply
pub only_one : (κs : _) (a : _) (r s : _) (x y : _) → Reads.Post κs a r x → Reads.Post κs a s y → r ≡ s
only_one κs a r s x y p q = p ∙ sym q
