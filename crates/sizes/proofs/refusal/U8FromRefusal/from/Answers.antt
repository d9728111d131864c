-- A refusal becomes its number: each arm gives what the definition gives. Assumes nothing.
use mathlib.Core.Path.{◌≡◌, sym, ◌∙◌}
use Rattle.sizes.proofs.refusal.U8FromRefusal.from.Reads as Reads

-- the contract admits one number
pub only_one : (κs : _) (a : _) (r s : _) (x y : _) → Reads.Post κs a r x → Reads.Post κs a s y → r ≡ s
only_one κs a r s x y p q = p ∙ sym q
