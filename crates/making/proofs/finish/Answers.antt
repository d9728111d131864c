-- `making::finish` meets its contract: its cases are those of the definitions, which the check opens. Its contract
-- admits one reply. Assumes nothing.
use mathlib.Core.Path.{◌≡◌, sym, ◌∙◌}
use Rattle.making.proofs.finish.Reads as Reads

-- the contract admits one reply, and one last contents of the file
pub only_one : (κs : _) (a : _) (r s : _) (x y : _) → Reads.Post κs a r x → Reads.Post κs a s y →
    (r ≡ s) × (x.1.1.0.now ≡ y.1.1.0.now)
only_one κs a r s x y p q = (p.0 ∙ sym q.0, p.1 ∙ sym q.1)
