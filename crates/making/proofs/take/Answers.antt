-- `making::take` meets its contract: its cases are those of the definition, which the check opens. Its contract
-- admits one reply. Assumes nothing.
use mathlib.Core.Path.{◌≡◌, sym, ap, ◌∙◌}
use Rattle.making.specs.Text.{Reading}
use Rattle.making.proofs.take.Reads as Reads

-- the contract admits one reply, and one last contents of each slice
pub only_one : (κs : _) (a : _) (r s : _) (x y : _) → Reads.Post κs a r x → Reads.Post κs a s y →
    (r ≡ s) × (x.1.1.0.now ≡ y.1.1.0.now) × (x.1.1.1.0.now ≡ y.1.1.1.0.now)
only_one κs a r s x y p q =
    let same = p ∙ sym q in
    (ap (λ (t : Reading). t.maker) same, ap (λ (t : Reading). t.line) same, ap (λ (t : Reading). t.file) same)
