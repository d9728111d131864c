-- `says::place_of` meets its contract: where the sizes pass, the place may be asked for. Its contract admits one
-- reply. Assumes nothing.
use mathlib.Core.Path.{◌≡◌, sym, ◌∙◌}
use native.Mathlib.Omega.{arith}
use Rattle.sizes.proofs.Laws.{passes_sized}
use Rattle.says.proofs.place_of.Reads as Reads
use Rattle.says.proofs.place_of.Goals as goal

-- the contract admits one reply
pub only_one : (κs : _) (a : _) (r s : _) (x y : _) → Reads.Post κs a r x → Reads.Post κs a s y → r ≡ s
only_one κs a r s x y p q = p ∙ sym q

pub say_at-requires : goal.say_at-requires
say_at-requires c =
    let z = passes_sized _ _ (sym c.in_default.ensures) in
    (z.low, z.high, omega (arith, z.high, z.tolerated))
