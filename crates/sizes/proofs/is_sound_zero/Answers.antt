-- `sizes::is_sound_zero` meets its contract: a faulty box is passed over, and a sound one by its row. Assumes nothing.
use mathlib.Core.Path.{◌≡◌, refl, sym, ◌∙◌}
use Rattle.sizes.specs.Sizes.{sound}
use Rattle.sizes.proofs.is_sound_zero.Reads as Reads
use Rattle.sizes.proofs.is_sound_zero.Goals as goal

-- the contract admits one reply
pub only_one : (κs : _) (a : _) (r s : _) (x y : _) → Reads.Post κs a r x → Reads.Post κs a s y → r ≡ s
only_one κs a r s x y p q = p ∙ sym q

pub returns-then-not-is_member : goal.returns-then-not-is_member
unfolding sound
returns-then-not-is_member c = rw (← c.if-not-is_member.ensures) refl

pub returns-else-not-is_member : goal.returns-else-not-is_member
unfolding sound
returns-else-not-is_member c = rw (c.if-not-is_member.false, ← c.if-not-is_member.ensures) refl
