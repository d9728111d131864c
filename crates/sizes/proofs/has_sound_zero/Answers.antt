-- `sizes::has_sound_zero` meets its contract: a turn ends the search at a sound box's zero row, and otherwise none of
-- the first k + 1 is one. Assumes nothing.
use native.Mathlib.Omega.{arith}
use Rattle.counting.proofs.Loops.{search_begins, search_turn, search_hits, search_ends}
use Rattle.sizes.specs.Sizes.{sound_zero}
use borrow.Author.Rules.{rules}
use mathlib.Core.Path.{◌≡◌, ◌∙◌, sym}
use Rattle.sizes.proofs.has_sound_zero.Reads as Reads
use Rattle.sizes.proofs.has_sound_zero.Goals as goal

-- the contract admits one reply
pub only_one : (κs : _) (a : _) (r s : _) (x y : _) → Reads.Post κs a r x → Reads.Post κs a s y → r ≡ s
only_one κs a r s x y p q = p ∙ sym q

pub loop-k-init : goal.loop-k-init
loop-k-init c = search_begins _

pub returns-then-is_sound_zero : goal.returns-then-is_sound_zero
unfolding sound_zero
returns-then-is_sound_zero c = search_hits _ (search rules) c.is_sound_zero.ensures c.if-is_sound_zero.true

pub loop-k-preserved : goal.loop-k-preserved
loop-k-preserved c =
    search_turn _ (search rules) (search rules) c.is_sound_zero.ensures c.if-is_sound_zero.false

pub returns : goal.returns
unfolding sound_zero
returns c = search_ends _ c.loop-k.invariant (omega arith)
