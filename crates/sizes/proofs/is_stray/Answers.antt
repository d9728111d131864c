-- `sizes::is_stray` meets its contract: a set shifted by n is 0 exactly where it is below 2 ^ n, and 16 bits are
-- below 2 ^ 16. Assumes nothing.
use mathlib.Core.Path.{◌≡◌, sym, ◌∙◌}
use borrow.Author.Tests.{le-ltb}
use Rattle.sizes.proofs.Laws.{shifted, no_stray}
use borrow.Author.Rules.{rules}
use Rattle.sizes.proofs.is_stray.Reads as Reads
use Rattle.sizes.proofs.is_stray.Goals as goal

-- the contract admits one reply
pub only_one : (κs : _) (a : _) (r s : _) (x y : _) → Reads.Post κs a r x → Reads.Post κs a s y → r ≡ s
only_one κs a r s x y p q = p ∙ sym q

pub returns-then-n-lt16 : goal.returns-then-n-lt16
returns-then-n-lt16 c = shifted _ _

pub returns-else-n-lt16 : goal.returns-else-n-lt16
returns-else-n-lt16 c =
    le-ltb _ 16 c.if-n-lt16.false ∙ sym (no_stray c.args.set c.args.n (search rules) c.if-n-lt16.false)
