-- `sizes::is_member` meets its contract: the code and the definition test the same bit, and from place 16 on there is
-- none. Assumes nothing.
use mathlib.Core.Path.{◌≡◌, sym, ◌∙◌}
use borrow.Author.Tests.{le-ltb}
use Rattle.counting.specs.Sets.{member}
use Rattle.sizes.proofs.Laws.{no_member}
use borrow.Author.Rules.{rules}
use Rattle.sizes.proofs.is_member.Reads as Reads
use Rattle.sizes.proofs.is_member.Goals as goal

-- the contract admits one reply
pub only_one : (κs : _) (a : _) (r s : _) (x y : _) → Reads.Post κs a r x → Reads.Post κs a s y → r ≡ s
only_one κs a r s x y p q = p ∙ sym q

pub returns-then-k-lt16 : goal.returns-then-k-lt16
unfolding member
returns-then-k-lt16 c = search rules

pub returns-else-k-lt16 : goal.returns-else-k-lt16
returns-else-k-lt16 c =
    le-ltb _ 16 c.if-k-lt16.false ∙ sym (no_member c.args.set c.args.k (search rules) c.if-k-lt16.false)
