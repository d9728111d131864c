-- `sizes::check_size` meets its contract: it makes the tests of refusals 4 and 5 in their order. Assumes nothing.
use mathlib.Core.Path.{◌≡◌, sym, ◌∙◌}
use borrow.Author.Rules.{rules}
use Rattle.counting.specs.Refuse.{first_of}
use Rattle.counting.proofs.Refuse.{refused, passed}
use Rattle.sizes.proofs.Laws.{inside, outside_low, outside_high, tolerated, not_tolerated}
use Rattle.sizes.proofs.Numbers.{same_test}
use Rattle.sizes.specs.Sizes.{size_refusal}
use Rattle.sizes.proofs.check_size.Reads as Reads
use Rattle.sizes.proofs.check_size.Goals as goal

-- the contract admits one reply
pub only_one : (κs : _) (a : _) (r s : _) (x y : _) → Reads.Post κs a r x → Reads.Post κs a s y → r ≡ s
only_one κs a r s x y p q = same_test r s (p ∙ sym q)

pub returns-then-n-lt1 : goal.returns-then-n-lt1
unfolding size_refusal
returns-then-n-lt1 c = sym (refused 4 _ (outside_low c.args.n c.if-n-lt1.true))

pub returns-then-above : goal.returns-then-above
unfolding size_refusal
returns-then-above c = sym (refused 4 _ (outside_high c.args.n c.if-above.true))

pub returns-then-n-from : goal.returns-then-n-from
unfolding size_refusal
returns-then-n-from c =
    sym
    (passed 4 _ (inside c.args.n (search rules) (search rules))
    ∙ refused 5 _
    (not_tolerated c.args.n c.args.t (search rules)))

pub returns : goal.returns
unfolding size_refusal first_of
returns c =
    rw (
      inside c.args.n (search rules) (search rules),
      tolerated c.args.n c.args.t (search rules),
    )
