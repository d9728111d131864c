-- `tally::confidence_at` meets its contract: it makes the tests of step 4 in their order. Assumes nothing.
use mathlib.Core.Path.{◌≡◌, refl, sym, ◌∙◌}
use native.Mathlib.Omega.{arith}
use borrow.Author.Tests.{le-leb, lt-leb, lt-ltb, le-ltb}
use Rattle.tally.specs.Tally.{confidence_at}
use Rattle.tally.proofs.confidence_at.Reads as Reads
use Rattle.tally.proofs.confidence_at.Goals as goal

-- the contract admits one reply
pub only_one : (κs : _) (a : _) (r s : _) (x y : _) → Reads.Post κs a r x → Reads.Post κs a s y → r ≡ s
only_one κs a r s x y p q = p ∙ sym q

pub returns-then-t-support : goal.returns-then-t-support
unfolding confidence_at
returns-then-t-support c = rw (le-leb _ _ c.if-t-support.true) refl

pub returns-then-t-support-2 : goal.returns-then-t-support-2
unfolding confidence_at
returns-then-t-support-2 c =
    let a = c.args in
    let more = lt-ltb a.t a.support (omega (arith, c.if-t-support-2.true)) in
    rw (lt-leb _ _ c.if-t-support.false, more) refl

pub returns : goal.returns
unfolding confidence_at
returns c =
    let a = c.args in
    let few = le-ltb a.t a.support (omega (arith, c.if-t-support-2.false)) in
    rw (lt-leb _ _ c.if-t-support.false, few) refl
