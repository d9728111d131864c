-- Where the next number has no place in what is left, all the numbers have none in the room, for more numbers are no
-- shorter; once none is left, they have their place. Assumes nothing.
use mathlib.Core.Path.{◌≡◌, sym}
use Prim.Native.Nat.{◌+◌}
use native.Mathlib.Omega.{arith}
use lib.ListN.{length, get_or}
use borrow.Author.Tests.{lt-ltb}
use Rattle.lines.specs.Line.{field, fields}
use Rattle.lines.proofs.Decimal.{decimal_counted}
use Rattle.lines.proofs.Lines.{fields_longer, fields_more}
use borrow.Author.Rules.{rules}
use Rattle.lines.proofs.numbers_exceed.Goals as goal
use Rattle.lines.proofs.numbers_exceed.Goals.{After-decimal-more}

-- a space and the digits are what the number takes
more_of : (c : After-decimal-more) →
    1 + c.decimal-more.result ≡ length (field (get_or c.args.numbers.now c.loop-number.number-index 0))
unfolding field
more_of c =
    let told = c.decimal-more.ensures in
    let n = get_or c.args.numbers.now c.loop-number.number-index 0 in
    let size = c.decimal-more.result in
    omega (arith, decimal_counted n size c.decimal-more.new.out (told.in_bounds, (told.len, told.digits)))

pub loop-number-init : goal.loop-number-init
unfolding fields
loop-number-init c = search rules

pub returns-then-left-more : goal.returns-then-left-more
returns-then-left-more c =
    let numbers = c.args.numbers.now in
    let k = c.loop-number.number-index in
    sym
    (lt-ltb c.args.room (length (fields numbers (length numbers)))
    (omega (
      arith,
      more_of (goal.at.returns-then-left-more c).After-decimal-more,
      fields_longer numbers k,
      fields_more numbers (k + 1) (length numbers) (search rules),
    )))

pub loop-number-preserved : goal.loop-number-preserved
loop-number-preserved c =
    omega (
      arith,
      more_of (goal.at.loop-number-preserved c).After-decimal-more,
      fields_longer c.args.numbers.now c.loop-number.number-index,
    )
