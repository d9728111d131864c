-- `runfile::is_outside` meets its contract: the arms part the numbers at 1 and at 13. Assumes nothing.
use mathlib.Core.Path.{sym}
use Rattle.sizes.proofs.Laws.{inside, outside_low, outside_high}
use borrow.Author.Rules.{rules}
use Rattle.runfile.proofs.is_outside.Goals as goal

pub returns-in-1-to-13 : goal.returns-in-1-to-13
returns-in-1-to-13 c = sym (inside c.args.n (search rules) (search rules))

pub returns-in_default : goal.returns-in_default
returns-in_default c = sym (outside_low c.args.n (search rules))

pub returns-in_default-2 : goal.returns-in_default-2
returns-in_default-2 c = sym (outside_high c.args.n (search rules))
