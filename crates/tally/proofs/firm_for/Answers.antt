-- `tally::firm_for` meets its contract: a turn counts one more leader, by 1 or by 0, and at the end all are counted.
-- Assumes nothing.
use native.Mathlib.Omega.{arith}
use Rattle.counting.proofs.Loops.{count_begins, counts, counts_few, count_ends}
use Rattle.tally.specs.Tally.{firm_for}
use borrow.Author.Rules.{rules}
use mathlib.Core.Path.{◌≡◌, ap, ◌∙◌}
use mir.Val.{bool_byte}
use Rattle.counting.proofs.Bools.{bool_number}
use mathlib.Core.Bool.{cond, ◌&&◌}
use lib.Dec.{eqb}
use lib.ListN.{get_or}
use Rattle.tally.proofs.firm_for.Goals as goal
use Rattle.tally.proofs.firm_for.Goals.{After-from-firm}

-- a firm leader counts 1
firm_number : (c : After-from-firm) →
    let a = c.args in
    let k = c.loop-i.i in
    c.from-firm.result ≡ cond (eqb (get_or a.confidences.now k 0) 2 && eqb (get_or a.rows.now k 0) a.chosen) 1 0
firm_number c = c.from-firm.ensures ∙ ap bool_byte c.is_firm.ensures ∙ bool_number _

pub loop-i-init : goal.loop-i-init
loop-i-init c = count_begins _

pub overflow_add-firm : goal.overflow_add-firm
overflow_add-firm c =
    let so_far = c.loop-i.invariant in
    omega (arith, so_far.0, counts_few _ so_far (firm_number c))

pub loop-i-preserved : goal.loop-i-preserved
loop-i-preserved c = counts _ (search rules) (search rules) (firm_number c)

pub returns : goal.returns
unfolding firm_for
returns c = count_ends _ c.loop-i.invariant (omega arith)
