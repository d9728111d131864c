-- `tally::places_of` meets its contract: a turn counts one more place, by 1 or by 0, and at the end all are counted.
-- Assumes nothing.
use mathlib.Core.Path.{◌≡◌, ◌∙◌}
use mathlib.Core.Bool.{cond}
use Rattle.counting.proofs.Bools.{bool_number}
use lib.Dec.{eqb}
use lib.ListN.{get_or}
use native.Mathlib.Omega.{arith}
use Rattle.counting.specs.Most.{places}
use Rattle.counting.proofs.Loops.{count_begins, counts, counts_few, count_ends}
use borrow.Author.Rules.{rules}
use Rattle.tally.proofs.places_of.Goals as goal
use Rattle.tally.proofs.places_of.Goals.{After-from-found}

-- a place counts 1 where it holds v
one_more : (c : After-from-found) →
    c.from-found.result ≡ cond (eqb (get_or c.args.rows.now c.loop-row.row-index 0) c.args.v) 1 0
one_more c = c.from-found.ensures ∙ bool_number _

pub loop-row-init : goal.loop-row-init
loop-row-init c = count_begins _

pub overflow_add-found : goal.overflow_add-found
overflow_add-found c =
    let so_far = c.loop-row.invariant in
    omega (arith, so_far.0, counts_few _ so_far (one_more c))

pub loop-row-preserved : goal.loop-row-preserved
loop-row-preserved c = counts _ (search rules) (search rules) (one_more c)

pub returns : goal.returns
unfolding places
returns c = count_ends _ c.loop-row.invariant (omega arith)
