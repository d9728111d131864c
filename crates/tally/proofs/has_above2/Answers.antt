-- `tally::has_above2` meets its contract: a turn ends the search at a confidence above 2, and where none is found all
-- were looked at. Assumes nothing.
use native.Mathlib.Omega.{arith}
use Rattle.counting.proofs.Loops.{search_begins, search_turn, search_hits, search_ends}
use Rattle.tally.specs.Tally.{above2}
use borrow.Author.Rules.{rules}
use Rattle.tally.proofs.has_above2.Goals as goal

pub loop-confidence-init : goal.loop-confidence-init
loop-confidence-init c = search_begins _

pub returns-then-is_above2 : goal.returns-then-is_above2
unfolding above2
returns-then-is_above2 c = search_hits _ (search rules) c.is_above2.ensures c.if-is_above2.true

pub loop-confidence-preserved : goal.loop-confidence-preserved
loop-confidence-preserved c =
    search_turn _ (search rules) (search rules) c.is_above2.ensures c.if-is_above2.false

pub returns : goal.returns
unfolding above2
returns c = search_ends _ c.loop-confidence.invariant (omega arith)
