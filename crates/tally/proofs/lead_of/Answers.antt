-- `tally::lead_of` meets its contract: a turn makes the lead that of one row more. A lead with more than half of the
-- places is the best of all, and so is one with more places than are left. Assumes nothing.
use mathlib.Core.Path.{◌≡◌, refl}
use Prim.Native.Nat.{◌+◌}
use native.Mathlib.Omega.{arith}
use lib.ListN.{length}
use Rattle.counting.specs.Most.{best, most, support}
use Rattle.tally.specs.Inside.{lead_of}
use Rattle.tally.proofs.Leads.{lead_turn, own_lead, lead_most, lead_early}
use borrow.Author.Rules.{rules}
use Rattle.tally.proofs.lead_of.Goals as goal
use Rattle.tally.proofs.lead_of.Goals.{After-ahead-lead}

-- the lead is the best of one row more
next_lead : (c : After-ahead-lead) →
    let rows = c.args.rows.now in c.ahead-lead.result ≡ lead_of rows (best rows (c.loop-i.i + 1))
next_lead c = lead_turn _ _ _ _ c.loop-i.invariant.1 c.ahead-lead.ensures

pub loop-i-init : goal.loop-i-init
unfolding lead_of best support
loop-i-init c = (search rules, refl)

pub ahead-lead-requires : goal.ahead-lead-requires
ahead-lead-requires c = own_lead _ _ _ c.loop-i.invariant.1

pub returns-then-rows-lead : goal.returns-then-rows-lead
returns-then-rows-lead c =
    lead_most _ _ (own_lead _ _ _ (next_lead (goal.at.returns-then-rows-lead c).After-ahead-lead)) c.if-rows-lead.true

pub returns-then-rows-i : goal.returns-then-rows-i
returns-then-rows-i c =
    let turn = (goal.at.returns-then-rows-i c).After-ahead-lead in
    lead_early _ _ _ (next_lead turn) (omega arith) (omega (arith, c.if-rows-i.true))

pub loop-i-preserved : goal.loop-i-preserved
loop-i-preserved c =
    let turn = (goal.at.loop-i-preserved c).After-ahead-lead in
    (search rules, next_lead turn)

pub returns : goal.returns
unfolding most
returns c =
    let whole : c.loop-i.i ≡ length c.args.rows.now = omega arith in
    rw (← whole) c.loop-i.invariant.1
