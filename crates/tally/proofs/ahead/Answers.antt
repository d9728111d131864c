-- `tally::ahead` meets its contract: nothing stands before itself; otherwise the two supports decide, and on a tie the
-- lower row. Assumes nothing.
use mathlib.Core.Path.{◌≡◌, sym, ◌∙◌}
use mathlib.Core.List.{List}
use Prim.Native.Nat.{ℕ}
use native.Mathlib.Omega.{arith}
use lib.Dec.{ltb}
use borrow.Author.Tests.{lt-ltb, le-ltb}
use Rattle.counting.specs.Most.{support, before}
use Rattle.counting.proofs.Most.{before_more, before_fewer, before_tie}
use Rattle.tally.proofs.Leads.{lead_support, keeps_lead, takes_lead}
use Rattle.tally.proofs.ahead.Goals as goal
use Rattle.tally.proofs.ahead.Goals.{After-support_of-support, Else-support-lead, Start}

-- where the support of v is known
abbrev rows_at : After-support_of-support → List ℕ
rows_at c = c.args.rows.now

-- the lead's support is its row's
own : (c : After-support_of-support) → c.args.lead.support ≡ support (rows_at c) c.args.lead.row
own c = lead_support _ _ c.args.v c.requires

-- with as much support the lower row is before the other
level : (c : After-support_of-support) → let a = c.args in a.lead.support ≡ c.support_of-support.result →
    before (rows_at c) a.lead.row a.v ≡ ltb a.v a.lead.row
level c e = before_tie _ _ _ (sym (own c) ∙ e ∙ c.support_of-support.ensures)

-- where neither has more
abbrev even_of : Else-support-lead → After-support_of-support
even_of c = (goal.at.Else-support-lead c).After-support_of-support

even : (c : Else-support-lead) → (even_of c).args.lead.support ≡ (even_of c).support_of-support.result
even c = omega (arith, c.if-lead-support.false, c.if-support-lead.false)

pub returns-then-lead-support : goal.returns-then-lead-support
returns-then-lead-support c =
    let f = (goal.at.returns-then-lead-support c).After-support_of-support in
    let s = f.support_of-support in
    takes_lead _ f.args.lead _ _ s.ensures
    (before_more _ _ _ (omega (arith, own f, s.ensures, c.if-lead-support.true)))

pub returns-then-support-lead : goal.returns-then-support-lead
returns-then-support-lead c =
    let f = (goal.at.returns-then-support-lead c).After-support_of-support in
    keeps_lead _ _ _ f.requires
    (before_fewer _ _ _ (omega (arith, own f, f.support_of-support.ensures, c.if-support-lead.true)))

pub returns-then-lower : goal.returns-then-lower
returns-then-lower c =
    let e = (goal.at.returns-then-lower c).Else-support-lead in
    let s = (even_of e).support_of-support in
    takes_lead _ (even_of e).args.lead _ _ s.ensures
    (level (even_of e) (even e) ∙ lt-ltb _ _ c.if-lower.true)

pub returns : goal.returns
returns c =
    let e = (goal.at.returns c).Else-support-lead in
    keeps_lead _ _ _ (even_of e).requires (level (even_of e) (even e) ∙ le-ltb _ _ c.if-lower.false)
