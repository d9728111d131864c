-- `Hall::vote_on` meets its contract: the test is whether leader k is asked, and the vote is over k's column.
-- Assumes nothing.
use mathlib.Core.Path.{sym, ap, ◌∙◌}
use Rattle.tally.specs.declared.Voted.{Voted}
use Rattle.gradecast.proofs.Asked.{on_counted, on_other}
use Rattle.gradecast.proofs.Columns.{column_vote}
use Rattle.gradecast.proofs.hall.Hall.vote_on.Goals as goal

pub returns-then-is_member : goal.returns-then-is_member
returns-then-is_member c =
    let a = c.args in
    ap (λ (r : Voted). r.row) c.vote.ensures
    ∙ column_vote a.self.settings a.self.size c.requires a.heard.now c.told-heard c.column.ensures
    ∙ sym (on_counted _ _ _ _ _ _ (sym c.is_member.ensures ∙ c.if-is_member.true))

pub returns : goal.returns
returns c = sym (on_other _ _ _ _ _ _ (sym c.is_member.ensures ∙ c.if-is_member.false))
