-- `Hall::hear` meets its contract: nothing from a listed box, the table's row from a faulty one, else the box's
-- own row. Assumes nothing.
use mathlib.Core.Path.{◌≡◌, refl, sym, ◌∙◌}
use mathlib.Core.Bool.{true, false}
use Rattle.counting.specs.Sets.{member}
use Rattle.gradecast.specs.Steps.{hears, sends}
use Rattle.gradecast.proofs.hall.Hall.hear.Goals as goal
use Rattle.gradecast.proofs.hall.Hall.hear.Goals.{Else-is_member, Then-is_member-2}

-- what the tests say
not_listed : (c : Else-is_member) → let a = c.args in member a.list a.j ≡ false
not_listed c = sym c.is_member.ensures ∙ c.if-is_member.false

is_faulty : (c : Then-is_member-2) → let a = c.args in member a.self.settings.faulty a.j ≡ true
is_faulty c = sym c.is_member-2.ensures ∙ c.if-is_member-2.true

pub returns-then-is_member : goal.returns-then-is_member
unfolding hears sends
returns-then-is_member c = rw (sym c.is_member.ensures ∙ c.if-is_member.true) refl

pub returns-then-is_member-2 : goal.returns-then-is_member-2
unfolding hears sends
returns-then-is_member-2 c =
    let from = goal.at.returns-then-is_member-2 c in
    rw (not_listed from.Else-is_member, is_faulty from.Then-is_member-2) refl

pub returns : goal.returns
unfolding hears sends
returns c = rw (not_listed (goal.at.returns c).Else-is_member, sym c.is_member-2.ensures ∙ c.if-is_member-2.false) refl
