-- `Hall::must_count` meets its contract: it makes the two tests in their order. Assumes nothing.
use mathlib.Core.Path.{refl, ◌∙◌}
use borrow.Author.Tests.{eq-eqb, ne_eqb}
use Rattle.gradecast.proofs.hall.Hall.must_count.Goals as goal

pub returns-then-silent : goal.returns-then-silent
returns-then-silent c = rw (eq-eqb _ 0 c.if-silent.true) refl

pub returns : goal.returns
returns c = c.is_member.ensures ∙ rw (ne_eqb _ 0 c.if-silent.false) refl
