-- `Line::of_why` meets its contract: a refusal, a box that is on no list and a reason have a line each. Assumes
-- nothing.
use mathlib.Core.Path.{sym, ◌∙◌}
use Rattle.why.proofs.Answers.{line_refused, line_not_listed, line_listed}
use Rattle.why.proofs.Line.of_why.Goals as goal

pub returns-then-w-ne0 : goal.returns-then-w-ne0
returns-then-w-ne0 c = c.of_refusal.ensures ∙ sym (line_refused _ c.if-w-ne0.true)

pub returns-then-w-eq0 : goal.returns-then-w-eq0
returns-then-w-eq0 c = c.not_listed.ensures ∙ sym (line_not_listed _ c.if-w-ne0.false c.if-w-eq0.true)

pub returns-else-w-eq0 : goal.returns-else-w-eq0
returns-else-w-eq0 c = c.of_reason.ensures ∙ sym (line_listed _ c.if-w-ne0.false c.if-w-eq0.false)
