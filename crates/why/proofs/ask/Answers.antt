-- `why::ask` meets its contract: a file that is refused gives its refusal and no reason, and the last state of any
-- other is asked. Assumes nothing.
use mathlib.Core.Path.{◌∙◌}
use Rattle.run.specs.Iteration.{no_reason}
use Rattle.why.proofs.Answers.{after_refused, after_asked, why_of_lem}
use Rattle.why.proofs.ask.Goals as goal

pub returns-then-refused : goal.returns-then-refused
unfolding no_reason
returns-then-refused c =
    let a = c.args in
    after_refused c.outcome-last.result a.asked a.listed c.if-refused.true
    ∙ why_of_lem a.bytes.now a.asked a.listed _ c.outcome-last.ensures

pub returns : goal.returns
returns c =
    let a = c.args in
    c.why.ensures
    ∙ after_asked c.outcome-last.result a.asked a.listed c.if-refused.false
    ∙ why_of_lem a.bytes.now a.asked a.listed _ c.outcome-last.ensures
