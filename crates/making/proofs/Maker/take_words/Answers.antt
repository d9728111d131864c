-- `making::Maker::take_words` meets its contract: the stage and the word pick the case of the definition. Assumes
-- nothing.
use mathlib.Core.Path.{ap, ◌∙◌}
use borrow.Author.Rules.{rules}
use Rattle.making.specs.declared.Maker.{Maker}
use Rattle.making.specs.Make.{progress, not_understood}
use Rattle.making.proofs.Named.{is_run, not_run, is_rows, not_rows, is_say, not_say}
use Rattle.making.proofs.Maker.take_words.Goals as goal

pub returns-in-0 : goal.returns-in-0
returns-in-0 c =
    let file = c.args.file.now in
    c.take_run.ensures file ∙ is_run (progress c.args.self file) _ _ c.in-0.is (search rules)

pub returns-in-0-2 : goal.returns-in-0-2
unfolding not_understood
returns-in-0-2 c =
    let file = c.args.file.now in
    ap (λ (m : Maker). progress m file) c.at_fault.ensures
    ∙ not_run (progress c.args.self file) _ _ c.in-0.is (search rules)

pub returns-in-1 : goal.returns-in-1
returns-in-1 c =
    c.take_rows.ensures ∙ is_rows (progress c.args.self c.args.file.now) _ _ c.in-1.is (search rules)

pub returns-in-1-2 : goal.returns-in-1-2
unfolding not_understood
returns-in-1-2 c =
    let file = c.args.file.now in
    ap (λ (m : Maker). progress m file) c.at_fault-in-1-2.ensures
    ∙ not_rows (progress c.args.self file) _ _ c.in-1.is (search rules)

pub returns-in_default : goal.returns-in_default
returns-in_default c =
    c.take_say.ensures
    ∙ is_say (progress c.args.self c.args.file.now) _ _ (search rules) (search rules) (search rules)

pub returns-in_default-2 : goal.returns-in_default-2
unfolding not_understood
returns-in_default-2 c =
    let file = c.args.file.now in
    ap (λ (m : Maker). progress m file) c.at_fault-in_default-2.ensures
    ∙ not_say (progress c.args.self file) _ _ (search rules) (search rules) (search rules)
