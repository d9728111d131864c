-- Inside 1 to 13 the table by n is the formula. Assumes nothing.
use mathlib.Core.Path.{◌∙◌}
use Rattle.sizes.specs.Sizes.{table_rows}
use Rattle.sizes.proofs.Laws.{by_n_inside}
use Rattle.runfile.proofs.Boxes.table_rows.Goals as goal

pub returns : goal.returns
returns c = c.table_rows.ensures ∙ by_n_inside table_rows c.args.self.n c.args.self.inside
