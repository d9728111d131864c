-- `run::Run::check_iterate` meets its contract: it makes the tests of refusals 4, 5, 6, 9, 11, 12 and 14 in their
-- order. Assumes nothing.
use mathlib.Core.Path.{◌≡◌, sym, ◌∙◌}
use native.Mathlib.Omega.{arith}
use borrow.Author.Rules.{rules}
use Rattle.std.proofs.lemmas.Bool.Decides.{nat_tests}
use Rattle.counting.specs.Refuse.{first_of}
use Rattle.sizes.specs.Numbers.{refusal_in}
use Rattle.sizes.specs.Sizes.{table_rows}
use Rattle.sizes.proofs.Laws.{by_n_inside}
use Rattle.sizes.proofs.Numbers.{named}
use Rattle.run.specs.Inside.{first_refusal, late_refusal}
use Rattle.run.specs.State.{iterate_refusal}
use Rattle.run.proofs.Refusals.{first_passes}
use Rattle.run.proofs.Run.check_iterate.Goals as goal
use Rattle.run.proofs.Run.check_iterate.Goals.{After-table_rows}

-- the rows of a table, by the table of constants
table_of : (c : After-table_rows) → c.table_rows.result ≡ table_rows c.args.self.now.n
table_of c =
    c.table_rows.ensures
    ∙ by_n_inside table_rows _ (first_passes _ (sym c.in_ok-check_first.ensures)).allowed.pass4

pub returns-in_err-check_first : goal.returns-in_err-check_first
unfolding first_refusal iterate_refusal first_of
returns-in_err-check_first c =
    let e : refusal_in c.from_residual.result ≡ refusal_in c.check_first.result = search rules in
    let n = named c.in_err-check_first.field-0.0 in
    grind (arith, nat_tests, e, n, c.in_err-check_first.ensures, c.check_first.ensures)

pub returns-then-table-table_rows : goal.returns-then-table-table_rows
unfolding first_refusal iterate_refusal first_of
returns-then-table-table_rows c =
    let rows = table_of (goal.at.returns-then-table-table_rows c).After-table_rows in
    grind (arith, nat_tests, rows, c.in_ok-check_first.ensures)

pub returns : goal.returns
unfolding first_refusal late_refusal iterate_refusal first_of
returns c =
    let rows = table_of (goal.at.returns c).After-table_rows in
    grind (arith, nat_tests, rows, c.in_ok-check_first.ensures, c.check_late.ensures)
