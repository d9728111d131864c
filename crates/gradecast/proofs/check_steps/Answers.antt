-- `gradecast::check_steps` meets its contract: it makes the tests of refusals 4, 5 and 11 in their order.
-- Assumes nothing.
use mathlib.Core.Path.{◌≡◌, sym, ◌∙◌}
use native.Mathlib.Omega.{arith}
use Rattle.sizes.specs.Numbers.{refusal_in}
use Rattle.sizes.proofs.Laws.{passes_sized}
use Rattle.sizes.proofs.Numbers.{named}
use Rattle.gradecast.proofs.Replies.{steps_fail, steps_cut, steps_pass}
use borrow.Author.Rules.{rules}
use Rattle.gradecast.proofs.check_steps.Goals as goal

pub returns-in_err-check_size : goal.returns-in_err-check_size
returns-in_err-check_size c =
    let e : refusal_in c.from_residual.result ≡ refusal_in c.check_size.result = search rules in
    e ∙ c.check_size.ensures ∙ steps_fail _ _ _ (λ z. named _ (c.in_err-check_size.ensures ∙ z))

pub overflow_cast-n : goal.overflow_cast-n
overflow_cast-n c = let a = c.args in omega (arith, passes_sized a.n a.t (sym c.in_ok-check_size.ensures))

pub returns-then-table-table_rows : goal.returns-then-table-table_rows
returns-then-table-table_rows c =
    steps_cut _ _ _ (sym c.in_ok-check_size.ensures) c.table_rows.ensures c.if-table-table_rows.true

pub returns : goal.returns
returns c = steps_pass _ _ _ (sym c.in_ok-check_size.ensures) c.table_rows.ensures c.if-table-table_rows.false
