-- `run::check_setting` meets its contract: it makes the tests of refusals 4, 5 and 6 in their order. Assumes nothing.
use mathlib.Core.Path.{◌≡◌}
use borrow.Author.Rules.{rules}
use Rattle.std.proofs.Common.{arith}
use Rattle.std.proofs.lemmas.Bool.Decides.{nat_tests}
use Rattle.counting.specs.Refuse.{first_of}
use Rattle.sizes.specs.Numbers.{refusal_in}
use Rattle.sizes.specs.Sizes.{size_refusal}
use Rattle.sizes.proofs.Numbers.{named}
use Rattle.run.specs.Inside.{setting_refusal}
use Rattle.run.proofs.check_setting.Goals as goal

pub returns-in_err-check_size : goal.returns-in_err-check_size
unfolding size_refusal setting_refusal first_of
returns-in_err-check_size c =
    let e : refusal_in c.from_residual.result ≡ refusal_in c.check_size.result = search rules in
    let n = named c.in_err-check_size.field-0.0 in
    grind (arith, nat_tests, e, n, c.in_err-check_size.ensures, c.check_size.ensures)

pub returns-then-is_stray : goal.returns-then-is_stray
unfolding size_refusal setting_refusal first_of
returns-then-is_stray c = grind (arith, nat_tests, c.in_ok-check_size.ensures)

pub returns : goal.returns
unfolding size_refusal setting_refusal first_of
returns c = grind (arith, nat_tests, c.in_ok-check_size.ensures)
