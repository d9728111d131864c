-- `run::check_start` meets its contract: it makes the tests of refusals 4, 5, 6, 11 and 9 in their order.
-- Assumes nothing.
use mathlib.Core.Path.{◌≡◌}
use borrow.Author.Rules.{rules}
use Rattle.std.proofs.Common.{arith}
use Rattle.std.proofs.lemmas.Bool.Decides.{nat_tests}
use Rattle.counting.specs.Refuse.{first_of}
use Rattle.sizes.specs.Numbers.{refusal_in}
use Rattle.sizes.proofs.Numbers.{named}
use Rattle.run.specs.Inside.{setting_refusal}
use Rattle.run.specs.State.{start_refusal}
use Rattle.run.proofs.check_start.Goals as goal

pub returns-in_err-check_setting : goal.returns-in_err-check_setting
unfolding setting_refusal start_refusal first_of
returns-in_err-check_setting c =
    let e : refusal_in c.from_residual.result ≡ refusal_in c.check_setting.result = search rules in
    let n = named c.in_err-check_setting.field-0.0 in
    grind (arith, nat_tests, e, n, c.in_err-check_setting.ensures, c.check_setting.ensures)

pub returns-then-rows-n : goal.returns-then-rows-n
unfolding setting_refusal start_refusal first_of
returns-then-rows-n c = grind (arith, nat_tests, c.in_ok-check_setting.ensures)

pub returns-then-has_sound_zero : goal.returns-then-has_sound_zero
unfolding setting_refusal start_refusal first_of
returns-then-has_sound_zero c = grind (arith, nat_tests, c.in_ok-check_setting.ensures)

pub returns : goal.returns
unfolding setting_refusal start_refusal first_of
returns c = grind (arith, nat_tests, c.in_ok-check_setting.ensures)
