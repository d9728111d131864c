-- `run::Run::check_why` meets its contract: it makes the tests of refusals 4, 5, 6, 9, 14 and 15 in their order.
-- Assumes nothing.
use mathlib.Core.Path.{◌≡◌, sym, ◌∙◌}
use borrow.Author.Rules.{rules}
use Rattle.std.proofs.Common.{arith}
use Rattle.std.proofs.lemmas.Bool.Decides.{nat_tests}
use Rattle.counting.specs.Refuse.{first_of}
use Rattle.sizes.specs.Numbers.{refusal_in}
use Rattle.sizes.proofs.Numbers.{named}
use Rattle.run.specs.Inside.{first_refusal}
use Rattle.run.specs.Why.{why_refusal}
use Rattle.run.proofs.Refusals.{why_goes_on}
use Rattle.run.proofs.Run.check_why.Goals as goal

pub returns-in_err-check_first : goal.returns-in_err-check_first
unfolding first_refusal why_refusal first_of
returns-in_err-check_first c =
    let e : refusal_in c.from_residual.result ≡ refusal_in c.check_first.result = search rules in
    let n = named c.in_err-check_first.field-0.0 in
    grind (arith, nat_tests, e, n, c.in_err-check_first.ensures, c.check_first.ensures)

pub returns : goal.returns
returns c = c.check_asking.ensures ∙ sym (why_goes_on _ _ _ (sym c.in_ok-check_first.ensures))
