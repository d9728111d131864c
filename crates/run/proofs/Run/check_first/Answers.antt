-- `run::Run::check_first` meets its contract: it makes the tests of refusals 4, 5, 6 and 9 in their order, the last
-- over the first n of the 13 rows. Assumes nothing.
use mathlib.Core.Path.{◌≡◌, sym, ◌∙◌}
use Prim.Native.Nat.{◌≤◌}
use native.Mathlib.Omega.{arith}
use lib.ListN.{length}
use borrow.Author.Rules.{rules}
use Rattle.std.proofs.lemmas.Bool.Decides.{nat_tests}
use Rattle.counting.specs.Refuse.{first_of}
use Rattle.sizes.specs.Numbers.{refusal_in}
use Rattle.sizes.specs.Sizes.{sound_zero}
use Rattle.sizes.proofs.Laws.{sound_zero_front}
use Rattle.sizes.proofs.Numbers.{named}
use Rattle.run.specs.Inside.{setting_refusal, first_refusal}
use Rattle.run.proofs.Refusals.{setting_passes}
use Rattle.run.proofs.Run.check_first.Goals as goal
use Rattle.run.proofs.Run.check_first.Goals.{After-has_sound_zero}

-- the state has 13 rows, so that the first n are there
few : (c : After-has_sound_zero) → c.args.self.now.n ≤ length c.args.self.now.rows
few c =
    let high = (setting_passes _ _ _ (sym c.in_ok-check_setting.ensures)).high in
    let l : length c.args.self.now.rows ≡ 13 = search rules in
    omega (arith, high, l)

-- the test of the first n rows is that of n rows
zero_is : (c : After-has_sound_zero) →
    let s = c.args.self.now in
    c.has_sound_zero.result ≡ sound_zero s.n s.faulty s.rows
zero_is c = c.has_sound_zero.ensures ∙ sound_zero_front _ _ _ (few c)

pub returns-in_err-check_setting : goal.returns-in_err-check_setting
unfolding setting_refusal first_refusal first_of
returns-in_err-check_setting c =
    let e : refusal_in c.from_residual.result ≡ refusal_in c.check_setting.result = search rules in
    let n = named c.in_err-check_setting.field-0.0 in
    grind (arith, nat_tests, e, n, c.in_err-check_setting.ensures, c.check_setting.ensures)

pub shared_ref_as_front-has_sound_zero : goal.shared_ref_as_front-has_sound_zero
shared_ref_as_front-has_sound_zero c = (setting_passes _ _ _ (sym c.in_ok-check_setting.ensures)).high

pub returns-then-has_sound_zero : goal.returns-then-has_sound_zero
unfolding setting_refusal first_refusal first_of
returns-then-has_sound_zero c =
    let zero = zero_is (goal.at.returns-then-has_sound_zero c).After-has_sound_zero in
    grind (arith, nat_tests, zero, c.in_ok-check_setting.ensures)

pub returns : goal.returns
unfolding setting_refusal first_refusal first_of
returns c =
    let zero = zero_is (goal.at.returns c).After-has_sound_zero in
    grind (arith, nat_tests, zero, c.in_ok-check_setting.ensures)
