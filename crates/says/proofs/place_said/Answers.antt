-- `says::place_said` meets its contract: the place is that of the step, whose numbers the slice has, and no step has
-- other numbers. Assumes nothing.
use Rattle.says.proofs.Named.{
  no_place,
  first_place,
  not_placed,
  later_placed,
  second_is,
  third_is,
  other_numbers,
}
use native.Mathlib.Omega.{arith}
use borrow.Author.Rules.{rules}
use Rattle.says.proofs.place_said.Goals as goal

pub returns-in-len5 : goal.returns-in-len5
returns-in-len5 c = first_place _ _ c.if-step-eq1.true (omega arith) _ c.pair.ensures

pub returns-in_err-triple-in-len6 : goal.returns-in_err-triple-in-len6
returns-in_err-triple-in-len6 c =
    no_place _ _ _ (search rules)
    (not_placed _ _ (omega (arith, c.if-step-eq2.true)) c.in_err-triple-in-len6.ensures)

pub returns-in_err-triple-in-len6-2 : goal.returns-in_err-triple-in-len6-2
returns-in_err-triple-in-len6-2 c =
    no_place _ _ _ (search rules)
    (not_placed _ _ (omega (arith, c.if-step-eq3.true)) c.in_err-triple-in-len6-2.ensures)

pub returns-in_ok-triple-in-len6 : goal.returns-in_ok-triple-in-len6
returns-in_ok-triple-in-len6 c =
    let e = c.in_ok-triple-in-len6.ensures in
    let two = c.if-step-eq2.true in (
      later_placed _ _ (omega (arith, two)) (omega (arith, two)) (omega arith) (e.0, e.1, e.2),
      second_is _ _ _ two e.3,
    )

pub returns-in_ok-triple-in-len6-2 : goal.returns-in_ok-triple-in-len6-2
returns-in_ok-triple-in-len6-2 c =
    let e = c.in_ok-triple-in-len6-2.ensures in
    let three = c.if-step-eq3.true in (
      later_placed _ _ (omega (arith, three)) (omega (arith, three)) (omega arith) (e.0, e.1, e.2),
      third_is _ _ _ three e.3,
    )

pub returns-in_default : goal.returns-in_default
returns-in_default c =
    other_numbers _ _ (λ l s. omega (arith, l)) (λ l s. omega (arith, l)) (λ l s. omega (arith, l))

pub returns-in_default-2 : goal.returns-in_default-2
returns-in_default-2 c =
    other_numbers _ _ (λ l s. c.if-step-eq1.false s) (λ l s. omega (arith, l)) (λ l s. omega (arith, l))

pub returns-in_default-3 : goal.returns-in_default-3
returns-in_default-3 c =
    other_numbers _ _ (λ l s. omega (arith, l)) (λ l s. c.if-step-eq2.false s) (λ l s. c.if-step-eq3.false s)

pub returns-in_default-4 : goal.returns-in_default-4
returns-in_default-4 c =
    other_numbers _ _ (λ l s. omega (arith, l)) (λ l s. omega (arith, l)) (λ l s. omega (arith, l))
