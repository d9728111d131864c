-- `run::Run::why` meets its contract: it refuses with no reason, and otherwise reads the three parts at the place of
-- the two boxes. Assumes nothing.
use mathlib.Core.Path.{◌≡◌, sym, ◌∙◌}
use Prim.Native.Nat.{◌≤◌}
use native.Mathlib.Omega.{arith}
use Rattle.sizes.proofs.Laws.{inside_high}
use Rattle.sizes.proofs.Numbers.{named}
use Rattle.run.specs.Iteration.{no_reason, reason_at}
use Rattle.run.proofs.Accepted.{is_askable, is_number}
use Rattle.run.proofs.Refusals.{why_refused, why_taken}
use Rattle.run.proofs.Run.why.Reads as Reads
use Rattle.run.proofs.Run.why.Goals as goal
use Rattle.run.proofs.Run.why.Goals.{In_default}

-- where the question is not refused both numbers are 1 to 13, so the place is one of the 169
bounds : (c : In_default) → let a = c.args in (1 ≤ a.asked) × (a.asked ≤ 13) × (1 ≤ a.listed) × (a.listed ≤ 13)
bounds c =
    let t = is_askable _ _ _ (sym c.in_default.ensures) in
    let high = inside_high _ t.legal.pass4 in
    let one = is_number t.asked_box in
    let two = is_number t.listed_box in
    (one.0, omega (arith, one.1, high), two.0, omega (arith, two.1, high))

-- the contract admits one reply
pub only_one : (κs : _) (a : _) (r s : _) (x y : _) → Reads.Post κs a r x → Reads.Post κs a s y → r ≡ s
only_one κs a r s x y p q = p ∙ sym q

pub returns-in-Err : goal.returns-in-Err
unfolding no_reason
returns-in-Err c =
    let e = c.from.ensures in
    why_refused _ _ _ _ (e ∙ c.in-Err.ensures) (λ z. named _ (sym e ∙ z))

pub overflow_sub-place : goal.overflow_sub-place
overflow_sub-place c = let b = bounds c in omega (arith, b.0, b.2)

pub overflow_mul-place : goal.overflow_mul-place
overflow_mul-place c = let b = bounds c in omega (arith, b.0, b.1, b.2, b.3)

pub overflow_sub-place-2 : goal.overflow_sub-place-2
overflow_sub-place-2 c = let b = bounds c in omega (arith, b.0, b.2)

pub overflow_add-place : goal.overflow_add-place
overflow_add-place c = let b = bounds c in omega (arith, b.0, b.1, b.2, b.3)

pub at-requires : goal.at-requires
at-requires c = let b = bounds (goal.at.at-requires c).In_default in omega (arith, b.0, b.1, b.2, b.3)

pub returns : goal.returns
unfolding reason_at
returns c = why_taken _ _ _ _ (sym c.in_default.ensures) c.at.ensures
