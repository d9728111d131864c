-- `run::Reasons::count_kept` meets its contract: a turn adds 1 where something is kept. Assumes nothing.
use mathlib.Core.Path.{◌≡◌, refl, ap, ◌∙◌}
use mathlib.Core.Bool.{Bool, true, false, cond}
use native.Mathlib.Omega.{arith}
use mir.Val.{bool_byte}
use Rattle.counting.proofs.Loops.{count_begins, counts, counts_few}
use Rattle.run.specs.declared.Reason.{Reason}
use Rattle.run.specs.Iteration.{reason_in}
use Rattle.run.specs.State.{kept}
use Rattle.run.proofs.Reasons.count_kept.Goals as goal
use Rattle.run.proofs.Reasons.count_kept.Goals.{After-from-found}

-- what a turn adds
byte_is : (b : Bool) → bool_byte b ≡ cond b 1 0
byte_is true = refl
byte_is false = refl

is_one : (c : After-from-found) → c.from-found.result ≡ cond (kept (reason_in c.args.self.now c.loop-p.p)) 1 0
is_one c =
    c.from-found.ensures ∙ byte_is c.is_kept.result
    ∙ ap (λ (b : Bool). cond b 1 0) (c.is_kept.ensures ∙ ap (λ (r : Reason). kept r) c.at.ensures)

pub loop-p-init : goal.loop-p-init
loop-p-init c = count_begins _

pub overflow_add-found : goal.overflow_add-found
overflow_add-found c = omega (arith, counts_few _ c.loop-p.invariant (is_one c), c.loop-p-test.true)

pub loop-p-preserved : goal.loop-p-preserved
loop-p-preserved c = counts _ c.loop-p.invariant c.loop-p-test.true (is_one c)
