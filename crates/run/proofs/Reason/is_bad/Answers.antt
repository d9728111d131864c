-- `run::Reason::is_bad` meets its contract: the tests of refusal 14 for a listed box are made one after another, and
-- the last is that of the support. Assumes nothing.
use mathlib.Core.Path.{ap, ◌∙◌}
use mathlib.Core.Bool.{not}
use Prim.Native.Nat.{ℕ}
use lib.Dec.{eqb}
use Rattle.std.proofs.Common.{arith}
use Rattle.std.proofs.lemmas.Bool.Decides.{nat_tests}
use Rattle.run.specs.State.{bad_reason, without_iteration, unlisted, not_yet_done, confidence_above1}
use Rattle.run.proofs.Listings.{bad_by_fit}
use Rattle.run.proofs.Reason.is_bad.Goals as goal

pub returns-then-self-gt1 : goal.returns-then-self-gt1
unfolding bad_reason without_iteration unlisted not_yet_done confidence_above1
returns-then-self-gt1 c = grind (arith, nat_tests)

pub returns-else-self-gt1 : goal.returns-else-self-gt1
returns-else-self-gt1 c =
    let p = c.if-self-gt1.false in
    ap (λ (m : ℕ). not (eqb m c.args.self.confidence)) c.confidence_at.ensures ∙ bad_by_fit _ _ _ p.0 p.1 p.2
