-- `listing::tell` meets its contract: the last line stands behind the others, and together they are the listing.
-- Assumes nothing.
use mathlib.Core.Path.{ap, ◌∙◌}
use mathlib.Core.List.{List, ◌++◌}
use Prim.Native.Nat.{ℕ}
use Rattle.run.specs.declared.Run.{Run}
use Rattle.run.specs.declared.Next.{Next}
use Rattle.run.specs.State.{zeros}
use Rattle.listing.specs.Listing.{last_line}
use Rattle.listing.proofs.Whole.{outcome_sent, outcome_refused, with_last}
use Rattle.listing.proofs.tell.Goals as goal

pub returns-in-Ok-clause-outcome : goal.returns-in-Ok-clause-outcome
returns-in-Ok-clause-outcome c = outcome_sent _ _ c.in-Ok.ensures.ends

pub returns-in-Ok-clause-text : goal.returns-in-Ok-clause-text
returns-in-Ok-clause-text c =
    c.put_sent.ensures
    ∙ ap (λ (xs : List ℕ). xs ++ last_line 0 c.in-Ok.last.sent) c.in-Ok.ensures.text
    ∙ with_last _ _ (outcome_sent _ _ c.in-Ok.ensures.ends)

pub returns-in-Err-clause-outcome : goal.returns-in-Err-clause-outcome
returns-in-Err-clause-outcome c =
    ap {B = Next} (λ (s : Run). record { refusal = c.in-Err.refusal; run = s }) c.no_run.ensures
    ∙ outcome_refused _ _ c.in-Err.ensures.ends

pub returns-in-Err-clause-text : goal.returns-in-Err-clause-text
unfolding zeros
returns-in-Err-clause-text c =
    c.put_refused.ensures
    ∙ ap (λ (xs : List ℕ). xs ++ last_line c.in-Err.refusal 0) c.in-Err.ensures.text
    ∙ with_last _ _ (outcome_refused _ _ c.in-Err.ensures.ends)
