-- `tally::vote` meets its contract: it refuses by 4 and 5, and a slice that passes them is never refused by 7.
-- Assumes nothing.
use mathlib.Core.Path.{◌≡◌, sym, ◌∙◌}
use Rattle.counting.proofs.Bools.{cond_false}
use Rattle.sizes.proofs.Laws.{passes_sized}
use Rattle.sizes.proofs.Numbers.{named}
use Rattle.tally.proofs.Replies.{vote_passes, vote_fails, vote_refused, vote_taken}
use Rattle.tally.proofs.Taken.{never_two}
use Rattle.tally.proofs.vote.Reads as Reads
use Rattle.tally.proofs.vote.Goals as goal

-- the contract admits one reply
pub only_one : (κs : _) (a : _) (r s : _) (x y : _) → Reads.Post κs a r x → Reads.Post κs a s y → r ≡ s
only_one κs a r s x y p q = p ∙ sym q

pub returns-in-Err : goal.returns-in-Err
returns-in-Err c =
    let e = c.from.ensures ∙ c.in-Err.ensures in
    let some : c.from.result ≡ 0 → ⊥ = λ z. named _ (sym c.from.ensures ∙ z) in
    vote_refused _ _ _ (e ∙ sym (vote_fails _ _ (λ z. some (e ∙ z)))) some

pub vote_of-row-requires : goal.vote_of-row-requires
vote_of-row-requires c = (passes_sized _ _ (sym c.in-Ok.ensures)).tolerated

pub returns-in-Ok : goal.returns-in-Ok
returns-in-Ok c =
    let passed = sym c.in-Ok.ensures in
    let never = never_two _ _ (passes_sized _ _ passed).tolerated in
    vote_taken _ _ _ (vote_passes _ _ passed ∙ cond_false 7 0 never) c.vote_of-row.ensures
