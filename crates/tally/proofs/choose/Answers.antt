-- `tally::choose` meets its contract: it refuses by 4, 11 and 13, and otherwise the lead of the counted rows is the
-- chosen row, whose firm leaders it counts. Assumes nothing.
use mathlib.Core.Path.{◌≡◌, sym, ◌∙◌, subst}
use mathlib.Core.List.{List}
use Prim.Native.Nat.{ℕ, ◌≤◌}
use native.Mathlib.Omega.{arith}
use lib.ListN.{length}
use lib.Seq.{length-take-le}
use Rattle.counting.specs.Most.{most}
use Rattle.sizes.proofs.Numbers.{named}
use Rattle.tally.specs.Tally.{chosen_row}
use Rattle.tally.specs.Reply.{choice_refusal}
use Rattle.tally.specs.Inside.{lead_of}
use Rattle.tally.proofs.Replies.{
  choice_refused,
  choice_taken,
  choice_lengths,
  lead_chosen,
  firm_none,
  firm_some,
}
use Rattle.tally.proofs.choose.Reads as Reads
use Rattle.tally.proofs.choose.Goals as goal
use Rattle.tally.proofs.choose.Goals.{After-lead_of-lead, In_default, Start}

-- where the call is not refused
abbrev rows_at : In_default → List ℕ
rows_at c = c.args.rows.now

abbrev confidences_of : In_default → List ℕ
confidences_of c = c.args.confidences.now

taken : (c : In_default) → choice_refusal (rows_at c) (confidences_of c) ≡ 0
taken c = sym c.in_default.ensures

sizes : (c : In_default) →
    (1 ≤ length (rows_at c)) × (length (rows_at c) ≤ 13) × (length (rows_at c) ≡ length (confidences_of c))
sizes c = choice_lengths (rows_at c) (confidences_of c) (taken c)

-- where the lead is found
abbrev passed_of : After-lead_of-lead → In_default
passed_of c = (goal.at.After-lead_of-lead c).In_default

chosen : (c : After-lead_of-lead) →
    c.lead_of-lead.result.row ≡ chosen_row (rows_at (passed_of c)) (confidences_of (passed_of c))
chosen c =
    lead_chosen _ _ _
    (subst (λ (xs : List ℕ). c.lead_of-lead.result ≡ lead_of xs (most xs)) c.counted_rows-counted.ensures.1
    c.lead_of-lead.ensures)

-- the contract admits one reply
pub only_one : (κs : _) (a : _) (r s : _) (x y : _) → Reads.Post κs a r x → Reads.Post κs a s y → r ≡ s
only_one κs a r s x y p q = p ∙ sym q

pub returns-in-Err : goal.returns-in-Err
returns-in-Err c =
    choice_refused _ _ _ (c.from.ensures ∙ c.in-Err.ensures) (λ z. named _ (sym c.from.ensures ∙ z))

pub counted_rows-counted-requires : goal.counted_rows-counted-requires
counted_rows-counted-requires c = ((sizes c).1, (sizes c).2)

pub slice_bounds-counted-end : goal.slice_bounds-counted-end
slice_bounds-counted-end c =
    omega (arith, (sizes (goal.at.slice_bounds-counted-end c).In_default).1, c.counted_rows-counted.ensures.0)

pub slice_bounds-lead_of-end : goal.slice_bounds-lead_of-end
slice_bounds-lead_of-end c =
    let found = c.counted_rows-counted in
    sym (length-take-le _ found.result
    (omega (arith, (sizes (goal.at.slice_bounds-lead_of-end c).In_default).1, found.ensures.0)))

pub returns-then-lead-eq0 : goal.returns-then-lead-eq0
returns-then-lead-eq0 c =
    let l = (goal.at.returns-then-lead-eq0 c).After-lead_of-lead in
    let none = sym (chosen l) ∙ c.if-lead-eq0.true in
    choice_taken _ _ 0 0 (taken (passed_of l)) (sym none) (firm_none _ _ none)

pub firm_for-requires : goal.firm_for-requires
firm_for-requires c = (sizes (passed_of (goal.at.firm_for-requires c).After-lead_of-lead)).2

pub returns : goal.returns
returns c =
    let l = (goal.at.returns c).After-lead_of-lead in
    choice_taken _ _ _ _ (taken (passed_of l)) (chosen l)
    (firm_some _ _ _ _ (chosen l) c.if-lead-eq0.false c.firm_for.ensures)
