-- `tally::grade` meets its contract: it refuses by 4 and 5, and otherwise the lead of the rows is the row found most
-- often with its support, which gives the confidence. Assumes nothing.
use mathlib.Core.Path.{◌≡◌, sym, ◌∙◌}
use native.Mathlib.Omega.{arith}
use lib.ListN.{length}
use Rattle.sizes.specs.Sizes.{size_refusal}
use Rattle.sizes.proofs.Laws.{passes_sized}
use Rattle.tally.specs.Tally.{support_of, confidence_of}
use Rattle.sizes.proofs.Numbers.{named}
use Rattle.tally.proofs.Laws.{support_le}
use Rattle.tally.proofs.Replies.{grade_refused, grade_taken, lead_support, lead_confidence, lead_row, no_row}
use Rattle.tally.proofs.grade.Reads as Reads
use Rattle.tally.proofs.grade.Goals as goal
use Rattle.tally.proofs.grade.Goals.{After-confidence_at-confidence, After-lead_of-lead, Start}

-- where the lead is found: the call is not refused, and the lead's support is that of the grade
taken : (c : After-lead_of-lead) → size_refusal (length c.args.rows.now) c.args.t ≡ 0
taken c = sym c.in_default.ensures

supported : (c : After-lead_of-lead) → c.lead_of-lead.result.support ≡ support_of c.args.rows.now
supported c = lead_support _ c.args.t _ c.lead_of-lead.ensures

-- the confidence is that of the grade
is : (c : After-confidence_at-confidence) →
    let a = c.args in
    c.confidence_at-confidence.result ≡ confidence_of a.t a.rows.now
is c = lead_confidence _ _ _ _ c.lead_of-lead.ensures c.confidence_at-confidence.ensures

-- the contract admits one reply
pub only_one : (κs : _) (a : _) (r s : _) (x y : _) → Reads.Post κs a r x → Reads.Post κs a s y → r ≡ s
only_one κs a r s x y p q = p ∙ sym q

pub returns-in-Err : goal.returns-in-Err
returns-in-Err c =
    grade_refused _ _ _ (c.from.ensures ∙ c.in-Err.ensures) (λ z. named _ (sym c.from.ensures ∙ z))

-- it is at most 13
pub overflow_cast-support : goal.overflow_cast-support
overflow_cast-support c =
    let rows = c.args.rows.now in
    let sized = passes_sized (length rows) _ (taken (goal.at.overflow_cast-support c).After-lead_of-lead) in
    omega (arith, supported (goal.at.overflow_cast-support c).After-lead_of-lead, support_le rows, sized.high)

pub returns-then-confidence-eq0 : goal.returns-then-confidence-eq0
returns-then-confidence-eq0 c =
    let f = (goal.at.returns-then-confidence-eq0 c).After-lead_of-lead in
    let none = sym (is (goal.at.returns-then-confidence-eq0 c).After-confidence_at-confidence)
    ∙ c.if-confidence-eq0.true in
    grade_taken _ _ 0 0 _ (taken f) (no_row _ _ none) (sym none) (supported f)

pub returns : goal.returns
returns c =
    let f = (goal.at.returns c).After-lead_of-lead in
    let row = lead_row _ _ _ f.lead_of-lead.ensures
    (λ z. c.if-confidence-eq0.false (is (goal.at.returns c).After-confidence_at-confidence ∙ z)) in
    grade_taken _ _ _ _ _ (taken f) row (is (goal.at.returns c).After-confidence_at-confidence) (supported f)
