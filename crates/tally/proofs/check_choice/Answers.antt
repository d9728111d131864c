-- `tally::check_choice` meets its contract: it makes the tests of refusals 4, 11 and 13 in their order.
-- Assumes nothing.
use mathlib.Core.Path.{◌≡◌, sym, ◌∙◌}
use mathlib.Core.Bool.{false}
use mathlib.Core.List.{List, []}
use Prim.Native.Nat.{ℕ}
use lib.ListN.{length}
use borrow.Author.Tests.{eq-eqb, ne_eqb}
use Rattle.counting.proofs.Refuse.{refused, passed, none_left}
use Rattle.counting.proofs.Bools.{not_of_true, not_of_false}
use Rattle.sizes.specs.Sizes.{outside}
use Rattle.sizes.proofs.Laws.{inside, outside_low, outside_high}
use Rattle.tally.specs.Reply.{choice_refusal}
use borrow.Author.Rules.{rules}
use Rattle.tally.proofs.check_choice.Goals as goal
use Rattle.tally.proofs.check_choice.Goals.{Else-rows-confidences, Else-rows-gt13}

-- where 4 is passed
abbrev rows_at : Else-rows-gt13 → List ℕ
rows_at c = c.args.rows.now

within : (c : Else-rows-gt13) → outside (length (rows_at c)) ≡ false
within c = inside _ (search rules) (search rules)

pub returns-then-rows-lt1 : goal.returns-then-rows-lt1
unfolding choice_refusal
returns-then-rows-lt1 c = sym (refused 4 _ (outside_low _ c.if-rows-lt1.true))

pub returns-then-rows-gt13 : goal.returns-then-rows-gt13
unfolding choice_refusal
returns-then-rows-gt13 c = sym (refused 4 _ (outside_high _ c.if-rows-gt13.true))

pub returns-then-rows-confidences : goal.returns-then-rows-confidences
unfolding choice_refusal
returns-then-rows-confidences c = sym (passed 4 _ (within (goal.at.returns-then-rows-confidences c).Else-rows-gt13)
    ∙ refused 11 _ (not_of_false (ne_eqb _ _ c.if-rows-confidences.true)))

pub returns-then-has_above2 : goal.returns-then-has_above2
unfolding choice_refusal
returns-then-has_above2 c =
    let l = (goal.at.returns-then-has_above2 c).Else-rows-confidences in
    sym
    (passed 4 _ (within (goal.at.Else-rows-confidences l).Else-rows-gt13)
    ∙ passed 11 _ (not_of_true (eq-eqb _ _ l.if-rows-confidences.false))
    ∙ refused 13 _ (sym c.has_above2.ensures ∙ c.if-has_above2.true))

pub returns : goal.returns
unfolding choice_refusal
returns c =
    let l = (goal.at.returns c).Else-rows-confidences in
    sym
    (passed 4 _ (within (goal.at.Else-rows-confidences l).Else-rows-gt13)
    ∙ passed 11 _ (not_of_true (eq-eqb _ _ l.if-rows-confidences.false))
    ∙ passed 13 [] (sym c.has_above2.ensures ∙ c.if-has_above2.false)
    ∙ none_left)
