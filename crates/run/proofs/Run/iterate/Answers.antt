-- `run::Run::iterate` meets its contract: it refuses with the state as it came; otherwise steps 1 to 4 are
-- gradecast's, step 5 fills the rows, the lists and the reasons, and the counters grow. Assumes nothing.
use mathlib.Core.Path.{◌≡◌, sym, ◌∙◌}
use native.Mathlib.Omega.{arith}
use Rattle.counting.specs.Count.{build}
use Rattle.sizes.proofs.Numbers.{named}
use Rattle.run.specs.Iteration.{entry, new_list}
use Rattle.run.proofs.Accepted.{Iterable, is_accepted}
use Rattle.run.proofs.Refusals.{iterate_refused, iterate_taken}
use Rattle.run.proofs.Whole.{high, done_small, sent_small, rows_are, lists_are, keeping, reasons_are, next_is}
use borrow.Author.Rules.{rules}
use Rattle.run.proofs.Run.iterate.Reads as Reads
use Rattle.run.proofs.Run.iterate.Goals as goal
use Rattle.run.proofs.Run.iterate.Goals.{In_default, After-step5_places}

-- where no test has refused the call it is accepted
accepted : (c : In_default) → Iterable c.args.self c.args.table.now
accepted c = is_accepted _ _ (sym c.in_default.ensures)

-- the lists of step 5 are those of the definitions
listed : (c : After-step5_places) →
    let s = c.args.self in
    c.step5_places.result.lists ≡ build 13 (entry s.n s.faulty (new_list s c.args.table.now))
listed c =
    c.step5_places.ensures.lists
    ∙ lists_are _ _ (is_accepted _ _ (sym c.in_default.ensures)) _ c.steps-cast.ensures

-- the contract admits one reply
pub only_one : (κs : _) (a : _) (r s : _) (x y : _) → Reads.Post κs a r x → Reads.Post κs a s y → r ≡ s
only_one κs a r s x y p q = p ∙ sym q

pub returns-in-Err : goal.returns-in-Err
returns-in-Err c =
    let e = c.from.ensures in
    iterate_refused _ _ _ (e ∙ c.in-Err.ensures) (λ z. named _ (sym e ∙ z))

pub step5_places-requires : goal.step5_places-requires
step5_places-requires c = high _ _ (is_accepted _ _ (sym c.in_default.ensures))

pub overflow_add-done : goal.overflow_add-done
overflow_add-done c = omega (arith, done_small _ _ (is_accepted _ _ (sym c.in_default.ensures)))

pub keep-requires : goal.keep-requires
keep-requires c =
    keeping _ _ (is_accepted _ _ (sym c.in_default.ensures)) _ c.steps-cast.ensures _
    (listed (goal.at.keep-requires c).After-step5_places)

pub overflow_add-run : goal.overflow_add-run
overflow_add-run c =
    omega (arith, sent_small _ _ (is_accepted _ _ (sym c.in_default.ensures)) c.steps-cast.result c.steps-cast.ensures)

pub returns : goal.returns
returns c =
    let taken = sym c.in_default.ensures in
    let a = is_accepted _ _ taken in
    let e = c.steps-cast.ensures in
    let lists = listed (goal.at.returns c).After-step5_places in
    iterate_taken _ _ _ taken
    (next_is _ _ a _ e _ _ _ (c.step5_places.ensures.rows ∙ rows_are _ _ a _ e) lists
    (c.keep.ensures
    ∙ reasons_are _ _ a _ e _ lists
    (record { all_iterations = search rules; all_confidences = search rules; all_supports = search rules })))
