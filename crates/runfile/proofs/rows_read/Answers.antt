-- The tests of refusals 4, 8 and 10 are made in their order; the rows that are due are those of the formula. Assumes
-- nothing.
use mathlib.Core.Path.{◌≡◌, sym, ap, ◌∙◌}
use mathlib.Core.Bool.{false}
use mathlib.Core.List.{[]}
use Prim.Native.Nat.{◌*◌, ◌≤◌, ◌<◌}
use native.Mathlib.Omega.{arith}
use lib.ListN.{length}
use borrow.Author.Rules.{rules}
use borrow.Author.Tests.{eq-eqb, ne_eqb, lt-ltb, le-ltb}
use Rattle.counting.proofs.Bools.{not_of_true, not_of_false}
use Rattle.counting.proofs.Refuse.{refused, passed, none_left}
use Rattle.sizes.specs.Numbers.{number_of, refusal_in}
use Rattle.sizes.specs.Sizes.{outside, table_rows}
use Rattle.sizes.proofs.Laws.{inside_high, table_le}
use Rattle.runfile.specs.Reply.{table_tests, table_refusal}
use Rattle.runfile.proofs.rows_read.Goals as goal
use Rattle.runfile.proofs.rows_read.Goals.{After-table_rows-count}

inside_of : (c : After-table_rows-count) → outside c.args.n ≡ false
inside_of c = ap outside (sym c.in_ok-new.ensures) ∙ c.in_ok-new.field-0.inside

due_of : (c : After-table_rows-count) → c.table_rows-count.result ≡ table_rows c.args.n
due_of c = c.table_rows-count.ensures ∙ ap table_rows c.in_ok-new.ensures

pub returns-in_err-new-clause-refusal : goal.returns-in_err-new-clause-refusal
unfolding table_refusal table_tests
returns-in_err-new-clause-refusal c =
    let e : refusal_in c.from_residual.result ≡ number_of c.in_err-new.field-0.0 = search rules in
    e ∙ c.in_err-new.ensures.1 ∙ sym (refused 4 _ c.in_err-new.ensures.0)

pub overflow_mul-count : goal.overflow_mul-count
overflow_mul-count c =
    let told = (goal.at.overflow_mul-count c).After-table_rows-count in
    omega (arith, due_of told, table_le (inside_high _ (inside_of told)))

pub returns-then-bytes-count-clause-refusal : goal.returns-then-bytes-count-clause-refusal
unfolding table_refusal table_tests
returns-then-bytes-count-clause-refusal c =
    let told = (goal.at.returns-then-bytes-count-clause-refusal c).After-table_rows-count in
    let other = ne_eqb (length c.args.bytes.now) (8 * table_rows c.args.n)
    (λ e. absurd (omega (arith, e, due_of told, c.if-bytes-count.true))) in
    sym (passed 4 _ (inside_of told) ∙ refused 8 _ (not_of_false other))

pub returns-then-room-count-clause-refusal : goal.returns-then-room-count-clause-refusal
unfolding table_refusal table_tests
returns-then-room-count-clause-refusal c =
    let told = (goal.at.returns-then-room-count-clause-refusal c).After-table_rows-count in
    let exact : length c.args.bytes.now ≡ 8 * table_rows c.args.n = omega (arith, due_of told) in
    let less : c.args.room < table_rows c.args.n = omega (arith, due_of told) in
    sym (passed 4 _ (inside_of told)
    ∙ passed 8 _ (not_of_true (eq-eqb _ _ exact))
    ∙ refused 10 [] (lt-ltb _ _ less))

pub returns-clause-refusal : goal.returns-clause-refusal
unfolding table_refusal table_tests
returns-clause-refusal c =
    let told = (goal.at.returns-clause-refusal c).After-table_rows-count in
    let exact : length c.args.bytes.now ≡ 8 * table_rows c.args.n = omega (arith, due_of told) in
    let enough : table_rows c.args.n ≤ c.args.room = omega (arith, due_of told) in
    sym (passed 4 _ (inside_of told)
    ∙ passed 8 _ (not_of_true (eq-eqb _ _ exact))
    ∙ passed 10 [] (le-ltb _ _ enough)
    ∙ none_left)
