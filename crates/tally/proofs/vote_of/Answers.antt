-- `tally::vote_of` meets its contract: the first carried row is the vote, since no other is; and where none of the
-- first t + 1 rows is carried no row is, and the vote is 0. Since 3t < n the slice has so many rows. Assumes nothing.
use mathlib.Core.Path.{◌≡◌, sym, ap, ◌∙◌}
use mathlib.Core.List.{List}
use Prim.Native.Nat.{ℕ, ◌+◌, ◌*◌, ◌<◌}
use native.Mathlib.Omega.{arith}
use lib.ListN.{length, get_or, take}
use Rattle.std.proofs.lemmas.List.{length-take-le, get_or-take}
use Rattle.counting.proofs.Loops.{search_begins, search_turn, search_ends}
use Rattle.tally.specs.Tally.{carried}
use Rattle.tally.proofs.Laws.{carried_stands, vote_is, vote_nowhere}
use borrow.Author.Rules.{rules}
use Rattle.tally.proofs.vote_of.Goals as goal
use Rattle.tally.proofs.vote_of.Goals.{After-is_carried}

-- the slice has t + 1 rows
enough : (t : ℕ) (rows : List ℕ) → 3 * t < length rows → length (take (t + 1) rows) ≡ t + 1
enough t rows h = length-take-le _ rows (omega (arith, h))

-- a row of the first t + 1 is a row of the slice
looked_at : (c : After-is_carried) →
    let rows = c.args.rows.now in
    c.is_carried.result ≡ carried c.args.t rows (get_or rows c.loop-row.row-index 0)
looked_at c =
    let rows = c.args.rows.now in
    let first = enough c.args.t rows c.requires in
    let here : c.loop-row.row-index < c.args.t + 1 = omega (arith, first, c.loop-row-test.true) in
    c.is_carried.ensures ∙ ap (carried c.args.t rows) (get_or-take _ rows _ 0 here)

pub loop-row-init : goal.loop-row-init
loop-row-init c = search_begins _

pub returns-then-is_carried : goal.returns-then-is_carried
returns-then-is_carried c =
    let passed = sym c.is_carried.ensures ∙ c.if-is_carried.true in
    sym (vote_is _ _ (search rules) _ (carried_stands _ _ _ passed))

pub loop-row-preserved : goal.loop-row-preserved
loop-row-preserved c =
    let turn = (goal.at.loop-row-preserved c).After-is_carried in
    let first = enough c.args.t c.args.rows.now c.requires in
    search_turn _ (search rules) (omega (arith, first, c.loop-row-test.true)) (looked_at turn) c.if-is_carried.false

pub returns : goal.returns
returns c =
    let enough_rows = enough c.args.t c.args.rows.now c.requires in
    let none = search_ends _ c.loop-row.invariant (omega (arith, enough_rows, c.loop-row-test.false)) in
    sym (vote_nowhere _ _ c.requires (sym none))
