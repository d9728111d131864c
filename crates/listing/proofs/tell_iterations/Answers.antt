-- `listing::tell_iterations` meets its contract: a table that is refused ends the listing, and so does what the file
-- has behind the last table; otherwise the listing ends with the last state. Assumes nothing.
use mathlib.Core.Path.{sym, ap, ◌∙◌}
use mathlib.Core.List.{List, ◌++◌, append_assoc, append-nil}
use Prim.Native.Nat.{ℕ, ◌<◌}
use native.Mathlib.Omega.{arith}
use Rattle.std.proofs.lemmas.Result.{err_from_is_err_and}
use Rattle.sizes.proofs.Numbers.{named}
use Rattle.listing.specs.Listing.{box_lines, iteration_lines}
use Rattle.listing.proofs.Iterations.{
  started_going,
  going_low,
  going_high,
  going_few,
  underway,
  next_kept,
  going_on,
  lines_turn,
  stopped_done,
  stopped_ends,
  finished_done,
  finished_ends,
  finished_state,
}
use Rattle.listing.proofs.tell_iterations.Goals as goal

pub loop-s-init : goal.loop-s-init
unfolding iteration_lines
loop-s-init c =
    let p = c.requires.0 in
    (started_going _ _ p, rw p.fresh (sym (append-nil _)), omega (arith, p.fresh))

pub advance-requires : goal.advance-requires
advance-requires c = underway _ _ c.loop-s.invariant.0 c.loop-s-test.true

pub returns-in-Err-clause-ends : goal.returns-in-Err-clause-ends
returns-in-Err-clause-ends c =
    stopped_ends _ _ c.loop-s.invariant.0 c.loop-s-test.true _ c.in-Err.ensures

pub returns-in-Err-clause-text : goal.returns-in-Err-clause-text
returns-in-Err-clause-text c =
    rw (stopped_done _ _ c.loop-s.invariant.0 c.loop-s-test.true _ c.in-Err.ensures) c.loop-s.invariant.1

pub returns-in-Err-clause-most : goal.returns-in-Err-clause-most
returns-in-Err-clause-most c =
    omega (arith, c.loop-s.invariant.2, c.loop-s-test.true, going_few _ _ c.loop-s.invariant.0)

pub put_boxes-requires : goal.put_boxes-requires
put_boxes-requires c =
    let g = c.loop-s.invariant.0 in (
      going_high _ _ (going_on _ _ g _ c.in_default.ensures c.loop-s-test.true),
      omega (arith, c.loop-s.invariant.2, c.loop-s-test.true, going_few _ _ g, c.requires.1),
    )

pub loop-s-smaller : goal.loop-s-smaller
loop-s-smaller c =
    omega (arith, next_kept _ _ c.loop-s.invariant.0 _ c.in_default.ensures, c.loop-s-test.true)

pub loop-s-preserved : goal.loop-s-preserved
loop-s-preserved c =
    let g = c.loop-s.invariant.0 in
    let before = c.args.text.now in
    let s = c.advance.new.s in
    let lines = iteration_lines c.args.bytes.now c.loop-s.s.done in (
      going_on _ _ g _ c.in_default.ensures c.loop-s-test.true,
      c.put_boxes.ensures.text
          ∙ ap (λ (xs : List ℕ). xs ++ box_lines s s.n) c.loop-s.invariant.1
          ∙ append_assoc before lines (box_lines s s.n)
          ∙ ap (λ (xs : List ℕ). before ++ xs) (sym (lines_turn _ _ g _ c.in_default.ensures)),
      omega (arith, c.put_boxes.ensures.most, c.loop-s.invariant.2, next_kept _ _ g _ c.in_default.ensures),
    )

pub check_end-requires : goal.check_end-requires
check_end-requires c =
    let g = c.loop-s.invariant.0 in
    (going_low _ _ g, going_high _ _ g, omega (arith, g.few, going_few _ _ g))

pub returns-in_err-check_end-clause-ends : goal.returns-in_err-check_end-clause-ends
returns-in_err-check_end-clause-ends c =
    let r = c.from_residual in
    let p = err_from_is_err_and r.result r.ensures.1 in
    rw (p.1, p.2)
    (c.in_err-check_end.ensures ∙ finished_ends _ _ c.loop-s.invariant.0 (omega (arith, c.loop-s-test.false)), named _)

pub returns-in_err-check_end-clause-text : goal.returns-in_err-check_end-clause-text
returns-in_err-check_end-clause-text c =
    rw (finished_done _ _ c.loop-s.invariant.0 (omega (arith, c.loop-s-test.false))) c.loop-s.invariant.1

pub returns-in_err-check_end-clause-most : goal.returns-in_err-check_end-clause-most
returns-in_err-check_end-clause-most c =
    let g = c.loop-s.invariant.0 in omega (arith, c.loop-s.invariant.2, g.few, going_few _ _ g)

pub returns-clause-ends : goal.returns-clause-ends
returns-clause-ends c =
    let g = c.loop-s.invariant.0 in
    let past : c.loop-s.s.t < c.loop-s.s.done = omega (arith, c.loop-s-test.false) in
    (sym (finished_ends _ _ g past) ∙ sym c.in_ok-check_end.ensures, finished_state _ _ g past)

pub returns-clause-text : goal.returns-clause-text
returns-clause-text c =
    rw (finished_done _ _ c.loop-s.invariant.0 (omega (arith, c.loop-s-test.false))) c.loop-s.invariant.1

pub returns-clause-most : goal.returns-clause-most
returns-clause-most c =
    let g = c.loop-s.invariant.0 in omega (arith, c.loop-s.invariant.2, g.few, going_few _ _ g)
