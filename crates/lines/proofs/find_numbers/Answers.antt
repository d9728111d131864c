-- With no word it is no line. Else the first part that is no number decides, and at the end of the line all are
-- numbers. Assumes nothing.
use mathlib.Core.Path.{sym, subst, ◌∙◌}
use mathlib.Core.List.{List}
use Prim.Native.Nat.{ℕ, ◌+◌, ◌≤◌}
use native.Mathlib.Omega.{arith}
use lib.ListN.{length}
use Rattle.lines.specs.Read.{word_in}
use Rattle.lines.proofs.Pieces.{piece_within, line_none, line_worded}
use Rattle.lines.proofs.Placed.{rest_whole}
use Rattle.lines.proofs.Walk.{
  Left,
  rest,
  walk_begins,
  walk_next,
  walk_left,
  walk_bad,
  walk_skips,
  walk_turn,
  walk_all,
  walk_ends,
}
use Rattle.lines.proofs.find_numbers.Goals as goal
use Rattle.lines.proofs.find_numbers.Goals.{Else-word-eq0, then-part-ne0, else-part-ne0}

worded : (c : Else-word-eq0) → c.args.word ≤ length c.args.line.now
unfolding word_in
worded c = omega (arith, c.requires, piece_within c.args.line.now)

pub returns-then-word-eq0 : goal.returns-then-word-eq0
returns-then-word-eq0 c = line_none c.args.line.now (omega (arith, c.requires, c.if-word-eq0.true))

pub slice_bounds-left-count : goal.slice_bounds-left-count
slice_bounds-left-count c = worded (goal.at.slice_bounds-left-count c).Else-word-eq0

pub slice_bounds-left-start : goal.slice_bounds-left-start
slice_bounds-left-start c = omega (arith, worded (goal.at.slice_bounds-left-start c).Else-word-eq0)

pub loop-left-init : goal.loop-left-init
loop-left-init c =
    subst (λ (left : List ℕ). Left c.args.line.now left 0) (sym (rest_whole c.args.line.now c.args.word))
    (walk_begins c.args.line.now c.args.word c.requires)

pub returns-in_err-part : goal.returns-in_err-part
returns-in_err-part c =
    rw c.from_residual.ensures
    (line_worded c.args.line.now (omega (arith, c.requires, c.if-word-eq0.false))
    ∙ walk_bad (walk_next c.loop-left.invariant c.in-len1-up.len_at_least) c.in_err-part.ensures)

pub slice_bounds-left-count-in-len1-up : goal.slice_bounds-left-count-in-len1-up
slice_bounds-left-count-in-len1-up c = omega (arith, c.in_ok-part.ensures.1, piece_within (rest c.loop-left.left.now 1))

pub slice_bounds-left-start-in-len1-up : goal.slice_bounds-left-start-in-len1-up
slice_bounds-left-start-in-len1-up c = omega (arith, c.in_ok-part.ensures.1, piece_within (rest c.loop-left.left.now 1))

pub loop-left-preserved : goal.loop-left-preserved
loop-left-preserved c =
    let walked = c.loop-left.invariant in
    let some = c.in-len1-up.len_at_least in
    let size = c.in_ok-part.part.size in
    let told = c.in_ok-part.ensures in
    let then = rest (rest c.loop-left.left.now 1) size in
    elim c.if-part-ne0.branch [
      | then-part-ne0 w ↦
          subst (Left c.args.line.now then) (sym w.count-is)
          (walk_left walked some (c.loop-left.count + 1) size (omega arith) told.1
          (walk_turn (walk_next walked some) told.0 (omega (arith, told.1, w.if-part-ne0.true))))
      | else-part-ne0 w ↦
          subst (Left c.args.line.now then) (sym w.count-is)
          (walk_left walked some c.loop-left.count size (omega arith) told.1
          (walk_skips (walk_next walked some) told.0 (omega (arith, told.1, w.if-part-ne0.false))))
    ]

pub returns : goal.returns
returns c =
    let last = c.loop-left.invariant in (
      line_worded c.args.line.now (omega (arith, c.requires, c.if-word-eq0.false))
          ∙ walk_ends last c.in_default.len_below,
      walk_all last c.in_default.len_below,
    )
