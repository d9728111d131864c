-- Every part is a number or empty, for the line is a word and numbers, and each number has its place.
-- Assumes nothing.
use mathlib.Core.Path.{◌≡◌, sym, ap, subst, ◌∙◌}
use mathlib.Core.Bool.{false≢true}
use mathlib.Core.List.{List, [], ◌∷◌, ◌++◌}
use Prim.Native.Nat.{ℕ, ◌+◌, ◌<◌}
use native.Mathlib.Omega.{arith}
use native.Mathlib.Numerals.{add-one}
use lib.ListN.{length, get_or, take}
use lib.Seq.{length-take-le, take-suc, take_all}
use Rattle.lines.specs.Line.{placed}
use Rattle.lines.specs.Read.{word_in, piece, numbers_in}
use Rattle.lines.proofs.Placed.{placed_none, placed_next, rest_whole}
use Rattle.lines.proofs.Pieces.{piece_within, line_numbers}
use Rattle.lines.proofs.Walk.{
  Left,
  rest,
  walk_begins,
  walk_next,
  walk_left,
  walk_fine,
  walk_skips,
  walk_one,
  walk_value,
  walk_turn,
  walk_all,
}
use Rattle.lines.proofs.take_numbers.Goals as goal
use Rattle.lines.proofs.take_numbers.Goals.{then-part-ne0, else-part-ne0}

pub slice_bounds-left-count : goal.slice_bounds-left-count
unfolding word_in
slice_bounds-left-count c = omega (arith, c.requires.word_value, piece_within c.args.line.now)

pub slice_bounds-left-start : goal.slice_bounds-left-start
unfolding word_in
slice_bounds-left-start c = omega (arith, c.requires.word_value, piece_within c.args.line.now)

pub loop-left-init : goal.loop-left-init
loop-left-init c = record {
  walked = subst (λ (left : List ℕ). Left c.args.line.now left 0) (sym (rest_whole c.args.line.now c.args.word))
      (walk_begins c.args.line.now c.args.word c.requires.word_value);
  written = placed_none c.args.numbers.now 0;
}

pub unreachable-requires : goal.unreachable-requires
unreachable-requires c =
    false≢true
    (sym c.in_default-read_piece.ensures
    ∙ walk_fine (walk_next c.loop-left.invariant.walked c.in-len1-up.len_at_least)
    (line_numbers c.args.line.now c.requires.line_value))

pub bounds-numbers-count : goal.bounds-numbers-count
bounds-numbers-count c =
    let told = c.in-Some.ensures in
    let next = walk_next c.loop-left.invariant.walked c.in-len1-up.len_at_least in
    omega (
      arith,
      walk_one next told.0 (omega (arith, told.1, c.if-part-ne0.true)),
      c.loop-left.auto.numbers,
      c.requires.line_in_bounds,
    )

pub slice_bounds-left-count-in-len1-up : goal.slice_bounds-left-count-in-len1-up
slice_bounds-left-count-in-len1-up c = omega (arith, c.in-Some.ensures.1, piece_within (rest c.loop-left.left.now 1))

pub slice_bounds-left-start-in-len1-up : goal.slice_bounds-left-start-in-len1-up
slice_bounds-left-start-in-len1-up c = omega (arith, c.in-Some.ensures.1, piece_within (rest c.loop-left.left.now 1))

pub loop-left-preserved : goal.loop-left-preserved
loop-left-preserved c =
    let numbers = numbers_in c.args.line.now in
    let slice = c.args.numbers.now in
    let left = c.loop-left.left.now in
    let count = c.loop-left.count in
    let part = c.in-Some.part in
    let told = c.in-Some.ensures in
    let kept = c.loop-left.invariant in
    let some = c.in-len1-up.len_at_least in
    let next = walk_next kept.walked some in
    let then = rest (rest left 1) part.size in
    elim c.if-part-ne0.branch [
      | then-part-ne0 w ↦
          let long : 0 < length (piece (rest left 1)) = omega (arith, told.1, w.if-part-ne0.true) in
          let one = walk_one next told.0 long in
          let value = told.2 ∙ walk_value next told.0 long in
          let more : take (count + 1) numbers ≡ take count numbers ++ (get_or numbers count 0 ∷ []) =
          ap (λ (k : ℕ). take k numbers) (add-one count) ∙ take-suc numbers count 0 one in
          record {
            walked = subst (Left c.args.line.now then) (sym w.count-is)
                (walk_left kept.walked some (count + 1) part.size (omega arith) told.1 (walk_turn next told.0 long));
            written = w.numbers-is
                ∙ placed_next slice c.loop-left.numbers 0 (take count numbers) part.value count kept.written
                (omega (arith, length-take-le count numbers kept.walked.reached.some))
                (omega (arith, one, c.requires.line_in_bounds))
                ∙ ap (placed slice 0)
                (ap (λ (v : ℕ). take count numbers ++ (v ∷ [])) value ∙ sym more
                ∙ ap (λ (k : ℕ). take k numbers) (sym w.count-is));
          }
      | else-part-ne0 w ↦
          record {
            walked = subst (Left c.args.line.now then) (sym w.count-is)
                (walk_left kept.walked some count part.size (omega arith) told.1
                (walk_skips next told.0 (omega (arith, told.1, w.if-part-ne0.false))));
            written = w.numbers-is ∙ kept.written
                ∙ ap (λ (k : ℕ). placed slice 0 (take k numbers)) (sym w.count-is);
          }
    ]

pub returns : goal.returns
returns c =
    c.loop-left.invariant.written
    ∙ ap (placed c.args.numbers.now 0)
    (take_all c.loop-left.count (numbers_in c.args.line.now)
    (omega (arith, walk_all c.loop-left.invariant.walked c.in_default.len_below)))
