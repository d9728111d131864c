-- `Lines::put_boxes` meets its contract: the line of a box stands behind those of the boxes before it, and after the
-- last box all stand there. Assumes nothing.
use mathlib.Core.Path.{◌≡◌, refl, sym, ap, ◌∙◌}
use mathlib.Core.List.{List, ◌++◌, append_assoc, append-nil}
use Prim.Native.Nat.{ℕ, ◌+◌}
use native.Mathlib.Numerals.{add-one}
use native.Mathlib.Omega.{arith}
use Rattle.run.specs.declared.Run.{Run}
use Rattle.listing.specs.Listing.{box_line, box_lines}
use Rattle.listing.proofs.Lines.put_boxes.Goals as goal

box_turn : (s : Run) (i : ℕ) → box_lines s (i + 1) ≡ box_lines s i ++ box_line s i
unfolding box_lines
box_turn s i = rw (add-one i) refl

pub loop-i-init : goal.loop-i-init
unfolding box_lines
loop-i-init c = (sym (append-nil _), omega arith)

pub put_box-requires : goal.put_box-requires
put_box-requires c = (omega arith, omega (arith, c.loop-i.invariant.1))

pub loop-i-preserved : goal.loop-i-preserved
loop-i-preserved c =
    let s = c.args.s.now in
    let before = c.args.self.now in
    let i = c.loop-i.i in (
      c.put_box.ensures.text
          ∙ ap (λ (xs : List ℕ). xs ++ box_line s i) c.loop-i.invariant.0
          ∙ append_assoc before (box_lines s i) (box_line s i)
          ∙ ap (λ (xs : List ℕ). before ++ xs) (sym (box_turn s i)),
      omega (arith, c.put_box.ensures.most, c.loop-i.invariant.1),
    )

pub returns-clause-text : goal.returns-clause-text
returns-clause-text c =
    let all : c.loop-i.i ≡ c.args.s.now.n = omega arith in
    c.loop-i.invariant.0 ∙ ap (λ (k : ℕ). c.args.self.now ++ box_lines c.args.s.now k) all

pub returns-clause-most : goal.returns-clause-most
returns-clause-most c = omega (arith, c.loop-i.invariant.1)
