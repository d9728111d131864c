-- 255 stands for the largest t, 0 to 4 for themselves below a third of n, and every larger number is above a third of
-- 13. Assumes nothing.
use mathlib.Core.Path.{refl, sym, ◌∙◌}
use Prim.Native.Nat.{◌≤◌, ◌*◌}
use native.Mathlib.Omega.{arith}
use borrow.Author.Tests.{eq-eqb, ne_eqb}
use Rattle.counting.proofs.Bools.{cond_true, cond_false, not_both, and_false_right, both, not_of_true, not_of_false}
use Rattle.sizes.specs.Sizes.{largest_t}
use Rattle.sizes.proofs.Laws.{by_n_inside, inside_high, tolerated, not_tolerated}
use Rattle.runfile.specs.File.{t_of}
use Rattle.runfile.proofs.Boxes.t_of.Goals as goal

pub returns-in-255 : goal.returns-in-255
unfolding t_of
returns-in-255 c =
    let is255 = eq-eqb _ _ c.in-255.is in (
      not_both _ (not_of_true is255),
      c.largest_t.ensures ∙ by_n_inside largest_t c.args.self.n c.args.self.inside ∙ sym (cond_true _ _ is255),
    )

pub returns-in-0-to-4 : goal.returns-in-0-to-4
unfolding t_of
returns-in-0-to-4 c =
    let other = ne_eqb c.args.byte 255 (omega arith) in
    let fits = tolerated c.args.self.n c.args.byte (omega arith) in
    (and_false_right _ fits, sym (cond_false _ _ other))

pub returns-in_default : goal.returns-in_default
returns-in_default c =
    let other = ne_eqb c.args.byte 255 (omega arith) in
    (both (not_of_false other) (not_tolerated c.args.self.n c.args.byte (omega arith)), refl)

pub returns-in_default-2 : goal.returns-in_default-2
returns-in_default-2 c =
    let other = ne_eqb c.args.byte 255 (omega arith) in
    let high : c.args.self.n ≤ 3 * c.args.byte = omega (arith, inside_high c.args.self.n c.args.self.inside) in
    (both (not_of_false other) (not_tolerated c.args.self.n c.args.byte high), refl)
