-- `run::Reasons::keep` meets its contract: the lists of the boxes behind n are joined by nobody. Assumes nothing.
use mathlib.Core.Path.{◌≡◌}
use native.Mathlib.Omega.{arith}
use Rattle.run.specs.Inside.{kept_reasons}
use Rattle.run.proofs.Keep.{boxes_begin, boxes_end}
use borrow.Author.Rules.{rules}
use Rattle.run.proofs.Reasons.keep.Goals as goal

pub loop-i-init : goal.loop-i-init
loop-i-init c = (boxes_begin _ _ (search rules), boxes_begin _ _ (search rules), boxes_begin _ _ (search rules))

pub returns : goal.returns
unfolding kept_reasons
returns c =
    let inv = c.loop-i.invariant in
    let high = c.requires.high in
    let none = c.requires.beyond in
    let at_end : c.loop-i.i ≡ c.args.j.now.n = omega (arith, c.loop-i-test.false, c.loop-i.auto.i-end) in
    let first = c.args.self.now in
    λ d.
    record {
      iterations = boxes_end _ _ first.iterations (search rules) at_end high none inv.0 d;
      confidences = boxes_end _ _ first.confidences (search rules) at_end high none inv.1 d;
      supports = boxes_end _ _ first.supports (search rules) at_end high none inv.2 d;
    }
