-- `making::Maker::take_run` meets its contract: three numbers behind the word are kept as far as their bits hold them,
-- which is at most 255 or 65,535, and anything else is not understood. Assumes nothing.
use native.Mathlib.Omega.{arith}
use Rattle.std.proofs.lemmas.Grind.{common_steps}
use mathlib.Core.Path.{◌≡◌, refl}
use mathlib.Core.Bool.{true}
use lib.Dec.{eqb}
use lib.ListN.{length}
use borrow.Author.Tests.{eq-eqb}
use Rattle.making.specs.Make.{reached, not_understood, run_taken}
use Rattle.making.proofs.Maker.take_run.Goals as goal

pub returns-in-len3 : goal.returns-in-len3
unfolding run_taken reached
returns-in-len3 c =
    let three : eqb (length c.args.numbers.now) 3 ≡ true = eq-eqb _ 3 (omega arith) in
    λ file. rw (three, c.min.ensures, c.min-in-len3.ensures, c.min-in-len3-2.ensures) refl

pub returns-in_default : goal.returns-in_default
unfolding run_taken not_understood
returns-in_default c = grind (arith, common_steps)
