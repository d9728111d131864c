-- `tally::is_carried` meets its contract: 0 is never carried, and any other row where its places reach n − t. Assumes
-- nothing.
use mathlib.Core.Path.{refl}
use borrow.Author.Tests.{ne_eqb, eq-eqb}
use borrow.Author.Rules.{rules}
use Rattle.tally.specs.Tally.{carried}
use Rattle.tally.proofs.Carried.{carried_zero}
use Rattle.tally.proofs.is_carried.Goals as goal

pub returns-then-v-ne0 : goal.returns-then-v-ne0
unfolding carried
returns-then-v-ne0 c = rw (ne_eqb c.args.v 0 c.if-v-ne0.true, ← c.places_of.ensures) (search rules)

pub returns-else-v-ne0 : goal.returns-else-v-ne0
returns-else-v-ne0 c =
    let zero = c.if-v-ne0.false in rw (eq-eqb c.args.v 0 zero, carried_zero c.args.t c.args.rows.now _ zero) refl
