-- `tally::support_of` meets its contract: 0 has no support, and any other row its places. Assumes nothing.
use mathlib.Core.Path.{sym, ◌∙◌, ap}
use Rattle.counting.specs.Most.{support}
use Rattle.counting.proofs.Most.{support_zero, support_places}
use Rattle.tally.proofs.support_of.Goals as goal

pub returns-then-v-eq0 : goal.returns-then-v-eq0
returns-then-v-eq0 c =
    sym (ap (support c.args.rows.now) c.if-v-eq0.true
    ∙ support_zero c.args.rows.now)

pub returns-else-v-eq0 : goal.returns-else-v-eq0
returns-else-v-eq0 c = c.places_of.ensures ∙ sym (support_places _ _ c.if-v-eq0.false)
