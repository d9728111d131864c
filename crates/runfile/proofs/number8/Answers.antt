-- The eight bytes that are lent are the number's. Assumes nothing.
use mathlib.Core.Path.{◌∙◌}
use Rattle.runfile.proofs.Numbers.{number_of_8}
use Rattle.runfile.proofs.number8.Goals as goal

pub returns : goal.returns
returns c =
    let whole = rw c.unwrap.ensures at c.try_into.ensures.1 in
    c.from_be_bytes.ensures ∙ number_of_8 c.args.bytes.now c.args.at c.unwrap.result whole.same
