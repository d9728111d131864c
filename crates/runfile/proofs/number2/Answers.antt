-- Two bytes are the number's. Assumes nothing.
use mathlib.Core.Path.{◌∙◌}
use Rattle.runfile.proofs.Numbers.{number_of_2}
use Rattle.runfile.proofs.number2.Goals as goal

pub returns : goal.returns
returns c = c.from_be_bytes.ensures ∙ number_of_2 c.args.bytes.now c.args.at
