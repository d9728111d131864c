-- Where the line ends with a carriage return it is stripped, and else the line is given whole. Assumes nothing.
use mathlib.Core.Path.{ap, ◌∙◌}
use mathlib.Core.List.{List}
use Prim.Native.Nat.{ℕ}
use denote.Ref.{Bor}
use Rattle.lines.proofs.Pieces.{bare_told}
use Rattle.lines.proofs.bare.Goals as goal

pub returns : goal.returns
returns c =
    ap (λ (text : Bor (List ℕ)). text.now) c.unwrap_or.ensures
    ∙ bare_told c.args.line c.strip_suffix.result c.strip_suffix.ensures.cases
