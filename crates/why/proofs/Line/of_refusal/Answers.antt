-- `Line::of_refusal` meets its contract: the line is one part, a word and a number, and a newline. Assumes nothing.
use mathlib.Core.Path.{sym, ap, ◌∙◌}
use mathlib.Core.List.{List, ◌++◌}
use Prim.Native.Nat.{ℕ}
use Rattle.lines.specs.Line.{field}
use Rattle.listing.specs.Listing.{refused_word}
use Rattle.why.specs.Answer.{newline, refused_line}
use Rattle.why.proofs.Reasons.{part_line}
use Rattle.why.proofs.Line.of_refusal.Goals as goal

pub returns : goal.returns
unfolding refused_line
returns c =
    let number = c.args.refusal in
    let words = refused_word ++ field number in
    let part = c.put_part.ensures.text ∙ ap (λ (xs : List ℕ). xs ++ words) c.new-line.ensures in
    c.put_newline.ensures ∙ ap (λ (xs : List ℕ). xs ++ newline) part ∙ sym (part_line refused_word number)
