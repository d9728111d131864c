-- `Line::of_reason` meets its contract: its three parts and a newline are the line, and all have their places.
-- Assumes nothing.
use mathlib.Core.Path.{ap, ◌∙◌}
use mathlib.Core.List.{List, ◌++◌}
use Prim.Native.Nat.{ℕ}
use Rattle.lines.specs.Line.{field}
use Rattle.why.specs.Answer.{newline, listed_words, confidence_words, support_words, reason_line}
use Rattle.why.proofs.Line.of_reason.Goals as goal

pub returns : goal.returns
unfolding reason_line
returns c =
    let a = c.args.reason in
    let one = c.put_part.ensures.text
    ∙ ap (λ (xs : List ℕ). xs ++ (listed_words ++ field a.iteration)) c.new-line.ensures in
    let two = c.put_part-2.ensures.text
    ∙ ap (λ (xs : List ℕ). xs ++ (confidence_words ++ field a.confidence)) one in
    let three = c.put_part-3.ensures.text
    ∙ ap (λ (xs : List ℕ). xs ++ (support_words ++ field a.support)) two in
    c.put_newline.ensures ∙ ap (λ (xs : List ℕ). xs ++ newline) three
