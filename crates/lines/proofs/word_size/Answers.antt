-- The chain finds the first space, and the first piece of the line ends there, or with the line. Assumes nothing.
use mathlib.Core.Path.{◌≡◌, ap, ◌∙◌}
use lib.Dec.{eqb}
use lib.ListN.{length}
use borrow.Author.Rules.{rules}
use borrow.Author.Tests.{tests}
use Rattle.std.proofs.lemmas.Iterator.{YieldsList-from_slice}
use Rattle.std.proofs.lemmas.Iterator.Search.{position_from_yields_List}
use Rattle.std.specs.List.{position}
use Rattle.std.specs.Option.{unwrap_or}
use Rattle.lines.specs.Read.{word_in}
use Rattle.lines.proofs.Pieces.{piece_found}
use Rattle.lines.proofs.word_size.Goals as goal

pub returns : goal.returns
unfolding word_in
returns c =
    let line = c.args.line.now in
    let found : c.position.result ≡ position (λ byte. eqb byte 32) line =
    position_from_yields_List (λ byte. eqb byte 32) _ _ c.position.result c.position.ensures.ran
    (YieldsList-from_slice line c.iter.ensures.rest) (λ x b q k. search (rules, tests)) in
    c.unwrap_or.ensures ∙ ap (λ at. unwrap_or at (length line)) found ∙ piece_found line
