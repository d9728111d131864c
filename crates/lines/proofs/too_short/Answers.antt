-- `lines::too_short` meets its contract: where the room is no longer than the word, there is none for the newline;
-- where it is longer by one and by 21 for each number, every line with so many numbers fits; and else the numbers
-- have to fit between the two. Assumes nothing.
use mathlib.Core.Path.{sym, ◌∙◌}
use native.Mathlib.Omega.{arith}
use lib.ListN.{length}
use borrow.Author.Tests.{lt-ltb, le-ltb}
use Rattle.lines.specs.Line.{too_short}
use Rattle.lines.proofs.Lines.{fields_most, line_length, line_short}
use Rattle.lines.proofs.too_short.Goals as goal

pub returns-then-room-word : goal.returns-then-room-word
unfolding too_short
returns-then-room-word c =
    let f = c.args in
    sym (lt-ltb f.room _ (omega (arith, line_length f.word.now f.numbers.now)))

pub returns-then-numbers-left : goal.returns-then-numbers-left
unfolding too_short
returns-then-numbers-left c =
    let f = c.args in
    let numbers = f.numbers.now in
    let most = fields_most numbers (λ i. (c.type_inv.numbers i).fits) (length numbers) in
    sym (le-ltb f.room _ (omega (arith, line_length f.word.now numbers)))

pub returns : goal.returns
returns c =
    let f = c.args in
    c.numbers_exceed.ensures ∙ line_short f.word.now f.numbers.now f.room c.if-room-word.false
