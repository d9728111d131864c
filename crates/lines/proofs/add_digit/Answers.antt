-- A byte that is no digit is refused. Where ten times the number reaches 2⁶⁴, so does the number with any digit behind
-- it, and else the sum decides. Assumes nothing.
use borrow.Author.Rules.{rules}
use Rattle.lines.proofs.Digits.{takes_none, takes_told}
use Rattle.lines.proofs.add_digit.Goals as goal

pub returns-then-not-is_digit : goal.returns-then-not-is_digit
returns-then-not-is_digit c = search (rules, takes_none)

pub returns : goal.returns
returns c = search (rules, takes_told)
