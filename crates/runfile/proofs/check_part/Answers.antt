-- The bytes hold an eighth of their number in whole rows, and the part ends within them or not; so the test of refusal
-- 8 is made without a sum that could be too large, and then that of 10. Assumes nothing.
use mathlib.Core.Path.{sym, ◌∙◌}
use mathlib.Core.List.{[]}
use Prim.Native.Nat.{◌+◌, ◌*◌, ◌≤◌, ◌<◌}
use native.Mathlib.Omega.{arith}
use lib.ListN.{length}
use borrow.Author.Tests.{lt-ltb, le-ltb}
use Rattle.counting.proofs.Refuse.{refused, passed, none_left}
use Rattle.runfile.specs.Reply.{part_tests, part_refusal}
use Rattle.runfile.proofs.check_part.Goals as goal
use Rattle.runfile.proofs.check_part.Goals.{
  then-whole-from-via-then-whole-from,
  then-whole-from-via-else-whole-from+then-whole-from-2,
}

pub returns-then-whole-from : goal.returns-then-whole-from
unfolding part_refusal part_tests
returns-then-whole-from c =
    let short : length c.args.bytes.now < 8 * (c.args.from + c.args.count) =
    elim c.then-whole-from.branch [
      | then-whole-from-via-then-whole-from w ↦ omega arith
      | then-whole-from-via-else-whole-from+then-whole-from-2 w ↦ omega arith
    ] in
    sym (refused 8 _ (lt-ltb _ _ short))

pub returns-then-short : goal.returns-then-short
unfolding part_refusal part_tests
returns-then-short c =
    let long : 8 * (c.args.from + c.args.count) ≤ length c.args.bytes.now = omega arith in
    sym (passed 8 _ (le-ltb _ _ long) ∙ refused 10 _ (lt-ltb _ _ c.if-short.true))

pub returns : goal.returns
unfolding part_refusal part_tests
returns c =
    let long : 8 * (c.args.from + c.args.count) ≤ length c.args.bytes.now = omega arith in
    sym (passed 8 _ (le-ltb _ _ long) ∙ passed 10 [] (le-ltb _ _ c.if-short.false) ∙ none_left)
