-- `notebook_why::print_answer` is safe, ends and gives the length of the whole line: no line has more than 64 bytes,
-- and what was written lies within the text. Assumes nothing.
use mathlib.Core.Path.{◌≡◌, sym, ap, ◌∙◌}
use Prim.Native.Nat.{◌≤◌}
use native.Mathlib.Omega.{arith}
use lib.ListN.{length}
use lib.Seq.{length-take-le}
use Rattle.why.specs.declared.Answered.{Answered}
use Rattle.why.specs.Answer.{answer_of}
use Rattle.why.proofs.Answers.{answer_within}
use Rattle.why.proofs.Room.{answer_whole}
use Rattle.notebook_why.proofs.print_answer.Goals as goal
use Rattle.notebook_why.proofs.print_answer.Goals.{After-answer-size, Start}

-- what was written is part of the text
written : (p : After-answer-size) → p.answer-size.result.size ≤ length p.answer-size.new.out
written p =
    let a = p.args in
    omega (
      arith,
      ap (λ (r : Answered). r.size) p.answer-size.ensures.value,
      answer_within a.file.now a.asked a.listed 64,
      p.answer-size.auto,
    )

-- all of it was written
whole : (p : After-answer-size) →
    let a = p.args in p.answer-size.result.size ≡ length (answer_of a.file.now a.asked a.listed)
whole p =
    let a = p.args in
    ap (λ (r : Answered). r.size) p.answer-size.ensures.value
    ∙ answer_whole a.file.now a.asked a.listed 64 (omega arith)

pub slice_bounds-text-end : goal.slice_bounds-text-end
slice_bounds-text-end c = written (goal.at.slice_bounds-text-end c).After-answer-size

pub slice_bounds-write_all-end : goal.slice_bounds-write_all-end
slice_bounds-write_all-end c =
    sym (length-take-le _ _ (written (goal.at.slice_bounds-write_all-end c).After-answer-size))

pub returns : goal.returns
returns c = whole (goal.at.returns c).After-answer-size
