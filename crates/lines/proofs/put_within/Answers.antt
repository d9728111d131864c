-- `lines::put_within` meets its contract: the line is written at the front of what lies from the place on, and its
-- size lies within that. Assumes nothing.
use Prim.Native.Nat.{ℕ, ◌+◌, ◌-◌, ◌≤◌}
use mathlib.Core.Path.{◌≡◌, ap, ◌∙◌}
use mathlib.Core.List.{List, ◌++◌}
use native.Mathlib.Omega.{arith}
use lib.ListN.{length, take, length-drop}
use Rattle.lines.specs.declared.Written.{Written}
use Rattle.lines.specs.Line.{line_reply, line_writes, put_reply, put_writes}
use Rattle.lines.proofs.Placed.{rest_whole, rest_none}
use Rattle.lines.proofs.Put.{line_within}
use Rattle.lines.proofs.put_within.Goals as goal
use Rattle.lines.proofs.put_within.Goals.{After-write_line, Start}

abbrev text_of : After-write_line → List ℕ
text_of c = c.args.text.now

is : (c : After-write_line) →
    let f = c.args in
    c.write_line.result.size ≡ (line_reply f.word.now f.numbers.now (length (text_of c) - f.at)).size
is c =
    let f = c.args in
    ap (λ (w : Written). w.size) c.write_line.ensures.value
    ∙ ap (λ (k : ℕ). (line_reply f.word.now f.numbers.now k).size)
    (ap length (rest_whole (text_of c) f.at) ∙ length-drop f.at (text_of c))

within : (c : After-write_line) → c.args.at + c.write_line.result.size ≤ length (text_of c)
within c =
    let f = c.args in
    let fits = line_within f.word.now f.numbers.now (length (text_of c) - f.at) in
    omega (arith, is c, fits, c.requires)

pub overflow_add-result : goal.overflow_add-result
overflow_add-result c = omega (arith, within (goal.at.overflow_add-result c).After-write_line)

pub returns : goal.returns
unfolding put_reply put_writes
returns c =
    let last = (goal.at.returns c).After-write_line in
    let f = last.args in
    let at = f.at in
    let text = text_of last in
    record {
      value = ap (λ (k : ℕ). at + k) (is last);
      text_after = ap (λ (ys : List ℕ). take at text ++ ys)
          (rest_none text last.write_line.new.out at
          ∙ last.write_line.ensures.out_after
          ∙ ap (line_writes f.word.now f.numbers.now) (rest_whole text at));
    }
