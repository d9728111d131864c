-- `says::write_fault` meets its contract: `line` and the number are put together apart, in 26 bytes, without the
-- newline; where the slice has room for them and the sentence, they are copied to its front, and the sentence behind
-- them; a slice that is too short stays as it is. Assumes nothing.
use mathlib.Core.Path.{◌≡◌, refl, ap, ◌∙◌}
use mathlib.Core.List.{List, ◌++◌}
use Prim.Native.Nat.{ℕ, ◌+◌, ◌-◌, ◌≤◌, ◌<◌, min}
use native.Mathlib.Omega.{arith}
use lib.ListN.{length, take, drop, length-append, length-drop}
use Rattle.lines.proofs.Placed.{rest_whole}
use Rattle.says.specs.Told.{fault_line}
use Rattle.says.proofs.Faults.{
  line_start,
  front_short,
  front_size,
  front_text,
  text_refused,
  text_given,
  text_leaves,
  parts_written,
}
use Rattle.says.proofs.write_fault.Goals as goal
use Rattle.says.proofs.write_fault.Goals.{After-copy, After-write_line-end, Else-out-size, Start}

-- `line` and the number, as they are put together apart, and how many bytes they have
abbrev end_of : After-write_line-end → ℕ
end_of c = c.write_line-end.result.size - 1

abbrev apart_of : After-write_line-end → List ℕ
apart_of c = take (end_of c) c.write_line-end.new.out

abbrev front_of : After-write_line-end → List ℕ
front_of c = line_start c.args.line

size_of : (c : After-write_line-end) → c.write_line-end.result.size ≡ length (front_of c) + 1
size_of c = front_size c.args.line c.ranges.line.fits _ c.write_line-end.ensures.value

short_of : (c : After-write_line-end) → length (front_of c) ≤ 25
short_of c = front_short c.args.line c.ranges.line.fits

text_of : (c : After-write_line-end) → apart_of c ≡ front_of c
text_of c =
    let end : end_of c ≡ length (front_of c) = omega (arith, size_of c) in
    ap (λ (k : ℕ). take k c.write_line-end.new.out) end
    ∙ front_text c.args.line c.ranges.line.fits _ _ refl c.write_line-end.ensures.out_after

long_of : (c : After-write_line-end) → end_of c ≡ length (apart_of c)
long_of c = omega (arith, size_of c, ap length (text_of c))

-- the whole line
abbrev line_of : After-write_line-end → List ℕ
line_of c = fault_line c.args.line c.args.said.now

whole_of : (c : After-write_line-end) → end_of c + length c.args.said.now ≡ length (line_of c)
unfolding fault_line
whole_of c = omega (arith, size_of c, length-append (front_of c) c.args.said.now)

pub overflow_sub-end : goal.overflow_sub-end
overflow_sub-end c = omega (arith, size_of (goal.at.overflow_sub-end c).After-write_line-end)

pub overflow_add-size : goal.overflow_add-size
overflow_add-size c =
    let w = (goal.at.overflow_add-size c).After-write_line-end in
    omega (arith, size_of w, short_of w, w.requires)

pub returns-then-out-size : goal.returns-then-out-size
returns-then-out-size c =
    let w = (goal.at.returns-then-out-size c).After-write_line-end in
    let short : length w.args.out.now < length (line_of w) =
    omega (arith, whole_of w, c.if-out-size.true) in
    record {
      value = ap (λ (r : ℕ). record { refusal = r; size = 0 }) c.from.ensures ∙ text_refused (line_of w) _ short;
      out_after = text_leaves (line_of w) _ short;
    }

pub slice_bounds-start-end : goal.slice_bounds-start-end
slice_bounds-start-end c =
    let w = (goal.at.slice_bounds-start-end c).After-write_line-end in
    omega (arith, size_of w, short_of w, w.write_line-end.auto.out)

pub slice_bounds-copy-end : goal.slice_bounds-copy-end
slice_bounds-copy-end c = long_of (goal.at.slice_bounds-copy-end c).After-write_line-end

-- a copy for which there is room is a whole one
whole_copy : (bytes out new : List ℕ) (n : ℕ) → n ≡ min (length bytes) (length out) → length bytes ≤ length out →
    new ≡ take n bytes ++ drop n out → new ≡ take (length bytes) bytes ++ drop (length bytes) out
whole_copy bytes out new n e room h =
    let all : n ≡ length bytes = omega arith in
    h ∙ ap (λ (k : ℕ). take k bytes ++ drop k out) all

pub returns : goal.returns
unfolding fault_line
returns c =
    let copied = (goal.at.returns c).After-copy in
    let else = (goal.at.After-copy copied).Else-out-size in
    let w = (goal.at.Else-out-size else).After-write_line-end in
    let s = w.args in
    let one = copied.copy.new.out in
    let front : length (apart_of w) ≤ length s.out.now =
    omega (arith, long_of w, whole_of w, else.if-out-size.false) in
    let rest : length s.said.now ≤ length (take (length one - end_of w) (drop (end_of w) one)) =
    omega (
      arith,
      ap length (rest_whole one (end_of w)),
      length-drop (end_of w) one,
      copied.copy.auto.out,
      whole_of w,
      else.if-out-size.false,
    ) in
    record {
      value = text_given (line_of w) _ _ (whole_of w) else.if-out-size.false;
      out_after = parts_written s.out.now one _ (apart_of w) s.said.now (line_of w) (end_of w) (long_of w)
          (ap (λ (f : List ℕ). f ++ s.said.now) (text_of w)) (omega (arith, whole_of w, else.if-out-size.false))
          (whole_copy _ _ _ _ copied.copy.ensures.value front copied.copy.ensures.out_after)
          (whole_copy _ _ _ _ c.copy-2.ensures.value rest c.copy-2.ensures.out_after);
    }
