-- `lines::write_line` meets its contract: a slice that is too short stays as it is; one that is long enough takes
-- the word, the numbers behind it and the newline behind them, which together are the line, and the place behind the
-- newline is its size. Assumes nothing.
use mathlib.Core.Path.{◌≡◌, sym, ap, subst, ◌∙◌}
use mathlib.Core.List.{List, ◌++◌}
use Prim.Native.Nat.{ℕ, ◌+◌, ◌≤◌}
use native.Mathlib.Omega.{arith}
use lib.ListN.{length, take, drop, length-append}
use borrow.Author.Tests.{ltb-true, ltb-false}
use Rattle.lines.specs.declared.Written.{Written}
use Rattle.lines.specs.Line.{fields, line_of, too_short, placed}
use Rattle.lines.proofs.Lines.{line_length, line_refused, line_given, line_leaves, line_written}
use Rattle.lines.proofs.Placed.{placed_front, placed_then, placed_next, placed_length}
use Rattle.lines.proofs.write_line.Reads as Reads
use Rattle.lines.proofs.write_line.Goals as goal
use Rattle.lines.proofs.write_line.Goals.{
  After-copy-place,
  After-put_numbers-end,
  After-too_short,
  Else-too_short,
  Start,
}

abbrev start_of : After-too_short → Start
start_of c = (goal.at.After-too_short c).Start

-- where there is room, and where the word is written
abbrev room_of : Else-too_short → Start
room_of c = start_of (goal.at.Else-too_short c).After-too_short

abbrev else_of : After-copy-place → Else-too_short
else_of c = (goal.at.After-copy-place c).Else-too_short

abbrev copied_of : After-put_numbers-end → After-copy-place
copied_of c = (goal.at.After-put_numbers-end c).After-copy-place

abbrev first_of : After-put_numbers-end → Start
first_of c = room_of (else_of (copied_of c))

abbrev word_of : Start → List ℕ
word_of s = s.args.word.now

-- the numbers, each as a space and its digits
abbrev numbers_of : Start → List ℕ
numbers_of s = fields s.args.numbers.now (length s.args.numbers.now)

-- the line has its place in the slice, and so have its parts
line_of_lem : (c : Else-too_short) →
    let s = room_of c in
    length (line_of (word_of s) s.args.numbers.now) ≤ length s.args.out.now
unfolding too_short
line_of_lem c = ltb-false _ _ (sym c.too_short.ensures ∙ c.if-too_short.false)

fits_of : (c : Else-too_short) →
    let s = room_of c in
    length (word_of s) + length (numbers_of s) + 1 ≤ length s.args.out.now
fits_of c =
    let s = room_of c in
    omega (arith, line_length (word_of s) s.args.numbers.now, line_of_lem c)

-- all of the word is copied
whole_of : (c : After-copy-place) → c.copy-place.result ≡ length (word_of (room_of (else_of c)))
whole_of c = omega (arith, c.copy-place.ensures.value, fits_of (else_of c))

-- the word, and behind it the numbers
text_of : (c : After-put_numbers-end) →
    c.put_numbers-end.new.out ≡ placed (first_of c).args.out.now 0 (word_of (first_of c) ++ numbers_of (first_of c))
text_of c =
    let s = first_of c in
    let copy = (copied_of c).copy-place in
    let word = word_of s in
    let out = s.args.out.now in
    let front =
    subst (λ (k : ℕ). copy.new.out ≡ take k word ++ drop k out) (whole_of (copied_of c)) copy.ensures.out_after in
    c.put_numbers-end.ensures.out_after
    ∙ placed_then out copy.new.out 0 word (numbers_of s) copy.result (front ∙ placed_front out word)
    (omega (arith, whole_of (copied_of c)))
    (omega (arith, fits_of (else_of (copied_of c)), length-append word (numbers_of s)))

long_of : (c : After-put_numbers-end) → length c.put_numbers-end.new.out ≡ length (first_of c).args.out.now
long_of c =
    let s = first_of c in
    ap length (text_of c)
    ∙ placed_length s.args.out.now 0 (word_of s ++ numbers_of s)
    (omega (arith, fits_of (else_of (copied_of c)), length-append (word_of s) (numbers_of s)))

-- the newline comes behind them
end_of : (c : After-put_numbers-end) →
    c.put_numbers-end.result ≡ length (word_of (first_of c)) + length (numbers_of (first_of c))
end_of c = omega (arith, c.put_numbers-end.ensures.value, whole_of (copied_of c))

-- the contract admits one reply, and one last contents of the slice
pub only_one : (κs : _) (a : _) (r s : _) (x y : _) → Reads.Post κs a r x → Reads.Post κs a s y →
    (r ≡ s) × (x.0.now ≡ y.0.now)
only_one κs a r s x y p q = (p.0 ∙ sym q.0, p.1 ∙ sym q.1)

pub returns-then-too_short : goal.returns-then-too_short
unfolding too_short
returns-then-too_short c =
    let f = c.args in
    let short = ltb-true _ _ (sym c.too_short.ensures ∙ c.if-too_short.true) in
    record {
      value = line_refused f.word.now f.numbers.now (length f.out.now) short;
      out_after = sym (line_leaves f.word.now f.numbers.now f.out.now short);
    }

pub put_numbers-end-requires : goal.put_numbers-end-requires
put_numbers-end-requires c =
    let copied = (goal.at.put_numbers-end-requires c).After-copy-place in
    omega (
      arith,
      fits_of (else_of copied),
      whole_of copied,
      copied.copy-place.auto.out,
    )

pub bounds-out-end : goal.bounds-out-end
bounds-out-end c =
    let put = (goal.at.bounds-out-end c).After-put_numbers-end in
    omega (arith, fits_of (else_of (copied_of put)), end_of put, long_of put)

pub overflow_add-size : goal.overflow_add-size
overflow_add-size c =
    let put = (goal.at.overflow_add-size c).After-put_numbers-end in
    omega (arith, fits_of (else_of (copied_of put)), end_of put, (first_of put).well_formed.0.0)

pub returns : goal.returns
unfolding line_of
returns c =
    let put = (goal.at.returns c).After-put_numbers-end in
    let s = first_of put in
    let word = word_of s in
    let numbers = s.args.numbers.now in
    let out = s.args.out.now in
    let end = put.put_numbers-end.result in
    let size : end + 1 ≡ length (line_of word numbers) = omega (arith, line_length word numbers, end_of put) in
    record {
      value =
          ap {B = Written} (λ (m : ℕ). record { refusal = 0; size = m }) size
          ∙ line_given word numbers (length out) (line_of_lem (else_of (copied_of put)));
      out_after =
          placed_next out _ 0 (word ++ numbers_of s) 10 end (text_of put)
          (end_of put ∙ omega (arith, length-append word (numbers_of s)))
          (omega (arith, fits_of (else_of (copied_of put)), end_of put))
          ∙ sym (line_written word numbers out (line_of_lem (else_of (copied_of put))));
    }
