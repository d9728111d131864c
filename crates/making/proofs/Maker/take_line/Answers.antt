-- `making::Maker::take_line` meets its contract: it goes through the cases of the definition, in their order. A line
-- of at most 1,000 bytes has no more numbers than there are places for. Assumes nothing.
use mathlib.Core.Path.{◌≡◌, sym, ap, ◌∙◌}
use mathlib.Core.Bool.{false}
use Prim.Native.Nat.{ℕ, ◌≤◌}
use native.Mathlib.Omega.{arith}
use lib.ListN.{length, take}
use lib.Seq.{length-take-le}
use Rattle.lines.specs.declared.Words.{Words}
use Rattle.lines.specs.Read.{bare, word_in}
use Rattle.lines.proofs.Read.{read_within, read_keeps}
use Rattle.making.specs.declared.Maker.{Maker}
use Rattle.making.specs.Make.{
  progress,
  settled,
  not_understood,
  is_comment,
  words_taken,
  content_taken,
  line_ended,
  line_taken,
}
use Rattle.making.proofs.Stages.{counted_so, line_content, content_other, content_words}
use Rattle.making.proofs.Named.{words_front}
use Rattle.making.proofs.Short.{wordless, worded, word_is, count_fits, numbers_are}
use Rattle.std.proofs.lemmas.Grind.{common_steps}
use Rattle.making.proofs.Maker.take_line.Goals as goal
use Rattle.making.proofs.Maker.take_line.Goals.{
  After-is_comment,
  After-read_line-words,
  Else-is_comment,
  Else-is_empty,
  Else-words-eq0,
}

-- a fault of the line that is counted
fault_of : (c : After-is_comment) (r : Maker) (fault : ℕ) →
    let a = c.args in
    let next = c.after_line-next.result in
    r ≡ settled next next.refusal fault →
    progress r a.file.now ≡ not_understood (counted_so a.self a.file.now a.line.now) fault
unfolding not_understood
fault_of c r fault e =
    let a = c.args in
    ap (λ (m : Maker). progress m a.file.now)
    (e ∙ ap (λ (m : Maker). settled m m.refusal fault) c.after_line-next.ensures)

read_of : (c : Else-is_comment) → is_comment c.args.line.now ≡ false
read_of c = sym c.is_comment.ensures ∙ c.if-is_comment.false

-- the line has something in it
content_of : (c : Else-is_empty) →
    let a = c.args in
    content_taken (counted_so a.self a.file.now a.line.now) a.line.now
    ≡ line_ended (progress a.self a.file.now) a.line.now
content_of c =
    let a = c.args in
    line_content a.self a.file.now a.line.now (read_of (goal.at.Else-is_empty c).Else-is_comment)
    c.if-long.false (sym c.is_empty.ensures ∙ c.if-is_empty.false)

-- where it has been read
abbrev full_of : After-read_line-words → Else-is_empty
full_of c = (goal.at.After-read_line-words c).Else-is_empty

short_of : (c : After-read_line-words) → let a = c.args in length a.line.now ≤ length a.numbers.now
short_of c = omega (arith, c.if-long.false, c.told-numbers)

-- the line is a word and numbers
abbrev read_at : Else-words-eq0 → After-read_line-words
read_at c = (goal.at.Else-words-eq0 c).After-read_line-words

within_of : (c : Else-words-eq0) → c.read_line-words.result.word ≤ length c.args.line.now
within_of c =
    omega (
      arith,
      read_within c.args.line.now c.args.numbers.now,
      ap (λ (w : Words). w.word) c.read_line-words.ensures.value,
    )

fits_of : (c : Else-words-eq0) →
    c.read_line-words.result.count ≤ length c.read_line-words.new.numbers
fits_of c =
    let r = read_at c in
    let a = r.args in
    omega (
      arith,
      count_fits a.line.now a.numbers.now _ r.read_line-words.ensures.value (short_of r) c.if-words-eq0.false,
      ap length r.read_line-words.ensures.numbers_after,
      read_keeps a.line.now a.numbers.now,
    )

pub returns-then-is_comment : goal.returns-then-is_comment
unfolding line_ended line_taken
returns-then-is_comment c = grind (arith, common_steps)

pub returns-then-long : goal.returns-then-long
unfolding line_ended line_taken not_understood
returns-then-long c = grind (arith, common_steps)

pub returns-then-is_empty : goal.returns-then-is_empty
unfolding line_ended line_taken
returns-then-is_empty c = grind (arith, common_steps)

pub returns-then-words-eq0 : goal.returns-then-words-eq0
returns-then-words-eq0 c =
    let r = (goal.at.returns-then-words-eq0 c).After-read_line-words in
    let a = r.args in
    fault_of (goal.at.returns-then-words-eq0 c).After-is_comment _ 2 c.at_fault-then-words-eq0.ensures
    ∙ content_other (counted_so a.self a.file.now a.line.now) a.line.now
    (wordless a.line.now a.numbers.now _ r.read_line-words.ensures.value (short_of r) c.if-words-eq0.true)
    ∙ content_of (full_of r)

pub shared_ref_as_front-take_words : goal.shared_ref_as_front-take_words
shared_ref_as_front-take_words c =
    let w = (goal.at.shared_ref_as_front-take_words c).Else-words-eq0 in
    omega (arith, fits_of w, w.read_line-words.auto.numbers)

pub slice_bounds-take_words-end : goal.slice_bounds-take_words-end
slice_bounds-take_words-end c =
    sym (length-take-le _ _ (within_of (goal.at.slice_bounds-take_words-end c).Else-words-eq0))

pub slice_bounds-take_words-end-2 : goal.slice_bounds-take_words-end-2
slice_bounds-take_words-end-2 c =
    sym (length-take-le _ _ (fits_of (goal.at.slice_bounds-take_words-end-2 c).Else-words-eq0))

pub returns : goal.returns
returns c =
    let r = (goal.at.returns c).After-read_line-words in
    let a = c.args in
    let line = a.line.now in
    let s = counted_so a.self a.file.now line in
    let words = c.read_line-words in
    let e = words.ensures in
    let numbers = take words.result.count words.new.numbers in
    let some = c.if-words-eq0.false in
    c.take_words.ensures
    ∙ words_front (progress c.after_line-next.result a.file.now) line numbers words.result.word
    (within_of (goal.at.returns c).Else-words-eq0)
    ∙ ap (λ (m : Maker). words_taken (progress m a.file.now) line words.result.word numbers)
    c.after_line-next.ensures
    ∙ ap (λ (k : ℕ). words_taken s line k numbers) (word_is line a.numbers.now _ e.value (short_of r) some)
    ∙ ap (words_taken s line (length (word_in (bare line))))
    (numbers_are line a.numbers.now _ e.value (short_of r) some _ e.numbers_after)
    ∙ content_words s line (worded line a.numbers.now _ e.value (short_of r) some)
    ∙ content_of (full_of r)
