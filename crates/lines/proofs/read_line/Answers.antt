-- `lines::read_line` meets its contract: the callees look at the line without its carriage return. Nothing is written
-- before all of the line is known to be good and to have room. Assumes nothing.
use mathlib.Core.Path.{◌≡◌, sym, ap, ap₂, ◌∙◌}
use mathlib.Core.Bool.{true}
use mathlib.Core.List.{List}
use Prim.Native.Nat.{ℕ, ◌≤◌, ◌<◌}
use native.Mathlib.Omega.{arith}
use lib.ListN.{length}
use Rattle.lines.specs.declared.Words.{Words}
use Rattle.lines.specs.Line.{placed}
use Rattle.lines.specs.Read.{bare, word_in, is_line, numbers_in}
use Rattle.lines.proofs.Read.{
  read_nothing,
  read_leaves,
  read_refused,
  read_stays,
  read_given,
  read_written,
}
use Rattle.lines.proofs.read_line.Reads as Reads
use Rattle.lines.proofs.read_line.Goals as goal
use Rattle.lines.proofs.read_line.Goals.{In-Some}

-- the line is good, and its numbers are counted
good_of : (c : In-Some) → is_line (bare c.args.line.now) ≡ true
good_of c = ap is_line (sym c.bare-text.ensures) ∙ c.in-Some.ensures.0

count_of : (c : In-Some) → c.in-Some.count ≡ length (numbers_in (bare c.args.line.now))
count_of c = c.in-Some.ensures.1 ∙ ap (λ (text : List ℕ). length (numbers_in text)) c.bare-text.ensures

-- the contract admits one reply, and one last contents of the slice
pub only_one : (κs : _) (a : _) (r s : _) (x y : _) → Reads.Post κs a r x → Reads.Post κs a s y →
    (r ≡ s) × (x.1.0.now ≡ y.1.0.now)
only_one κs a r s x y p q = (p.0 ∙ sym q.0, p.1 ∙ sym q.1)

pub returns-in_default : goal.returns-in_default
returns-in_default c =
    let line = c.args.line.now in
    let bad = ap is_line (sym c.bare-text.ensures) ∙ c.in_default.ensures in
    record {
      value = sym (read_nothing line bad (length c.args.numbers.now));
      numbers_after = sym (read_leaves line bad c.args.numbers.now);
    }

pub returns-then-numbers-count : goal.returns-then-numbers-count
returns-then-numbers-count c =
    let line = c.args.line.now in
    let out = c.args.numbers.now in
    let some = (goal.at.returns-then-numbers-count c).In-Some in
    let short : length out < length (numbers_in (bare line)) = omega (arith, count_of some) in
    record {
      value = sym (read_refused line (good_of some) (length out) short);
      numbers_after = sym (read_stays line (good_of some) out short);
    }

pub find_numbers-requires : goal.find_numbers-requires
find_numbers-requires c = c.word_size-word.ensures

pub take_numbers-requires-clause-word_value : goal.take_numbers-requires-clause-word_value
take_numbers-requires-clause-word_value c = c.word_size-word.ensures

pub returns : goal.returns
returns c =
    let line = c.args.line.now in
    let out = c.args.numbers.now in
    let some = (goal.at.returns c).In-Some in
    let fits : length (numbers_in (bare line)) ≤ length out = omega (arith, count_of some) in
    record {
      value = ap₂ {C = Words} (λ (w k : ℕ). record { refusal = 0; word = w; count = k })
          (c.word_size-word.ensures ∙ ap (λ (text : List ℕ). length (word_in text)) c.bare-text.ensures)
          (count_of some)
          ∙ sym (read_given line (good_of some) (length out) fits);
      numbers_after = c.take_numbers.ensures
          ∙ ap (λ (text : List ℕ). placed out 0 (numbers_in text)) c.bare-text.ensures
          ∙ sym (read_written line (good_of some) out fits);
    }
