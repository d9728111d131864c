-- `why::read_number` meets its contract: an empty text and one of more than 20 bytes are no box number. Of the others
-- each byte is read in turn, and one that is no digit decides. Assumes nothing.
use mathlib.Core.Path.{◌≡◌, sym, ap, ◌∙◌}
use Prim.Native.Nat.{ℕ, ◌*◌, ◌+◌, min}
use native.Mathlib.Omega.{arith}
use borrow.Author.Tests.{eqb-true, eqb-false}
use Rattle.why.proofs.Numbers.{
  digit_same,
  capped_min,
  read_begins,
  read_bad,
  read_turn,
  read_good,
  read_value,
  number_empty,
  number_long,
  number_other,
  number_read,
}
use Rattle.why.proofs.read_number.Reads as Reads
use Rattle.why.proofs.read_number.Goals as goal
use Rattle.why.proofs.read_number.Goals.{then-is_empty-via-then-is_empty, then-is_empty-via-else-is_empty+then-long}

-- the contract admits one reply
pub only_one : (κs : _) (a : _) (r s : _) (x y : _) → Reads.Post κs a r x → Reads.Post κs a s y → r ≡ s
only_one κs a r s x y p q = p ∙ sym q

pub returns-then-is_empty : goal.returns-then-is_empty
returns-then-is_empty c =
    elim c.then-is_empty.branch [
      | then-is_empty-via-then-is_empty w ↦
          number_empty c.args.text.now (eqb-true _ 0 (sym c.is_empty.ensures ∙ w.if-is_empty.true))
      | then-is_empty-via-else-is_empty+then-long w ↦
          number_long c.args.text.now (omega (arith, w.if-long.true))
    ]

pub loop-byte-init : goal.loop-byte-init
loop-byte-init c = read_begins c.args.text.now

pub returns-then-not-is_ascii_digit : goal.returns-then-not-is_ascii_digit
returns-then-not-is_ascii_digit c =
    number_other c.args.text.now
    (read_bad _ _ _ c.loop-byte.invariant c.loop-byte-test.true
    (sym (digit_same _) ∙ sym c.is_ascii_digit.ensures.value ∙ c.if-not-is_ascii_digit.true))

pub loop-byte-preserved : goal.loop-byte-preserved
loop-byte-preserved c =
    read_turn _ _ _ c.loop-byte.invariant c.loop-byte-test.true _
    (sym (digit_same _) ∙ sym c.is_ascii_digit.ensures.value ∙ c.if-not-is_ascii_digit.false)
    (c.min-value.ensures
    ∙ ap (λ (digit : ℕ). min (c.loop-byte.value * 10 + digit) 256) c.from.ensures
    ∙ capped_min _)

pub returns : goal.returns
returns c =
    let text = c.args.text.now in
    let r = c.loop-byte.invariant in
    let at_end = c.loop-byte-test.false in
    number_read text c.loop-byte.value (eqb-false _ 0 (sym c.is_empty.ensures ∙ c.if-is_empty.false)) c.if-long.false
    (read_good text _ _ r at_end)
    (read_value text _ _ r at_end)
