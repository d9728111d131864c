-- `says::tell` meets its contract: a refusal is told as a line, else a fault by its sentence, and where there is
-- neither the slice stays as it is, as an empty text leaves it. Assumes nothing.
use mathlib.Core.Path.{◌≡◌, refl, sym, ◌∙◌}
use mathlib.Core.List.{[], ◌∷◌}
use native.Mathlib.Omega.{arith}
use borrow.Author.Tests.{eq-eqb, ne_eqb}
use Rattle.lines.proofs.Placed.{placed_none}
use Rattle.listing.specs.Listing.{refused_word}
use Rattle.says.specs.Told.{told_text}
use Rattle.says.proofs.Faults.{text_given, text_written, line_told, line_kept}
use Rattle.says.proofs.tell.Reads as Reads
use Rattle.says.proofs.tell.Goals as goal

-- the contract admits one reply, and one last contents of the slice
pub only_one : (κs : _) (a : _) (r s : _) (x y : _) → Reads.Post κs a r x → Reads.Post κs a s y →
    (r ≡ s) × (x.1.1.1.0.now ≡ y.1.1.1.0.now)
only_one κs a r s x y p q = (p.0 ∙ sym q.0, p.1 ∙ sym q.1)

pub returns-then-refused : goal.returns-then-refused
unfolding told_text
returns-then-refused c =
    let a = c.args in
    let e = c.write_line.ensures in
    rw (ne_eqb a.refusal 0 c.if-refused.true)
    (record {
      value = e.value ∙ line_told refused_word (a.refusal ∷ []) _;
      out_after = e.out_after ∙ line_kept refused_word (a.refusal ∷ []) _;
    })

pub returns-then-fault-eq0 : goal.returns-then-fault-eq0
unfolding told_text
returns-then-fault-eq0 c =
    let a = c.args in
    rw (eq-eqb a.refusal 0 c.if-refused.false, eq-eqb a.fault 0 c.if-fault-eq0.true)
    (record {
      value = text_given [] _ 0 refl (omega arith);
      out_after = placed_none a.out.now 0 ∙ text_written [] _ (omega arith);
    })

pub returns : goal.returns
unfolding told_text
returns c =
    let a = c.args in
    rw (eq-eqb a.refusal 0 c.if-refused.false, ne_eqb a.fault 0 c.if-fault-eq0.false, ← c.sentence.ensures.0)
    c.write_fault.ensures
