-- `lines::put_line` meets its contract: behind the text there is no room for a line; within it the line is put
-- there. Assumes nothing.
use mathlib.Core.Path.{◌≡◌, sym, ◌∙◌}
use Prim.Native.Nat.{◌-◌}
use native.Mathlib.Omega.{arith}
use lib.ListN.{length}
use Rattle.lines.specs.Line.{put_reply, put_writes}
use Rattle.lines.proofs.Put.{line_within, line_beyond}
use Rattle.lines.proofs.put_line.Reads as Reads
use Rattle.lines.proofs.put_line.Goals as goal

-- the contract admits one reply, and one last contents of the slice
pub only_one : (κs : _) (a : _) (r s : _) (x y : _) → Reads.Post κs a r x → Reads.Post κs a s y →
    (r ≡ s) × (x.0.now ≡ y.0.now)
only_one κs a r s x y p q = (p.0 ∙ sym q.0, p.1 ∙ sym q.1)

pub returns-then-behind : goal.returns-then-behind
unfolding put_reply put_writes
returns-then-behind c =
    let a = c.args in
    let fits = line_within a.word.now a.numbers.now (length a.text.now - a.at) in
    let same = line_beyond a.word.now a.numbers.now a.text.now a.at (omega arith) in
    record { value = omega (arith, fits); text_after = same }
