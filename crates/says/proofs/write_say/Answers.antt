-- `says::write_say` meets its contract: n outside 1 to 13 is refused, and inside it the numbers are those of the line,
-- which is then written. Assumes nothing.
use mathlib.Core.Path.{◌≡◌, refl, sym, ap, ◌∙◌}
use mathlib.Core.Bool.{true}
use Prim.Native.Nat.{ℕ, ◌≤◌}
use borrow.Author.Tests.{lt-ltb, le-ltb}
use Rattle.sizes.specs.Sizes.{outside}
use Rattle.sizes.proofs.Laws.{inside, outside_low, outside_high}
use Rattle.says.specs.Say.{later_numbers, say_numbers, say_reply, say_writes}
use Rattle.says.proofs.write_say.Reads as Reads
use Rattle.says.proofs.write_say.Goals as goal
use Rattle.says.proofs.write_say.Goals.{
  Else-n-gt13,
  Start,
  then-n-lt1-via-then-n-lt1,
  then-n-lt1-via-else-n-lt1+then-n-gt13,
}

-- n is 1 to 13
low_of : (c : Else-n-gt13) → 1 ≤ c.args.n
low_of c = c.if-n-lt1.false

high_of : (c : Else-n-gt13) → c.args.n ≤ 13
high_of c = c.if-n-gt13.false

-- the contract admits one reply, and one last contents of the slice
pub only_one : (κs : _) (a : _) (r s : _) (x y : _) → Reads.Post κs a r x → Reads.Post κs a s y →
    (r ≡ s) × (x.1.1.1.1.0.now ≡ y.1.1.1.1.0.now)
only_one κs a r s x y p q = (p.0 ∙ sym q.0, p.1 ∙ sym q.1)

pub returns-then-n-lt1 : goal.returns-then-n-lt1
unfolding say_reply say_writes
returns-then-n-lt1 c =
    let out : outside c.args.n ≡ true =
    elim c.then-n-lt1.branch [
      | then-n-lt1-via-then-n-lt1 w ↦ outside_low _ w.if-n-lt1.true
      | then-n-lt1-via-else-n-lt1+then-n-gt13 w ↦ outside_high _ w.if-n-gt13.true
    ] in
    rw out (record { value = ap (λ (r : ℕ). record { refusal = r; size = 0 }) c.from.ensures; out_after = refl })

pub returns-then-p-square : goal.returns-then-p-square
unfolding say_reply say_writes say_numbers
returns-then-p-square c =
    let most = (goal.at.returns-then-p-square c).Else-n-gt13 in
    rw (inside _ (low_of most) (high_of most), lt-ltb _ _ c.if-p-square.true)
    c.write_line.ensures

pub returns : goal.returns
unfolding say_reply say_writes say_numbers later_numbers
returns c =
    let most = (goal.at.returns c).Else-n-gt13 in
    rw (inside _ (low_of most) (high_of most), le-ltb _ _ c.if-p-square.false)
    c.write_line-2.ensures
