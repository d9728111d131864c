-- `lines::copy` meets its contract: std copies the front of one slice to the front of the other, which is what the
-- clauses say, and Rattle finds that alone. What is proved here is that the contract says all. Assumes nothing.
use mathlib.Core.Path.{◌≡◌, sym, ap, ◌∙◌}
use mathlib.Core.List.{◌++◌}
use Prim.Native.Nat.{ℕ}
use lib.ListN.{take, drop}
use Rattle.lines.proofs.copy.Reads as Reads

-- the contract admits one reply, and one last contents of the slice
pub only_one : (κs : _) (a : _) (r s : _) (x y : _) → Reads.Post κs a r x → Reads.Post κs a s y →
    (r ≡ s) × (x.1.0.now ≡ y.1.0.now)
only_one κs a r s x y p q =
    let same = p.0 ∙ sym q.0 in
    (same, p.1 ∙ ap (λ (k : ℕ). take k a.0.now ++ drop k a.1.0.now) same ∙ sym q.1)
