-- The contract of `inout::fill` says all where nothing is read; that the code meets it is found alone.
-- Assumes nothing.
use Prim.Native.Nat.{ℕ, ◌+◌, ◌-◌, ◌≤◌, ◌<◌}
use mathlib.Core.List.{List, ◌++◌}
use mathlib.Core.Path.{◌≡◌, sym, ap, ap₂, ◌∙◌}
use native.Mathlib.Omega.{arith}
use lib.ListN.{length, take, drop, take-append-drop}
use lib.Seq.{drop-drop}
use Rattle.inout.proofs.fill.Reads as Reads

-- two lists with the same front and the same rest, which meet or overlap
joined : (at end : ℕ) (xs ys : List ℕ) → end ≤ at → take at xs ≡ take at ys → drop end xs ≡ drop end ys → xs ≡ ys
joined at end xs ys h front rest =
    sym (take-append-drop at xs) ∙ ap₂ (λ (a b : List ℕ). a ++ b) front behind ∙ take-append-drop at ys
  where
    on : end + (at - end) ≡ at
    on = omega (arith, h)

    behind : drop at xs ≡ drop at ys
    behind =
        ap (λ (k : ℕ). drop k xs) (sym on)
        ∙ sym (drop-drop (at - end) end xs)
        ∙ ap (drop (at - end)) rest
        ∙ drop-drop (at - end) end ys
        ∙ ap (λ (k : ℕ). drop k ys) on

-- where the slice has no such part, for it ends before the part does or the part ends before it begins, the contract
-- admits one reply and one last contents; elsewhere it leaves open which bytes come in and how many
pub one_short : (κs : _) (a : _) (r s : _) (x y : _) → Reads.Post κs a r x → Reads.Post κs a s y →
    length a.0.now < a.1.1.0 → (r ≡ s) × (x.0.now ≡ y.0.now)
one_short κs a r s x y p q short =
    let left = p.1.1.1 short in
    let right = q.1.1.1 short in
    (left.0 ∙ sym right.0, left.1 ∙ sym right.1)

pub one_backward : (κs : _) (a : _) (r s : _) (x y : _) → Reads.Post κs a r x → Reads.Post κs a s y →
    a.1.1.0 ≤ a.1.0 → (r ≡ s) × (x.0.now ≡ y.0.now)
one_backward κs a r s x y p q backward = (
  omega (arith, p.0, q.0, backward),
  joined a.1.0 a.1.1.0 x.0.now y.0.now backward (p.1.0 ∙ sym q.1.0)
      (p.1.1.0 ∙ sym q.1.1.0),
)
