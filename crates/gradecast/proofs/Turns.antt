-- A turn of a loop that counts: the counter is one more where the test is passed, and stays where it is not. And a
-- step that counts the echoes, or does not. Assumes nothing.
use mathlib.Core.Path.{◌≡◌, sym, ◌∙◌}
use mathlib.Core.Bool.{Bool, true, false, not}
use Prim.Native.Nat.{ℕ, ◌+◌, ◌<◌}
use native.Mathlib.Omega.{arith}
use lib.Dec.{eqb}
use borrow.Author.Tests.{eq-eqb, ne_eqb}
use Rattle.counting.proofs.Bools.{cond_true, cond_false, never, not_of_true, not_of_false}
use Rattle.counting.proofs.Loops.{Counted, counts}

pub counts_one : {m k found : ℕ} (p : ℕ → Bool) → Counted m p k found → k < m → p k ≡ true →
    Counted m p (k + 1) (found + 1)
counts_one p counted l passes = counts p counted l (sym (cond_true 1 0 passes))

pub counts_none : {m k found : ℕ} (p : ℕ → Bool) → Counted m p k found → k < m → p k ≡ false →
    Counted m p (k + 1) found
counts_none {found = found} p counted l fails =
    let turn = counts p counted l (sym (cond_false 1 0 fails)) in
    let same : found ≡ found + 0 = omega arith in
    (turn.0, same ∙ turn.1)

-- a step that counts is told by a number that is not 0
pub counting : (flag : ℕ) → (flag ≡ 0 → ⊥) → not (eqb flag 0) ≡ true
counting flag h = not_of_false (ne_eqb flag 0 h)

pub not_counting : {A : Type 0} (flag : ℕ) → flag ≡ 0 → not (eqb flag 0) ≡ true → A
not_counting flag z h = never h (not_of_true (eq-eqb flag 0 z))
