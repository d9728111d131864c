-- What the vote's code tests of a row, and what the tests say of the definition: 0 is never carried, and any other
-- row by its places. Assumes nothing.
use mathlib.Core.Path.{◌≡◌, refl}
use mathlib.Core.Bool.{true, false}
use mathlib.Core.List.{List}
use Prim.Native.Nat.{ℕ, ◌-◌, ◌≤◌}
use lib.ListN.{length}
use borrow.Author.Tests.{eq-eqb, ne_eqb, le-leb}
use Rattle.counting.specs.Most.{places}
use Rattle.counting.proofs.Bools.{both, not_of_false}
use Rattle.tally.specs.Tally.{carried}

module _ (t : ℕ) (xs : List ℕ) where
  pub carried_zero : (v : ℕ) → v ≡ 0 → carried t xs v ≡ false
  unfolding carried
  carried_zero v e = rw (eq-eqb v 0 e) refl

  pub carried_enough : (v : ℕ) → (v ≡ 0 → ⊥) → length xs - t ≤ places xs v → carried t xs v ≡ true
  unfolding carried
  carried_enough v z h = both (not_of_false (ne_eqb v 0 z)) (le-leb (length xs - t) (places xs v) h)
