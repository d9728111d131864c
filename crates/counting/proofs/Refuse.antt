-- Numbered refusals: the first test that holds gives its number, one that does not hold is passed over, and where the
-- number is 0 no test holds. Assumes nothing.
use mathlib.Core.Path.{◌≡◌, refl}
use mathlib.Core.Bool.{Bool, true, false}
use mathlib.Core.List.{List, [], ◌∷◌, ◌++◌}
use Prim.Native.Nat.{ℕ, suc}
use native.Mathlib.Omega.{arith}
use Rattle.counting.specs.Refuse.{Refusal, first_of}
use Rattle.counting.specs.Refuse.Refusal.{refuse}

module _ (number : ℕ) {test : Bool} (rest : List Refusal) where
  pub refused : test ≡ true → first_of (refuse number test ∷ rest) ≡ number
  unfolding first_of
  refused h = rw h refl

  pub passed : test ≡ false → first_of (refuse number test ∷ rest) ≡ first_of rest
  unfolding first_of
  passed h = rw h refl

-- a call that is not refused passed the first test, and the rest
pub accepted : (number : ℕ) (test : Bool) (rest : List Refusal) → first_of (refuse (suc number) test ∷ rest) ≡ 0 →
    (test ≡ false) × (first_of rest ≡ 0)
unfolding first_of
accepted number true rest h = absurd (omega arith)
accepted number false rest h = (refl, h)

-- a refusal by the first tests of a list is the refusal of the whole list
pub refused_first : (xs ys : List Refusal) → (first_of xs ≡ 0 → ⊥) → first_of (xs ++ ys) ≡ first_of xs
unfolding first_of
refused_first [] ys h = absurd (h refl)
refused_first (refuse number true ∷ xs) ys h = refl
refused_first (refuse number false ∷ xs) ys h = refused_first xs ys h

-- with no test left nothing is refused
pub none_left : first_of [] ≡ 0
unfolding first_of
none_left = refl
