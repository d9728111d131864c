-- Bytes that std tests or turns at once: those of the mark, and those of a number, of which the sum is the number that
-- stands there. Assumes nothing.
use mathlib.Core.Path.{◌≡◌, refl, sym, ap, ◌∙◌}
use mathlib.Core.Bool.{Bool, true, false, false≢true, ◌&&◌}
use mathlib.Core.List.{List, [], ◌∷◌}
use mathlib.Core.Logic.{⊎_elim}
use lib.Dec.{eqb}
use borrow.Author.Tests.{eqb-true, eq-eqb, ne_eqb}
use Rattle.counting.proofs.Bools.{either}
use Prim.Native.Nat.{ℕ, ◌+◌, ◌-◌, ◌*◌, ◌≤◌, ◌<◌}
use native.Mathlib.Nat.{add-zero}
use native.Mathlib.Omega.{arith}
use lib.ListN.{length, get_or, take, drop}
use Rattle.std.proofs.lemmas.List.{get_or-take, get_or-drop}
use Rattle.std.specs.Int.{from_be_bytes, w64}
use Rattle.std.specs.List.{starts_with}
use Rattle.runfile.specs.File.{number, has_mark}

turned : (x y : ℕ) → eqb x y ≡ eqb y x
turned x y =
    ⊎_elim
    (λ t. t ∙ sym (eq-eqb y x (sym (eqb-true x y t))))
    (λ f. f ∙ sym (ne_eqb y x (λ e. false≢true (sym f ∙ eq-eqb x y (sym e)))))
    (either (eqb x y))

-- the test whether bytes begin with the mark
marks : (bytes : List ℕ) → 3 ≤ length bytes → starts_with eqb bytes (72 ∷ 78 ∷ 66 ∷ []) ≡ has_mark bytes
unfolding has_mark
marks [] h = absurd (omega (arith, h))
marks (a ∷ []) h = absurd (omega (arith, h))
marks (a ∷ b ∷ []) h = absurd (omega (arith, h))
marks (a ∷ b ∷ c ∷ rest) h = rw (turned 72 a, turned 78 b, turned 66 c) (ands (eqb a 72) (eqb b 78) (eqb c 66))
  where
    ands : (x y z : Bool) → (x && (y && (z && true))) ≡ ((x && y) && z)
    ands true true true = refl
    ands true true false = refl
    ands true false z = refl
    ands false y z = refl

pub marked : (bytes : List ℕ) (r : Bool) → 3 ≤ length bytes → r ≡ starts_with eqb bytes (72 ∷ 78 ∷ 66 ∷ []) →
    has_mark bytes ≡ r
marked bytes r l e = sym (e ∙ marks bytes l)

module _ (bytes : List ℕ) (at : ℕ) where
  first : get_or bytes (at + 0) 0 ≡ get_or bytes at 0
  first = ap (λ (k : ℕ). get_or bytes k 0) (add-zero at)

  pub number_of_2 : get_or bytes at 0 * 256 + get_or bytes (at + 1) 0 ≡ number bytes at 2
  unfolding number
  number_of_2 = omega (arith, first)

  -- eight bytes that are lent
  pub number_of_8 : (eight : List ℕ) → eight ≡ take (at + 8 - at) (drop at bytes) →
      from_be_bytes w64 eight ≡ number bytes at 8
  unfolding number
  number_of_8 eight e =
      omega (
        arith,
        first,
        byte 0 (omega arith),
        byte 1 (omega arith),
        byte 2 (omega arith),
        byte 3 (omega arith),
        byte 4 (omega arith),
        byte 5 (omega arith),
        byte 6 (omega arith),
        byte 7 (omega arith),
      )
    where
      byte : (i : ℕ) → i < 8 → get_or eight i 0 ≡ get_or bytes (at + i) 0
      byte i l =
          ap (λ (xs : List ℕ). get_or xs i 0) e
          ∙ get_or-take (at + 8 - at) (drop at bytes) i 0 (omega (arith, l))
          ∙ get_or-drop at bytes i 0
