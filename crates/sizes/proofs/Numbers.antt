-- What the number of a test says: which refusal it is, and that it is none where the number is 0. Assumes nothing.
use mathlib.Core.Path.{◌≡◌, refl, sym, ap, ◌∙◌}
use mathlib.Core.Bool.{cond}
use lib.Dec.{eqb}
use Prim.Native.Nat.{ℕ}
use native.Mathlib.Omega.{arith}
use Rattle.std.specs.Prelude.{Result, Ok, Err}
use Rattle.sizes.specs.declared.refusal.Refusal.{Refusal}
use Rattle.sizes.specs.declared.refusal.Refusal.TheVariants.{
  ShortHeading,
  NoMark,
  OtherVersion,
  Outside,
  TooMany,
  Stray,
  WrongBytes,
  SoundZero,
  ShortSlice,
  WrongLength,
  AllDone,
  Above2,
  BadState,
  NoBox,
}
use Rattle.sizes.specs.Numbers.{number_of, refusal_in}

-- the test that has a number, the last one standing for all that are none
test_of : ℕ → Result (Unit {0}) Refusal
test_of number =
    cond (eqb number 0) (Ok tt)
    (cond (eqb number 1) (Err ShortHeading)
    (cond (eqb number 2) (Err NoMark)
    (cond (eqb number 3) (Err OtherVersion)
    (cond (eqb number 4) (Err Outside)
    (cond (eqb number 5) (Err TooMany)
    (cond (eqb number 6) (Err Stray)
    (cond (eqb number 8) (Err WrongBytes)
    (cond (eqb number 9) (Err SoundZero)
    (cond (eqb number 10) (Err ShortSlice)
    (cond (eqb number 11) (Err WrongLength)
    (cond (eqb number 12) (Err AllDone)
    (cond (eqb number 13) (Err Above2)
    (cond (eqb number 14) (Err BadState)
    (Err NoBox))))))))))))))

told : (r : Result (Unit {0}) Refusal) → test_of (refusal_in r) ≡ r
unfolding test_of
told (Ok _) = refl
told (Err ShortHeading) = refl
told (Err NoMark) = refl
told (Err OtherVersion) = refl
told (Err Outside) = refl
told (Err TooMany) = refl
told (Err Stray) = refl
told (Err WrongBytes) = refl
told (Err SoundZero) = refl
told (Err ShortSlice) = refl
told (Err WrongLength) = refl
told (Err AllDone) = refl
told (Err Above2) = refl
told (Err BadState) = refl
told (Err NoBox) = refl

-- two tests of one number are one
pub same_test : (r s : Result (Unit {0}) Refusal) → refusal_in r ≡ refusal_in s → r ≡ s
same_test r s e = sym (told r) ∙ ap test_of e ∙ told s

-- no refusal has number 0
pub named : (r : Refusal) → number_of r ≡ 0 → ⊥
named ShortHeading = search arith
named NoMark = search arith
named OtherVersion = search arith
named Outside = search arith
named TooMany = search arith
named Stray = search arith
named WrongBytes = search arith
named SoundZero = search arith
named ShortSlice = search arith
named WrongLength = search arith
named AllDone = search arith
named Above2 = search arith
named BadState = search arith
named NoBox = search arith

-- a test that ended in a refusal has its number, which is not 0
pub ended : {T : Type 0} {r : Result T Refusal} {refusal : Refusal} → r ≡ Err refusal → refusal_in r ≡ 0 → ⊥
ended {refusal = refusal} e z = named refusal (sym (ap refusal_in e) ∙ z)
