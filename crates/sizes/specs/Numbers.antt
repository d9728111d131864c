-- The number of each refusal (docs/SCOPE.md), and of a test that may end in one. No refusal has number 7: after 4 and
-- 5 no slice of rows gives it.
use Rattle.std.specs.Prelude.{ℕ, Result, Ok, Err}
use Rattle.sizes.specs.declared.refusal.Refusal.{Refusal}
use Rattle.sizes.specs.declared.refusal.Refusal.TheVariants.{
  ShortHeading,
  NoMark,
  OtherVersion,
  Outside,
  TooMany,
  Stray,
  WrongBytes,
  SoundZero,
  ShortSlice,
  WrongLength,
  AllDone,
  Above2,
  BadState,
  NoBox,
}

-- the number that stands for a refusal in replies and listings
abbrev pub number_of : Refusal → ℕ
number_of ShortHeading = 1
number_of NoMark = 2
number_of OtherVersion = 3
number_of Outside = 4
number_of TooMany = 5
number_of Stray = 6
number_of WrongBytes = 8
number_of SoundZero = 9
number_of ShortSlice = 10
number_of WrongLength = 11
number_of AllDone = 12
number_of Above2 = 13
number_of BadState = 14
number_of NoBox = 15

-- the number of a test: 0 where it is passed
abbrev pub refusal_in : {T : Type 0} → Result T Refusal → ℕ
refusal_in (Ok _) = 0
refusal_in (Err refusal) = number_of refusal
