-- Truth values: what a test that came out says of its parts, and the pick of a test.
-- Assumes nothing.
use mathlib.Core.Path.{◌≡◌, refl, sym, ◌∙◌}
use mir.Val.{bool_byte}
use mathlib.Core.Bool.{Bool, true, false, cond, not, ◌&&◌, ◌||◌, true≢false, false≢true}
use mathlib.Core.Logic.{◌⊎◌}
use mathlib.Core.Logic.◌⊎◌.{inl, inr}

-- a test holds or it does not
pub either : (b : Bool) → (b ≡ true) ⊎ (b ≡ false)
either true = inl refl
either false = inr refl

-- no test does both
pub never {ℓ} : {A : Type ℓ} {b : Bool} → b ≡ true → b ≡ false → A
never t f = absurd (true≢false (sym t ∙ f))

pub and_left : (a b : Bool) → (a && b) ≡ true → a ≡ true
and_left true b h = refl
and_left false b h = h

pub and_right : (a b : Bool) → (a && b) ≡ true → b ≡ true
and_right true b h = h
and_right false b h = absurd (false≢true h)

pub both : {a b : Bool} → a ≡ true → b ≡ true → (a && b) ≡ true
both {a} {b} p q = rw (p, q) refl

pub not_both : {a : Bool} (b : Bool) → a ≡ false → (a && b) ≡ false
not_both {a} b p = rw p refl

pub and_false_right : (a : Bool) {b : Bool} → b ≡ false → (a && b) ≡ false
and_false_right true h = h
and_false_right false h = refl

pub or_cases : (a b : Bool) → (a || b) ≡ true → (a ≡ true) ⊎ (b ≡ true)
or_cases true b h = inl refl
or_cases false b h = inr h

pub or_false_left : (a b : Bool) → (a || b) ≡ false → a ≡ false
or_false_left true b h = h
or_false_left false b h = refl

pub or_false_right : (a b : Bool) → (a || b) ≡ false → b ≡ false
or_false_right true b h = absurd (true≢false h)
or_false_right false b h = h

pub or_true_left : {a : Bool} (b : Bool) → a ≡ true → (a || b) ≡ true
or_true_left {a} b p = rw p refl

pub or_true_right : (a : Bool) {b : Bool} → b ≡ true → (a || b) ≡ true
or_true_right true h = refl
or_true_right false h = h

pub or_none : {a b : Bool} → a ≡ false → b ≡ false → (a || b) ≡ false
or_none {a} {b} p q = rw (p, q) refl

pub not_of_false : {a : Bool} → a ≡ false → not a ≡ true
not_of_false {a} p = rw p refl

pub not_of_true : {a : Bool} → a ≡ true → not a ≡ false
not_of_true {a} p = rw p refl

pub not_true : (a : Bool) → not a ≡ true → a ≡ false
not_true true h = sym h
not_true false h = refl

pub not_false : (a : Bool) → not a ≡ false → a ≡ true
not_false true h = refl
not_false false h = sym h

module _ {ℓ} {A : Type ℓ} where
  -- the pick of a test that came out
  pub cond_true : {b : Bool} (x y : A) → b ≡ true → cond b x y ≡ x
  cond_true {b} x y h = rw h refl

  pub cond_false : {b : Bool} (x y : A) → b ≡ false → cond b x y ≡ y
  cond_false {b} x y h = rw h refl

-- two tests are equal where each holds with the other
pub same : (a b : Bool) → (a ≡ true → b ≡ true) → (b ≡ true → a ≡ true) → a ≡ b
same true b f g = sym (f refl)
same false true f g = g refl
same false false f g = refl

-- a test as a number: yes is 1, no is 0
pub bool_number : (b : Bool) → bool_byte b ≡ cond b 1 0
bool_number true = refl
bool_number false = refl
