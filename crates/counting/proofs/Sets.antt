-- Sets of boxes in one number: the members of a set that was built from a test, of a set within a bound, and of two
-- sets together.
-- Assumes nothing.
use mathlib.Core.Path.{◌≡◌, refl, sym, ap, ◌∙◌, subst}
use mathlib.Core.Bool.{Bool, true, false, cond, ◌||◌}
use mathlib.Core.Logic.{⊎_elim}
use Prim.Native.Nat.{ℕ, zero, suc, ◌+◌, ◌-◌, ◌*◌, ◌/◌, ◌%◌, ◌^◌, ◌≤◌, ◌<◌, max}
use native.Mathlib.Nat.{
  not-suc-le-zero,
  div-eq_of_lt,
  lt_of_lt_of_le,
  add_comm,
  mul_assoc,
  zero-mul,
  one-mul,
  add-mul-div_right,
  add-mul-mod_self_right,
}
use native.Mathlib.Numerals.{add-one}
use native.Mathlib.Omega.{arith}
use lib.Arith.{digits_mod}
use lib.Bits.{bit_or, or_shr, or_step}
use lib.Dec.{eqb}
use lib.Pow.{pow_pos, pow_mono, pow-add, high}
use Rattle.counting.specs.Count.{sum}
use Rattle.counting.specs.Sets.{member, set_of}
use Rattle.counting.proofs.Count.{at_or_below, sum_ext, sum_turn}

double : (n : ℕ) → 2 ^ suc n ≡ 2 ^ n + 2 ^ n
double n = ap (λ (m : ℕ). 2 ^ m) (sym (add-one n)) ∙ pow-add 2 n 1 ∙ omega arith

pub set_of_ext : (n : ℕ) (p q : ℕ → Bool) → ((k : ℕ) → k < n → p k ≡ q k) → set_of n p ≡ set_of n q
unfolding set_of
set_of_ext n p q h =
    sum_ext n (λ k. cond (p k) (2 ^ k) 0) (λ k. cond (q k) (2 ^ k) 0)
    (λ k l. ap (λ (b : Bool). cond b (2 ^ k) 0) (h k l))

-- a set of boxes below n is below 2 ^ n
pub set_of_lt : (n : ℕ) (p : ℕ → Bool) → set_of n p < 2 ^ n
unfolding set_of sum
set_of_lt zero p = pow_pos 0
set_of_lt (suc n) p = go (p n) (set_of_lt n p)
  where
    go : (b : Bool) → set_of n p < 2 ^ n → set_of n p + cond b (2 ^ n) 0 < 2 ^ suc n
    go true h = omega (arith, double n)
    go false h = omega (arith, double n)

bit : Bool → ℕ
bit b = cond b 1 0

as_bit : (b : Bool) (m : ℕ) → cond b m 0 ≡ bit b * m
unfolding bit
as_bit true m = sym (one-mul m)
as_bit false m = sym (zero-mul m)

is_bit : (b : Bool) → eqb (bit b % 2) 1 ≡ b
unfolding bit
is_bit true = refl
is_bit false = refl

-- a bit at place n or above leaves the bits below as they are
keeps : (s b n k : ℕ) → k < n → (s + b * 2 ^ n) / 2 ^ k % 2 ≡ s / 2 ^ k % 2
keeps s b n k h =
    ap (λ (m : ℕ). (s + m) / 2 ^ k % 2) split
    ∙ ap (λ (m : ℕ). m % 2) (add-mul-div_right s (b * 2 ^ (n - suc k) * 2) (pow_pos k))
    ∙ add-mul-mod_self_right (s / 2 ^ k) (b * 2 ^ (n - suc k)) 2
  where
    above : n ≡ n - suc k + 1 + k
    above = omega arith

    split : b * 2 ^ n ≡ b * 2 ^ (n - suc k) * 2 * 2 ^ k
    split =
        ap (λ (m : ℕ). b * 2 ^ m) above
        ∙ ap (λ (m : ℕ). b * m) (pow-add 2 (n - suc k + 1) k ∙ ap (λ (m : ℕ). m * 2 ^ k) (pow-add 2 (n - suc k) 1))
        ∙ sym (mul_assoc b (2 ^ (n - suc k) * 2) (2 ^ k))
        ∙ ap (λ (m : ℕ). m * 2 ^ k) (sym (mul_assoc b (2 ^ (n - suc k)) 2))

-- the test at k is the bit at k
pub member_set_of : (n : ℕ) (p : ℕ → Bool) (k : ℕ) → k < n → member (set_of n p) k ≡ p k
unfolding set_of sum member
member_set_of zero p k h = absurd (not-suc-le-zero h)
member_set_of (suc n) p k h =
    ap (λ (m : ℕ). eqb ((set_of n p + m) / 2 ^ k % 2) 1) (as_bit (p n) (2 ^ n))
    ∙ ⊎_elim
    (λ e. top (sym e))
    (λ b. ap (λ (m : ℕ). eqb m 1) (keeps (set_of n p) (bit (p n)) n k b) ∙ member_set_of n p k b)
    (at_or_below k n h)
  where
    at_top : eqb ((set_of n p + bit (p n) * 2 ^ n) / 2 ^ n % 2) 1 ≡ p n
    at_top =
        ap (λ (m : ℕ). eqb (m % 2) 1)
        (ap (λ (m : ℕ). m / 2 ^ n) (add_comm (set_of n p) (bit (p n) * 2 ^ n)) ∙ high (bit (p n)) n (set_of_lt n p))
        ∙ is_bit (p n)

    top : n ≡ k → eqb ((set_of n p + bit (p n) * 2 ^ n) / 2 ^ k % 2) 1 ≡ p k
    top e = subst (λ (m : ℕ). eqb ((set_of n p + bit (p n) * 2 ^ n) / 2 ^ m % 2) 1 ≡ p m) e at_top

-- a set within n has no member at n or above
pub member_above : (n s k : ℕ) → s < 2 ^ n → n ≤ k → member s k ≡ false
unfolding member
member_above n s k h l =
    rw (div-eq_of_lt (lt_of_lt_of_le h (pow_mono l))) refl

-- the empty set has no member
pub member_empty : (k : ℕ) → member 0 k ≡ false
member_empty k = member_above 0 0 k (pow_pos 0) (omega arith)

-- a box is in two sets together where it is in either
pub member_or : (a b k : ℕ) → member (bit_or a b) k ≡ (member a k || member b k)
unfolding member
member_or a b k =
    ap (λ (m : ℕ). eqb (m % 2) 1) (or_shr a b k ∙ or_step (a / 2 ^ k) (b / 2 ^ k))
    ∙ low (bit_or (a / 2 ^ k / 2) (b / 2 ^ k / 2)) (a / 2 ^ k % 2) (b / 2 ^ k % 2) (omega arith) (omega arith)
  where
    low : (q x y : ℕ) → x < 2 → y < 2 → eqb ((q * 2 + max x y) % 2) 1 ≡ (eqb x 1 || eqb y 1)
    low q zero zero hx hy = rw (digits_mod q {m = 2} {r = 0} (omega arith)) refl
    low q zero (suc zero) hx hy = rw (digits_mod q {m = 2} {r = 1} (omega arith)) refl
    low q (suc zero) zero hx hy = rw (digits_mod q {m = 2} {r = 1} (omega arith)) refl
    low q (suc zero) (suc zero) hx hy = rw (digits_mod q {m = 2} {r = 1} (omega arith)) refl
    low q (suc (suc x)) y hx hy = absurd (omega arith)
    low q zero (suc (suc y)) hx hy = absurd (omega arith)
    low q (suc zero) (suc (suc y)) hx hy = absurd (omega arith)

-- a loop's turn adds the bit of one more box
pub set_of_turn : (n : ℕ) (p : ℕ → Bool) {s r : ℕ} → s ≡ set_of n p → r ≡ cond (p n) (2 ^ n) 0 →
    s + r ≡ set_of (n + 1) p
unfolding set_of
set_of_turn n p h e = sum_turn n (λ k. cond (p k) (2 ^ k) 0) h e

pub set_of_turn_lt : (n : ℕ) (p : ℕ → Bool) {s r : ℕ} → s ≡ set_of n p → r ≡ cond (p n) (2 ^ n) 0 → s + r < 2 ^ (n + 1)
set_of_turn_lt n p {s} {r} h e = subst (λ (m : ℕ). m < 2 ^ (n + 1)) (sym (set_of_turn n p h e)) (set_of_lt (n + 1) p)

-- the bit of the next box is twice this one's, and small sets fit 16 bits
pub bit_turn : (n : ℕ) {b : ℕ} → b ≡ 2 ^ n → b * 2 ≡ 2 ^ (n + 1)
bit_turn n h = ap (λ (m : ℕ). m * 2) h ∙ sym (pow-add 2 n 1)

pub bits_le : (n : ℕ) → n ≤ 13 → 2 ^ n ≤ 8192
bits_le n h = pow_mono h

-- a loop that has come to its bound has built the whole set
pub set_of_whole : {m n : ℕ} (p : ℕ → Bool) {s : ℕ} → m ≡ n → s ≡ set_of m p → s ≡ set_of n p
set_of_whole p e h = h ∙ ap (λ (k : ℕ). set_of k p) e
