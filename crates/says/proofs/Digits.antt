-- A number as four digits in base n, of which the first may be larger: the digits make the number, and they are its
-- own. Assumes nothing.
use mathlib.Core.Path.{◌≡◌, sym, ap, ◌∙◌}
use Prim.Native.Nat.{ℕ, ◌+◌, ◌*◌, ◌/◌, ◌%◌, ◌<◌}
use native.Mathlib.Nat.{add-mul, mul_assoc, div-add-mod', div-div-eq-div-mul}
use native.Mathlib.Omega.{arith}
use lib.Arith.{digits_div, digits_mod}

-- the number with these digits
abbrev pub four : ℕ → ℕ → ℕ → ℕ → ℕ → ℕ
four n k a b c = ((k * n + a) * n + b) * n + c

pub four_make : (n q : ℕ) → q ≡ four n (q / (n * n * n)) (q / (n * n) % n) (q / n % n) (q % n)
four_make n q =
    let square =
    div-div-eq-div-mul q n n
    ∙ sym (div-add-mod' (q / (n * n)) n)
    ∙ ap (λ (x : ℕ). x * n + q / (n * n) % n) (div-div-eq-div-mul q (n * n) n) in
    sym (div-add-mod' q n)
    ∙ ap (λ (x : ℕ). x * n + q % n)
    (sym (div-add-mod' (q / n) n) ∙ ap (λ (x : ℕ). x * n + q / n % n) square)

module _ {n : ℕ} (k : ℕ) {a b c : ℕ} (ha : a < n) (hb : b < n) (hc : c < n) where
  pub fourth_digit : four n k a b c % n ≡ c
  fourth_digit = digits_mod ((k * n + a) * n + b) hc

  pub third_digit : four n k a b c / n % n ≡ b
  third_digit = ap (λ (x : ℕ). x % n) (digits_div ((k * n + a) * n + b) hc) ∙ digits_mod (k * n + a) hb

  without_two : four n k a b c / (n * n) ≡ k * n + a
  without_two =
      sym (div-div-eq-div-mul (four n k a b c) n n)
      ∙ ap (λ (x : ℕ). x / n) (digits_div ((k * n + a) * n + b) hc)
      ∙ digits_div (k * n + a) hb

  pub second_digit : four n k a b c / (n * n) % n ≡ a
  second_digit = ap (λ (x : ℕ). x % n) without_two ∙ digits_mod k ha

  pub first_digit : four n k a b c / (n * n * n) ≡ k
  first_digit =
      sym (div-div-eq-div-mul (four n k a b c) (n * n) n)
      ∙ ap (λ (x : ℕ). x / n) without_two
      ∙ digits_div k ha

-- the first digit apart
pub four_sum : (n k a b c : ℕ) → four n k a b c ≡ k * (n * n * n) + ((a * n + b) * n + c)
four_sum n k a b c =
    let inner : (k * n + a) * n + b ≡ k * n * n + (a * n + b) = omega (arith, add-mul (k * n) a n) in
    let cube : k * n * n * n ≡ k * (n * n * n) =
    mul_assoc (k * n) n n ∙ mul_assoc k n (n * n) ∙ ap (λ (x : ℕ). k * x) (sym (mul_assoc n n n)) in
    ap (λ (x : ℕ). x * n + c) inner ∙ omega (arith, add-mul (k * n * n) (a * n + b) n, cube)
