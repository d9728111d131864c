-- Decimal digits: what the text of a number is for one below 10 and for a larger one, what is shown by tenths, how
-- many digits there are, and that the digits that `io::decimal` puts down are the text. Assumes nothing.
use mathlib.Core.Path.{◌≡◌, refl, sym, ap, ap₂, ◌∙◌}
use mathlib.Core.Bool.{cond}
use mathlib.Core.List.{List, [], ◌∷◌, ◌++◌}
use mathlib.Core.Logic.{⊎_elim}
use Prim.Native.Nat.{ℕ, zero, suc, ◌+◌, ◌-◌, ◌/◌, ◌%◌, ◌^◌, ◌≤◌, ◌<◌}
use native.Mathlib.Nat.{le_refl, pow-suc, one-le-pow}
use native.Mathlib.Omega.{arith}
use lib.Dec.{ltb}
use lib.ListN.{length, take, length-append}
use borrow.Author.Tests.{lt-ltb, le-ltb, ltb-true, ltb-false}
use Rattle.counting.proofs.Bools.{cond_true, cond_false, either}
use Rattle.io.specs.Counts.{IsPrefixLen}
use Rattle.io.specs.Digits.{hex_digit_ascii, last_digits, IsDigitCount}
use Rattle.lines.specs.Line.{tens, decimal}

-- taking a tenth more often than needed changes nothing
tens_enough : (w v n : ℕ) → n ≤ w → n ≤ v → tens w n ≡ tens v n
unfolding tens
tens_enough zero zero n h l = refl
tens_enough zero (suc v) n h l = sym (cond_true _ _ (lt-ltb n 10 (omega arith)))
tens_enough (suc w) zero n h l = cond_true _ _ (lt-ltb n 10 (omega arith))
tens_enough (suc w) (suc v) n h l =
    ap (λ (ds : List ℕ). cond (ltb n 10) ((48 + n) ∷ []) (ds ++ ((48 + n % 10) ∷ [])))
    (tens_enough w v (n / 10) (omega arith) (omega arith))

pub decimal_small : (n : ℕ) → n < 10 → decimal n ≡ (48 + n) ∷ []
unfolding decimal tens
decimal_small zero h = refl
decimal_small (suc n) h = cond_true _ _ (lt-ltb (suc n) 10 h)

pub decimal_large : (n : ℕ) → 10 ≤ n → decimal n ≡ decimal (n / 10) ++ ((48 + n % 10) ∷ [])
unfolding decimal tens
decimal_large zero h = absurd (omega arith)
decimal_large (suc n) h =
    cond_false _ _ (le-ltb (suc n) 10 h)
    ∙ ap (λ (ds : List ℕ). ds ++ ((48 + suc n % 10) ∷ []))
    (tens_enough n (suc n / 10) (suc n / 10) (omega arith) (le_refl _))

pub decimal_two : (n : ℕ) → 10 ≤ n → n < 100 → decimal n ≡ (48 + n / 10) ∷ (48 + n % 10) ∷ []
decimal_two n h l =
    decimal_large n h
    ∙ ap (λ (ds : List ℕ). ds ++ ((48 + n % 10) ∷ [])) (decimal_small (n / 10) (omega arith))

-- what holds below 10, and of a number where it holds of its tenth, holds of every number
module _ (P : ℕ → Type 0) (small : (n : ℕ) → n < 10 → P n) (large : (n : ℕ) → 10 ≤ n → P (n / 10) → P n) where
  by_tenths_to : (w n : ℕ) → n ≤ w → P n
  by_tenths_to zero n h = small n (omega arith)
  by_tenths_to (suc w) n h =
      ⊎_elim
      (λ t. small n (ltb-true n 10 t))
      (λ f. large n (ltb-false n 10 f) (by_tenths_to w (n / 10) (omega arith)))
      (either (ltb n 10))

  pub by_tenths : (n : ℕ) → P n
  by_tenths n = by_tenths_to n n (le_refl _)

pub decimal_longer : (n : ℕ) → 10 ≤ n → length (decimal n) ≡ length (decimal (n / 10)) + 1
decimal_longer n h = ap length (decimal_large n h) ∙ length-append (decimal (n / 10)) ((48 + n % 10) ∷ [])

-- at least one digit
pub decimal_some : (n : ℕ) → 1 ≤ length (decimal n)
decimal_some =
    by_tenths (λ n. 1 ≤ length (decimal n))
    (λ n h. rw (decimal_small n h) (le_refl _))
    (λ n h p. omega (arith, decimal_longer n h))

-- a number below 10 to the k has at most k digits
pub decimal_most : (k n : ℕ) → n < 10 ^ suc k → length (decimal n) ≤ suc k
decimal_most zero n h = rw (decimal_small n h) (le_refl _)
decimal_most (suc k) n h =
    ⊎_elim
    (λ t. rw (decimal_small n (ltb-true n 10 t)) (omega arith))
    (λ f.
    let l = ltb-false n 10 f in
    let tenth : n / 10 < 10 ^ suc k = omega (arith, pow-suc 10 (suc k)) in
    omega (arith, decimal_longer n l, decimal_most k (n / 10) tenth))
    (either (ltb n 10))

-- a number of 64 bits has at most 20
pub decimal_20 : (n : ℕ) → n < 2 ^ 64 → length (decimal n) ≤ 20
decimal_20 n h = decimal_most 19 n (omega arith)

suc_less : (k : ℕ) → suc k - 1 ≡ k
suc_less k = omega arith

-- as many digits as a number takes, and no more, are its text
pub decimal_fewest : (k n : ℕ) → IsDigitCount 10 1 n k → last_digits 10 k n ≡ decimal n
decimal_fewest zero n f = absurd (omega (arith, f.0))
decimal_fewest (suc zero) n f =
    let small : n < 10 = f.1 in
    let byte : n % 10 ≡ n = omega arith in
    ap (λ (d : ℕ). hex_digit_ascii d ∷ []) byte
    ∙ ap (λ (b : ℕ). b ∷ []) (cond_true _ _ (lt-ltb n 10 small))
    ∙ sym (decimal_small n small)
decimal_fewest (suc (suc k)) n f =
    let below : n < 10 ^ suc (suc k) = f.1 in
    let above : 10 ^ suc k ≤ n = rw (suc_less (suc k)) at (f.2 (omega arith)) in
    let tenth : IsDigitCount 10 1 (n / 10) (suc k) =
    (omega arith, omega (arith, pow-suc 10 (suc k)), λ l. rw (suc_less k) (omega (arith, pow-suc 10 k))) in
    ap₂ (λ (ds : List ℕ) (b : ℕ). ds ++ (b ∷ []))
    (decimal_fewest (suc k) (n / 10) tenth)
    (cond_true _ _ (lt-ltb (n % 10) 10 (omega arith)))
    ∙ sym (decimal_large n (omega (arith, pow-suc 10 k, one-le-pow k 10 (omega arith))))

-- so what `io::decimal` puts down is the text, and what it counts is the text's length
module _ (n k : ℕ) (out : List ℕ)
    (told : IsPrefixLen k out × (IsDigitCount 10 1 n k × (take k out ≡ last_digits 10 k n))) where
  pub decimal_told : take k out ≡ decimal n
  decimal_told = told.1.1 ∙ decimal_fewest k n told.1.0

  pub decimal_counted : k ≡ length (decimal n)
  decimal_counted = told.0.1 ∙ ap length decimal_told
