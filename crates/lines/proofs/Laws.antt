-- What a line is: its numbers can be read back, have no leading 0 but in 0 itself, and are digits, 1 to 20 of them;
-- the line stands at the front of a slice that is long enough, the rest of which stays. Assumes nothing.
use mathlib.Core.Path.{◌≡◌, refl, sym, ap, ◌∙◌}
use mathlib.Core.List.{List, [], ◌∷◌, ◌++◌}
use mathlib.Core.Logic.{⊎_elim}
use Prim.Native.Nat.{ℕ, ◌+◌, ◌-◌, ◌*◌, ◌/◌, ◌%◌, ◌^◌, ◌≤◌, ◌<◌}
use native.Mathlib.Decide.{dec_lt}
use native.Mathlib.Omega.{arith}
use lib.ListN.{length, get_or, take, drop, get_or-append}
use lib.Seq.{get_or_at}
use Rattle.counting.proofs.Count.{at_or_below}
use Rattle.lines.specs.Line.{decimal, line_of, line_writes, read_on}
use Rattle.lines.proofs.Decimal.{
  decimal_small,
  decimal_large,
  decimal_longer,
  decimal_some,
  decimal_20,
  by_tenths,
}
use Rattle.lines.proofs.Lines.{line_leaves, line_written}
use Rattle.lines.proofs.Placed.{placed_length, placed_found, placed_rest}

read_last : (before : ℕ) (text : List ℕ) (byte : ℕ) →
    read_on before (text ++ (byte ∷ [])) ≡ read_on before text * 10 + (byte - 48)
unfolding read_on
read_last before [] byte = refl
read_last before (b ∷ text) byte = read_last (before * 10 + (b - 48)) text byte

-- the text of a number, read back, is the number
pub decimal_read : (n : ℕ) → read_on 0 (decimal n) ≡ n
unfolding read_on
decimal_read =
    by_tenths (λ n. read_on 0 (decimal n) ≡ n)
    (λ n h. ap (read_on 0) (decimal_small n h) ∙ omega arith)
    (λ n h p. ap (read_on 0) (decimal_large n h) ∙ read_last 0 (decimal (n / 10)) (48 + n % 10) ∙ omega arith)

-- so two numbers with one text are one number
pub decimal_one : (m n : ℕ) → decimal m ≡ decimal n → m ≡ n
decimal_one m n e = sym (decimal_read m) ∙ ap (read_on 0) e ∙ decimal_read n

-- only 0 begins with the digit 0
pub decimal_first : (n : ℕ) → get_or (decimal n) 0 0 ≡ 48 → n ≡ 0
decimal_first =
    by_tenths (λ n. get_or (decimal n) 0 0 ≡ 48 → n ≡ 0)
    (λ n h e. omega (arith, rw (decimal_small n h) at e))
    (λ n h p e.
    let front : get_or (decimal n) 0 0 ≡ get_or (decimal (n / 10)) 0 0 =
    ap (λ (ds : List ℕ). get_or ds 0 0) (decimal_large n h)
    ∙ get_or-append (decimal (n / 10)) ((48 + n % 10) ∷ []) 0 0 (decimal_some (n / 10)) in
    let tenth : n / 10 ≡ 0 = p (sym front ∙ e) in
    absurd (omega arith))

-- every byte of it is a digit, 48 to 57
pub decimal_digits : (n k : ℕ) → k < length (decimal n) → (48 ≤ get_or (decimal n) k 0) × (get_or (decimal n) k 0 ≤ 57)
decimal_digits =
    by_tenths (λ n. (k : ℕ) → k < length (decimal n) → (48 ≤ get_or (decimal n) k 0) × (get_or (decimal n) k 0 ≤ 57))
    (λ n h k l.
    let only : k ≡ 0 = omega (arith, ap length (decimal_small n h)) in
    let byte : get_or (decimal n) k 0 ≡ 48 + n = rw (decimal_small n h, only) refl in
    (omega arith, omega arith))
    (λ n h p k l.
    let front = decimal (n / 10) in
    let at : get_or (decimal n) k 0 ≡ get_or (front ++ ((48 + n % 10) ∷ [])) k 0 =
    ap (λ (ds : List ℕ). get_or ds k 0) (decimal_large n h) in
    ⊎_elim
    (λ e.
    let byte : get_or (decimal n) k 0 ≡ 48 + n % 10 = at ∙ get_or_at front (48 + n % 10) [] 0 k (sym e) in
    (omega arith, omega arith))
    (λ b.
    let byte : get_or (decimal n) k 0 ≡ get_or front k 0 = at ∙ get_or-append front ((48 + n % 10) ∷ []) 0 k b in
    let q = p k b in
    (omega arith, omega arith))
    (at_or_below k (length front) (omega (arith, decimal_longer n h))))

-- a number of 64 bits has 1 to 20 digits
pub decimal_size : (n : ℕ) → n < 2 ^ 64 → (1 ≤ length (decimal n)) × (length (decimal n) ≤ 20)
decimal_size n h = (decimal_some n, decimal_20 n h)

module _ (word numbers slice : List ℕ) where
  -- the slice keeps its length
  pub line_keeps : length (line_writes word numbers slice) ≡ length slice
  line_keeps = go (dec_lt (length slice) (length (line_of word numbers)))
    where
      go : Dec (length slice < length (line_of word numbers)) → length (line_writes word numbers slice) ≡ length slice
      go (yes l) = ap length (line_leaves word numbers slice l)
      go (no d) =
          ap length (line_written word numbers slice (omega (arith, d)))
          ∙ placed_length slice 0 (line_of word numbers) (omega (arith, d))

  -- the line stands at its front
  pub line_front : length (line_of word numbers) ≤ length slice →
      take (length (line_of word numbers)) (line_writes word numbers slice) ≡ line_of word numbers
  line_front l =
      ap (take (length (line_of word numbers))) (line_written word numbers slice l)
      ∙ placed_found slice (line_of word numbers)

  -- the rest stays
  pub line_rest : length (line_of word numbers) ≤ length slice →
      drop (length (line_of word numbers)) (line_writes word numbers slice) ≡ drop
      (length (line_of word numbers)) slice
  line_rest l =
      ap (drop (length (line_of word numbers))) (line_written word numbers slice l)
      ∙ placed_rest slice (line_of word numbers)
