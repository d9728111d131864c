-- The length of a line and of its parts, and what the reply is by that length.
-- Assumes nothing.
use mathlib.Core.Path.{◌≡◌, refl, sym, ap, ◌∙◌}
use mathlib.Core.Bool.{Bool, true, false}
use mathlib.Core.List.{List, [], ◌∷◌, ◌++◌}
use Prim.Native.Nat.{ℕ, zero, suc, ◌+◌, ◌-◌, ◌*◌, ◌^◌, ◌≤◌, ◌<◌}
use native.Mathlib.Nat.{le_refl}
use native.Mathlib.Numerals.{add-one}
use native.Mathlib.Omega.{arith}
use mathlib.Core.Logic.{⊎_elim}
use lib.Arith.{le-zero}
use lib.Dec.{ltb}
use lib.ListN.{length, get_or, length-append}
use borrow.Author.Tests.{lt-ltb, le-ltb, ltb-true, ltb-false}
use Rattle.counting.specs.Count.{sum}
use Rattle.counting.proofs.Bools.{cond_true, cond_false}
use Rattle.counting.proofs.Count.{at_or_below}
use Rattle.lines.proofs.Decimal.{decimal_20}
use Rattle.lines.specs.Line.{decimal, field, fields, line_of, too_short, placed, line_reply, line_writes}

-- the turn of a loop over the numbers
pub fields_turn : (numbers : List ℕ) (k : ℕ) → fields numbers (k + 1) ≡ fields numbers k ++ field (get_or numbers k 0)
unfolding fields
fields_turn numbers k = rw add-one refl

pub fields_longer : (numbers : List ℕ) (k : ℕ) →
    length (fields numbers (k + 1)) ≡ length (fields numbers k) + length (field (get_or numbers k 0))
fields_longer numbers k =
    ap length (fields_turn numbers k) ∙ length-append (fields numbers k) (field (get_or numbers k 0))

-- more numbers are no shorter
pub fields_more : (numbers : List ℕ) (k n : ℕ) → k ≤ n → length (fields numbers k) ≤ length (fields numbers n)
fields_more numbers k zero h = rw (le-zero h) (le_refl _)
fields_more numbers k (suc n) h =
    ⊎_elim
    (λ e. rw e (le_refl _))
    (λ l.
    let turn : length (fields numbers (suc n)) ≡ length (fields numbers (n + 1)) =
    ap (λ (m : ℕ). length (fields numbers m)) (sym (add-one n)) in
    omega (arith, fields_more numbers k n (omega arith), fields_longer numbers n))
    (at_or_below k (suc n) (omega arith))

-- a number of 64 bits takes at most 21 bytes, the space among them
pub fields_most : (numbers : List ℕ) → ((i : ℕ) → get_or numbers i 0 < 2 ^ 64) → (k : ℕ) →
    length (fields numbers k) ≤ 21 * k
unfolding fields field
fields_most numbers fits zero = le_refl _
fields_most numbers fits (suc k) =
    omega (
      arith,
      length-append (fields numbers k) (32 ∷ decimal (get_or numbers k 0)),
      fields_most numbers fits k,
      decimal_20 (get_or numbers k 0) (fits k),
    )

pub line_length : (word numbers : List ℕ) →
    length (line_of word numbers) ≡ length word + length (fields numbers (length numbers)) + 1
unfolding line_of
line_length word numbers =
    length-append (word ++ fields numbers (length numbers)) (10 ∷ [])
    ∙ omega (arith, length-append word (fields numbers (length numbers)))

-- a line by the digits of its numbers: the word, a space and the digits of each, the newline
fields_size : (numbers : List ℕ) (k : ℕ) →
    length (fields numbers k) ≡ sum k (λ i. 1 + length (decimal (get_or numbers i 0)))
unfolding fields field sum
fields_size numbers zero = refl
fields_size numbers (suc k) =
    length-append (fields numbers k) (32 ∷ decimal (get_or numbers k 0))
    ∙ omega (arith, fields_size numbers k)

pub line_size : (word numbers : List ℕ) →
    length (line_of word numbers) ≡ length word + sum (length numbers)
    (λ i. 1 + length (decimal (get_or numbers i 0))) + 1
line_size word numbers = omega (arith, line_length word numbers, fields_size numbers (length numbers))

module _ (word numbers : List ℕ) where
  pub line_refused : (room : ℕ) → room < length (line_of word numbers) →
      record { refusal = 10; size = 0 } ≡ line_reply word numbers room
  unfolding line_reply too_short
  line_refused room h = sym (cond_true _ _ (lt-ltb _ _ h))

  pub line_given : (room : ℕ) → length (line_of word numbers) ≤ room →
      record { refusal = 0; size = length (line_of word numbers) } ≡ line_reply word numbers room
  unfolding line_reply too_short
  line_given room h = sym (cond_false _ _ (le-ltb _ _ h))

  pub line_leaves : (slice : List ℕ) → length slice < length (line_of word numbers) →
      line_writes word numbers slice ≡ slice
  unfolding line_writes too_short
  line_leaves slice h = cond_true _ _ (lt-ltb _ _ h)

  pub line_written : (slice : List ℕ) → length (line_of word numbers) ≤ length slice →
      line_writes word numbers slice ≡ placed slice 0 (line_of word numbers)
  unfolding line_writes too_short
  line_written slice h = cond_false _ _ (le-ltb _ _ h)

  -- behind the word and before the newline the numbers have to fit
  pub line_short : (room : ℕ) → length word < room →
      ltb (room - length word - 1) (length (fields numbers (length numbers))) ≡ too_short word numbers room
  unfolding too_short
  line_short room h = go (ltb left need) refl
    where
      left : ℕ
      left = room - length word - 1

      need : ℕ
      need = length (fields numbers (length numbers))

      go : (b : Bool) → ltb left need ≡ b → ltb left need ≡ ltb room (length (line_of word numbers))
      go true e = e ∙ sym (lt-ltb room _ (omega (arith, line_length word numbers, ltb-true left need e)))
      go false e = e ∙ sym (le-ltb room _ (omega (arith, line_length word numbers, ltb-false left need e)))
