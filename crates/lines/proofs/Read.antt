-- What is read of a line: the reply and the slice by the line and the room, and what callers may count on.
-- Assumes nothing.
use mathlib.Core.Path.{◌≡◌, refl, sym, ap, ◌∙◌}
use mathlib.Core.Bool.{Bool, true, false, cond}
use mathlib.Core.List.{List, [], ◌∷◌}
use Prim.Native.Nat.{ℕ, zero, suc, ◌^◌, ◌≤◌, ◌<◌}
use native.Mathlib.Omega.{arith}
use lib.Dec.{ltb}
use lib.ListN.{length, get_or, take, drop}
use lib.Seq.{take-take}
use borrow.Author.Tests.{lt-ltb, le-ltb, ltb-true, ltb-false, eq-eqb}
use Rattle.counting.proofs.Bools.{cond_true, cond_false, and_left, and_right}
use Rattle.lines.specs.declared.Words.{Words}
use Rattle.lines.specs.Line.{placed, read_on}
use Rattle.lines.specs.Read.{
  bare,
  piece,
  word_in,
  said_in,
  is_digits,
  is_small,
  is_number,
  are_numbers,
  is_line,
  values,
  numbers_in,
  no_place,
  read_reply,
  read_writes,
}
use Rattle.lines.proofs.Placed.{placed_length, placed_found, placed_rest}
use Rattle.lines.proofs.Pieces.{
  piece_within,
  piece_front,
  bare_take,
  bare_within,
  line_none,
  line_word,
  line_numbers,
}

-- a line that is no word and numbers
module _ (line : List ℕ) (f : is_line (bare line) ≡ false) where
  pub read_nothing : (room : ℕ) → read_reply line room ≡ record { refusal = 0; word = 0; count = 0 }
  unfolding read_reply
  read_nothing room = cond_false _ _ f

  pub read_leaves : (slice : List ℕ) → read_writes line slice ≡ slice
  unfolding read_writes
  read_leaves slice = cond_false _ _ f

module _ (line : List ℕ) (t : is_line (bare line) ≡ true) where
  -- a line with more numbers than there is room
  pub read_refused : (room : ℕ) → room < length (numbers_in (bare line)) →
      read_reply line room ≡ record { refusal = 10; word = 0; count = 0 }
  unfolding read_reply no_place
  read_refused room l = cond_true _ _ t ∙ cond_true _ _ (lt-ltb room (length (numbers_in (bare line))) l)

  pub read_stays : (slice : List ℕ) → length slice < length (numbers_in (bare line)) → read_writes line slice ≡ slice
  unfolding read_writes no_place
  read_stays slice l = cond_true _ _ t ∙ cond_true _ _ (lt-ltb (length slice) (length (numbers_in (bare line))) l)

  -- a line that is taken
  pub read_given : (room : ℕ) → length (numbers_in (bare line)) ≤ room →
      read_reply line room ≡
      record { refusal = 0; word = length (word_in (bare line)); count = length (numbers_in (bare line)) }
  unfolding read_reply no_place
  read_given room l = cond_true _ _ t ∙ cond_false _ _ (le-ltb room (length (numbers_in (bare line))) l)

  pub read_written : (slice : List ℕ) → length (numbers_in (bare line)) ≤ length slice →
      read_writes line slice ≡ placed slice 0 (numbers_in (bare line))
  unfolding read_writes no_place
  read_written slice l =
      cond_true _ _ t ∙ cond_false _ _ (le-ltb (length slice) (length (numbers_in (bare line))) l)

  -- its numbers stand at the front of the slice, and the rest stays
  pub read_front : (slice : List ℕ) → length (numbers_in (bare line)) ≤ length slice →
      take (length (numbers_in (bare line))) (read_writes line slice) ≡ numbers_in (bare line)
  read_front slice l =
      ap (take (length (numbers_in (bare line)))) (read_written slice l) ∙ placed_found slice (numbers_in (bare line))

  pub read_rest : (slice : List ℕ) → length (numbers_in (bare line)) ≤ length slice →
      drop (length (numbers_in (bare line))) (read_writes line slice) ≡ drop (length (numbers_in (bare line))) slice
  read_rest slice l =
      ap (drop (length (numbers_in (bare line)))) (read_written slice l) ∙ placed_rest slice (numbers_in (bare line))

-- the word stands at the front of the line
pub read_word : (line : List ℕ) → take (length (word_in (bare line))) line ≡ word_in (bare line)
unfolding word_in
read_word line =
    let size = length (piece (bare line)) in
    sym (take-take size (length (bare line)) line (piece_within (bare line)))
    ∙ ap (take size) (bare_take line)
    ∙ piece_front (bare line)

-- what holds in the three cases holds of every call: the line is no word and numbers, it has no room, or it is taken
module _ (line slice : List ℕ) where
  pub read_cases : (P : Words → List ℕ → Type 0) → P (record { refusal = 0; word = 0; count = 0 }) slice →
      P (record { refusal = 10; word = 0; count = 0 }) slice →
      (is_line (bare line) ≡ true → length (numbers_in (bare line)) ≤ length slice →
      P (record { refusal = 0; word = length (word_in (bare line)); count = length (numbers_in (bare line)) })
      (placed slice 0 (numbers_in (bare line)))) →
      P (read_reply line (length slice)) (read_writes line slice)
  unfolding read_reply read_writes no_place
  read_cases P nothing refused given =
      go (is_line (bare line)) (ltb (length slice) (length (numbers_in (bare line)))) refl refl
    where
      go : (b c : Bool) → is_line (bare line) ≡ b → ltb (length slice) (length (numbers_in (bare line))) ≡ c →
          P (cond b
          (cond c
          (record { refusal = 10; word = 0; count = 0 })
          (record { refusal = 0; word = length (word_in (bare line)); count = length (numbers_in (bare line)) }))
          (record { refusal = 0; word = 0; count = 0 }))
          (cond b (cond c slice (placed slice 0 (numbers_in (bare line)))) slice)
      go false c e d = nothing
      go true true e d = refused
      go true false e d = given e (ltb-false (length slice) (length (numbers_in (bare line))) d)

  -- no more numbers than the slice has places
  pub read_fits : (read_reply line (length slice)).count ≤ length slice
  read_fits = read_cases (λ r xs. r.count ≤ length slice) (omega arith) (omega arith) (λ t l. l)

  -- the word is within the line
  pub read_within : (read_reply line (length slice)).word ≤ length line
  unfolding word_in
  read_within =
      read_cases (λ r xs. r.word ≤ length line) (omega arith) (omega arith)
      (λ t l. omega (arith, piece_within (bare line), bare_within line))

  -- where there is no word there is no number, and the slice stays: the line is no word and numbers, or it is refused
  pub read_wordless : (read_reply line (length slice)).word ≡ 0 →
      ((read_reply line (length slice)).count ≡ 0) × (read_writes line slice ≡ slice)
  read_wordless =
      read_cases (λ r xs. r.word ≡ 0 → (r.count ≡ 0) × (xs ≡ slice)) (λ e. (refl, refl)) (λ e. (refl, refl))
      (λ t l e. absurd (omega (arith, e, line_word (bare line) t)))

  pub read_refused_wordless : ((read_reply line (length slice)).refusal ≡ 0 → ⊥) →
      (read_reply line (length slice)).word ≡ 0
  read_refused_wordless =
      read_cases (λ r xs. (r.refusal ≡ 0 → ⊥) → r.word ≡ 0) (λ d. refl) (λ d. refl) (λ t l d. absurd (d refl))

  -- the slice keeps its length
  pub read_keeps : length (read_writes line slice) ≡ length slice
  read_keeps =
      read_cases (λ r xs. length xs ≡ length slice) refl refl
      (λ t l. placed_length slice 0 (numbers_in (bare line)) (omega (arith, l)))

-- an empty line and one that begins with a space are no word and numbers: at place 0 is a space, or nothing
front_space : (n : ℕ) (line : List ℕ) → get_or line 0 32 ≡ 32 → piece (take n line) ≡ []
unfolding piece
front_space zero line e = refl
front_space (suc n) [] e = refl
front_space (suc n) (byte ∷ line) e = cond_true _ _ (eq-eqb byte 32 e)

pub read_spaced : (line : List ℕ) (room : ℕ) → get_or line 0 32 ≡ 32 →
    read_reply line room ≡ record { refusal = 0; word = 0; count = 0 }
unfolding word_in
read_spaced line room e =
    read_nothing line
    (line_none (bare line) (ap (λ (text : List ℕ). length (piece text)) (sym (bare_take line))
    ∙ ap length (front_space (length (bare line)) line e)))
    room

-- each number of a good line is less than 2⁶⁴
values_low : (texts : List (List ℕ)) → are_numbers texts ≡ true → (i : ℕ) → get_or (values texts) i 0 < 2 ^ 64
unfolding are_numbers values is_number is_small
values_low [] t i = omega arith
values_low (text ∷ texts) t zero =
    ltb-true (read_on 0 text) (2 ^ 64)
    (and_right (is_digits text) _
    (and_right (ltb 0 (length text)) _ (and_left (is_number text) (are_numbers texts) t)))
values_low (text ∷ texts) t (suc i) = values_low texts (and_right (is_number text) (are_numbers texts) t) i

pub numbers_low : (text : List ℕ) → is_line text ≡ true → (i : ℕ) → get_or (numbers_in text) i 0 < 2 ^ 64
unfolding numbers_in
numbers_low text t = values_low (said_in text) (line_numbers text t)
