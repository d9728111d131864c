-- A line of 1,000 bytes has at most 1,000 numbers, so they fit where a line's numbers go; what is read of it then is
-- all of it. Assumes nothing.
use mathlib.Core.Path.{◌≡◌, refl, ap, ◌∙◌}
use mathlib.Core.Bool.{Bool, true, false}
use mathlib.Core.List.{List, [], ◌∷◌}
use Prim.Native.Nat.{ℕ, ◌≤◌, ◌<◌}
use native.Mathlib.Omega.{arith}
use lib.Dec.{eqb}
use lib.ListN.{length, take}
use Rattle.counting.proofs.Bools.{either, cond_true, cond_false, and_left}
use borrow.Author.Tests.{ltb-true}
use mathlib.Core.Logic.{⊎_elim}
use Rattle.lines.specs.declared.Words.{Words}
use Rattle.lines.specs.Read.{
  bare,
  piece,
  behind,
  non_empty,
  values,
  said_in,
  word_in,
  is_line,
  are_numbers,
  numbers_in,
  read_reply,
  read_writes,
}
use Rattle.lines.proofs.Pieces.{bare_within}
use Rattle.lines.proofs.Read.{read_nothing, read_given, read_front}

behind_few : (text : List ℕ) → length (behind text) ≤ length text
unfolding behind
behind_few [] = omega arith
behind_few (byte ∷ text) = go (eqb byte 32) refl (behind_few text)
  where
    go : (b : Bool) → eqb byte 32 ≡ b → length (behind text) ≤ length text →
        length (behind (byte ∷ text)) ≤ length (byte ∷ text)
    go true e h = omega (arith, ap length (cond_true (piece text ∷ behind text) (behind text) e), h)
    go false e h = omega (arith, ap length (cond_false (piece text ∷ behind text) (behind text) e), h)

filled_few : (texts : List (List ℕ)) → length (non_empty texts) ≤ length texts
unfolding non_empty
filled_few [] = omega arith
filled_few ([] ∷ texts) = omega (arith, filled_few texts)
filled_few ((byte ∷ text) ∷ texts) = omega (arith, filled_few texts)

values_many : (texts : List (List ℕ)) → length (values texts) ≡ length texts
unfolding values
values_many [] = refl
values_many (text ∷ texts) = omega (arith, values_many texts)

-- no more numbers than bytes
pub numbers_few : (line : List ℕ) → length (numbers_in (bare line)) ≤ length line
unfolding numbers_in said_in
numbers_few line =
    omega (
      arith,
      values_many (non_empty (behind (bare line))),
      filled_few (behind (bare line)),
      behind_few (bare line),
      bare_within line,
    )

-- so a line without a word is none, and one with a word is read whole
module _ (line slice : List ℕ) (r : Words) (e : r ≡ read_reply line (length slice))
    (short : length line ≤ length slice) where
  fits : length (numbers_in (bare line)) ≤ length slice
  fits = omega (arith, numbers_few line, short)

  some_word : is_line (bare line) ≡ true → 0 < length (word_in (bare line))
  unfolding is_line
  some_word t = ltb-true 0 _ (and_left _ (are_numbers (said_in (bare line))) t)

  given : is_line (bare line) ≡ true →
      r ≡ record { refusal = 0; word = length (word_in (bare line)); count = length (numbers_in (bare line)) }
  given t = e ∙ read_given line t (length slice) fits

  pub wordless : r.word ≡ 0 → is_line (bare line) ≡ false
  wordless z =
      ⊎_elim
      (λ t. absurd (omega (arith, some_word t, z, ap (λ (w : Words). w.word) (given t))))
      (λ f. f)
      (either (is_line (bare line)))

  module _ (some : r.word ≡ 0 → ⊥) where
    pub worded : is_line (bare line) ≡ true
    worded =
        ⊎_elim
        (λ t. t)
        (λ f. absurd (some (ap (λ (w : Words). w.word) (e ∙ read_nothing line f (length slice)))))
        (either (is_line (bare line)))

    pub word_is : r.word ≡ length (word_in (bare line))
    word_is = ap (λ (w : Words). w.word) (given worded)

    pub count_is : r.count ≡ length (numbers_in (bare line))
    count_is = ap (λ (w : Words). w.count) (given worded)

    pub count_fits : r.count ≤ length slice
    count_fits = omega (arith, count_is, fits)

    pub numbers_are : (last : List ℕ) → last ≡ read_writes line slice → take r.count last ≡ numbers_in (bare line)
    numbers_are last w =
        ap (λ (k : ℕ). take k last) count_is
        ∙ ap (take (length (numbers_in (bare line)))) w
        ∙ read_front line worded slice fits
