-- One digit more behind a number that is read, and how far a loop that reads digits has come.
-- Assumes nothing.
use mathlib.Core.Path.{◌≡◌, refl, sym, ap, ◌∙◌}
use mathlib.Core.Bool.{Bool, true, false, ◌&&◌}
use mathlib.Core.List.{List, [], ◌∷◌}
use Prim.Native.Nat.{ℕ, ◌+◌, ◌-◌, ◌*◌, ◌^◌, ◌≤◌, ◌<◌}
use native.Mathlib.Nat.{le_refl}
use native.Mathlib.Omega.{arith}
use lib.Dec.{ltb}
use lib.ListN.{length, get_or, drop}
use borrow.Author.Tests.{lt-ltb, le-ltb, ltb-true, ltb-false}
use Rattle.counting.proofs.Bools.{both, and_right, and_false_right, not_both}
use Rattle.std.proofs.Common.{Option, Some, None, MatchOption, inl, inr}
use Rattle.std.specs.Char.{IsAsciiDigit, IsNotAsciiDigit}
use Rattle.std.specs.Option.{SomeIff}
use Rattle.lines.specs.Line.{read_on}
use Rattle.lines.specs.Read.{piece, is_digit, is_digits, is_small}
use Rattle.lines.specs.Inside.{with_digit, takes}
use Rattle.lines.proofs.Pieces.{piece_goes}

-- digits behind a number already read: they are digits, and the number stays below 2⁶⁴
unfoldable pub fits : ℕ → List ℕ → Bool
fits before text = is_digits text && ltb (read_on before text) (2 ^ 64)

small_fits : (text : List ℕ) → is_small text ≡ fits 0 text
unfolding is_small fits
small_fits text = refl

-- a number only grows by what is read behind it
read_grows : (before : ℕ) (text : List ℕ) → before ≤ read_on before text
unfolding read_on
read_grows before [] = le_refl _
read_grows before (byte ∷ text) = omega (arith, read_grows (before * 10 + (byte - 48)) text)

fits_none : (before : ℕ) → before < 2 ^ 64 → fits before [] ≡ true
unfolding fits is_digits read_on
fits_none before l = lt-ltb before (2 ^ 64) l

module _ (before byte : ℕ) where
  pub takes_none : IsNotAsciiDigit byte → takes before byte ≡ false
  unfolding is_digit
  takes_none (inl l) = not_both _ (not_both (ltb byte 58) (le-ltb 47 byte (omega (arith, l))))
  takes_none (inr l) = not_both _ (and_false_right (ltb 47 byte) (le-ltb byte 58 (omega (arith, l))))

  pub takes_large : 2 ^ 64 ≤ with_digit before byte → takes before byte ≡ false
  takes_large l = and_false_right (is_digit byte) (le-ltb (with_digit before byte) (2 ^ 64) l)

  takes_well : IsAsciiDigit byte → with_digit before byte < 2 ^ 64 → takes before byte ≡ true
  unfolding is_digit
  takes_well d m =
      both (both (lt-ltb 47 byte (omega (arith, d.0))) (lt-ltb byte 58 (omega (arith, d.1)))) (lt-ltb _ (2 ^ 64) m)

  -- the sum that is tried is the number with the digit behind it
  pub takes_told : (tried : Option ℕ) (sum : ℕ) → SomeIff tried (sum < 2 ^ 64) sum → sum ≡ with_digit before byte →
      IsAsciiDigit byte →
      MatchOption tried (takes before byte ≡ false)
      (λ more. (takes before byte ≡ true) × (more ≡ with_digit before byte))
  takes_told None sum told e d = takes_large (omega (arith, e, told))
  takes_told (Some more) sum told e d = (takes_well d (omega (arith, e, told.0)), told.1 ∙ e)

fits_turn : (before byte : ℕ) (text : List ℕ) →
    fits before (byte ∷ text) ≡ (takes before byte && fits (with_digit before byte) text)
unfolding fits is_digits read_on
fits_turn before byte text = go (is_digit byte) (ltb (with_digit before byte) (2 ^ 64)) refl
  where
    go : (b c : Bool) → ltb (with_digit before byte) (2 ^ 64) ≡ c →
        ((b && is_digits text) && ltb (read_on (with_digit before byte) text) (2 ^ 64))
        ≡ ((b && c) && fits (with_digit before byte) text)
    go false c e = refl
    go true true e = refl
    go true false e =
        and_false_right (is_digits text)
        (le-ltb (read_on (with_digit before byte) text) (2 ^ 64)
        (omega (
          arith,
          ltb-false (with_digit before byte) (2 ^ 64) e,
          read_grows (with_digit before byte) text,
        )))

-- a loop that reads the digits at the front of a text has come to place i, with this value
pub record ReadTo (text : List ℕ) (i value : ℕ) : Type 0 where
  pub low : value < 2 ^ 64
  pub good : is_small (piece text) ≡ fits value (piece (drop i text))
  pub read : read_on 0 (piece text) ≡ read_on value (piece (drop i text))
  pub long : length (piece text) ≡ i + length (piece (drop i text))

pub read_begins : (text : List ℕ) → ReadTo text 0 0
read_begins text = record { low = omega arith; good = small_fits (piece text); read = refl; long = omega arith }

module _ {text : List ℕ} {i value : ℕ} (r : ReadTo text i value) where
  module _ (l : i < length text) (d : get_or text i 0 ≡ 32 → ⊥) where
    -- the byte there is the next of the piece
    turn : is_small (piece text) ≡
        (takes value (get_or text i 0) && fits (with_digit value (get_or text i 0)) (piece (drop (i + 1) text)))
    turn =
        r.good ∙ ap (fits value) (piece_goes text i l d)
        ∙ fits_turn value (get_or text i 0) (piece (drop (i + 1) text))

    pub read_bad : takes value (get_or text i 0) ≡ false → is_small (piece text) ≡ false
    read_bad f = turn ∙ not_both _ f

    pub read_turn : takes value (get_or text i 0) ≡ true → ReadTo text (i + 1) (with_digit value (get_or text i 0))
    unfolding read_on
    read_turn t =
        record {
          low = ltb-true _ _ (and_right (is_digit (get_or text i 0)) _ t);
          good =
              turn
              ∙ ap (λ (b : Bool). b && fits (with_digit value (get_or text i 0)) (piece (drop (i + 1) text))) t;
          read = r.read ∙ ap (read_on value) (piece_goes text i l d);
          long = r.long ∙ omega (arith, ap length (piece_goes text i l d));
        }

  -- the piece is at its end
  module _ (e : piece (drop i text) ≡ []) where
    pub read_small : is_small (piece text) ≡ true
    read_small = r.good ∙ ap (fits value) e ∙ fits_none value r.low

    pub read_long : i ≡ length (piece text)
    read_long = omega (arith, r.long, ap length e)

    pub read_value : value ≡ read_on 0 (piece text)
    unfolding read_on
    read_value = sym (r.read ∙ ap (read_on value) e)
