-- Box numbers: a value that is capped on the way is capped the same at the end, so a loop may cap it at every digit;
-- how far such a loop has come; and the reply by what it found. Assumes nothing.
use mathlib.Core.Path.{◌≡◌, refl, sym, ap, ◌∙◌}
use mathlib.Core.Bool.{Bool, true, false, ◌&&◌}
use mathlib.Core.List.{List, [], ◌∷◌}
use Prim.Native.Nat.{ℕ, min, ◌+◌, ◌-◌, ◌*◌, ◌≤◌, ◌<◌}
use native.Mathlib.Numerals.{add-one}
use native.Mathlib.Omega.{arith}
use lib.Dec.{leb, ltb, leb-suc-suc}
use lib.ListN.{length, get_or, drop, drop_of_length-le}
use lib.Seq.{drop-cons}
use borrow.Author.Tests.{lt-ltb, le-ltb, ltb-true, ltb-false}
use Rattle.counting.proofs.Bools.{cond_true, cond_false, both, and_false_right, not_both}
use Rattle.lines.specs.Line.{read_on}
use Rattle.lines.specs.Read.{is_digit, is_digits}
use Rattle.std.specs.Prelude.{Some, None}
use Rattle.std.specs.Char.{is_ascii_digit}
use Rattle.why.specs.Answer.{is_box_number, capped, number_reply}

-- the library's test of a digit says the same
pub digit_same : (byte : ℕ) → is_ascii_digit byte ≡ is_digit byte
unfolding is_digit
digit_same byte = ap (λ (b : Bool). leb 48 byte && b) (sym (leb-suc-suc byte 57))

-- a value up to 256, and one above 255
pub capped_small : (value : ℕ) → value ≤ 256 → capped value ≡ value
unfolding capped
capped_small value h = go (ltb value 256) refl
  where
    go : (b : Bool) → ltb value 256 ≡ b → capped value ≡ value
    go true e = cond_true _ _ e
    go false e = cond_false _ _ e ∙ omega (arith, ltb-false value 256 e)

pub capped_large : (value : ℕ) → 255 < value → capped value ≡ 256
unfolding capped
capped_large value h = cond_false _ _ (le-ltb value 256 (omega arith))

-- the smaller of a value and 256
pub capped_min : (value : ℕ) → min value 256 ≡ capped value
capped_min value = go (ltb value 256) refl
  where
    go : (b : Bool) → ltb value 256 ≡ b → min value 256 ≡ capped value
    go true e = let small = ltb-true value 256 e in omega (arith, capped_small value (omega (arith, small)), small)
    go false e = let large = ltb-false value 256 e in omega (arith, capped_large value (omega (arith, large)), large)

-- a capped value is at most 256
capped_most : (value : ℕ) → capped value ≤ 256
unfolding capped
capped_most value = go (ltb value 256) refl
  where
    go : (b : Bool) → ltb value 256 ≡ b → capped value ≤ 256
    go true e = rw e (omega (arith, ltb-true value 256 e))
    go false e = rw e (omega arith)

-- one digit more behind a value that is capped or not
capped_digit : (value digit : ℕ) → capped (capped value * 10 + digit) ≡ capped (value * 10 + digit)
capped_digit value digit = go (ltb value 256) refl
  where
    go : (b : Bool) → ltb value 256 ≡ b → capped (capped value * 10 + digit) ≡ capped (value * 10 + digit)
    go true e =
        ap (λ (v : ℕ). capped (v * 10 + digit)) (capped_small value (omega (arith, ltb-true value 256 e)))
    go false e =
        let l = ltb-false value 256 e in
        capped_large (capped value * 10 + digit) (omega (arith, capped_large value (omega (arith, l))))
        ∙ sym (capped_large (value * 10 + digit) (omega (arith, l)))

-- and all the digits that follow
capped_read : (value : ℕ) (text : List ℕ) → capped (read_on (capped value) text) ≡ capped (read_on value text)
unfolding read_on
capped_read value [] = capped_small (capped value) (capped_most value)
capped_read value (byte ∷ text) =
    sym (capped_read (capped value * 10 + (byte - 48)) text)
    ∙ ap (λ (v : ℕ). capped (read_on v text)) (capped_digit value (byte - 48))
    ∙ capped_read (value * 10 + (byte - 48)) text

-- a loop that reads the digits of the text has come to place i, with this value
pub record ReadTo (text : List ℕ) (i value : ℕ) : Type 0 where
  pub low : value ≤ 256
  pub digits : is_digits text ≡ is_digits (drop i text)
  pub read : capped (read_on 0 text) ≡ capped (read_on value (drop i text))

pub read_begins : (text : List ℕ) → ReadTo text 0 0
read_begins text = record { low = omega arith; digits = refl; read = refl }

module _ (text : List ℕ) (i value : ℕ) (r : ReadTo text i value) where
  module _ (l : i < length text) where
    -- the byte there is the next that is read
    next : drop i text ≡ get_or text i 0 ∷ drop (i + 1) text
    next = rw add-one (drop-cons text i 0 l)

    pub read_bad : is_digit (get_or text i 0) ≡ false → is_digits text ≡ false
    unfolding is_digits
    read_bad f = r.digits ∙ ap is_digits next ∙ not_both _ f

    pub read_turn : (more : ℕ) → is_digit (get_or text i 0) ≡ true →
        more ≡ capped (value * 10 + (get_or text i 0 - 48)) → ReadTo text (i + 1) more
    unfolding is_digits read_on
    read_turn more t e =
        let longer = value * 10 + (get_or text i 0 - 48) in
        let rest = drop (i + 1) text in
        record {
          low = omega (arith, e, capped_most longer);
          digits = r.digits ∙ ap is_digits next ∙ ap (λ (b : Bool). b && is_digits rest) t;
          read =
              r.read
              ∙ ap (λ (xs : List ℕ). capped (read_on value xs)) next
              ∙ sym (capped_read longer rest)
              ∙ ap (λ (v : ℕ). capped (read_on v rest)) (sym e);
        }

  -- the text is at its end
  module _ (l : length text ≤ i) where
    done : drop i text ≡ []
    done = drop_of_length-le text {i = i} l

    pub read_good : is_digits text ≡ true
    unfolding is_digits
    read_good = r.digits ∙ ap is_digits done

    pub read_value : value ≡ capped (read_on 0 text)
    unfolding read_on
    read_value =
        sym (r.read ∙ ap (λ (xs : List ℕ). capped (read_on value xs)) done ∙ capped_small value r.low)

-- the reply to a text that is no box number: it is empty, or too long, or has another byte
module _ (text : List ℕ) where
  no_number : is_box_number text ≡ false → None ≡ number_reply text
  unfolding number_reply
  no_number f = sym (cond_false _ _ f)

  pub number_empty : length text ≡ 0 → None ≡ number_reply text
  unfolding is_box_number
  number_empty e =
      no_number (not_both (is_digits text) (not_both (ltb (length text) 21) (le-ltb 0 (length text) (omega arith))))

  pub number_long : 20 < length text → None ≡ number_reply text
  unfolding is_box_number
  number_long l =
      no_number
      (not_both (is_digits text) (and_false_right (ltb 0 (length text)) (le-ltb (length text) 21 (omega arith))))

  pub number_other : is_digits text ≡ false → None ≡ number_reply text
  unfolding is_box_number
  number_other f = no_number (and_false_right (ltb 0 (length text) && ltb (length text) 21) f)

  -- and to one that is
  pub number_read : (value : ℕ) → (length text ≡ 0 → ⊥) → length text ≤ 20 → is_digits text ≡ true →
      value ≡ capped (read_on 0 text) →
      Some value ≡ number_reply text
  unfolding number_reply is_box_number
  number_read value some short t e =
      ap Some e
      ∙ sym
      (cond_true _ _
      (both
      (both (lt-ltb 0 (length text) (omega (arith, some))) (lt-ltb (length text) 21 (omega arith)))
      t))
