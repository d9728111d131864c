-- A line that was written is read back: its word and its numbers come again. Each number adds one text to those that
-- stand behind spaces, and the text of a number is read as the number. Assumes nothing.
use mathlib.Core.Path.{◌≡◌, refl, sym, ap, ap₂, ◌∙◌}
use mathlib.Core.Bool.{Bool, true, false, cond}
use mathlib.Core.List.{List, [], ◌∷◌, ◌++◌, append_assoc, append-nil}
use Prim.Native.Nat.{ℕ, zero, suc, ◌+◌, ◌-◌, ◌^◌, ◌≤◌, ◌<◌}
use native.Mathlib.Nat.{le_refl}
use native.Mathlib.Omega.{arith}
use lib.Dec.{eqb}
use lib.ListN.{length, get_or, take, length-append}
use lib.Seq.{take_at, take-suc, take-length, get_or-append-add}
use borrow.Author.Tests.{lt-ltb, ne_eqb}
use Rattle.counting.proofs.Bools.{cond_false, both, and_left, and_right}
use Rattle.lines.specs.declared.Words.{Words}
use Rattle.lines.specs.Line.{decimal, field, fields, line_of, placed, read_on}
use Rattle.lines.specs.Read.{
  bare,
  piece,
  behind,
  non_empty,
  word_in,
  said_in,
  is_digit,
  is_digits,
  is_small,
  is_number,
  are_numbers,
  is_line,
  values,
  numbers_in,
  read_reply,
  read_writes,
  PlainLine,
}
use Rattle.lines.proofs.Decimal.{decimal_some}
use Rattle.lines.proofs.Lines.{line_length}
use Rattle.lines.proofs.Laws.{decimal_read, decimal_digits}
use Rattle.lines.proofs.Pieces.{bare_whole, line_worded}
use Rattle.lines.proofs.Read.{read_given, read_written}

-- no space stands in the text
abbrev Spaceless : List ℕ → Type 0
Spaceless text = (k : ℕ) → k < length text → get_or text k 0 ≡ 32 → ⊥

-- a text without a space is one piece
piece_whole : (text : List ℕ) → Spaceless text → piece text ≡ text
unfolding piece
piece_whole [] h = refl
piece_whole (byte ∷ text) h =
    cond_false _ _ (ne_eqb byte 32 (h 0 (omega arith)))
    ∙ ap (λ (bytes : List ℕ). byte ∷ bytes) (piece_whole text (λ k l. h (suc k) (omega arith)))

behind_none : (text : List ℕ) → Spaceless text → behind text ≡ []
unfolding behind
behind_none [] h = refl
behind_none (byte ∷ text) h =
    cond_false _ _ (ne_eqb byte 32 (h 0 (omega arith))) ∙ behind_none text (λ k l. h (suc k) (omega arith))

-- a space and what follows it add pieces, and change none
piece_then : (text rest : List ℕ) → piece (text ++ (32 ∷ rest)) ≡ piece text
unfolding piece
piece_then [] rest = refl
piece_then (byte ∷ text) rest =
    ap (λ (bytes : List ℕ). cond (eqb byte 32) [] (byte ∷ bytes)) (piece_then text rest)

behind_then : (text rest : List ℕ) → behind (text ++ (32 ∷ rest)) ≡ behind text ++ (piece rest ∷ behind rest)
unfolding behind
behind_then [] rest = refl
behind_then (byte ∷ text) rest = go (eqb byte 32) (piece_then text rest) (behind_then text rest)
  where
    go : (b : Bool) → piece (text ++ (32 ∷ rest)) ≡ piece text →
        behind (text ++ (32 ∷ rest)) ≡ behind text ++ (piece rest ∷ behind rest) →
        cond b (piece (text ++ (32 ∷ rest)) ∷ behind (text ++ (32 ∷ rest))) (behind (text ++ (32 ∷ rest)))
        ≡ cond b (piece text ∷ behind text) (behind text) ++ (piece rest ∷ behind rest)
    go true p h = ap₂ (λ (t : List ℕ) (ts : List (List ℕ)). t ∷ ts) p h
    go false p h = h

filled_then : (texts : List (List ℕ)) (text : List ℕ) → 0 < length text →
    non_empty (texts ++ (text ∷ [])) ≡ non_empty texts ++ (text ∷ [])
unfolding non_empty
filled_then [] [] l = absurd (omega (arith, l))
filled_then [] (byte ∷ text) l = refl
filled_then ([] ∷ texts) text l = filled_then texts text l
filled_then ((b ∷ t) ∷ texts) text l = ap (λ (ts : List (List ℕ)). (b ∷ t) ∷ ts) (filled_then texts text l)

numbers_then : (texts : List (List ℕ)) (text : List ℕ) → are_numbers texts ≡ true → is_number text ≡ true →
    are_numbers (texts ++ (text ∷ [])) ≡ true
unfolding are_numbers
numbers_then [] text t n = both n refl
numbers_then (first ∷ texts) text t n =
    both (and_left (is_number first) (are_numbers texts) t)
    (numbers_then texts text (and_right (is_number first) (are_numbers texts) t) n)

values_then : (texts : List (List ℕ)) (text : List ℕ) →
    values (texts ++ (text ∷ [])) ≡ values texts ++ (read_on 0 text ∷ [])
unfolding values
values_then [] text = refl
values_then (first ∷ texts) text = ap (λ (ns : List ℕ). read_on 0 first ∷ ns) (values_then texts text)

-- the digits of a number are a number
all_digits : (text : List ℕ) → ((k : ℕ) → k < length text → (48 ≤ get_or text k 0) × (get_or text k 0 ≤ 57)) →
    is_digits text ≡ true
unfolding is_digits is_digit
all_digits [] h = refl
all_digits (byte ∷ text) h =
    let here = h 0 (omega arith) in
    both (both (lt-ltb 47 byte (omega (arith, here.0))) (lt-ltb byte 58 (omega (arith, here.1))))
    (all_digits text (λ k l. h (suc k) (omega arith)))

decimal_number : (n : ℕ) → n < 2 ^ 64 → is_number (decimal n) ≡ true
unfolding is_number is_small
decimal_number n l =
    both (lt-ltb 0 (length (decimal n)) (decimal_some n))
    (both (all_digits (decimal n) (decimal_digits n))
    (lt-ltb (read_on 0 (decimal n)) (2 ^ 64) (omega (arith, l, decimal_read n))))

decimal_spaceless : (n : ℕ) → Spaceless (decimal n)
decimal_spaceless n k l e = omega (arith, e, (decimal_digits n k l).0)

-- a text with one number more
said_then : (text : List ℕ) (n : ℕ) → said_in (text ++ field n) ≡ said_in text ++ (decimal n ∷ [])
unfolding said_in field
said_then text n =
    ap non_empty
    (behind_then text (decimal n)
    ∙ ap₂ (λ (t : List ℕ) (ts : List (List ℕ)). behind text ++ (t ∷ ts))
    (piece_whole (decimal n) (decimal_spaceless n))
    (behind_none (decimal n) (decimal_spaceless n)))
    ∙ filled_then (behind text) (decimal n) (decimal_some n)

-- the word and the first k numbers
abbrev spoken : List ℕ → List ℕ → ℕ → List ℕ
spoken word numbers k = word ++ fields numbers k

-- the word and all of them, without the newline
abbrev pub whole : List ℕ → List ℕ → List ℕ
whole word numbers = word ++ fields numbers (length numbers)

module _ (word numbers : List ℕ) where
  one_more : (k : ℕ) → spoken word numbers (suc k) ≡ spoken word numbers k ++ field (get_or numbers k 0)
  unfolding fields
  one_more k = sym (append_assoc word (fields numbers k) (field (get_or numbers k 0)))

  none_yet : spoken word numbers 0 ≡ word
  unfolding fields
  none_yet = append-nil word

  said_more : (k : ℕ) →
      said_in (spoken word numbers (suc k)) ≡ said_in (spoken word numbers k) ++ (decimal (get_or numbers k 0) ∷ [])
  said_more k = ap said_in (one_more k) ∙ said_then (spoken word numbers k) (get_or numbers k 0)

  -- with a number it ends with a digit
  last_digit : (k : ℕ) →
      48 ≤ get_or (spoken word numbers (suc k)) (length (spoken word numbers (suc k)) - 1) 0
  unfolding field
  last_digit k =
      let before = spoken word numbers k in
      let digits = decimal (get_or numbers k 0) in
      let some : 1 ≤ length digits = decimal_some (get_or numbers k 0) in
      let last : length (spoken word numbers (suc k)) - 1 ≡ length before + suc (length digits - 1) =
      omega (arith, ap length (one_more k), length-append before (32 ∷ digits)) in
      let byte : get_or (spoken word numbers (suc k)) (length (spoken word numbers (suc k)) - 1) 0
      ≡ get_or digits (length digits - 1) 0 =
      ap₂ (λ (text : List ℕ) (m : ℕ). get_or text m 0) (one_more k) last
      ∙ get_or-append-add before (32 ∷ digits) (suc (length digits - 1)) 0 in
      omega (arith, (decimal_digits (get_or numbers k 0) (length digits - 1) (omega arith)).0)

  module _ (h : PlainLine word numbers) where
    word_spoken : (k : ℕ) → word_in (spoken word numbers k) ≡ word
    unfolding word_in field
    word_spoken zero = ap piece none_yet ∙ piece_whole word h.spaceless
    word_spoken (suc k) =
        ap piece (one_more k)
        ∙ piece_then (spoken word numbers k) (decimal (get_or numbers k 0))
        ∙ word_spoken k

    said_none : said_in (spoken word numbers 0) ≡ []
    unfolding said_in non_empty
    said_none = ap (λ (text : List ℕ). non_empty (behind text)) none_yet ∙ ap non_empty (behind_none word h.spaceless)

    good_spoken : (k : ℕ) → k ≤ length numbers → are_numbers (said_in (spoken word numbers k)) ≡ true
    unfolding are_numbers
    good_spoken zero l = ap are_numbers said_none
    good_spoken (suc k) l =
        ap are_numbers (said_more k)
        ∙ numbers_then (said_in (spoken word numbers k)) (decimal (get_or numbers k 0)) (good_spoken k (omega arith))
        (decimal_number (get_or numbers k 0) (h.low k l))

    numbers_spoken : (k : ℕ) → k ≤ length numbers → numbers_in (spoken word numbers k) ≡ take k numbers
    unfolding numbers_in values
    numbers_spoken zero l = ap values said_none
    numbers_spoken (suc k) l =
        ap values (said_more k)
        ∙ values_then (said_in (spoken word numbers k)) (decimal (get_or numbers k 0))
        ∙ ap₂ (λ (ns : List ℕ) (n : ℕ). ns ++ (n ∷ [])) (numbers_spoken k (omega arith))
        (decimal_read (get_or numbers k 0))
        ∙ sym (take-suc numbers k 0 l)

    -- its last byte is no carriage return
    no_return : (k : ℕ) → k ≡ length numbers →
        get_or (spoken word numbers k) (length (spoken word numbers k) - 1) 0 ≡ 13 → ⊥
    no_return zero e q =
        omega (arith, e, h.returnless (ap (λ (text : List ℕ). get_or text (length text - 1) 0) (sym none_yet) ∙ q))
    no_return (suc k) e q = omega (arith, q, last_digit k)

    -- so all of it is read: it is a word and numbers, and they are these
    spoken_bare : bare (whole word numbers) ≡ whole word numbers
    spoken_bare = sym (bare_whole (whole word numbers) (no_return (length numbers) refl))

    spoken_word : word_in (bare (whole word numbers)) ≡ word
    spoken_word = ap word_in spoken_bare ∙ word_spoken (length numbers)

    spoken_numbers : numbers_in (bare (whole word numbers)) ≡ numbers
    spoken_numbers = ap numbers_in spoken_bare ∙ numbers_spoken (length numbers) (le_refl _) ∙ take-length numbers

    spoken_good : is_line (bare (whole word numbers)) ≡ true
    spoken_good =
        ap is_line spoken_bare
        ∙ line_worded (whole word numbers) (omega (arith, h.some, ap length (word_spoken (length numbers))))
        ∙ good_spoken (length numbers) (le_refl _)

    pub back_reply : (room : ℕ) → length numbers ≤ room →
        read_reply (whole word numbers) room ≡ record { refusal = 0; word = length word; count = length numbers }
    back_reply room l =
        read_given (whole word numbers) spoken_good room (omega (arith, l, ap length spoken_numbers))
        ∙ ap₂ {C = Words} (λ (w ns : List ℕ). record { refusal = 0; word = length w; count = length ns })
        spoken_word
        spoken_numbers

    pub back_writes : (slice : List ℕ) → length numbers ≤ length slice →
        read_writes (whole word numbers) slice ≡ placed slice 0 numbers
    back_writes slice l =
        read_written (whole word numbers) spoken_good slice (omega (arith, l, ap length spoken_numbers))
        ∙ ap (placed slice 0) spoken_numbers

  pub back_word : take (length word) (whole word numbers) ≡ word
  back_word = take_at word (fields numbers (length numbers)) (length word) refl

  -- it is the line that is written, without its newline
  pub unended : take (length (line_of word numbers) - 1) (line_of word numbers) ≡ whole word numbers
  unfolding line_of
  unended =
      take_at (whole word numbers) (10 ∷ []) (length (line_of word numbers) - 1)
      (omega (
        arith,
        line_length word numbers,
        length-append word (fields numbers (length numbers)),
      ))
