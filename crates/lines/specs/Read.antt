-- A line of text that is read: a word, and numbers behind spaces. A text is a list of bytes; a line is given without
-- its newline.
use Rattle.std.specs.Prelude.{
  ◌≡◌,
  ℕ,
  ◌-◌,
  ◌^◌,
  ◌<◌,
  Bool,
  true,
  cond,
  ◌&&◌,
  List,
  [],
  ◌∷◌,
  eqb,
  ltb,
  length,
  get_or,
  take,
}
use Rattle.lines.specs.Line.{placed, read_on}
use Rattle.lines.specs.declared.Words.{Words}

-- the line without the carriage return at its very end, where there is one
unfoldable pub bare : List ℕ → List ℕ
bare line = cond (eqb (get_or line (length line - 1) 0) 13) (take (length line - 1) line) line

-- what stands before the first space, or the whole text where there is none
unfoldable pub piece : List ℕ → List ℕ
piece [] = []
piece (byte ∷ text) = cond (eqb byte 32) [] (byte ∷ piece text)

-- what stands behind each space, up to the next space or the end
unfoldable pub behind : List ℕ → List (List ℕ)
behind [] = []
behind (byte ∷ text) = cond (eqb byte 32) (piece text ∷ behind text) (behind text)

-- those of the texts that are not empty
unfoldable pub non_empty : List (List ℕ) → List (List ℕ)
non_empty [] = []
non_empty ([] ∷ texts) = non_empty texts
non_empty ((byte ∷ text) ∷ texts) = (byte ∷ text) ∷ non_empty texts

-- the word of a text
unfoldable pub word_in : List ℕ → List ℕ
word_in text = piece text

-- the texts of its numbers
unfoldable pub said_in : List ℕ → List (List ℕ)
said_in text = non_empty (behind text)

-- a digit is a byte from 48 to 57
unfoldable pub is_digit : ℕ → Bool
is_digit byte = ltb 47 byte && ltb byte 58

unfoldable pub is_digits : List ℕ → Bool
is_digits [] = true
is_digits (byte ∷ text) = is_digit byte && is_digits text

-- digits alone, however many, that stand for less than 2⁶⁴
unfoldable pub is_small : List ℕ → Bool
is_small text = is_digits text && ltb (read_on 0 text) (2 ^ 64)

-- a number is at least one byte, digits alone, and less than 2⁶⁴
unfoldable pub is_number : List ℕ → Bool
is_number text = ltb 0 (length text) && is_small text

unfoldable pub are_numbers : List (List ℕ) → Bool
are_numbers [] = true
are_numbers (text ∷ texts) = is_number text && are_numbers texts

-- the text is a word and numbers
unfoldable pub is_line : List ℕ → Bool
is_line text = ltb 0 (length (word_in text)) && are_numbers (said_in text)

-- what the texts stand for, read as numbers
unfoldable pub values : List (List ℕ) → List ℕ
values [] = []
values (text ∷ texts) = read_on 0 text ∷ values texts

-- the numbers of a text
unfoldable pub numbers_in : List ℕ → List ℕ
numbers_in text = values (said_in text)

-- refusal 10: the slice to be written has fewer places than the text has numbers; `room` is its length
unfoldable pub no_place : List ℕ → ℕ → Bool
no_place text room = ltb room (length (numbers_in text))

-- the reply: the length of the word and how many numbers there are; 0 for both where the line is no word and numbers,
-- or where the call is refused
unfoldable pub read_reply : List ℕ → ℕ → Words
read_reply line room =
    cond (is_line (bare line))
    (cond (no_place (bare line) room)
    (record { refusal = 10; word = 0; count = 0 })
    (record { refusal = 0; word = length (word_in (bare line)); count = length (numbers_in (bare line)) }))
    (record { refusal = 0; word = 0; count = 0 })

-- the slice afterwards: the numbers at its front, or as it was where the line is no word and numbers or the call is
-- refused
unfoldable pub read_writes : List ℕ → List ℕ → List ℕ
read_writes line slice =
    cond (is_line (bare line))
    (cond (no_place (bare line) (length slice)) slice (placed slice 0 (numbers_in (bare line))))
    slice

-- a word and numbers that are read back as they were written: the word is not empty and has no space in it, nor a
-- carriage return at its end where no number follows, and the numbers are less than 2⁶⁴
pub record PlainLine (word numbers : List ℕ) : Type 0 where
  pub some : 0 < length word
  pub spaceless : (k : ℕ) → k < length word → get_or word k 0 ≡ 32 → ⊥
  pub returnless : get_or word (length word - 1) 0 ≡ 13 → 0 < length numbers
  pub low : (i : ℕ) → i < length numbers → get_or numbers i 0 < 2 ^ 64
