-- A line of text: a word, then for each number one space and its decimal digits, then one newline. A text is a list
-- of bytes.
use Rattle.std.specs.Prelude.{
  ℕ,
  zero,
  suc,
  ◌+◌,
  ◌-◌,
  ◌*◌,
  ◌/◌,
  ◌%◌,
  Bool,
  cond,
  List,
  [],
  ◌∷◌,
  ◌++◌,
  ltb,
  length,
  get_or,
  take,
  drop,
}
use Rattle.lines.specs.declared.Written.{Written}

-- the digits of n: one below 10, else those of the tenth and one more. The first number is how often a tenth may be
-- taken
unfoldable pub tens : ℕ → ℕ → List ℕ
tens zero n = (48 + n) ∷ []
tens (suc w) n = cond (ltb n 10) ((48 + n) ∷ []) (tens w (n / 10) ++ ((48 + n % 10) ∷ []))

-- n in decimal: taking a tenth n times is more than enough
unfoldable pub decimal : ℕ → List ℕ
decimal n = tens n n

-- one space and the digits
unfoldable pub field : ℕ → List ℕ
field n = 32 ∷ decimal n

-- the first k numbers, each as a space and its digits
unfoldable pub fields : List ℕ → ℕ → List ℕ
fields numbers zero = []
fields numbers (suc k) = fields numbers k ++ field (get_or numbers k 0)

-- the line
unfoldable pub line_of : List ℕ → List ℕ → List ℕ
line_of word numbers = word ++ fields numbers (length numbers) ++ (10 ∷ [])

-- a text written at a place of a slice, the rest of which stays
unfoldable pub placed : List ℕ → ℕ → List ℕ → List ℕ
placed slice at text = take at slice ++ (text ++ drop (at + length text) slice)

-- refusal 10: the slice to be written is too short; `room` is its length
unfoldable pub too_short : List ℕ → List ℕ → ℕ → Bool
too_short word numbers room = ltb room (length (line_of word numbers))

-- the reply: the number of bytes written, and 0 where the call is refused
unfoldable pub line_reply : List ℕ → List ℕ → ℕ → Written
line_reply word numbers room =
    cond (too_short word numbers room)
    (record { refusal = 10; size = 0 })
    (record { refusal = 0; size = length (line_of word numbers) })

-- the slice afterwards: the line at its front, or as it was where the call is refused
unfoldable pub line_writes : List ℕ → List ℕ → List ℕ → List ℕ
line_writes word numbers slice =
    cond (too_short word numbers (length slice)) slice (placed slice 0 (line_of word numbers))

-- a line put at a place of a text, in what is left from there: the place behind it, or the same where it does not fit;
-- `room` is the length of the text
unfoldable pub put_reply : List ℕ → List ℕ → ℕ → ℕ → ℕ
put_reply word numbers room at = at + (line_reply word numbers (room - at)).size

-- the text afterwards
unfoldable pub put_writes : List ℕ → List ℕ → List ℕ → ℕ → List ℕ
put_writes word numbers text at = take at text ++ line_writes word numbers (drop at text)

-- the number that a text of decimal digits stands for, behind a number already read
unfoldable pub read_on : ℕ → List ℕ → ℕ
read_on before [] = before
read_on before (byte ∷ text) = read_on (before * 10 + (byte - 48)) text
