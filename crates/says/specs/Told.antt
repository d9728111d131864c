-- What is told where no file comes of a text, or no text of a file: one line, as docs/TEXT.md has it. A text is a list
-- of bytes.
use Rattle.std.specs.Prelude.{ℕ, cond, List, [], ◌∷◌, ◌++◌, eqb, ltb, length}
use Rattle.lines.specs.declared.Written.{Written}
use Rattle.lines.specs.Line.{field, line_of, placed}
use Rattle.listing.specs.Listing.{refused_word}

-- line
abbrev pub line_word : List ℕ
line_word = 108 ∷ 105 ∷ 110 ∷ 101 ∷ []

-- `: a line that is no comment has at most 1,000 bytes` and a newline
abbrev pub too_long : List ℕ
too_long =
    58 ∷ 32 ∷ 97 ∷ 32 ∷ 108 ∷ 105 ∷ 110 ∷ 101 ∷ 32 ∷ 116 ∷ 104 ∷ 97 ∷ 116 ∷ 32
    ∷ 105 ∷ 115 ∷ 32 ∷ 110 ∷ 111 ∷ 32 ∷ 99 ∷ 111 ∷ 109 ∷ 109 ∷ 101 ∷ 110 ∷ 116
    ∷ 32 ∷ 104 ∷ 97 ∷ 115 ∷ 32 ∷ 97 ∷ 116 ∷ 32 ∷ 109 ∷ 111 ∷ 115 ∷ 116 ∷ 32 ∷
    49 ∷ 44 ∷ 48 ∷ 48 ∷ 48 ∷ 32 ∷ 98 ∷ 121 ∷ 116 ∷ 101 ∷ 115 ∷ 10 ∷ []

-- `: this is not a word with numbers behind it` and a newline
abbrev pub no_numbers : List ℕ
no_numbers =
    58 ∷ 32 ∷ 116 ∷ 104 ∷ 105 ∷ 115 ∷ 32 ∷ 105 ∷ 115 ∷ 32 ∷ 110 ∷ 111 ∷ 116 ∷
    32 ∷ 97 ∷ 32 ∷ 119 ∷ 111 ∷ 114 ∷ 100 ∷ 32 ∷ 119 ∷ 105 ∷ 116 ∷ 104 ∷ 32 ∷
    110 ∷ 117 ∷ 109 ∷ 98 ∷ 101 ∷ 114 ∷ 115 ∷ 32 ∷ 98 ∷ 101 ∷ 104 ∷ 105 ∷ 110 ∷
    100 ∷ 32 ∷ 105 ∷ 116 ∷ 10 ∷ []

-- `: a line run is due, with n, t and the faulty set` and a newline
abbrev pub run_due : List ℕ
run_due =
    58 ∷ 32 ∷ 97 ∷ 32 ∷ 108 ∷ 105 ∷ 110 ∷ 101 ∷ 32 ∷ 114 ∷ 117 ∷ 110 ∷ 32 ∷
    105 ∷ 115 ∷ 32 ∷ 100 ∷ 117 ∷ 101 ∷ 44 ∷ 32 ∷ 119 ∷ 105 ∷ 116 ∷ 104 ∷ 32 ∷
    110 ∷ 44 ∷ 32 ∷ 116 ∷ 32 ∷ 97 ∷ 110 ∷ 100 ∷ 32 ∷ 116 ∷ 104 ∷ 101 ∷ 32 ∷
    102 ∷ 97 ∷ 117 ∷ 108 ∷ 116 ∷ 121 ∷ 32 ∷ 115 ∷ 101 ∷ 116 ∷ 10 ∷ []

-- `: a line rows is due, with the row of each box` and a newline
abbrev pub rows_due : List ℕ
rows_due =
    58 ∷ 32 ∷ 97 ∷ 32 ∷ 108 ∷ 105 ∷ 110 ∷ 101 ∷ 32 ∷ 114 ∷ 111 ∷ 119 ∷ 115 ∷
    32 ∷ 105 ∷ 115 ∷ 32 ∷ 100 ∷ 117 ∷ 101 ∷ 44 ∷ 32 ∷ 119 ∷ 105 ∷ 116 ∷ 104 ∷
    32 ∷ 116 ∷ 104 ∷ 101 ∷ 32 ∷ 114 ∷ 111 ∷ 119 ∷ 32 ∷ 111 ∷ 102 ∷ 32 ∷ 101 ∷
    97 ∷ 99 ∷ 104 ∷ 32 ∷ 98 ∷ 111 ∷ 120 ∷ 10 ∷ []

-- `: a line say is due: iteration, step, sender, receiver, leader in steps 2 and 3, row` and a newline
abbrev pub say_due : List ℕ
say_due =
    58 ∷ 32 ∷ 97 ∷ 32 ∷ 108 ∷ 105 ∷ 110 ∷ 101 ∷ 32 ∷ 115 ∷ 97 ∷ 121 ∷ 32 ∷ 105
    ∷ 115 ∷ 32 ∷ 100 ∷ 117 ∷ 101 ∷ 58 ∷ 32 ∷ 105 ∷ 116 ∷ 101 ∷ 114 ∷ 97 ∷ 116
    ∷ 105 ∷ 111 ∷ 110 ∷ 44 ∷ 32 ∷ 115 ∷ 116 ∷ 101 ∷ 112 ∷ 44 ∷ 32 ∷ 115 ∷ 101
    ∷ 110 ∷ 100 ∷ 101 ∷ 114 ∷ 44 ∷ 32 ∷ 114 ∷ 101 ∷ 99 ∷ 101 ∷ 105 ∷ 118 ∷ 101
    ∷ 114 ∷ 44 ∷ 32 ∷ 108 ∷ 101 ∷ 97 ∷ 100 ∷ 101 ∷ 114 ∷ 32 ∷ 105 ∷ 110 ∷ 32 ∷
    115 ∷ 116 ∷ 101 ∷ 112 ∷ 115 ∷ 32 ∷ 50 ∷ 32 ∷ 97 ∷ 110 ∷ 100 ∷ 32 ∷ 51 ∷ 44
    ∷ 32 ∷ 114 ∷ 111 ∷ 119 ∷ 10 ∷ []

-- `: this line is not understood` and a newline
abbrev pub not_understood_line : List ℕ
not_understood_line =
    58 ∷ 32 ∷ 116 ∷ 104 ∷ 105 ∷ 115 ∷ 32 ∷ 108 ∷ 105 ∷ 110 ∷ 101 ∷ 32 ∷ 105 ∷
    115 ∷ 32 ∷ 110 ∷ 111 ∷ 116 ∷ 32 ∷ 117 ∷ 110 ∷ 100 ∷ 101 ∷ 114 ∷ 115 ∷ 116
    ∷ 111 ∷ 111 ∷ 100 ∷ 10 ∷ []

-- the sentence of a fault, by its number
unfoldable pub sentence : ℕ → List ℕ
sentence fault =
    cond (eqb fault 1) too_long
    (cond (eqb fault 2) no_numbers
    (cond (eqb fault 3) run_due (cond (eqb fault 4) rows_due (cond (eqb fault 5) say_due not_understood_line))))

-- the line of a fault: `line`, a space, the number of the line, and the sentence
unfoldable pub fault_line : ℕ → List ℕ → List ℕ
fault_line line said = line_word ++ (field line ++ said)

-- what is told: the refusal, or else the fault, or nothing where there is neither
unfoldable pub told_text : ℕ → ℕ → ℕ → List ℕ
told_text refusal line fault =
    cond (eqb refusal 0) (cond (eqb fault 0) [] (fault_line line (sentence fault)))
    (line_of refused_word (refusal ∷ []))

-- a text written to the front of a slice of so many bytes: the reply, with refusal 10 where it does not fit
unfoldable pub text_reply : List ℕ → ℕ → Written
text_reply text room =
    cond (ltb room (length text)) (record { refusal = 10; size = 0 }) (record { refusal = 0; size = length text })

-- the slice afterwards
unfoldable pub text_writes : List ℕ → List ℕ → List ℕ
text_writes text slice = cond (ltb (length slice) (length text)) slice (placed slice 0 text)
