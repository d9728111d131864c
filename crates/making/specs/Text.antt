-- A text taken piece by piece, byte by byte, and its end; and what comes of a whole text, from its lines.
use Rattle.std.specs.Prelude.{ℕ, ◌+◌, Bool, cond, not, ◌&&◌, ◌||◌, List, [], ◌∷◌, eqb, leb, ltb, length, set, take}
use Rattle.sizes.specs.Sizes.{size_refusal}
use Rattle.making.specs.declared.Maker.{Maker}
use Rattle.making.specs.declared.Made.{Made}
use Rattle.making.specs.Make.{Progress, progress, no_text, one_more, settled, is_comment, file_bytes, line_ended}

-- a maker, the unfinished line and the file so far
pub record Reading : Type 0 where
  pub maker : Maker
  pub line : List ℕ
  pub file : List ℕ

abbrev pub reading : Maker → List ℕ → List ℕ → Reading
reading m line file = record { maker = m; line = line; file = file }

-- the maker with so many bytes of the unfinished line kept
unfoldable pub keeping : Maker → ℕ → Maker
keeping m kept =
    record {
      stage = m.stage;
      n = m.n;
      t = m.t;
      faulty = m.faulty;
      lines = m.lines;
      kept = kept;
      refusal = m.refusal;
      fault = m.fault;
    }

-- a byte behind those that are kept, where the line has a place for it
unfoldable pub byte_kept : Reading → ℕ → Reading
byte_kept s byte =
    let kept = s.maker.kept in
    reading (keeping s.maker (cond (ltb kept (length s.line)) (kept + 1) kept)) (set s.line kept byte)
    s.file

-- the unfinished line ends
unfoldable pub line_over : Maker → List ℕ → List ℕ → Progress
line_over m line file = line_ended (progress m file) (take m.kept line)

-- a newline
unfoldable pub newline : Reading → Reading
newline s =
    let after = line_over s.maker s.line s.file in
    reading after.maker s.line after.file

-- one byte of the text; nothing changes where the outcome is settled
unfoldable pub byte_taken : Reading → ℕ → Reading
byte_taken s byte = cond (leb 3 s.maker.stage) s (cond (eqb byte 10) (newline s) (byte_kept s byte))

-- a piece of the text
unfoldable pub bytes_taken : Reading → List ℕ → Reading
bytes_taken s [] = s
bytes_taken s (byte ∷ text) = bytes_taken (byte_taken s byte) text

-- the call for one more piece: refusal 10 where the line has not 1,001 places, one more than a line may have bytes
unfoldable pub take_reply : Maker → List ℕ → List ℕ → List ℕ → Reading
take_reply m text line file =
    cond (leb 3 m.stage) (reading m line file)
    (cond (ltb (length line) 1001) (reading (settled m 10 m.fault) line file)
    (bytes_taken (reading m line file) text))

-- no text that follows can change the outcome: it is settled, or the unfinished line is too long and no comment
unfoldable pub is_settled : Maker → List ℕ → Bool
is_settled m line =
    leb 3 m.stage || (ltb 1000 (length (take m.kept line)) && not (is_comment (take m.kept line)))

-- the outcome of a maker that is settled
unfoldable pub settled_as : Maker → Made
settled_as m =
    record { refusal = m.refusal; line = cond (eqb m.fault 0) 0 m.lines; fault = m.fault; size = 0 }

-- the text ends where a line is due: its number is one more than that of the last line
unfoldable pub ends_early : Maker → ℕ → Made
ends_early m fault = record { refusal = 0; line = one_more m.lines; fault = fault; size = 0 }

-- the outcome by a refusal alone
unfoldable pub refused_as : ℕ → Made
refused_as refusal = record { refusal = refusal; line = 0; fault = 0; size = 0 }

-- a whole file: refusals 4, 5, 10; `room` is the length of the slice in which it stands
unfoldable pub whole_file : Maker → ℕ → Made
whole_file m room =
    cond (eqb (size_refusal m.n m.t) 0)
    (cond (ltb room (file_bytes m.n m.t))
    (refused_as 10)
    (record { refusal = 0; line = 0; fault = 0; size = file_bytes m.n m.t }))
    (refused_as (size_refusal m.n m.t))

-- the outcome where no line is left
unfoldable pub outcome_by : Maker → ℕ → Made
outcome_by m room =
    cond (leb 3 m.stage) (settled_as m)
    (cond (eqb m.stage 0) (ends_early m 3) (cond (eqb m.stage 1) (ends_early m 4) (whole_file m room)))

-- the last line, where it lacks its newline
unfoldable pub left_line : Maker → List ℕ → List ℕ → Progress
left_line m line file = cond (eqb m.kept 0) (progress m file) (line_over m line file)

-- the call for the end of the text
unfoldable pub finish_reply : Maker → List ℕ → List ℕ → Made
finish_reply m line file =
    cond (leb 3 m.stage) (settled_as m)
    (cond (ltb (length line) 1001) (refused_as 10) (outcome_by (left_line m line file).maker (length file)))

-- the file afterwards
unfoldable pub finish_writes : Maker → List ℕ → List ℕ → List ℕ
finish_writes m line file =
    cond (leb 3 m.stage) file (cond (ltb (length line) 1001) file (left_line m line file).file)

-- the lines of a text: a newline ends one, and what follows the last newline is one where it is not empty
unfoldable pub longer : ℕ → List (List ℕ) → List (List ℕ)
longer byte [] = (byte ∷ []) ∷ []
longer byte (line ∷ lines) = (byte ∷ line) ∷ lines

unfoldable pub lines_of : List ℕ → List (List ℕ)
lines_of [] = []
lines_of (byte ∷ text) = cond (eqb byte 10) ([] ∷ lines_of text) (longer byte (lines_of text))

-- all lines, in order, until the outcome is settled
unfoldable pub lines_taken : Progress → List (List ℕ) → Progress
lines_taken s [] = s
lines_taken s (line ∷ lines) = cond (leb 3 s.maker.stage) s (lines_taken (line_ended s line) lines)

-- what is known after a whole text, from nothing, with a slice for the file
unfoldable pub text_taken : List ℕ → List ℕ → Progress
text_taken text file = lines_taken (progress no_text file) (lines_of text)

-- the outcome of a whole text
unfoldable pub made_of : List ℕ → List ℕ → Made
made_of text file = outcome_by (text_taken text file).maker (length file)

-- the slice afterwards: where the outcome is a file, its first bytes are that file
unfoldable pub made_file : List ℕ → List ℕ → List ℕ
made_file text file = (text_taken text file).file
