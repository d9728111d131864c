-- How a text becomes a run file, line by line, as docs/TEXT.md has it. A maker is what is known so far. Its stage says
-- what is due: 0 the line `run`, 1 the line `rows`, 2 a line `say`; from 3 on the outcome is settled. A text is a list
-- of bytes.
use Rattle.std.specs.Prelude.{ℕ, ◌+◌, ◌*◌, min, Bool, cond, not, ◌&&◌, List, ◌++◌, eqb, ltb, length, get_or}
use Rattle.counting.specs.Count.{any, build}
use Rattle.sizes.specs.Sizes.{size_refusal}
use Rattle.runfile.specs.Write.{heading_file, write_heading_refusal, row_refusal, row_writes}
use Rattle.lines.specs.Line.{placed}
use Rattle.lines.specs.Read.{bare, word_in, is_line, numbers_in}
use Rattle.listing.specs.File.{table_bytes, table_begins}
use Rattle.listing.specs.Listing.{run_word}
use Rattle.says.specs.Say.{rows_word, say_word, row_in, place_reply}
use Rattle.making.specs.declared.Maker.{Maker}

-- a maker and the file so far
pub record Progress : Type 0 where
  pub maker : Maker
  pub file : List ℕ

abbrev pub progress : Maker → List ℕ → Progress
progress m file = record { maker = m; file = file }

-- nothing is known yet
unfoldable pub no_text : Maker
no_text = record { stage = 0; n = 0; t = 0; faulty = 0; lines = 0; kept = 0; refusal = 0; fault = 0 }

-- one line more, as far as 64 bits count
unfoldable pub one_more : ℕ → ℕ
one_more lines = min (lines + 1) 18446744073709551615

-- one more line has ended
unfoldable pub after_line : Maker → Maker
after_line m =
    record {
      stage = m.stage;
      n = m.n;
      t = m.t;
      faulty = m.faulty;
      lines = one_more m.lines;
      kept = 0;
      refusal = m.refusal;
      fault = m.fault;
    }

-- the outcome is settled: by a refusal's number, or by the number of a fault, which is that of the last line
unfoldable pub settled : Maker → ℕ → ℕ → Maker
settled m refusal fault =
    record {
      stage = 3;
      n = m.n;
      t = m.t;
      faulty = m.faulty;
      lines = m.lines;
      kept = m.kept;
      refusal = refusal;
      fault = fault;
    }

-- another stage is reached, with the numbers of the line `run`
unfoldable pub reached : Maker → ℕ → ℕ → ℕ → ℕ → Maker
reached m stage n t faulty =
    record {
      stage = stage;
      n = n;
      t = t;
      faulty = faulty;
      lines = m.lines;
      kept = m.kept;
      refusal = m.refusal;
      fault = m.fault;
    }

-- a line that is not understood, with the number of its sentence
unfoldable pub not_understood : Progress → ℕ → Progress
not_understood s fault = progress (settled s.maker s.maker.refusal fault) s.file

-- a refusal
unfoldable pub is_refused : Progress → ℕ → Progress
is_refused s refusal = progress (settled s.maker refusal s.maker.fault) s.file

-- the line begins with `#`
unfoldable pub is_comment : List ℕ → Bool
is_comment line = eqb (get_or line 0 0) 35

-- is a byte of the line neither a space nor a carriage return at the very end?
unfoldable pub not_blank : List ℕ → ℕ → Bool
not_blank line k = not (eqb (get_or line k 0) 32) && not (eqb (get_or line k 0) 13 && eqb (k + 1) (length line))

-- the line is empty: each byte is a space, but for that carriage return
unfoldable pub is_empty : List ℕ → Bool
is_empty line = not (any (length line) (not_blank line))

-- does a byte of two texts differ?
unfoldable pub differ : List ℕ → List ℕ → ℕ → Bool
differ a b k = not (eqb (get_or a k 0) (get_or b k 0))

-- does a line begin with this word, and is its word so long?
unfoldable pub has_word : List ℕ → ℕ → List ℕ → Bool
has_word line size word = eqb size (length word) && not (any size (differ line word))

-- the line `run`: its three numbers are kept, as far as 8 and 16 bits hold them; what is more is refused like the most
unfoldable pub run_taken : Progress → Bool → List ℕ → Progress
run_taken s named numbers =
    cond (named && eqb (length numbers) 3)
    (progress
    (reached s.maker 1 (min (get_or numbers 0 0) 255) (min (get_or numbers 1 0) 255) (min (get_or numbers 2 0) 65535))
    s.file)
    (not_understood s 3)

-- the length of a run file, or 0 where n and t are refused
unfoldable pub file_bytes : ℕ → ℕ → ℕ
file_bytes n t = cond (eqb (size_refusal n t) 0) (table_begins n (t + 1)) 0

-- how much of a slice is room for the file: as much as it needs, or none where that is not there
unfoldable pub file_room : ℕ → ℕ → ℕ → ℕ
file_room n t room = cond (ltb room (file_bytes n t)) 0 (file_bytes n t)

-- the refusal when `rows` has been read: that of a heading that is written to this room
unfoldable pub rows_refusal : Maker → List ℕ → ℕ → ℕ
rows_refusal m rows room = write_heading_refusal m.n m.t m.faulty rows (file_room m.n m.t room)

-- the file before any line `say`: the heading, and tables of zeros
unfoldable pub empty_file : Maker → List ℕ → List ℕ
empty_file m rows = heading_file m.n m.t m.faulty rows ++ build ((m.t + 1) * table_bytes m.n) (λ k. 0)

-- the line `rows`
unfoldable pub rows_taken : Progress → Bool → List ℕ → Progress
rows_taken s named rows =
    let refusal = rows_refusal s.maker rows (length s.file) in
    cond named
    (cond (eqb refusal 0)
    (progress (reached s.maker 2 s.maker.n s.maker.t s.maker.faulty)
    (placed s.file 0 (empty_file s.maker rows)))
    (is_refused s refusal))
    (not_understood s 4)

-- the row of a line `say` goes to its place: refusal 10 where the file has not so many bytes
unfoldable pub row_said : Progress → ℕ → ℕ → Progress
row_said s at row =
    cond (eqb (row_refusal at (length s.file)) 0)
    (progress s.maker (row_writes row at s.file))
    (is_refused s (row_refusal at (length s.file)))

-- a line `say`
unfoldable pub say_taken : Progress → Bool → List ℕ → Progress
say_taken s named numbers =
    let place = place_reply s.maker.n s.maker.t numbers in
    cond named
    (cond (eqb place.refusal 0)
    (cond place.meant (row_said s place.at (row_in numbers)) (not_understood s 5))
    (is_refused s place.refusal))
    (not_understood s 5)

-- a word and numbers, by the stage
unfoldable pub words_taken : Progress → List ℕ → ℕ → List ℕ → Progress
words_taken s line size numbers =
    cond (eqb s.maker.stage 0) (run_taken s (has_word line size run_word) numbers)
    (cond (eqb s.maker.stage 1) (rows_taken s (has_word line size rows_word) numbers)
    (say_taken s (has_word line size say_word) numbers))

-- a line that is no comment and not empty
unfoldable pub content_taken : Progress → List ℕ → Progress
content_taken s line =
    cond (is_line (bare line)) (words_taken s line (length (word_in (bare line))) (numbers_in (bare line)))
    (not_understood s 2)

-- a line that has ended and is counted
unfoldable pub line_taken : Progress → List ℕ → Progress
line_taken s line =
    cond (is_comment line) s
    (cond (ltb 1000 (length line)) (not_understood s 1) (cond (is_empty line) s (content_taken s line)))

-- one more line of the text
unfoldable pub line_ended : Progress → List ℕ → Progress
line_ended s line = line_taken (progress (after_line s.maker) s.file) line
