-- What comes of the lines `run`, `rows` and `say`, case by case. Assumes nothing.
use mathlib.Core.Path.{◌≡◌, refl}
use mathlib.Core.Bool.{Bool, true, false, cond, not, true≢false}
use mathlib.Core.List.{List}
use Prim.Native.Nat.{ℕ, ◌+◌, ◌≤◌, ◌<◌}
use lib.Dec.{eqb, ltb}
use lib.ListN.{length}
use native.Mathlib.Omega.{arith}
use borrow.Author.Tests.{eq-eqb, ne_eqb, lt-leb, lt-ltb, le-ltb}
use Rattle.counting.proofs.Bools.{not_false, cond_true, cond_false}
use Rattle.lines.specs.Line.{placed}
use Rattle.lines.specs.Read.{bare, word_in, is_line, numbers_in}
use Rattle.runfile.specs.Write.{row_refusal, row_writes}
use Rattle.sizes.specs.Sizes.{size_refusal}
use Rattle.says.specs.declared.Place.{Place}
use Rattle.says.specs.Say.{row_in, is_meant, say_at, place_reply}
use Rattle.says.proofs.Laws.{meant_of}
use Rattle.making.specs.declared.Maker.{Maker}
use Rattle.making.specs.Make.{
  Progress,
  progress,
  reached,
  not_understood,
  is_refused,
  rows_refusal,
  empty_file,
  rows_taken,
  row_said,
  say_taken,
  words_taken,
  after_line,
  is_comment,
  is_empty,
  content_taken,
  line_taken,
  line_ended,
}
use Rattle.making.specs.Text.{ends_early, outcome_by}

-- the word that is due
module _ (s : Progress) (numbers : List ℕ) where
  pub rows_refused : (rows_refusal s.maker numbers (length s.file) ≡ 0 → ⊥) →
      is_refused s (rows_refusal s.maker numbers (length s.file)) ≡ rows_taken s true numbers
  unfolding rows_taken
  rows_refused h = rw (ne_eqb (rows_refusal s.maker numbers (length s.file)) 0 h) refl

  pub rows_good : rows_refusal s.maker numbers (length s.file) ≡ 0 →
      progress (reached s.maker 2 s.maker.n s.maker.t s.maker.faulty)
      (placed s.file 0 (empty_file s.maker numbers))
      ≡ rows_taken s true numbers
  unfolding rows_taken
  rows_good h = rw (eq-eqb (rows_refusal s.maker numbers (length s.file)) 0 h) refl

  pub say_said : (place : Place) → place ≡ place_reply s.maker.n s.maker.t numbers → place.refusal ≡ 0 →
      not place.meant ≡ false → row_said s place.at (row_in numbers) ≡ say_taken s true numbers
  unfolding say_taken
  say_said place e passes h = rw (← e, eq-eqb place.refusal 0 passes, not_false place.meant h) refl

-- the row of a line that is understood
module _ (s : Progress) (at row : ℕ) where
  pub said_short : (row_refusal at (length s.file) ≡ 0 → ⊥) →
      is_refused s (row_refusal at (length s.file)) ≡ row_said s at row
  unfolding row_said
  said_short h = rw (ne_eqb (row_refusal at (length s.file)) 0 h) refl

-- a row that is refused is not written
pub row_stays : (row at : ℕ) (slice : List ℕ) → (row_refusal at (length slice) ≡ 0 → ⊥) →
    row_writes row at slice ≡ slice
unfolding row_refusal row_writes
row_stays row at slice h = go (ltb (length slice) (at + 8)) refl
  where
    go : (b : Bool) → ltb (length slice) (at + 8) ≡ b → row_writes row at slice ≡ slice
    go true e = cond_true slice _ e
    go false e = absurd (h (cond_false 10 0 e))

-- a line that is understood has a row, so it has a number
pub some_numbers : (n t : ℕ) (numbers : List ℕ) (place : Place) → place ≡ place_reply n t numbers →
    not place.meant ≡ false → 5 ≤ length numbers
unfolding place_reply
some_numbers n t numbers place e h =
    go (eqb (size_refusal n t) 0) (is_meant n t numbers) refl (rw e at h)
  where
    go : (a b : Bool) → is_meant n t numbers ≡ b →
        not (cond {A = Place} a
        (cond b
        (record { refusal = 0; meant = true; at = say_at n numbers })
        (record { refusal = 0; meant = false; at = 0 }))
        (record { refusal = size_refusal n t; meant = false; at = 0 })).meant ≡ false → 5 ≤ length numbers
    go true true f g = (meant_of n t numbers f).five
    go true false f g = absurd (true≢false g)
    go false b f g = absurd (true≢false g)

-- the outcome where the line `run` is due
module _ (m : Maker) (room : ℕ) where
  pub outcome_run : m.stage ≡ 0 → ends_early m 3 ≡ outcome_by m room
  unfolding outcome_by
  outcome_run h = rw (lt-leb 3 m.stage (omega (arith, h)), eq-eqb m.stage 0 h) refl

-- one more line of the text, case by case
module _ (m : Maker) (file line : List ℕ) where
  abbrev pub counted_so : Progress
  counted_so = progress (after_line m) file

  module _ (read : is_comment line ≡ false) where
    pub line_long : 1000 < length line → not_understood counted_so 1 ≡ line_ended (progress m file) line
    unfolding line_ended line_taken
    line_long h = rw (read, lt-ltb 1000 (length line) h) refl

    module _ (short : length line ≤ 1000) where
      pub line_content : is_empty line ≡ false → content_taken counted_so line ≡ line_ended (progress m file) line
      unfolding line_ended line_taken
      line_content h = rw (read, le-ltb 1000 (length line) short, h) refl

-- a line that is no word and numbers, and one that is
module _ (s : Progress) (line : List ℕ) where
  pub content_other : is_line (bare line) ≡ false → not_understood s 2 ≡ content_taken s line
  unfolding content_taken
  content_other h = rw h refl

  pub content_words : is_line (bare line) ≡ true →
      words_taken s line (length (word_in (bare line))) (numbers_in (bare line)) ≡ content_taken s line
  unfolding content_taken
  content_words h = rw h refl
