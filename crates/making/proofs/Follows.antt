-- What holds after a line: the file is as long as before it, as much is kept of an unfinished line, and where the line
-- settles the outcome it gives a refusal or a fault. Assumes nothing.
use mathlib.Core.Path.{◌≡◌, refl, ap, ◌∙◌}
use mathlib.Core.Bool.{Bool, true, false, cond, ◌&&◌}
use mathlib.Core.List.{List, ◌++◌}
use Prim.Native.Nat.{ℕ, ◌+◌, min, ◌≤◌, ◌<◌}
use native.Mathlib.Omega.{arith}
use lib.Dec.{eqb, leb, ltb}
use lib.ListN.{length, get_or, take, drop, length-append, length-drop}
use lib.Seq.{length-take-le}
use borrow.Author.Tests.{eqb-true, eqb-false, leb-true, ltb-false}
use Rattle.counting.proofs.Bools.{cond_true, cond_false}
use Rattle.runfile.specs.File.{heading_bytes, in_bytes}
use Rattle.runfile.specs.Write.{put_from, at_front, row_refusal, row_writes}
use Rattle.runfile.proofs.Put.{length_in_bytes}
use Rattle.runfile.proofs.Written.{write_heading_accepted}
use Rattle.lines.specs.Line.{placed}
use Rattle.lines.specs.Read.{bare, word_in, is_line, numbers_in}
use Rattle.lines.proofs.Placed.{placed_length}
use Rattle.listing.specs.Listing.{run_word}
use Rattle.says.specs.Say.{rows_word, say_word, row_in, place_reply}
use Rattle.making.specs.declared.Maker.{Maker}
use Rattle.making.specs.Make.{
  Progress,
  progress,
  after_line,
  settled,
  reached,
  not_understood,
  is_refused,
  is_comment,
  is_empty,
  has_word,
  run_taken,
  file_bytes,
  file_room,
  rows_refusal,
  empty_file,
  rows_taken,
  row_said,
  say_taken,
  words_taken,
  content_taken,
  line_taken,
  line_ended,
}
use Rattle.making.proofs.Files.{file_long, empty_long, room_whole}

-- an outcome that is settled has a reason
pub record Reasoned (m : Maker) : Type 0 where
  pub reason : leb 3 m.stage ≡ true → m.refusal ≡ 0 → m.fault ≡ 0 → ⊥

pub record Follows (s r : Progress) : Type 0 where
  pub long : length r.file ≡ length s.file
  pub kept : r.maker.kept ≡ s.maker.kept
  pub given : Reasoned s.maker → Reasoned r.maker

-- one of two
pick : {s x y : Progress} (b : Bool) → (b ≡ true → Follows s x) → (b ≡ false → Follows s y) → Follows s (cond b x y)
pick true f g = f refl
pick false f g = g refl

written_follows : (s : Progress) (file : List ℕ) → length file ≡ length s.file →
    Follows s (progress s.maker file)
written_follows s file e = record { long = e; kept = refl; given = λ h. h }

not_understood_lem : (s : Progress) (fault : ℕ) → 0 < fault → Follows s (not_understood s fault)
unfolding not_understood settled
not_understood_lem s fault l =
    record { long = refl; kept = refl; given = λ h. record { reason = λ e f g. omega (arith, l, g) } }

is_refused_lem : (s : Progress) (refusal : ℕ) → eqb refusal 0 ≡ false → Follows s (is_refused s refusal)
unfolding is_refused settled
is_refused_lem s refusal d =
    record { long = refl; kept = refl; given = λ h. record { reason = λ e f g. eqb-false refusal 0 d f } }

reached_follows : (s : Progress) (stage n t faulty : ℕ) (file : List ℕ) → stage < 3 → length file ≡ length s.file →
    Follows s (progress (reached s.maker stage n t faulty) file)
unfolding reached
reached_follows s stage n t faulty file l e =
    record { long = e; kept = refl; given = λ h. record { reason = λ o f g. omega (arith, l, leb-true 3 stage o) } }

run_follows : (s : Progress) (named : Bool) (numbers : List ℕ) → Follows s (run_taken s named numbers)
unfolding run_taken
run_follows s named numbers =
    pick (named && eqb (length numbers) 3)
    (λ e. reached_follows s 1 (min (get_or numbers 0 0) 255) (min (get_or numbers 1 0) 255)
    (min (get_or numbers 2 0) 65535)
    s.file (omega arith) refl)
    (λ e. not_understood_lem s 3 (omega arith))

-- a file that is written has room
room_within : (n t room : ℕ) → file_room n t room ≤ room
unfolding file_room
room_within n t room = go (ltb room (file_bytes n t)) refl
  where
    go : (b : Bool) → ltb room (file_bytes n t) ≡ b → file_room n t room ≤ room
    go true e = omega (arith, cond_true 0 (file_bytes n t) e)
    go false e = omega (arith, cond_false 0 (file_bytes n t) e, ltb-false room (file_bytes n t) e)

empty_fits : (m : Maker) (rows : List ℕ) (room : ℕ) → rows_refusal m rows room ≡ 0 → length (empty_file m rows) ≤ room
unfolding rows_refusal heading_bytes
empty_fits m rows room e =
    let end = file_room m.n m.t room in
    let some : heading_bytes m.n ≤ end = (write_heading_accepted m.n m.t m.faulty rows end e).enough in
    omega (
      arith,
      room_whole m.n m.t room (λ z. omega (arith, some, z)),
      file_long m.n m.t m.faulty rows end e,
      empty_long m rows,
      room_within m.n m.t room,
    )

rows_follows : (s : Progress) (named : Bool) (rows : List ℕ) → Follows s (rows_taken s named rows)
unfolding rows_taken
rows_follows s named rows =
    let refusal = rows_refusal s.maker rows (length s.file) in
    let file = empty_file s.maker rows in
    pick named
    (λ e. pick (eqb refusal 0)
    (λ f. reached_follows s 2 s.maker.n s.maker.t s.maker.faulty (placed s.file 0 file) (omega arith)
    (placed_length s.file 0 file
    (omega (arith, empty_fits s.maker rows (length s.file) (eqb-true refusal 0 f)))))
    (λ f. is_refused_lem s refusal f))
    (λ e. not_understood_lem s 4 (omega arith))

-- a row that is written changes no length
row_long : (row at : ℕ) (file : List ℕ) → length (row_writes row at file) ≡ length file
unfolding row_writes put_from at_front
row_long row at file = go (ltb (length file) (at + 8)) refl
  where
    go : (b : Bool) → ltb (length file) (at + 8) ≡ b → length (row_writes row at file) ≡ length file
    go true e = ap length (cond_true file _ e)
    go false e =
        let text = take at file ++ in_bytes 8 row in
        ap length (cond_false file (text ++ drop (length text) file) e)
        ∙ length-append text (drop (length text) file)
        ∙ omega (
          arith,
          length-drop (length text) file,
          length-append (take at file) (in_bytes 8 row),
          length-take-le at file (omega (arith, ltb-false (length file) (at + 8) e)),
          length_in_bytes 8 row,
          ltb-false (length file) (at + 8) e,
        )

said_follows : (s : Progress) (at row : ℕ) → Follows s (row_said s at row)
unfolding row_said
said_follows s at row =
    let refusal = row_refusal at (length s.file) in
    pick (eqb refusal 0) (λ e. written_follows s (row_writes row at s.file) (row_long row at s.file))
    (λ e. is_refused_lem s refusal e)

say_follows : (s : Progress) (named : Bool) (numbers : List ℕ) → Follows s (say_taken s named numbers)
unfolding say_taken
say_follows s named numbers =
    let place = place_reply s.maker.n s.maker.t numbers in
    pick named
    (λ e. pick (eqb place.refusal 0)
    (λ f. pick place.meant (λ g. said_follows s place.at (row_in numbers))
    (λ g. not_understood_lem s 5 (omega arith)))
    (λ f. is_refused_lem s place.refusal f))
    (λ e. not_understood_lem s 5 (omega arith))

words_follow : (s : Progress) (line : List ℕ) (size : ℕ) (numbers : List ℕ) →
    Follows s (words_taken s line size numbers)
unfolding words_taken
words_follow s line size numbers =
    pick (eqb s.maker.stage 0) (λ e. run_follows s (has_word line size run_word) numbers)
    (λ e. pick (eqb s.maker.stage 1) (λ f. rows_follows s (has_word line size rows_word) numbers)
    (λ f. say_follows s (has_word line size say_word) numbers))

content_follows : (s : Progress) (line : List ℕ) → Follows s (content_taken s line)
unfolding content_taken
content_follows s line =
    pick (is_line (bare line))
    (λ e. words_follow s line (length (word_in (bare line))) (numbers_in (bare line)))
    (λ e. not_understood_lem s 2 (omega arith))

line_follows : (s : Progress) (line : List ℕ) → Follows s (line_taken s line)
unfolding line_taken
line_follows s line =
    pick (is_comment line) (λ e. written_follows s s.file refl)
    (λ e. pick (ltb 1000 (length line)) (λ f. not_understood_lem s 1 (omega arith))
    (λ f. pick (is_empty line) (λ g. written_follows s s.file refl) (λ g. content_follows s line)))

-- after a line the file is as long as before it, and nothing is kept
module _ (s : Progress) (line : List ℕ) where
  after : Follows (progress (after_line s.maker) s.file) (line_ended s line)
  unfolding line_ended
  after = line_follows (progress (after_line s.maker) s.file) line

  pub line_file_long : length (line_ended s line).file ≡ length s.file
  line_file_long = after.long

  pub line_keeps_none : (line_ended s line).maker.kept ≡ 0
  unfolding after_line
  line_keeps_none = after.kept

  pub line_reasoned : Reasoned s.maker → Reasoned (line_ended s line).maker
  unfolding after_line
  line_reasoned h = after.given (record { reason = h.reason })
