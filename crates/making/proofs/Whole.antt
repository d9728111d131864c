-- A text taken byte by byte is the text taken line by line: pieces that follow each other are one piece, what is kept
-- is the unfinished line as far as there are places for it, and a line that is too long stays too long. So the end of
-- the text gives what the definition over its lines says. And where the outcome is settled no text that follows
-- changes it, or the file. Assumes nothing.
use mathlib.Core.Path.{◌≡◌, refl, sym, ap, ap₂, subst, ◌∙◌}
use mathlib.Core.Bool.{Bool, true, false, cond, not, ◌&&◌}
use mathlib.Core.List.{List, [], ◌∷◌, ◌++◌}
use mathlib.Core.Logic.{◌⊎◌, ⊎_elim}
use mathlib.Core.Logic.◌⊎◌.{inl, inr}
use Prim.Native.Nat.{ℕ, suc, ◌+◌, min, ◌≤◌, ◌<◌}
use native.Mathlib.Decide.{dec_lt}
use native.Mathlib.Numerals.{add-one}
use native.Mathlib.Omega.{arith}
use lib.Dec.{eqb, leb, ltb}
use lib.ListN.{length, set, take, length-append, length-set, length-take, get_or-append}
use lib.Seq.{take_all, take-nil, take-append-le, length-take-le, take-suc-set, set_out, get_or-take}
use borrow.Author.Tests.{eq-eqb, ne_eqb, lt-ltb, le-ltb, ltb-true}
use Rattle.counting.proofs.Bools.{cond_true, cond_false, and_left, and_right, not_true}
use Rattle.making.specs.declared.Maker.{Maker}
use Rattle.making.specs.declared.Made.{Made}
use Rattle.making.specs.Make.{
  Progress,
  progress,
  no_text,
  after_line,
  not_understood,
  settled,
  is_comment,
  line_taken,
  line_ended,
}
use Rattle.making.specs.Text.{
  Reading,
  reading,
  keeping,
  byte_kept,
  line_over,
  newline,
  byte_taken,
  bytes_taken,
  is_settled,
  settled_as,
  outcome_by,
  left_line,
  finish_reply,
  finish_writes,
  longer,
  lines_of,
  lines_taken,
  text_taken,
  made_of,
  made_file,
}
use Rattle.making.proofs.Follows.{line_file_long, line_keeps_none}
use Rattle.making.proofs.Stages.{line_long}

-- one piece, and another behind it
pub pieces_join : (s : Reading) (a b : List ℕ) → bytes_taken s (a ++ b) ≡ bytes_taken (bytes_taken s a) b
unfolding bytes_taken
pieces_join s [] b = refl
pieces_join s (byte ∷ a) b = pieces_join (byte_taken s byte) a b

-- one byte, by what it is
module _ (s : Reading) (byte : ℕ) where
  byte_none : leb 3 s.maker.stage ≡ true → byte_taken s byte ≡ s
  unfolding byte_taken
  byte_none e = rw e refl

  byte_ends : leb 3 s.maker.stage ≡ false → eqb byte 10 ≡ true → byte_taken s byte ≡ newline s
  unfolding byte_taken
  byte_ends e f = rw (e, f) refl

  byte_kept_lem : leb 3 s.maker.stage ≡ false → eqb byte 10 ≡ false → byte_taken s byte ≡ byte_kept s byte
  unfolding byte_taken
  byte_kept_lem e f = rw (e, f) refl

-- a settled maker stays as it is
pub bytes_stay : (text : List ℕ) (s : Reading) → leb 3 s.maker.stage ≡ true → bytes_taken s text ≡ s
unfolding bytes_taken
bytes_stay [] s e = refl
bytes_stay (byte ∷ text) s e =
    ap (λ (r : Reading). bytes_taken r text) (byte_none s byte e) ∙ bytes_stay text s e

lines_stay : (lines : List (List ℕ)) (s : Progress) → leb 3 s.maker.stage ≡ true → lines_taken s lines ≡ s
unfolding lines_taken
lines_stay [] s e = refl
lines_stay (line ∷ lines) s e = cond_true _ _ e

-- no byte changes the length of the line or of the file
pub record SameLengths (s r : Reading) : Type 0 where
  pub line_same : length r.line ≡ length s.line
  pub file_same : length r.file ≡ length s.file

byte_lengths : (s : Reading) (byte : ℕ) → SameLengths s (byte_taken s byte)
unfolding byte_taken newline byte_kept line_over
byte_lengths s byte = go (leb 3 s.maker.stage) (eqb byte 10)
  where
    go : (a b : Bool) → SameLengths s (cond a s (cond b (newline s) (byte_kept s byte)))
    go true b = record { line_same = refl; file_same = refl }
    go false true = record { line_same = refl; file_same = line_file_long (progress s.maker s.file) _ }
    go false false = record { line_same = length-set s.line s.maker.kept byte; file_same = refl }

pub bytes_lengths : (text : List ℕ) (s : Reading) → SameLengths s (bytes_taken s text)
unfolding bytes_taken
bytes_lengths [] s = record { line_same = refl; file_same = refl }
bytes_lengths (byte ∷ text) s =
    let one = byte_lengths s byte in
    let rest = bytes_lengths text (byte_taken s byte) in
    record { line_same = rest.line_same ∙ one.line_same; file_same = rest.file_same ∙ one.file_same }

-- what is known once the last line has ended too
unfoldable pub ended : Reading → Progress
ended s = cond (leb 3 s.maker.stage) (progress s.maker s.file) (left_line s.maker s.line s.file)

-- the outcome and the file when the text ends here
abbrev pub reply_at : Reading → Made
reply_at s = finish_reply s.maker s.line s.file

abbrev pub file_at : Reading → List ℕ
file_at s = finish_writes s.maker s.line s.file

module _ (s : Reading) (room : 1001 ≤ length s.line) where
  reply_at_lem : reply_at s ≡ outcome_by (ended s).maker (length s.file)
  unfolding finish_reply ended outcome_by
  reply_at_lem = rw (le-ltb (length s.line) 1001 room) (go (leb 3 s.maker.stage) refl)
    where
      go : (b : Bool) → leb 3 s.maker.stage ≡ b →
          cond b (settled_as s.maker) (outcome_by (left_line s.maker s.line s.file).maker (length s.file))
          ≡ outcome_by
          (cond b (progress s.maker s.file) (left_line s.maker s.line s.file)).maker
          (length s.file)
      go true e = sym (cond_true _ _ e)
      go false e = refl

  file_at_lem : file_at s ≡ (ended s).file
  unfolding finish_writes ended
  file_at_lem = rw (le-ltb (length s.line) 1001 room) (go (leb 3 s.maker.stage))
    where
      go : (b : Bool) →
          cond b s.file (left_line s.maker s.line s.file).file
          ≡ (cond b (progress s.maker s.file) (left_line s.maker s.line s.file)).file
      go true = refl
      go false = refl

-- a line begins as its first bytes do
pub begins_so : (kept : ℕ) (line : List ℕ) → 0 < kept → is_comment (take kept line) ≡ is_comment line
unfolding is_comment
begins_so kept line h = rw (get_or-take kept line 0 0 h) refl

begins_on : (line text : List ℕ) → 0 < length line → is_comment (line ++ text) ≡ is_comment line
unfolding is_comment
begins_on line text h = rw (get_or-append line text 0 0 h) refl

-- more than 1,000 bytes of a line have the outcome of all of it
cut_same : (s : Progress) (line : List ℕ) (kept : ℕ) → kept ≤ length line → 1000 < kept →
    line_ended s (take kept line) ≡ line_ended s line
unfolding line_ended line_taken
cut_same s line kept few long =
    rw (
      begins_so kept line (omega (arith, long)),
      lt-ltb 1000 (length (take kept line)) (omega (arith, length-take-le kept line few, long)),
      lt-ltb 1000 (length line) (omega (arith, few, long)),
    ) refl

-- a byte that has a place, and one that has none
module _ (s : Reading) (byte : ℕ) where
  line_long_so : length (byte_kept s byte).line ≡ length s.line
  unfolding byte_kept
  line_long_so = length-set s.line s.maker.kept byte

  kept_more : s.maker.kept < length s.line → (byte_kept s byte).maker.kept ≡ suc s.maker.kept
  unfolding byte_kept keeping
  kept_more l = cond_true _ _ (lt-ltb s.maker.kept (length s.line) l) ∙ add-one s.maker.kept

  line_more : s.maker.kept < length s.line →
      take (byte_kept s byte).maker.kept (byte_kept s byte).line ≡ take s.maker.kept s.line ++ (byte ∷ [])
  unfolding byte_kept
  line_more l =
      ap (λ (m : ℕ). take m (set s.line s.maker.kept byte)) (kept_more l)
      ∙ take-suc-set s.line s.maker.kept byte l

  byte_lost : length s.line ≤ s.maker.kept → byte_kept s byte ≡ s
  unfolding byte_kept keeping
  byte_lost l =
      rw (le-ltb s.maker.kept (length s.line) l, set_out s.line s.maker.kept byte l) refl

-- the unfinished line, of which so much is kept as there are places
record Kept (p : List ℕ) (s : Reading) : Type 0 where
  many : s.maker.kept ≡ min (length p) (length s.line)
  same : take s.maker.kept s.line ≡ take s.maker.kept p

module _ (s : Reading) (p : List ℕ) (room : 1001 ≤ length s.line) (k : Kept p s) where
  -- it ends as all of it does
  over_is : line_over s.maker s.line s.file ≡ line_ended (progress s.maker s.file) p
  unfolding line_over
  over_is =
      ap (line_ended (progress s.maker s.file)) k.same ∙ go (dec_lt s.maker.kept (length p))
    where
      go : Dec (s.maker.kept < length p) →
          line_ended (progress s.maker s.file) (take s.maker.kept p)
          ≡ line_ended (progress s.maker s.file) p
      go (yes l) =
          cut_same (progress s.maker s.file) p s.maker.kept (omega (arith, l))
          (omega (arith, l, room, k.many))
      go (no d) =
          ap (line_ended (progress s.maker s.file)) (take_all s.maker.kept p (omega (arith, d)))

  -- one byte more
  byte_more : (byte : ℕ) → Kept (p ++ (byte ∷ [])) (byte_kept s byte)
  byte_more byte = go (dec_lt s.maker.kept (length s.line))
    where
      more : length (p ++ (byte ∷ [])) ≡ length p + 1
      more = length-append p (byte ∷ [])

      go : Dec (s.maker.kept < length s.line) → Kept (p ++ (byte ∷ [])) (byte_kept s byte)
      go (yes l) =
          let now-kept = kept_more s byte l in
          record {
            many = omega (arith, now-kept, more, line_long_so s byte, k.many, l);
            same =
                line_more s byte l
                ∙ ap (λ (xs : List ℕ). xs ++ (byte ∷ []))
                (k.same ∙ take_all s.maker.kept p (omega (arith, k.many, l)))
                ∙ sym (take_all (byte_kept s byte).maker.kept (p ++ (byte ∷ []))
                (omega (arith, now-kept, more, k.many, l)));
          }
      go (no d) =
          subst (λ (r : Reading). Kept (p ++ (byte ∷ [])) r) (sym (byte_lost s byte (omega (arith, d))))
          (record {
            many = omega (arith, more, k.many, d);
            same = k.same ∙ sym (take-append-le s.maker.kept p (byte ∷ []) (omega (arith, k.many)));
          })

-- lines that begin with an unfinished one
unfoldable joined : List ℕ → List (List ℕ) → List (List ℕ)
joined [] lines = lines
joined (byte ∷ p) lines = longer byte (joined p lines)

joined_longer : (p : List ℕ) (byte : ℕ) (lines : List (List ℕ)) →
    joined (p ++ (byte ∷ [])) lines ≡ joined p (longer byte lines)
unfolding joined
joined_longer [] byte lines = refl
joined_longer (b ∷ p) byte lines = ap (longer b) (joined_longer p byte lines)

joined_ended : (p : List ℕ) (lines : List (List ℕ)) → joined p ([] ∷ lines) ≡ p ∷ lines
unfolding joined longer
joined_ended [] lines = refl
joined_ended (b ∷ p) lines = ap (longer b) (joined_ended p lines)

joined_last : (b : ℕ) (p : List ℕ) → joined (b ∷ p) [] ≡ (b ∷ p) ∷ []
unfolding joined longer
joined_last b [] = refl
joined_last b (c ∷ p) = ap (longer b) (joined_last c p)

-- one line and those behind it
module _ (s : Progress) (line : List ℕ) (lines : List (List ℕ)) where
  lines_more : leb 3 s.maker.stage ≡ false → lines_taken s (line ∷ lines) ≡ lines_taken (line_ended s line) lines
  unfolding lines_taken
  lines_more e = cond_false _ _ e

-- what is kept does not matter where a line follows
module _ (m : Maker) (file : List ℕ) (kept : ℕ) (more : leb 3 m.stage ≡ false) where
  one_apart : (line : List ℕ) → line_ended (progress (keeping m kept) file) line ≡ line_ended (progress m file) line
  unfolding line_ended after_line keeping
  one_apart line = refl

  lines_apart : (line : List ℕ) (lines : List (List ℕ)) →
      lines_taken (progress (keeping m kept) file) (line ∷ lines) ≡ lines_taken (progress m file) (line ∷ lines)
  unfolding keeping
  lines_apart line lines =
      lines_more (progress (keeping m kept) file) line lines more
      ∙ ap (λ (s : Progress). lines_taken s lines) (one_apart line)
      ∙ sym (lines_more (progress m file) line lines more)

  longer_apart : (byte : ℕ) (lines : List (List ℕ)) →
      lines_taken (progress (keeping m kept) file) (longer byte lines)
      ≡ lines_taken (progress m file) (longer byte lines)
  unfolding longer
  longer_apart byte [] = lines_apart (byte ∷ []) []
  longer_apart byte (line ∷ lines) = lines_apart (byte ∷ line) lines

  joined_apart : (p : List ℕ) (byte : ℕ) (lines : List (List ℕ)) →
      lines_taken (progress (keeping m kept) file) (joined p (longer byte lines))
      ≡ lines_taken (progress m file) (joined p (longer byte lines))
  unfolding joined
  joined_apart [] byte lines = longer_apart byte lines
  joined_apart (b ∷ p) byte lines = longer_apart b (joined p (longer byte lines))

-- a settled outcome
ended_over : (s : Reading) → leb 3 s.maker.stage ≡ true → ended s ≡ progress s.maker s.file
unfolding ended
ended_over s e = cond_true _ _ e

course_over : (text : List ℕ) (s : Reading) (lines : List (List ℕ)) → leb 3 s.maker.stage ≡ true →
    ended (bytes_taken s text) ≡ lines_taken (progress s.maker s.file) lines
course_over text s lines e =
    ap ended (bytes_stay text s e) ∙ ended_over s e ∙ sym (lines_stay lines (progress s.maker s.file) e)

-- an open one: the end, a newline, another byte
module _ (s : Reading) (p : List ℕ) (room : 1001 ≤ length s.line) (k : Kept p s)
    (more : leb 3 s.maker.stage ≡ false) where
  abbrev so_far : Progress
  so_far = progress s.maker s.file

  left_none : length p ≡ 0 → left_line s.maker s.line s.file ≡ so_far
  unfolding left_line
  left_none e = cond_true _ _ (eq-eqb s.maker.kept 0 (omega (arith, k.many, e)))

  left_some : 0 < length p → left_line s.maker s.line s.file ≡ line_ended so_far p
  unfolding left_line
  left_some l =
      cond_false _ _ (ne_eqb s.maker.kept 0 (λ z. omega (arith, k.many, room, l, z))) ∙ over_is s p room k

  ended_open : ended s ≡ left_line s.maker s.line s.file
  unfolding ended
  ended_open = cond_false _ _ more

  -- what a newline gives
  abbrev line_on : Reading
  line_on = reading (line_ended so_far p).maker s.line (line_ended so_far p).file

  newline_is : newline s ≡ line_on
  unfolding newline
  newline_is = ap (λ (t : Progress). reading t.maker s.line t.file) (over_is s p room k)

  none_kept : Kept [] line_on
  none_kept =
      let none : (line_ended so_far p).maker.kept ≡ 0 = line_keeps_none so_far p in
      record {
        many = omega (arith, none);
        same = ap (λ (m : ℕ). take m s.line) none ∙ sym (take-nil (line_ended so_far p).maker.kept);
      }

  newline_lines : (lines : List (List ℕ)) →
      lines_taken so_far (joined p ([] ∷ lines)) ≡ lines_taken (line_ended so_far p) (joined [] lines)
  unfolding joined
  newline_lines lines = ap (lines_taken so_far) (joined_ended p lines) ∙ lines_more so_far p lines more

  byte_lines : (byte : ℕ) (lines : List (List ℕ)) →
      lines_taken (progress (byte_kept s byte).maker (byte_kept s byte).file) (joined (p ++ (byte ∷ [])) lines)
      ≡ lines_taken so_far (joined p (longer byte lines))
  unfolding byte_kept
  byte_lines byte lines =
      ap (lines_taken (progress (byte_kept s byte).maker s.file)) (joined_longer p byte lines)
      ∙ joined_apart s.maker s.file _ more p byte lines

  byte_room : (byte : ℕ) → 1001 ≤ length (byte_kept s byte).line
  byte_room byte = omega (arith, line_long_so s byte, room)

-- the lines of a text, by its first byte
module _ (byte : ℕ) (text : List ℕ) where
  lines_newline : eqb byte 10 ≡ true → lines_of (byte ∷ text) ≡ [] ∷ lines_of text
  unfolding lines_of
  lines_newline e = cond_true _ _ e

  lines_byte : eqb byte 10 ≡ false → lines_of (byte ∷ text) ≡ longer byte (lines_of text)
  unfolding lines_of
  lines_byte e = cond_false _ _ e

-- a text that is taken from there on, byte by byte and then ended, is its lines, of which the first is begun
abbrev Course : List ℕ → Type 0
Course text =
    (s : Reading) (p : List ℕ) → 1001 ≤ length s.line → Kept p s →
    ended (bytes_taken s text) ≡ lines_taken (progress s.maker s.file) (joined p (lines_of text))

course_end : Course []
unfolding lines_of bytes_taken lines_taken joined
course_end s p room k = go (leb 3 s.maker.stage) refl p k
  where
    go : (b : Bool) → leb 3 s.maker.stage ≡ b → (q : List ℕ) → Kept q s →
        ended s ≡ lines_taken (progress s.maker s.file) (joined q [])
    go true e q h = course_over [] s (joined q []) e
    go false e [] h = ended_open s [] room h e ∙ left_none s [] room h e refl
    go false e (b ∷ q) h =
        ended_open s (b ∷ q) room h e
        ∙ left_some s (b ∷ q) room h e (omega arith)
        ∙ sym (ap (lines_taken (progress s.maker s.file)) (joined_last b q)
        ∙ lines_more (progress s.maker s.file) (b ∷ q) [] e)

course_step : (byte : ℕ) (text : List ℕ) → Course text → Course (byte ∷ text)
unfolding bytes_taken
course_step byte text rest s p room k = go (leb 3 s.maker.stage) refl (eqb byte 10) refl
  where
    go : (a : Bool) → leb 3 s.maker.stage ≡ a → (b : Bool) → eqb byte 10 ≡ b →
        ended (bytes_taken (byte_taken s byte) text)
        ≡ lines_taken (progress s.maker s.file) (joined p (lines_of (byte ∷ text)))
    go true e b f = course_over (byte ∷ text) s (joined p (lines_of (byte ∷ text))) e
    go false e true f =
        ap (λ (r : Reading). ended (bytes_taken r text)) (byte_ends s byte e f ∙ newline_is s p room k e)
        ∙ rest (line_on s p room k e) [] room (none_kept s p room k e)
        ∙ sym (newline_lines s p room k e (lines_of text))
        ∙ ap (λ (lines : List (List ℕ)). lines_taken (progress s.maker s.file) (joined p lines))
        (sym (lines_newline byte text f))
    go false e false f =
        ap (λ (r : Reading). ended (bytes_taken r text)) (byte_kept_lem s byte e f)
        ∙ rest (byte_kept s byte) (p ++ (byte ∷ [])) (byte_room s p room k e byte) (byte_more s p room k byte)
        ∙ byte_lines s p room k e byte (lines_of text)
        ∙ ap (λ (lines : List (List ℕ)). lines_taken (progress s.maker s.file) (joined p lines))
        (sym (lines_byte byte text f))

course : (text : List ℕ) → Course text
course [] = course_end
course (byte ∷ text) = course_step byte text (course text)

-- the whole text, from nothing
module _ (text line file : List ℕ) (room : 1001 ≤ length line) where
  abbrev all_taken : Reading
  all_taken = bytes_taken (reading no_text line file) text

  roomy : 1001 ≤ length all_taken.line
  roomy = omega (arith, (bytes_lengths text (reading no_text line file)).line_same, room)

  ends_so : ended all_taken ≡ text_taken text file
  unfolding text_taken no_text joined
  ends_so =
      course text (reading no_text line file) [] room
      (record { many = omega arith; same = refl })

  pub text_reply_lem : reply_at all_taken ≡ made_of text file
  unfolding made_of
  text_reply_lem =
      reply_at_lem all_taken roomy
      ∙ ap₂ (λ (t : Progress) (long : ℕ). outcome_by t.maker long) ends_so
      (bytes_lengths text (reading no_text line file)).file_same

  pub text_file : file_at all_taken ≡ made_file text file
  unfolding made_file
  text_file = file_at_lem all_taken roomy ∙ ap (λ (t : Progress). t.file) ends_so

-- what comes of a line that is too long where it ends
abbrev refused_line : Reading → Progress
refused_line s = not_understood (progress (after_line s.maker) s.file) 1

-- a byte that is kept changes no stage, and not what comes of a line that is too long
module _ (s : Reading) (byte : ℕ) where
  still : leb 3 s.maker.stage ≡ false → leb 3 (byte_kept s byte).maker.stage ≡ false
  unfolding byte_kept keeping
  still e = e

  same_fault : refused_line (byte_kept s byte) ≡ refused_line s
  unfolding byte_kept keeping after_line
  same_fault = refl

-- an unfinished line that is too long and no comment
record TooLong (s : Reading) : Type 0 where
  more : leb 3 s.maker.stage ≡ false
  long : 1000 < length (take s.maker.kept s.line)
  read : is_comment (take s.maker.kept s.line) ≡ false

module _ (s : Reading) (h : TooLong s) where
  too_long_over : line_over s.maker s.line s.file ≡ refused_line s
  unfolding line_over
  too_long_over = sym (line_long s.maker s.file (take s.maker.kept s.line) h.read h.long)

  some_kept : 1000 < s.maker.kept
  some_kept = omega (arith, h.long, length-take s.maker.kept s.line)

  too_long_ended : ended s ≡ refused_line s
  unfolding ended left_line
  too_long_ended =
      cond_false _ _ h.more
      ∙ cond_false _ _ (ne_eqb s.maker.kept 0 (λ z. omega (arith, some_kept, z)))
      ∙ too_long_over

  too_long_newline : ended (newline s) ≡ refused_line s
  unfolding newline ended not_understood settled
  too_long_newline =
      ap (λ (t : Progress). ended (reading t.maker s.line t.file)) too_long_over

  too_long_settled : leb 3 (newline s).maker.stage ≡ true
  unfolding newline not_understood settled
  too_long_settled = ap (λ (t : Progress). leb 3 t.maker.stage) too_long_over

  too_long_more : (byte : ℕ) → TooLong (byte_kept s byte)
  too_long_more byte = go (dec_lt s.maker.kept (length s.line))
    where
      go : Dec (s.maker.kept < length s.line) → TooLong (byte_kept s byte)
      go (yes l) =
          let first = take s.maker.kept s.line in
          let now-line = line_more s byte l in
          record {
            more = still s byte h.more;
            long = omega (arith, ap length now-line, length-append first (byte ∷ []), h.long);
            read = ap is_comment now-line ∙ begins_on first (byte ∷ []) (omega (arith, h.long)) ∙ h.read;
          }
      go (no d) = subst TooLong (sym (byte_lost s byte (omega (arith, d)))) h

-- so it is at fault, whatever follows it
abbrev AtFault : List ℕ → Type 0
AtFault text = (s : Reading) → TooLong s → ended (bytes_taken s text) ≡ refused_line s

fault_step : (byte : ℕ) (text : List ℕ) → AtFault text → AtFault (byte ∷ text)
unfolding bytes_taken
fault_step byte text rest s h = go (eqb byte 10) refl
  where
    go : (b : Bool) → eqb byte 10 ≡ b → ended (bytes_taken (byte_taken s byte) text) ≡ refused_line s
    go true e =
        ap (λ (r : Reading). ended (bytes_taken r text)) (byte_ends s byte h.more e)
        ∙ ap ended (bytes_stay text (newline s) (too_long_settled s h))
        ∙ too_long_newline s h
    go false e =
        ap (λ (r : Reading). ended (bytes_taken r text)) (byte_kept_lem s byte h.more e)
        ∙ rest (byte_kept s byte) (too_long_more s h byte)
        ∙ same_fault s byte

at_fault : (text : List ℕ) → AtFault text
unfolding bytes_taken
at_fault [] = too_long_ended
at_fault (byte ∷ text) = fault_step byte text (at_fault text)

-- where the outcome is settled, the outcome of any longer text is the same
module _ (m : Maker) (line file : List ℕ) (over : is_settled m line ≡ true) (text : List ℕ) where
  abbrev before : Reading
  before = reading m line file

  abbrev longer_taken : Reading
  longer_taken = bytes_taken before text

  which : (leb 3 m.stage ≡ true) ⊎ TooLong before
  unfolding is_settled
  which = go (leb 3 m.stage) refl
    where
      go : (b : Bool) → leb 3 m.stage ≡ b → (leb 3 m.stage ≡ true) ⊎ TooLong before
      go true e = inl e
      go false e =
          let unended = take m.kept line in
          let long-read : (ltb 1000 (length unended) && not (is_comment unended)) ≡ true = rw e at over in
          inr
          (record {
            more = e;
            long = ltb-true 1000 (length unended) (and_left _ _ long-read);
            read = not_true (is_comment unended) (and_right (ltb 1000 (length unended)) _ long-read);
          })

  module _ (h : TooLong before) where
    room_before : 1001 ≤ length line
    room_before = omega (arith, h.long, length-take m.kept line)

    room_after : 1001 ≤ length longer_taken.line
    room_after = omega (arith, (bytes_lengths text before).line_same, room_before)

    long_reply : reply_at longer_taken ≡ reply_at before
    long_reply =
        reply_at_lem longer_taken room_after
        ∙ ap₂ (λ (t : Progress) (long : ℕ). outcome_by t.maker long)
        (at_fault text before h ∙ sym (too_long_ended before h))
        (bytes_lengths text before).file_same
        ∙ sym (reply_at_lem before room_before)

    long_file : file_at longer_taken ≡ file
    unfolding not_understood
    long_file =
        file_at_lem longer_taken room_after ∙ ap (λ (t : Progress). t.file) (at_fault text before h)

  over_file : leb 3 m.stage ≡ true → file_at before ≡ file
  unfolding finish_writes
  over_file e = cond_true _ _ e

  pub settled_reply : reply_at longer_taken ≡ reply_at before
  settled_reply = ⊎_elim (λ e. ap reply_at (bytes_stay text before e)) long_reply which

  -- and so is the file, which stays as it was
  pub settled_file : file_at longer_taken ≡ file
  settled_file = ⊎_elim (λ e. ap file_at (bytes_stay text before e) ∙ over_file e) long_file which

-- so who takes a text from nothing may stop where the outcome is settled, whatever the rest is
module _ (text line file : List ℕ) (room : 1001 ≤ length line) (rest : List ℕ)
    (over : is_settled (bytes_taken (reading no_text line file) text).maker
    (bytes_taken (reading no_text line file) text).line ≡ true) where
  abbrev stopped : Reading
  stopped = bytes_taken (reading no_text line file) text

  pub stopped_reply : reply_at stopped ≡ made_of (text ++ rest) file
  stopped_reply =
      sym (settled_reply stopped.maker stopped.line stopped.file over rest)
      ∙ ap reply_at (sym (pieces_join (reading no_text line file) text rest))
      ∙ text_reply_lem (text ++ rest) line file room

  pub stopped_file : file_at stopped ≡ made_file (text ++ rest) file
  unfolding bytes_taken
  stopped_file =
      settled_file stopped.maker stopped.line stopped.file over []
      ∙ sym (settled_file stopped.maker stopped.line stopped.file over rest)
      ∙ ap file_at (sym (pieces_join (reading no_text line file) text rest))
      ∙ text_file (text ++ rest) line file room
