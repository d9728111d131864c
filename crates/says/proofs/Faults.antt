-- A text written to the front of a slice, and the two parts of the line of a fault: `line` with its number, which is
-- put together apart and has at most 25 bytes, and the sentence behind it. Assumes nothing.
use mathlib.Core.Path.{◌≡◌, refl, sym, ap, ◌∙◌}
use mathlib.Core.Bool.{Bool, true, false}
use mathlib.Core.List.{List, [], ◌∷◌, ◌++◌, append_assoc}
use Prim.Native.Nat.{ℕ, ◌+◌, ◌-◌, ◌^◌, ◌≤◌, ◌<◌}
use native.Mathlib.Omega.{arith}
use lib.Dec.{ltb}
use lib.ListN.{length, take, drop, length-append}
use lib.Seq.{take_at}
use borrow.Author.Tests.{lt-ltb, le-ltb, ltb-false}
use Rattle.counting.proofs.Bools.{cond_true, cond_false}
use Rattle.lines.specs.declared.Written.{Written}
use Rattle.lines.specs.Line.{field, fields, line_of, placed, too_short, line_reply, line_writes}
use Rattle.lines.proofs.Decimal.{decimal_20}
use Rattle.lines.proofs.Lines.{line_given, line_written}
use Rattle.lines.proofs.Placed.{placed_front, placed_then, placed_copied}
use Rattle.says.specs.Told.{line_word, text_reply, text_writes}

-- a text that does not fit, and one that does
module _ (text : List ℕ) where
  pub text_refused : (room : ℕ) → room < length text → record { refusal = 10; size = 0 } ≡ text_reply text room
  unfolding text_reply
  text_refused room h = sym (cond_true _ _ (lt-ltb _ _ h))

  pub text_given : (room size : ℕ) → size ≡ length text → size ≤ room →
      record { refusal = 0; size = size } ≡ text_reply text room
  unfolding text_reply
  text_given room size e h =
      ap {B = Written} (λ (k : ℕ). record { refusal = 0; size = k }) e
      ∙ sym (cond_false _ _ (le-ltb room (length text) (omega arith)))

  -- what is written lies within the slice
  pub text_within : (room : ℕ) → (text_reply text room).size ≤ room
  unfolding text_reply
  text_within room = go (ltb room (length text)) refl
    where
      go : (b : Bool) → ltb room (length text) ≡ b → (text_reply text room).size ≤ room
      go true e = rw e (omega arith)
      go false e = rw e (ltb-false _ _ e)

  pub text_leaves : (slice : List ℕ) → length slice < length text → slice ≡ text_writes text slice
  unfolding text_writes
  text_leaves slice h = sym (cond_true _ _ (lt-ltb _ _ h))

  pub text_written : (slice : List ℕ) → length text ≤ length slice → placed slice 0 text ≡ text_writes text slice
  unfolding text_writes
  text_written slice h = sym (cond_false _ _ (le-ltb _ _ h))

-- a line is such a text
pub line_told : (word numbers : List ℕ) (room : ℕ) →
    line_reply word numbers room ≡ text_reply (line_of word numbers) room
unfolding line_reply too_short text_reply
line_told word numbers room = refl

pub line_kept : (word numbers slice : List ℕ) →
    line_writes word numbers slice ≡ text_writes (line_of word numbers) slice
unfolding line_writes too_short text_writes
line_kept word numbers slice = refl

-- `line` and the number: the line of a fault without its sentence
abbrev pub line_start : ℕ → List ℕ
line_start line = line_word ++ field line

pub front_short : (line : ℕ) → line < 2 ^ 64 → length (line_start line) ≤ 25
unfolding field
front_short line h = omega (arith, decimal_20 line h)

front_line : (line : ℕ) → line_of line_word (line ∷ []) ≡ line_start line ++ (10 ∷ [])
unfolding line_of fields
front_line line = refl

-- as a line of its own, in 26 bytes, it has one byte more
module _ (line : ℕ) (h : line < 2 ^ 64) where
  fits : length (line_of line_word (line ∷ [])) ≡ length (line_start line) + 1
  fits = ap length (front_line line) ∙ length-append (line_start line) (10 ∷ [])

  pub front_size : (r : Written) → r ≡ line_reply line_word (line ∷ []) 26 → r.size ≡ length (line_start line) + 1
  front_size r e =
      ap (λ (w : Written). w.size)
      (e ∙ sym (line_given line_word (line ∷ []) 26 (omega (arith, fits, front_short line h))))
      ∙ fits

  pub front_text : (slice last : List ℕ) → length slice ≡ 26 → last ≡ line_writes line_word (line ∷ []) slice →
      take (length (line_start line)) last ≡ line_start line
  unfolding placed
  front_text slice last room w =
      let k = length (line_start line) in
      let rest = drop (0 + length (line_of line_word (line ∷ []))) slice in
      ap (take k)
      (w
      ∙ line_written line_word (line ∷ []) slice (omega (arith, fits, front_short line h))
      ∙ ap (λ (text : List ℕ). text ++ rest) (front_line line)
      ∙ append_assoc (line_start line) (10 ∷ []) rest)
      ∙ take_at (line_start line) ((10 ∷ []) ++ rest) k refl

-- the two parts, written one behind the other, are the text
pub parts_written : (out one two start said text : List ℕ) (end : ℕ) → end ≡ length start → start ++ said ≡ text →
    length text ≤ length out →
    one ≡ take (length start) start ++ drop (length start) out →
    two ≡ take (length said) said ++ drop (length said) (take (length one - end) (drop end one)) →
    take end one ++ (two ++ drop (length one - end) (drop end one)) ≡ text_writes text out
parts_written out one two start said text end e t room a b =
    placed_copied one end said two b
    ∙ placed_then out one 0 start said end (a ∙ placed_front out start) (omega arith) (omega (arith, ap length t))
    ∙ ap (placed out 0) t
    ∙ text_written text out room
