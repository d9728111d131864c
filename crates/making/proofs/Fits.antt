-- The size of what was made is never more than the slice in which the file stands, whatever the maker. And where
-- nothing of a text is refused and no line is at fault, it is that of a heading and t + 1 tables. Assumes nothing.
use mathlib.Core.Path.{◌≡◌, refl}
use mathlib.Core.Bool.{Bool, true, false, cond, false≢true}
use mathlib.Core.List.{List, [], ◌∷◌}
use Prim.Native.Nat.{ℕ, ◌+◌, ◌≤◌}
use native.Mathlib.Omega.{arith}
use lib.Dec.{eqb, leb, ltb}
use lib.ListN.{length}
use borrow.Author.Tests.{eqb-false, ltb-false}
use Rattle.counting.proofs.Bools.{cond_true}
use Rattle.sizes.specs.Sizes.{size_refusal}
use Rattle.listing.specs.File.{table_begins}
use Rattle.making.specs.declared.Maker.{Maker}
use Rattle.making.specs.declared.Made.{Made}
use Rattle.making.specs.Make.{Progress, progress, no_text, file_bytes, line_ended}
use Rattle.making.specs.Text.{
  settled_as,
  ends_early,
  refused_as,
  whole_file,
  outcome_by,
  left_line,
  finish_reply,
  lines_of,
  lines_taken,
  text_taken,
  made_of,
}
use Rattle.making.proofs.Follows.{Reasoned, line_reasoned}

record Sized (m : Maker) (room : ℕ) (r : Made) : Type 0 where
  fits : r.size ≤ room
  whole : Reasoned m → r.refusal ≡ 0 → r.fault ≡ 0 → r.size ≡ table_begins m.n (m.t + 1)

whole_sized : (m : Maker) (room : ℕ) → Sized m room (whole_file m room)
unfolding whole_file refused_as file_bytes
whole_sized m room =
    go (eqb (size_refusal m.n m.t) 0) refl (ltb room (file_bytes m.n m.t)) refl
  where
    go : (a : Bool) → eqb (size_refusal m.n m.t) 0 ≡ a → (b : Bool) → ltb room (file_bytes m.n m.t) ≡ b →
        Sized m room
        (cond a
        (cond b
        (refused_as 10)
        (record { refusal = 0; line = 0; fault = 0; size = file_bytes m.n m.t }))
        (refused_as (size_refusal m.n m.t)))
    go true e true f = record { fits = omega arith; whole = λ h i j. omega (arith, i) }
    go true e false f =
        record {
          fits = ltb-false room (file_bytes m.n m.t) f;
          whole = λ h i j. cond_true (table_begins m.n (m.t + 1)) 0 e;
        }
    go false e b f =
        record {
          fits = omega arith;
          whole = λ h i j. absurd (eqb-false (size_refusal m.n m.t) 0 e i);
        }

outcome_sized : (m : Maker) (room : ℕ) → Sized m room (outcome_by m room)
unfolding outcome_by settled_as ends_early
outcome_sized m room = go (leb 3 m.stage) refl (eqb m.stage 0) (eqb m.stage 1)
  where
    go : (a : Bool) → leb 3 m.stage ≡ a → (b c : Bool) →
        Sized m room
        (cond a (settled_as m) (cond b (ends_early m 3) (cond c (ends_early m 4) (whole_file m room))))
    go true e b c = record { fits = omega arith; whole = λ h i j. absurd (h.reason e i j) }
    go false e true c = record { fits = omega arith; whole = λ h i j. omega (arith, j) }
    go false e false true = record { fits = omega arith; whole = λ h i j. omega (arith, j) }
    go false e false false = whole_sized m room

-- what was made fits
pub made_fits : (m : Maker) (line file : List ℕ) → (finish_reply m line file).size ≤ length file
unfolding finish_reply settled_as refused_as
made_fits m line file = go (leb 3 m.stage) (ltb (length line) 1001)
  where
    go : (a b : Bool) →
        (cond {A = Made} a (settled_as m)
        (cond b (refused_as 10) (outcome_by (left_line m line file).maker (length file)))).size ≤ length file
    go true b = omega arith
    go false true = omega arith
    go false false = (outcome_sized (left_line m line file).maker (length file)).fits

-- an outcome that the lines of a text settle has a reason
lines_reasoned : (lines : List (List ℕ)) (s : Progress) → Reasoned s.maker →
    Reasoned (lines_taken s lines).maker
unfolding lines_taken
lines_reasoned [] s h = h
lines_reasoned (line ∷ lines) s h =
    go (leb 3 s.maker.stage) (lines_reasoned lines (line_ended s line) (line_reasoned s line h))
  where
    go : (b : Bool) → Reasoned (lines_taken (line_ended s line) lines).maker →
        Reasoned (cond b s (lines_taken (line_ended s line) lines)).maker
    go true r = h
    go false r = r

-- so where a text has neither a refusal nor a fault, a whole file was made of it, and fits
module _ (text file : List ℕ) (passes : (made_of text file).refusal ≡ 0) (clean : (made_of text file).fault ≡ 0) where
  pub made_size : (made_of text file).size
      ≡ table_begins (text_taken text file).maker.n ((text_taken text file).maker.t + 1)
  unfolding made_of text_taken no_text
  made_size =
      (outcome_sized (text_taken text file).maker (length file)).whole
      (lines_reasoned (lines_of text) (progress no_text file) (record { reason = λ e f g. false≢true e }))
      passes clean

  pub made_room : (made_of text file).size ≤ length file
  unfolding made_of
  made_room = (outcome_sized (text_taken text file).maker (length file)).fits
