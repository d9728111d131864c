-- A line put at a place of a text: its size is within the room, behind the text nothing is written, and a line that
-- has its place there stands there. Assumes nothing.
use Prim.Native.Nat.{ℕ, ◌+◌, ◌-◌, ◌≤◌}
use native.Mathlib.Omega.{arith}
use mathlib.Core.Bool.{Bool, true, false}
use mathlib.Core.Path.{◌≡◌, refl, sym, ap, ◌∙◌}
use mathlib.Core.List.{List, [], ◌∷◌, ◌++◌, append-nil}
use lib.Dec.{ltb}
use lib.ListN.{length, take, drop, length-drop, drop_of_length-le}
use lib.Seq.{take_all}
use borrow.Author.Tests.{ltb-false}
use Rattle.lines.specs.declared.Written.{Written}
use Rattle.lines.specs.Line.{line_of, too_short, placed, line_reply, line_writes}
use Rattle.lines.proofs.Lines.{line_given, line_written}
use Rattle.lines.proofs.Placed.{placed_within}
use Rattle.lines.proofs.Laws.{line_keeps}

pub line_within : (word numbers : List ℕ) (room : ℕ) → (line_reply word numbers room).size ≤ room
unfolding line_reply too_short
line_within word numbers room = go (ltb room (length (line_of word numbers))) refl where
  go : (b : Bool) → ltb room (length (line_of word numbers)) ≡ b → (line_reply word numbers room).size ≤ room
  go true e = rw e (omega arith)
  go false e = rw e (ltb-false _ _ e)

-- behind the text there is no room, so the text stays as it is
pub line_beyond : (word numbers text : List ℕ) (at : ℕ) → length text ≤ at →
    text ≡ take at text ++ line_writes word numbers (drop at text)
line_beyond word numbers text at h =
    sym
    (ap (λ (zs : List ℕ). take at text ++ line_writes word numbers zs) (drop_of_length-le text {i = at} h)
    ∙ ap (λ (zs : List ℕ). take at text ++ zs) (nothing (line_writes word numbers []) (line_keeps word numbers []))
    ∙ append-nil (take at text)
    ∙ take_all at text h)
  where
    nothing : (xs : List ℕ) → length xs ≡ 0 → xs ≡ []
    nothing [] e = refl
    nothing (x ∷ xs) e = absurd (omega (arith, e))

-- a line that has its place there is written whole, and stands there
pub put_size : (word numbers text : List ℕ) (at : ℕ) → at + length (line_of word numbers) ≤ length text →
    (line_reply word numbers (length text - at)).size ≡ length (line_of word numbers)
put_size word numbers text at h =
    ap (λ (w : Written). w.size) (sym (line_given word numbers (length text - at) (omega arith)))

pub put_placed : (word numbers text : List ℕ) (at : ℕ) → at + length (line_of word numbers) ≤ length text →
    take at text ++ line_writes word numbers (drop at text) ≡ placed text at (line_of word numbers)
put_placed word numbers text at h =
    ap (λ (zs : List ℕ). take at text ++ zs)
    (line_written word numbers (drop at text) (omega (arith, length-drop at text)))
    ∙ placed_within text at (line_of word numbers)
