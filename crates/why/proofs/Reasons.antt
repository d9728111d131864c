-- The parts of the line of a reason: how long a part can be as a line of its own, and what stands before its newline.
-- Assumes nothing.
use mathlib.Core.Path.{◌≡◌, refl, sym, ap, ◌∙◌}
use mathlib.Core.List.{List, [], ◌∷◌, ◌++◌, append_assoc}
use Prim.Native.Nat.{ℕ, ◌+◌, ◌-◌, ◌^◌, ◌≤◌, ◌<◌}
use native.Mathlib.Omega.{arith}
use lib.ListN.{length, take, drop, length-append}
use lib.Seq.{length-take-le, take_at}
use Rattle.lines.specs.Line.{decimal, field, fields, line_of, placed}
use Rattle.lines.proofs.Decimal.{decimal_most}
use Rattle.listing.specs.Inside.{Put}
use Rattle.why.specs.Answer.{newline}

-- a part is a line of its own
pub part_line : (words : List ℕ) (number : ℕ) → line_of words (number ∷ []) ≡ words ++ field number ++ newline
unfolding line_of fields
part_line words number = refl

-- a number of 8 bits has at most 3 digits, so behind the words of a part are at most 5 bytes
part_long : (words : List ℕ) (number : ℕ) →
    length (line_of words (number ∷ [])) ≡ length words + 2 + length (decimal number)
unfolding field
part_long words number =
    ap length (part_line words number)
    ∙ length-append (words ++ field number) newline
    ∙ omega (arith, length-append words (field number))

pub part_most : (words : List ℕ) (number : ℕ) → number < 2 ^ 8 →
    length (line_of words (number ∷ [])) ≤ length words + 5
part_most words number h = omega (arith, part_long words number, decimal_most 2 number (omega arith))

pub part_some : (words : List ℕ) (number : ℕ) → 1 ≤ length (line_of words (number ∷ []))
part_some words number = omega (arith, part_long words number)

-- what stands before the newline of a part that was put
pub part_behind : (words : List ℕ) (number : ℕ) {xs ys : List ℕ} {size end : ℕ} →
    Put xs ys size end (line_of words (number ∷ [])) → size ≤ length xs →
    take (end - 1) ys ≡ take size xs ++ (words ++ field number)
unfolding placed
part_behind words number {xs} {ys} {size} {end} p short =
    let line = line_of words (number ∷ []) in
    let part = words ++ field number in
    let front = take size xs in
    let rest = drop (size + length line) xs in
    let same : ys ≡ front ++ part ++ (newline ++ rest) =
    p.stands
    ∙ ap (λ (l : List ℕ). front ++ (l ++ rest)) (part_line words number)
    ∙ ap (λ (l : List ℕ). front ++ l) (append_assoc part newline rest)
    ∙ sym (append_assoc front part (newline ++ rest)) in
    let whole = ap length (part_line words number) ∙ length-append part newline in
    let long : length (front ++ part) ≡ end - 1 =
    length-append front part ∙ omega (arith, length-take-le size xs short, p.ends, whole) in
    rw same (take_at (front ++ part) (newline ++ rest) (end - 1) long)
