-- Bytes written into a slice: how long the bytes of numbers and rows are, what the bytes of one row are, and a text
-- that is copied to a place and one that follows another. Assumes nothing.
use mathlib.Core.Path.{◌≡◌, refl, sym, ap, ap₂, ◌∙◌}
use mathlib.Core.List.{List, [], ◌∷◌, ◌++◌, append_assoc, append-nil}
use Prim.Native.Nat.{ℕ, zero, suc, ◌+◌, ◌*◌, ◌/◌, ◌%◌, ◌≤◌}
use native.Mathlib.Numerals.{add-one}
use native.Mathlib.Omega.{arith}
use lib.ListN.{length, get_or, take, drop, length-append, take-append-drop}
use lib.Seq.{length-take-le, take_at, drop-append-add, drop-drop}
use Rattle.runfile.specs.File.{in_bytes, rows_in_bytes}
use Rattle.runfile.specs.Inside.{first_nine}
use Rattle.runfile.specs.Write.{put_from, heading_file, at_front}

-- so many bytes
pub length_in_bytes : (size value : ℕ) → length (in_bytes size value) ≡ size
unfolding in_bytes
length_in_bytes zero value = refl
length_in_bytes (suc size) value =
    length-append (in_bytes size (value / 256)) ((value % 256) ∷ [])
    ∙ omega (arith, length_in_bytes size (value / 256))

pub length_rows_in_bytes : (rows : List ℕ) (k : ℕ) → length (rows_in_bytes rows k) ≡ 8 * k
unfolding rows_in_bytes
length_rows_in_bytes rows zero = refl
length_rows_in_bytes rows (suc k) =
    length-append (rows_in_bytes rows k) (in_bytes 8 (get_or rows k 0))
    ∙ omega (arith, length_rows_in_bytes rows k, length_in_bytes 8 (get_or rows k 0))

-- the bytes of a row, each by one division
pub eight_bytes : (row : ℕ) →
    in_bytes 8 row ≡
    row / 72057594037927936 % 256 ∷
    row / 281474976710656 % 256 ∷
    row / 1099511627776 % 256 ∷
    row / 4294967296 % 256 ∷
    row / 16777216 % 256 ∷
    row / 65536 % 256 ∷
    row / 256 % 256 ∷
    row % 256 ∷
    []
unfolding in_bytes
eight_bytes row =
    let d2 : row / 256 / 256 ≡ row / 65536 = omega arith in
    let d3 : row / 65536 / 256 ≡ row / 16777216 = omega arith in
    let d4 : row / 16777216 / 256 ≡ row / 4294967296 = omega arith in
    let d5 : row / 4294967296 / 256 ≡ row / 1099511627776 = omega arith in
    let d6 : row / 1099511627776 / 256 ≡ row / 281474976710656 = omega arith in
    let d7 : row / 281474976710656 / 256 ≡ row / 72057594037927936 = omega arith in
    rw (d2, d3, d4, d5, d6, d7) refl

-- how far a text reaches that is written from a place on
front_long : (at : ℕ) (s xs : List ℕ) → at ≤ length xs → length (take at xs ++ s) ≡ at + length s
front_long at s xs l = length-append (take at xs) s ∙ omega (arith, length-take-le at xs l)

-- a text between what lies before and behind it
pub put_text : (at end : ℕ) (text xs : List ℕ) → at ≤ length xs → end ≡ at + length text →
    take at xs ++ (text ++ drop end xs) ≡ put_from at text xs
unfolding put_from at_front
put_text at end text xs l e =
    sym (append_assoc (take at xs) text (drop end xs))
    ∙ ap (λ (m : ℕ). take at xs ++ text ++ drop m xs) (e ∙ sym (front_long at text xs l))

-- nothing written
pub put_none : (at : ℕ) (xs : List ℕ) → at ≤ length xs → xs ≡ put_from at [] xs
unfolding put_from at_front
put_none at xs l =
    sym (rw (append-nil (take at xs), length-take-le at xs l) (take-append-drop at xs))

-- a longer text over the one that stands at the front
over : (s t xs : List ℕ) → at_front (s ++ t) (at_front s xs) ≡ at_front (s ++ t) xs
unfolding at_front
over s t xs =
    ap (λ (ys : List ℕ). s ++ t ++ ys)
    (rw (length-append s t) (drop-append-add s (drop (length s) xs) (length t) ∙ drop-drop (length t) (length s) xs))

-- a text behind the one that stands at the front
pub put_behind : (s t xs ys : List ℕ) (at : ℕ) → length s ≡ at → ys ≡ at_front s xs →
    put_from at t ys ≡ at_front (s ++ t) xs
unfolding put_from at_front
put_behind s t xs ys at e h =
    let front : take at ys ≡ s = ap (take at) h ∙ take_at s (drop (length s) xs) at e in
    ap₂ (λ (zs ws : List ℕ). at_front (zs ++ t) ws) front h ∙ over s t xs

-- what is written from place 0 on stands at the front
pub put_front : (s xs : List ℕ) → put_from 0 s xs ≡ at_front s xs
unfolding put_from
put_front s xs = refl

-- the turn of the loop over the rows
pub put_turn : (at : ℕ) (rows xs ys : List ℕ) (k : ℕ) → at + 8 * (k + 1) ≤ length xs →
    ys ≡ put_from at (rows_in_bytes rows k) xs →
    put_from (at + 8 * k) (in_bytes 8 (get_or rows k 0)) ys ≡ put_from at (rows_in_bytes rows (k + 1)) xs
unfolding rows_in_bytes put_from
put_turn at rows xs ys k l e =
    let s = rows_in_bytes rows k in
    let t = in_bytes 8 (get_or rows k 0) in
    let first = take at xs in
    let long : length (first ++ s) ≡ at + 8 * k =
    front_long at s xs (omega arith) ∙ ap (λ (m : ℕ). at + m) (length_rows_in_bytes rows k) in
    let both = append_assoc first s t in
    rw add-one (put_behind (first ++ s) t xs ys (at + 8 * k) long e ∙ ap (λ (zs : List ℕ). at_front zs xs) both)

-- a heading's bytes are the first nine and the rows
pub nine_then_rows : (n t faulty : ℕ) (rows : List ℕ) →
    first_nine n t faulty ++ rows_in_bytes rows n ≡ heading_file n t faulty rows
unfolding first_nine heading_file in_bytes
nine_then_rows n t faulty rows = refl

pub length_nine : (n t faulty : ℕ) → length (first_nine n t faulty) ≡ 9
unfolding first_nine in_bytes
length_nine n t faulty = refl
