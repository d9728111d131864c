-- A text that is put together in a slice: nothing is put, a line is put, one text is put behind another; and how long
-- a line can be by what its numbers can be.
-- Assumes nothing.
use mathlib.Core.Path.{◌≡◌, sym, ap, ◌∙◌}
use mathlib.Core.List.{List, [], ◌∷◌, ◌++◌, append_assoc}
use Prim.Native.Nat.{ℕ, ◌+◌, ◌^◌, ◌≤◌, ◌<◌}
use native.Mathlib.Nat.{add-zero, le_refl}
use native.Mathlib.Omega.{arith}
use lib.ListN.{length, take, drop, length-append}
use lib.Seq.{length-take-le, take_at}
use Rattle.counting.specs.Count.{sum}
use Rattle.lines.specs.Line.{decimal, line_of, placed, put_reply, put_writes}
use Rattle.lines.proofs.Decimal.{decimal_most}
use Rattle.lines.proofs.Lines.{line_size}
use Rattle.lines.proofs.Placed.{placed_none, placed_then}
use Rattle.lines.proofs.Put.{put_size, put_placed}
use Rattle.listing.specs.Inside.{Put}
use Rattle.listing.specs.Listing.{run_word, at_word, sent_word, refused_word, run_line, at_line}

pub put_nothing : (xs : List ℕ) (at : ℕ) → Put xs xs at at []
put_nothing xs at = record { ends = sym (add-zero at); stands = placed_none xs at }

-- what the call that puts a line says, where a line so long at most has its place
pub put_line : (word numbers xs ys : List ℕ) (at end most : ℕ) → length (line_of word numbers) ≤ most →
    at + most ≤ length xs →
    end ≡ put_reply word numbers (length xs) at →
    ys ≡ put_writes word numbers xs at →
    Put xs ys at end (line_of word numbers) × (end ≤ at + most)
unfolding put_reply put_writes
put_line word numbers xs ys at end most short room e w =
    let fits : at + length (line_of word numbers) ≤ length xs = omega arith in
    let behind : end ≡ at + length (line_of word numbers) =
    e ∙ ap (λ (k : ℕ). at + k) (put_size word numbers xs at fits) in
    (record { ends = behind; stands = w ∙ put_placed word numbers xs at fits }, omega arith)

-- one text behind another
pub put_then : {xs ys zs s t : List ℕ} {at mid end : ℕ} → Put xs ys at mid s → Put ys zs mid end t →
    end ≤ length xs → Put xs zs at end (s ++ t)
put_then {xs} {ys} {zs} {s} {t} {at} {mid} {end} p q fits =
    let whole = length-append s t in
    record {
      ends = omega (arith, p.ends, q.ends, whole);
      stands =
          q.stands
          ∙ placed_then xs ys at s t mid p.stands p.ends (omega (arith, p.ends, q.ends, whole));
    }

-- what stands in the slice up to the place behind
pub put_front : {xs ys s : List ℕ} {at end : ℕ} → Put xs ys at end s → at ≤ length xs →
    take end ys ≡ take at xs ++ s
unfolding placed
put_front {xs} {ys} {s} {at} {end} p short =
    let rest = drop (at + length s) xs in
    let long : length (take at xs ++ s) ≡ at + length s =
    length-append (take at xs) s ∙ omega (arith, length-take-le at xs short) in
    rw (p.ends, p.stands, ← append_assoc (take at xs) s rest) (take_at (take at xs ++ s) rest (at + length s) long)

-- a line put behind the first bytes of a slice that has room for it
pub put_more : (word numbers xs ys before : List ℕ) (size end : ℕ) → take size xs ≡ before → size ≤ length xs →
    length before + length (line_of word numbers) ≤ length xs →
    end ≡ put_reply word numbers (length xs) size →
    ys ≡ put_writes word numbers xs size →
    (take end ys ≡ before ++ line_of word numbers) × (end ≤ length xs)
put_more word numbers xs ys before size end front short room e w =
    let line = line_of word numbers in
    let long : length before ≡ size = sym (ap length front) ∙ length-take-le size xs short in
    let put = put_line word numbers xs ys size end (length line) (le_refl _) (omega (arith, long, room)) e w in (
      put_front put.0 short ∙ ap (λ (zs : List ℕ). zs ++ line) front,
      omega (arith, put.1, long, room),
    )

-- how long a text is behind which a line was put
pub grown : (before line : List ℕ) (most : ℕ) {after : List ℕ} → after ≡ before ++ line → length line ≤ most →
    length after ≤ length before + most
grown before line most e short = omega (arith, ap length e, length-append before line)

-- how long the lines can be, by the bits of their numbers: 8 of them are at most 3 digits, 16 at most 5 and 64 at
-- most 20
digits8 : (n : ℕ) → n < 2 ^ 8 → length (decimal n) ≤ 3
digits8 n h = decimal_most 2 n (omega arith)

digits16 : (n : ℕ) → n < 2 ^ 16 → length (decimal n) ≤ 5
digits16 n h = decimal_most 4 n (omega arith)

digits64 : (n : ℕ) → n < 2 ^ 64 → length (decimal n) ≤ 20
digits64 n h = decimal_most 19 n (omega arith)

pub run_most : (n t faulty : ℕ) → n < 2 ^ 8 → t < 2 ^ 8 → faulty < 2 ^ 16 → length (run_line n t faulty) ≤ 18
unfolding run_line sum
run_most n t faulty hn ht hf =
    omega (arith, line_size run_word (n ∷ t ∷ faulty ∷ []), digits8 n hn, digits8 t ht, digits16 faulty hf)

pub at_most : (done i row list : ℕ) → done < 2 ^ 8 → i < 13 → row < 2 ^ 64 → list < 2 ^ 16 →
    length (at_line done i row list) ≤ 37
unfolding at_line sum
at_most done i row list hd hi hr hl =
    let box = decimal_most 1 (i + 1) (omega arith) in
    omega (
      arith,
      line_size at_word (done ∷ (i + 1) ∷ row ∷ list ∷ []),
      digits8 done hd,
      box,
      digits64 row hr,
      digits16 list hl,
    )

pub sent_most : (sent : ℕ) → sent < 2 ^ 64 → length (line_of sent_word (sent ∷ [])) ≤ 26
unfolding sum
sent_most sent h = omega (arith, line_size sent_word (sent ∷ []), digits64 sent h)

pub refused_most : (refusal : ℕ) → refusal < 2 ^ 8 → length (line_of refused_word (refusal ∷ [])) ≤ 26
unfolding sum
refused_most refusal h = omega (arith, line_size refused_word (refusal ∷ []), digits8 refusal h)
