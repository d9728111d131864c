-- Texts written into a slice: the slice keeps its length, one store writes one byte, a text that follows another
-- makes one longer text, and a text may be copied to the front of the slice or of what lies from a place on. Assumes
-- nothing.
use mathlib.Core.Path.{◌≡◌, refl, sym, ap, ap₂, subst, ◌∙◌}
use mathlib.Core.List.{List, [], ◌∷◌, ◌++◌, append_assoc, append-nil}
use Prim.Native.Nat.{ℕ, ◌+◌, ◌-◌, ◌≤◌, ◌<◌}
use native.Mathlib.Nat.{add-zero}
use native.Mathlib.Numerals.{add-one}
use native.Mathlib.Omega.{arith}
use lib.ListN.{length, take, drop, set, length-append, length-drop, take-append-drop}
use lib.Seq.{set_split, length-take-le, take_all, take-length, drop-length, take_at, drop_at, drop-drop}
use Rattle.lines.specs.Line.{placed}

pub placed_none : (xs : List ℕ) (at : ℕ) → xs ≡ placed xs at []
unfolding placed
placed_none xs at =
    sym (take-append-drop at xs) ∙ ap (λ (m : ℕ). take at xs ++ drop m xs) (sym (add-zero at))

pub placed_one : (xs : List ℕ) (at b : ℕ) → at < length xs → set xs at b ≡ placed xs at (b ∷ [])
unfolding placed
placed_one xs at b l = set_split xs at b l ∙ ap (λ (m : ℕ). take at xs ++ b ∷ drop m xs) (sym (add-one at))

pub placed_length : (xs : List ℕ) (at : ℕ) (s : List ℕ) → at + length s ≤ length xs →
    length (placed xs at s) ≡ length xs
unfolding placed
placed_length xs at s l =
    length-append (take at xs) (s ++ drop (at + length s) xs)
    ∙ omega (
      arith,
      length-take-le at xs (omega arith),
      length-append s (drop (at + length s) xs),
      length-drop (at + length s) xs,
    )

-- one text, and another behind it
pub placed_append : (xs : List ℕ) (at : ℕ) (s t : List ℕ) → at + length (s ++ t) ≤ length xs →
    placed (placed xs at s) (at + length s) t ≡ placed xs at (s ++ t)
unfolding placed
placed_append xs at s t l =
    let p = take at xs in
    let q = drop (at + length s) xs in
    let r = drop (at + length (s ++ t)) xs in
    let longer : length (s ++ t) ≡ length s + length t = length-append s t in
    let whole : p ++ (s ++ q) ≡ p ++ s ++ q = sym (append_assoc p s q) in
    let short : at ≤ length xs = omega arith in
    let long : length (p ++ s) ≡ at + length s = length-append p s ∙ omega (arith, length-take-le at xs short) in
    let front : take (at + length s) (p ++ (s ++ q)) ≡ p ++ s =
    ap (take (at + length s)) whole ∙ take_at (p ++ s) q (at + length s) long in
    let sum : at + length s + length t ≡ at + length (s ++ t) = omega arith in
    let back : drop (at + length s + length t) (p ++ (s ++ q)) ≡ r =
    sym (drop-drop (length t) (at + length s) (p ++ (s ++ q)))
    ∙ ap (drop (length t)) (ap (drop (at + length s)) whole ∙ drop_at (p ++ s) q (at + length s) long)
    ∙ drop-drop (length t) (at + length s) xs
    ∙ ap (λ (m : ℕ). drop m xs) sum in
    ap₂ (λ (f b : List ℕ). f ++ (t ++ b)) front back
    ∙ append_assoc p s (t ++ r)
    ∙ ap (λ (ys : List ℕ). p ++ ys) (sym (append_assoc s t r))

-- the turn of a loop that writes: behind the text so far comes another
pub placed_then : (xs ys : List ℕ) (at : ℕ) (s t : List ℕ) (k : ℕ) → ys ≡ placed xs at s → k ≡ at + length s →
    at + length (s ++ t) ≤ length xs → placed ys k t ≡ placed xs at (s ++ t)
placed_then xs ys at s t k e h l = ap₂ (λ (zs : List ℕ) (m : ℕ). placed zs m t) e h ∙ placed_append xs at s t l

-- or one byte
pub placed_next : (xs ys : List ℕ) (at : ℕ) (s : List ℕ) (b k : ℕ) → ys ≡ placed xs at s → k ≡ at + length s →
    k < length xs → set ys k b ≡ placed xs at (s ++ (b ∷ []))
placed_next xs ys at s b k e h l =
    let long : length ys ≡ length xs = ap length e ∙ placed_length xs at s (omega arith) in
    placed_one ys k b (omega arith) ∙ placed_then xs ys at s (b ∷ []) k e h (omega (arith, length-append s (b ∷ [])))

-- what lies from a place on is the rest of the slice, with nothing behind it
pub rest_whole : (xs : List ℕ) (at : ℕ) → take (length xs - at) (drop at xs) ≡ drop at xs
rest_whole xs at = take_all (length xs - at) (drop at xs) (omega (arith, length-drop at xs))

pub rest_none : (xs ys : List ℕ) (at : ℕ) → ys ++ drop (length xs - at) (drop at xs) ≡ ys
rest_none xs ys at =
    let none : drop (length xs - at) (drop at xs) ≡ [] =
    subst (λ (k : ℕ). drop k (drop at xs) ≡ []) (length-drop at xs) (drop-length (drop at xs)) in
    ap (λ (zs : List ℕ). ys ++ zs) none ∙ append-nil ys

-- a text written at the front of the rest stands at the place
pub placed_within : (xs : List ℕ) (at : ℕ) (s : List ℕ) → take at xs ++ placed (drop at xs) 0 s ≡ placed xs at s
unfolding placed
placed_within xs at s =
    let same : at + (0 + length s) ≡ at + length s = omega arith in
    ap (λ (zs : List ℕ). take at xs ++ (s ++ zs))
    (drop-drop (0 + length s) at xs ∙ ap (λ (k : ℕ). drop k xs) same)

-- a text copied to the front
pub placed_front : (xs s : List ℕ) → take (length s) s ++ drop (length s) xs ≡ placed xs 0 s
unfolding placed
placed_front xs s =
    let none : length s ≡ 0 + length s = omega arith in
    ap₂ (λ (f b : List ℕ). f ++ b) (take-length s) (ap (λ (k : ℕ). drop k xs) none)

-- or to what lies from a place on
pub placed_copied : (xs : List ℕ) (at : ℕ) (s ys : List ℕ) →
    ys ≡ take (length s) s ++ drop (length s) (take (length xs - at) (drop at xs)) →
    take at xs ++ (ys ++ drop (length xs - at) (drop at xs)) ≡ placed xs at s
placed_copied xs at s ys e =
    ap (λ (zs : List ℕ). take at xs ++ zs)
    (rest_none xs ys at
    ∙ e
    ∙ placed_front (take (length xs - at) (drop at xs)) s
    ∙ ap (λ (zs : List ℕ). placed zs 0 s) (rest_whole xs at))
    ∙ placed_within xs at s

-- at the front of the slice the text is found again, and the rest as it was
pub placed_found : (xs s : List ℕ) → take (length s) (placed xs 0 s) ≡ s
unfolding placed
placed_found xs s = take_at s _ (length s) refl

pub placed_rest : (xs s : List ℕ) → drop (length s) (placed xs 0 s) ≡ drop (length s) xs
unfolding placed
placed_rest xs s =
    let none : 0 + length s ≡ length s = omega arith in
    drop_at s _ (length s) refl ∙ ap (λ (m : ℕ). drop m xs) none
