-- What the loops of the crates above go by, each kind said once: one that fills a list, one that searches and one
-- that counts. For each: what holds after k of m turns, that it holds before the first turn and after one more, and
-- what has been done where the turns are at an end. Assumes nothing.
use mathlib.Core.Path.{◌≡◌, refl, sym, ap, ◌∙◌}
use mathlib.Core.Bool.{Bool, true, false, cond}
use mathlib.Core.List.{List}
use Prim.Native.Nat.{ℕ, ◌+◌, ◌-◌, ◌≤◌, ◌<◌}
use native.Mathlib.Omega.{arith}
use lib.ListN.{length, get_or, take, set}
use Rattle.counting.specs.Count.{count, any, build, front}
use Rattle.counting.proofs.Count.{any_turn, some_any, count_turn, count_turn_le}
use Rattle.counting.proofs.Build.{
  front_none,
  front_turn,
  front_more,
  front_length,
  front_take,
  front_whole,
  front_all,
}

-- a loop has come to its end
at_end : {k m : ℕ} → k ≤ m → m ≤ k → k ≡ m
at_end h l = omega (arith, h, l)

-- a loop that fills: the first k places of xs hold f
abbrev pub Filled : ℕ → (ℕ → ℕ) → List ℕ → ℕ → List ℕ → Type 0
Filled m f xs k out = (k ≤ m) × (out ≡ front k f xs)

pub fill_begins : {m : ℕ} (f : ℕ → ℕ) (xs : List ℕ) → Filled m f xs 0 xs
fill_begins f xs = (omega arith, front_none f xs)

pub fill_turn : {m k v : ℕ} (f : ℕ → ℕ) (xs : List ℕ) {out : List ℕ} → m ≤ length xs →
    Filled m f xs k out → k < m → v ≡ f k → Filled m f xs (k + 1) (set out k v)
fill_turn {k = k} f xs {out = out} room filled l e =
    (omega (arith, l), front_turn k f xs out (omega (arith, room, l)) filled.1 e)

-- the list keeps its length
pub fill_length : {m k : ℕ} (f : ℕ → ℕ) (xs : List ℕ) {out : List ℕ} → m ≤ length xs →
    Filled m f xs k out → length out ≡ length xs
fill_length {k = k} f xs room filled = ap length filled.1 ∙ front_length k f xs (omega (arith, room, filled.0))

-- its first m places are filled
pub fill_fronts : {m k : ℕ} (f : ℕ → ℕ) (xs : List ℕ) {out : List ℕ} → Filled m f xs k out → m ≤ k →
    take m out ≡ build m f
fill_fronts {m = m} f xs filled l =
    ap (take m) (front_whole f xs (at_end filled.0 l) filled.1) ∙ front_take m f xs

-- all of it is filled
pub fill_ends : {m k : ℕ} (f : ℕ → ℕ) (xs : List ℕ) {out : List ℕ} → length xs ≡ m →
    Filled m f xs k out → m ≤ k → out ≡ build m f
fill_ends {m = m} f xs whole filled l =
    front_all f xs m whole (front_whole f xs (at_end filled.0 l) filled.1)

-- where the loop ends before the list, the places behind hold f already
pub fill_rest : {n k : ℕ} (m : ℕ) (f : ℕ → ℕ) (xs : List ℕ) {out : List ℕ} → n ≤ m → length xs ≡ m →
    ((q : ℕ) → n ≤ q → q < m → get_or xs q 0 ≡ f q) → Filled n f xs k out → n ≤ k → out ≡ build m f
fill_rest {n} m f xs most whole rest filled l =
    front_all f xs m whole
    (front_whole f xs (at_end filled.0 l) filled.1
    ∙ front_more n (m - n) f xs (omega (arith, most, whole))
    (λ k h. rest (n + k) (omega arith) (omega (arith, h, most)))
    ∙ ap (λ (q : ℕ). front q f xs) (omega (arith, most)))

-- a loop that searches: none of the first k passes the test
abbrev pub NoneYet : ℕ → (ℕ → Bool) → ℕ → Type 0
NoneYet m p k = (k ≤ m) × (any k p ≡ false)

pub search_begins : {m : ℕ} (p : ℕ → Bool) → NoneYet m p 0
unfolding any
search_begins p = (omega arith, refl)

pub search_turn : {m k : ℕ} {r : Bool} (p : ℕ → Bool) → NoneYet m p k → k < m → r ≡ p k → r ≡ false →
    NoneYet m p (k + 1)
search_turn {k = k} p none l e fails = (omega (arith, l), any_turn k p none.1 (sym e ∙ fails))

-- the search ends at the first that passes
pub search_hits : {m k : ℕ} {r : Bool} (p : ℕ → Bool) → k < m → r ≡ p k → r ≡ true → true ≡ any m p
search_hits {m = m} {k = k} p l e passes = sym (some_any m p k l (sym e ∙ passes))

pub search_ends : {m k : ℕ} (p : ℕ → Bool) → NoneYet m p k → m ≤ k → false ≡ any m p
search_ends p none l = sym none.1 ∙ ap (λ (n : ℕ). any n p) (at_end none.0 l)

-- a loop that counts: so many of the first k pass the test
abbrev pub Counted : ℕ → (ℕ → Bool) → ℕ → ℕ → Type 0
Counted m p k found = (k ≤ m) × (found ≡ count k p)

pub count_begins : {m : ℕ} (p : ℕ → Bool) → Counted m p 0 0
unfolding count
count_begins p = (omega arith, refl)

pub counts : {m k found r : ℕ} (p : ℕ → Bool) → Counted m p k found → k < m → r ≡ cond (p k) 1 0 →
    Counted m p (k + 1) (found + r)
counts {k = k} p counted l e = (omega (arith, l), count_turn k p counted.1 e)

-- the counter is at most the turns made
pub counts_few : {m k found r : ℕ} (p : ℕ → Bool) → Counted m p k found → r ≡ cond (p k) 1 0 → found + r ≤ k + 1
counts_few {k = k} p counted e = count_turn_le k p counted.1 e

pub count_ends : {m k found : ℕ} (p : ℕ → Bool) → Counted m p k found → m ≤ k → found ≡ count m p
count_ends p counted l = counted.1 ∙ ap (λ (n : ℕ). count n p) (at_end counted.0 l)
