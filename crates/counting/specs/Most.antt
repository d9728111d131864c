-- The non-zero number found most often in a list, the lowest on a tie.
use Rattle.std.specs.Prelude.{ℕ, zero, suc, Bool, cond, ◌&&◌, ◌||◌, List, eqb, ltb, length, get_or}
use Rattle.counting.specs.Count.{count}

-- how many places of xs hold v
unfoldable pub places : List ℕ → ℕ → ℕ
places xs v = count (length xs) (λ k. eqb (get_or xs k 0) v)

-- 0 means nothing, so it has no support
unfoldable pub support : List ℕ → ℕ → ℕ
support xs v = cond (eqb v 0) 0 (places xs v)

-- does b stand before a: more support, or as much and lower?
unfoldable pub before : List ℕ → ℕ → ℕ → Bool
before xs a b = ltb (support xs a) (support xs b) || eqb (support xs a) (support xs b) && ltb b a

-- the best of the first k elements of xs
unfoldable pub best : List ℕ → ℕ → ℕ
best xs zero = 0
best xs (suc k) = cond (before xs (best xs k) (get_or xs k 0)) (get_or xs k 0) (best xs k)

-- the non-zero number found most often in xs, the lowest on a tie; 0 where every element is 0
unfoldable pub most : List ℕ → ℕ
most xs = best xs (length xs)
