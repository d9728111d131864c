-- Sums and counts over the numbers below a bound, and the list built from a function. Each goes by the highest index,
-- as a loop that counts up puts it on.
use Rattle.std.specs.Prelude.{ℕ, zero, suc, ◌+◌, Bool, cond, ◌||◌, List, [], ◌∷◌, ◌++◌, drop}

-- f 0 + f 1 + .. + f (n − 1)
unfoldable pub sum : ℕ → (ℕ → ℕ) → ℕ
sum zero f = 0
sum (suc n) f = sum n f + f n

-- how many k below n pass the test p
unfoldable pub count : ℕ → (ℕ → Bool) → ℕ
count zero p = 0
count (suc n) p = count n p + cond (p n) 1 0

-- does some k below n pass the test p?
unfoldable pub any : ℕ → (ℕ → Bool) → Bool
any zero p = Bool.false
any (suc n) p = any n p || p n

-- the list f 0, f 1, .., f (n − 1)
unfoldable pub build : ℕ → (ℕ → ℕ) → List ℕ
build zero f = []
build (suc n) f = build n f ++ (f n ∷ [])

-- the last of f 0, .., f (n − 1) that passes the test p, or 0
unfoldable pub find : ℕ → (ℕ → Bool) → (ℕ → ℕ) → ℕ
find zero p f = 0
find (suc n) p f = cond (p (f n)) (f n) (find n p f)

-- the list with f 0, .., f (n − 1) at its front, the rest of which stays
unfoldable pub front : ℕ → (ℕ → ℕ) → List ℕ → List ℕ
front n f xs = build n f ++ drop n xs
