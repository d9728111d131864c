-- Laws of a built list, and the turn of a loop that fills one.
-- Assumes nothing.
use mathlib.Core.Path.{◌≡◌, refl, sym, ap, ap₂, ◌∙◌}
use mathlib.Core.List.{List, [], ◌∷◌, ◌++◌, append-nil}
use mathlib.Core.Logic.{⊎_elim}
use Prim.Native.Nat.{ℕ, zero, suc, ◌+◌, ◌≤◌, ◌<◌}
use native.Mathlib.Nat.{le_refl, not-suc-le-zero, zero-add, add_assoc}
use native.Mathlib.Numerals.{add-one}
use native.Mathlib.Omega.{arith}
use lib.ListN.{length, get_or, take, drop, set, length-append, length-drop, drop_of_length-le, get_or-append}
use lib.Seq.{get_or_at, ext_get_or, drop-cons, set_at, append_snoc, take_at, drop_at}
use Rattle.counting.specs.Count.{build, front}
use Rattle.counting.proofs.Count.{lower, at_or_below}

pub length_build : (n : ℕ) (f : ℕ → ℕ) → length (build n f) ≡ n
unfolding build
length_build zero f = refl
length_build (suc n) f = length-append (build n f) (f n ∷ []) ∙ omega (arith, length_build n f)

-- the element at k is f k
pub get_or_build : (n : ℕ) (f : ℕ → ℕ) (k d : ℕ) → k < n → get_or (build n f) k d ≡ f k
unfolding build
get_or_build zero f k d h = absurd (not-suc-le-zero h)
get_or_build (suc n) f k d h =
    ⊎_elim
    (λ e. get_or_at (build n f) (f n) [] d k (length_build n f ∙ sym e) ∙ ap f (sym e))
    (λ b. get_or-append (build n f) (f n ∷ []) d k (omega (arith, length_build n f)) ∙ get_or_build n f k d b)
    (at_or_below k n h)

pub build_ext : (n : ℕ) (f g : ℕ → ℕ) → ((k : ℕ) → k < n → f k ≡ g k) → build n f ≡ build n g
unfolding build
build_ext zero f g h = refl
build_ext (suc n) f g h =
    ap₂ (λ (xs : List ℕ) (x : ℕ). xs ++ (x ∷ [])) (build_ext n f g (lower n h)) (h n (le_refl _))

-- a list that agrees with f at each of its n places
pub built : (n : ℕ) (f : ℕ → ℕ) (xs : List ℕ) → length xs ≡ n → ((k : ℕ) → k < n → get_or xs k 0 ≡ f k) →
    xs ≡ build n f
built n f xs e h =
    ext_get_or 0 xs (build n f) (e ∙ sym (length_build n f))
    (λ k l. h k (omega arith) ∙ sym (get_or_build n f k 0 (omega arith)))

-- a list that is written at its front, one place a turn: it keeps its length, its front holds f and its rest stays
pub front_none : (f : ℕ → ℕ) (xs : List ℕ) → xs ≡ front 0 f xs
unfolding front build
front_none f xs = refl

pub front_turn : (n : ℕ) (f : ℕ → ℕ) (xs ys : List ℕ) {v : ℕ} → n < length xs → ys ≡ front n f xs →
    v ≡ f n → set ys n v ≡ front (n + 1) f xs
unfolding front build
front_turn n f xs ys {v} l e h =
    rw add-one
    (ap (λ (zs : List ℕ). set zs n v) (e ∙ ap (λ (zs : List ℕ). build n f ++ zs) (drop-cons xs n 0 l))
    ∙ set_at (build n f) (get_or xs n 0) (drop (suc n) xs) v n (length_build n f)
    ∙ ap (λ (x : ℕ). build n f ++ x ∷ drop (suc n) xs) h
    ∙ sym (append_snoc (build n f) (f n) (drop (suc n) xs)))

-- a place that holds f's number already
pub front_stays : (n : ℕ) (f : ℕ → ℕ) (xs : List ℕ) → n < length xs → get_or xs n 0 ≡ f n →
    front n f xs ≡ front (n + 1) f xs
unfolding front build
front_stays n f xs l h =
    rw add-one
    (ap (λ (zs : List ℕ). build n f ++ zs) (drop-cons xs n 0 l)
    ∙ ap (λ (x : ℕ). build n f ++ x ∷ drop (suc n) xs) h
    ∙ sym (append_snoc (build n f) (f n) (drop (suc n) xs)))

-- and m such places
pub front_more : (n m : ℕ) (f : ℕ → ℕ) (xs : List ℕ) → n + m ≤ length xs →
    ((k : ℕ) → k < m → get_or xs (n + k) 0 ≡ f (n + k)) → front n f xs ≡ front (n + m) f xs
front_more n zero f xs l h = ap (λ (q : ℕ). front q f xs) (omega arith)
front_more n (suc m) f xs l h =
    front_more n m f xs (omega arith) (lower m h)
    ∙ front_stays (n + m) f xs (omega arith) (h m (le_refl _))
    ∙ ap (λ (q : ℕ). front q f xs) (omega arith)

-- so a list whose first n numbers are f's is its own front
pub front_same : (n : ℕ) (f : ℕ → ℕ) (xs : List ℕ) → n ≤ length xs →
    ((k : ℕ) → k < n → get_or xs k 0 ≡ f k) → xs ≡ front n f xs
front_same n f xs l h =
    front_none f xs
    ∙ front_more 0 n f xs (omega arith) (λ k lk. rw zero-add (h k lk))
    ∙ ap (λ (q : ℕ). front q f xs) (omega arith)

pub front_length : (n : ℕ) (f : ℕ → ℕ) (xs : List ℕ) → n ≤ length xs →
    length (front n f xs) ≡ length xs
unfolding front
front_length n f xs l =
    length-append (build n f) (drop n xs) ∙ omega (arith, length_build n f, length-drop n xs)

pub front_at : (n : ℕ) (f : ℕ → ℕ) (xs : List ℕ) (k : ℕ) → k < n → get_or (front n f xs) k 0 ≡ f k
unfolding front
front_at n f xs k l =
    get_or-append (build n f) (drop n xs) 0 k (omega (arith, length_build n f)) ∙ get_or_build n f k 0 l

-- the place behind the front stands as it did
pub front_next : (n : ℕ) (f : ℕ → ℕ) (xs : List ℕ) → n < length xs →
    get_or (front n f xs) n 0 ≡ get_or xs n 0
unfolding front
front_next n f xs l =
    ap (λ (zs : List ℕ). get_or (build n f ++ zs) n 0) (drop-cons xs n 0 l)
    ∙ get_or_at (build n f) (get_or xs n 0) (drop (suc n) xs) 0 n (length_build n f)

-- the same numbers make the same front
pub front_ext : (n : ℕ) (f g : ℕ → ℕ) (xs : List ℕ) → ((k : ℕ) → k < n → f k ≡ g k) →
    front n f xs ≡ front n g xs
unfolding front
front_ext n f g xs h = ap (λ (zs : List ℕ). zs ++ drop n xs) (build_ext n f g h)

-- a front that is written over another
pub front_again : (n : ℕ) (f g : ℕ → ℕ) (xs : List ℕ) → front n f (front n g xs) ≡ front n f xs
unfolding front
front_again n f g xs = ap (λ (zs : List ℕ). build n f ++ zs) (drop_at (build n g) (drop n xs) n (length_build n g))

pub front_take : (n : ℕ) (f : ℕ → ℕ) (xs : List ℕ) → take n (front n f xs) ≡ build n f
unfolding front
front_take n f xs = take_at (build n f) (drop n xs) n (length_build n f)

-- a loop that has come to its bound has filled the whole front
pub front_whole : {m n : ℕ} (f : ℕ → ℕ) (xs : List ℕ) {ys : List ℕ} → m ≡ n → ys ≡ front m f xs →
    ys ≡ front n f xs
front_whole f xs e h = h ∙ ap (λ (k : ℕ). front k f xs) e

-- a front as long as the list is all of it
pub front_all : (f : ℕ → ℕ) (xs : List ℕ) {ys : List ℕ} (n : ℕ) → length xs ≡ n → ys ≡ front n f xs →
    ys ≡ build n f
unfolding front
front_all f xs n e h =
    h
    ∙ ap (λ (zs : List ℕ). build n f ++ zs) (drop_of_length-le xs {i = n} (omega arith))
    ∙ append-nil (build n f)

-- four places a turn
pub front_four : (n : ℕ) (f : ℕ → ℕ) (xs ys : List ℕ) {a b c d : ℕ} → n + 4 ≤ length xs → ys ≡ front n f xs →
    a ≡ f n → b ≡ f (n + 1) → c ≡ f (n + 2) → d ≡ f (n + 3) →
    set (set (set (set ys n a) (n + 1) b) (n + 2) c) (n + 3) d ≡ front (n + 4) f xs
front_four n f xs ys l e ha hb hc hd =
    next 3 (next 2 (next 1 (front_turn n f xs ys (omega arith) e ha) hb (omega arith)) hc (omega arith)) hd
    (omega arith)
  where
    next : (k : ℕ) {zs : List ℕ} {v : ℕ} → zs ≡ front (n + k) f xs → v ≡ f (n + k) → k < 4 →
        set zs (n + k) v ≡ front (n + (k + 1)) f xs
    next k {zs} q h s =
        front_turn (n + k) f xs zs (omega arith) q h ∙ ap (λ (m : ℕ). front m f xs) (add_assoc n k 1)
