-- n rows of n numbers in 169 places: the number at place i * n + k is f i k, and row i is a part of its own. They are
-- put there row by row, a row from left to right, over zeros; a row of zeros need not be put.
-- Assumes nothing.
use mathlib.Core.Path.{◌≡◌, refl, sym, ap, ap₂, ◌∙◌, subst}
use mathlib.Core.List.{List}
use Prim.Native.Nat.{ℕ, ◌+◌, ◌*◌, ◌/◌, ◌%◌, ◌≤◌, ◌<◌}
use native.Mathlib.Nat.{suc-mul, mul-le-mul_right}
use native.Mathlib.Numerals.{add-one}
use native.Mathlib.Omega.{arith}
use lib.Arith.{digits_div, digits_mod}
use lib.ListN.{length, get_or, take, drop, set, replicate, length-drop, get_or-replicate}
use lib.Seq.{get_or-take, get_or-drop, length-take-le}
use Rattle.sizes.proofs.Laws.{square_le}
use Rattle.counting.specs.Count.{build, front}
use Rattle.counting.proofs.Build.{built, front_none, front_turn, front_more, front_length, front_at, front_ext}
use Rattle.gradecast.specs.Cast.{cells, cells_to}
use Rattle.gradecast.specs.Inside.{PutTo}
use Rattle.gradecast.proofs.Places.{two_digits}

-- row i lies within the 169 places
pub part_fits : {n i : ℕ} → n ≤ 13 → i < n → i * n + n ≤ 169
part_fits {n} {i} high h = omega (arith, square_le high, row_fits)
  where
    row_fits : i * n + n ≤ n * n
    row_fits = subst (λ (m : ℕ). m ≤ n * n) (suc-mul i n) (mul-le-mul_right n h)

-- and so does every place in it
pub place_fits : {n i k : ℕ} → n ≤ 13 → i < n → k < n → i * n + k < 169
place_fits high hi hk = omega (arith, part_fits high hi)

-- behind row i comes the next
pub row_after : (n i : ℕ) → i * n + n ≡ (i + 1) * n
row_after n i = sym (ap (λ (m : ℕ). m * n) (add-one i) ∙ suc-mul i n)

-- row i as a list
pub part_built : (n i : ℕ) (g : ℕ → ℕ) (xs : List ℕ) → n ≤ 13 → i < n → length xs ≡ 169 →
    ((k : ℕ) → k < n → get_or xs (i * n + k) 0 ≡ g k) → take n (drop (i * n) xs) ≡ build n g
part_built n i g xs high below l h =
    built n g (take n (drop (i * n) xs))
    (length-take-le n (drop (i * n) xs) (omega (arith, length-drop (i * n) xs, part_fits high below)))
    (λ k s. get_or-take n (drop (i * n) xs) k 0 s ∙ get_or-drop (i * n) xs k 0 ∙ h k s)

module _ (n : ℕ) (f : ℕ → ℕ → ℕ) where
  pub length_cells : n ≤ 13 → length (cells n f) ≡ 169
  unfolding cells cells_to
  length_cells high = front_length (n * n) (λ p. f (p / n) (p % n)) (replicate 169 0) (square_le high)

  pub cells_at : (i k : ℕ) → i < n → k < n → get_or (cells n f) (i * n + k) 0 ≡ f i k
  unfolding cells cells_to
  cells_at i k hi hk =
      front_at (n * n) (λ p. f (p / n) (p % n)) (replicate 169 0) (i * n + k) (two_digits hi hk)
      ∙ ap₂ f (digits_div i hk) (digits_mod i hk)

  -- none is there
  pub cells_none : replicate 169 0 ≡ cells_to (0 * n) n f
  unfolding cells_to
  cells_none = front_none (λ p. f (p / n) (p % n)) (replicate 169 0) ∙ ap (λ (m : ℕ). cells_to m n f) (omega arith)

  -- one more is put
  pub cells_turn : {i k v : ℕ} {xs : List ℕ} → n ≤ 13 → i < n → k < n → xs ≡ cells_to (i * n + k) n f → v ≡ f i k →
      set xs (i * n + k) v ≡ cells_to (i * n + (k + 1)) n f
  unfolding cells_to
  cells_turn {i} {k} {xs = xs} high hi hk e h =
      front_turn (i * n + k) (λ p. f (p / n) (p % n)) (replicate 169 0) xs (omega (arith, part_fits high hi)) e
      (h ∙ sym (ap₂ f (digits_div i hk) (digits_mod i hk)))
      ∙ ap (λ (q : ℕ). cells_to q n f) (omega arith)

  -- a row of zeros need not be put
  pub cells_skip : (i : ℕ) → n ≤ 13 → i < n → ((k : ℕ) → k < n → f i k ≡ 0) →
      cells_to (i * n) n f ≡ cells_to (i * n + n) n f
  unfolding cells_to
  cells_skip i high hi h =
      front_more (i * n) n (λ p. f (p / n) (p % n)) (replicate 169 0) (part_fits high hi)
      (λ k l.
      get_or-replicate 169 (i * n + k) 0 0 (place_fits high hi l)
      ∙ sym (ap₂ f (digits_div i l) (digits_mod i l) ∙ h k l))

-- the same numbers give the same cells
pub cells_ext : (n : ℕ) (f g : ℕ → ℕ → ℕ) → ((i k : ℕ) → f i k ≡ g i k) → cells n f ≡ cells n g
cells_ext n f g h = ap (cells n) (λ a i k. h i k a)

-- cells made one by one from those that stand in xs
pub cells_mapped : (n : ℕ) (f : ℕ → ℕ → ℕ) (g : ℕ → ℕ) (xs : List ℕ) → xs ≡ cells n f →
    front (n * n) (λ p. g (get_or xs p 0)) (replicate 169 0) ≡ cells n (λ i k. g (f i k))
unfolding cells cells_to
cells_mapped n f g xs e =
    front_ext (n * n) _ _ (replicate 169 0)
    (λ p l.
    ap g
    (ap (λ (ys : List ℕ). get_or ys p 0) e
    ∙ front_at (n * n) (λ p. f (p / n) (p % n)) (replicate 169 0) p l))

-- a loop that puts the numbers of box i one by one, as g gives them: after k of n turns the first k are put, behind
-- the cells that stood there first
module _ {n i : ℕ} (high : n ≤ 13) (below : i < n) (g : ℕ → ℕ) {first : List ℕ} where
  pub put_turn : (k : ℕ) (out : List ℕ) {v : ℕ} → PutTo n i k g first out → k < n → v ≡ g k →
      PutTo n i (k + 1) g first (set out (i * n + k) v)
  put_turn k out p l h = λ f q e. cells_turn n f high below l (p f q e) (h ∙ sym (q k l))

  pub put_ends : {k : ℕ} {out : List ℕ} → k ≡ n → PutTo n i k g first out → PutTo n i n g first out
  put_ends q p = λ f h e. p f h e ∙ ap (λ (m : ℕ). cells_to (i * n + m) n f) q

  -- nothing is put for a faulty box
  pub put_skipped : ((k : ℕ) → k < n → g k ≡ 0) → PutTo n i n g first first
  put_skipped z = λ f h e. e ∙ cells_skip n f i high below (λ k l. h k l ∙ z k l)

  -- the same numbers by another name
  pub put_same : (b : ℕ → ℕ) {last : List ℕ} → ((k : ℕ) → k < n → b k ≡ g k) → PutTo n i n b first last →
      PutTo n i n g first last
  put_same b z p = λ f h e. p f (λ k l. h k l ∙ sym (z k l)) e

-- a loop that goes through the boxes: after i of n turns the cells of the boxes below i are put
abbrev pub BoxesTo : ℕ → (ℕ → ℕ → ℕ) → ℕ → List ℕ → Type 0
BoxesTo n f i out = out ≡ cells_to (i * n) n f

module _ (n : ℕ) (f : ℕ → ℕ → ℕ) where
  pub boxes_begin : {out : List ℕ} → out ≡ replicate 169 0 → BoxesTo n f 0 out
  boxes_begin e = e ∙ cells_none n f

  pub boxes_turn : {i : ℕ} {out last : List ℕ} → BoxesTo n f i out → PutTo n i n (f i) out last →
      BoxesTo n f (i + 1) last
  boxes_turn {i} e p = p f (λ k l. refl) e ∙ ap (λ (m : ℕ). cells_to m n f) (row_after n i)

  pub boxes_end : {i : ℕ} {out : List ℕ} → i ≡ n → BoxesTo n f i out → out ≡ cells n f
  unfolding cells
  boxes_end h e = e ∙ ap (λ (m : ℕ). cells_to (m * n) n f) h
