-- Numbers to bytes and back: a number that fits into so many bytes is the one that they stand for, and bytes are those
-- of the number that they stand for. So it is with rows, of which each has 8 bytes. Assumes nothing.
use mathlib.Core.Path.{◌≡◌, refl, sym, ap, ap₂, subst, ◌∙◌}
use mathlib.Core.List.{List, [], ◌∷◌, ◌++◌}
use mathlib.Core.Logic.{⊎_elim}
use Prim.Native.Nat.{ℕ, zero, suc, ◌+◌, ◌*◌, ◌/◌, ◌%◌, ◌^◌, ◌≤◌, ◌<◌}
use native.Mathlib.Nat.{le_refl, not-suc-le-zero, div-lt_iff_lt-mul, pow-suc}
use native.Mathlib.Omega.{arith}
use lib.Arith.{digits_div, digits_mod, lt-one}
use lib.ListN.{length, get_or, take, drop, length-drop, get_or-append}
use lib.Seq.{take-suc, take-add, drop-drop, get_or-drop, get_or_at, get_or-append-add}
use Rattle.counting.proofs.Count.{at_or_below}
use Rattle.runfile.specs.File.{number, in_bytes, rows_in_bytes, row_from, AllBytes, AllRows}
use Rattle.runfile.proofs.Put.{length_in_bytes, length_rows_in_bytes}

-- a number is told by its bytes alone
pub number_ext : (a b : List ℕ) (p q size : ℕ) → ((i : ℕ) → i < size → get_or a (p + i) 0 ≡ get_or b (q + i) 0) →
    number a p size ≡ number b q size
unfolding number
number_ext a b p q zero h = refl
number_ext a b p q (suc size) h =
    ap₂ (λ (x y : ℕ). x * 256 + y) (number_ext a b p q size (λ i l. h i (omega arith))) (h size (le_refl _))

-- written and read
pub number_in_bytes : (size value : ℕ) → value < 256 ^ size → number (in_bytes size value) 0 size ≡ value
unfolding number in_bytes
number_in_bytes zero value l = sym (lt-one l)
number_in_bytes (suc size) value l =
    let first = in_bytes size (value / 256) in
    let more : value < 256 ^ size * 256 = subst (λ (m : ℕ). value < m) (pow-suc 256 size) l in
    let high : value / 256 < 256 ^ size =
    (div-lt_iff_lt-mul {k = 256} {x = value} {y = 256 ^ size} (omega arith)).1 more in
    let long : length first ≡ size = length_in_bytes size (value / 256) in
    let before : number (first ++ ((value % 256) ∷ [])) 0 size ≡ value / 256 =
    number_ext (first ++ ((value % 256) ∷ [])) first 0 0 size
    (λ i k. get_or-append first ((value % 256) ∷ []) 0 (0 + i) (omega (arith, long, k)))
    ∙ number_in_bytes size (value / 256) high in
    let last : get_or (first ++ ((value % 256) ∷ [])) (0 + size) 0 ≡ value % 256 =
    get_or_at first (value % 256) [] 0 (0 + size) (omega (arith, long)) in
    omega (arith, before, last)

-- read and written
pub in_bytes_number : (bytes : List ℕ) → AllBytes bytes → (at size : ℕ) → at + size ≤ length bytes →
    in_bytes size (number bytes at size) ≡ take size (drop at bytes)
unfolding number in_bytes
in_bytes_number bytes all at zero l = refl
in_bytes_number bytes all at (suc size) l =
    let low = get_or bytes (at + size) 0 in
    let small : low < 256 = all (at + size) (omega arith) in
    let high = number bytes at size in
    let left = drop at bytes in
    let within : size < length left = omega (arith, length-drop at bytes) in
    ap₂ (λ (v b : ℕ). in_bytes size v ++ (b ∷ [])) (digits_div high small) (digits_mod high small)
    ∙ ap₂ (λ (xs : List ℕ) (b : ℕ). xs ++ (b ∷ [])) (in_bytes_number bytes all at size (omega arith))
    (sym (get_or-drop at bytes size 0))
    ∙ sym (take-suc left size 0 within)

-- rows read and written: those that stand from a place on
pub rows_in_bytes_number : (bytes : List ℕ) → AllBytes bytes → (at : ℕ) (rows : List ℕ) (m : ℕ) →
    at + 8 * m ≤ length bytes → ((k : ℕ) → k < m → get_or rows k 0 ≡ row_from at bytes k) →
    rows_in_bytes rows m ≡ take (8 * m) (drop at bytes)
unfolding rows_in_bytes row_from
rows_in_bytes_number bytes all at rows zero l h = refl
rows_in_bytes_number bytes all at rows (suc m) l h =
    let more : 8 * m + 8 ≡ 8 * suc m = omega arith in
    let row : in_bytes 8 (get_or rows m 0) ≡ take 8 (drop (8 * m) (drop at bytes)) =
    ap (in_bytes 8) (h m (le_refl _))
    ∙ in_bytes_number bytes all (at + 8 * m) 8 (omega arith)
    ∙ ap (take 8) (sym (drop-drop (8 * m) at bytes)) in
    ap₂ (λ (xs ys : List ℕ). xs ++ ys)
    (rows_in_bytes_number bytes all at rows m (omega arith) (λ k b. h k (omega arith))) row
    ∙ sym (take-add (8 * m) 8 (drop at bytes))
    ∙ ap (λ (k : ℕ). take k (drop at bytes)) more

-- byte i of row k
row_byte : (rows : List ℕ) (m k i : ℕ) → k < m → i < 8 →
    get_or (rows_in_bytes rows m) (8 * k + i) 0 ≡ get_or (in_bytes 8 (get_or rows k 0)) i 0
unfolding rows_in_bytes
row_byte rows zero k i h l = absurd (not-suc-le-zero h)
row_byte rows (suc m) k i h l =
    let first = rows_in_bytes rows m in
    let next = in_bytes 8 (get_or rows m 0) in
    let long : length first ≡ 8 * m = length_rows_in_bytes rows m in
    ⊎_elim
    (λ e.
    let place : 8 * k + i ≡ length first + i = omega (arith, e, long) in
    ap (λ (p : ℕ). get_or (first ++ next) p 0) place
    ∙ get_or-append-add first next i 0
    ∙ ap (λ (j : ℕ). get_or (in_bytes 8 (get_or rows j 0)) i 0) (sym e))
    (λ b. get_or-append first next 0 (8 * k + i) (omega (arith, b, long)) ∙ row_byte rows m k i b l)
    (at_or_below k m h)

-- rows written and read: where their bytes stand from a place on
pub rows_read : (rows : List ℕ) → AllRows rows → (m : ℕ) → m ≤ length rows → (bytes : List ℕ) (at : ℕ) →
    ((i : ℕ) → i < 8 * m → get_or bytes (at + i) 0 ≡ get_or (rows_in_bytes rows m) i 0) →
    (k : ℕ) → k < m → row_from at bytes k ≡ get_or rows k 0
unfolding row_from
rows_read rows all m w bytes at h k l =
    let row = get_or rows k 0 in
    number_ext bytes (in_bytes 8 row) (at + 8 * k) 0 8
    (λ i b.
    let place : at + 8 * k + i ≡ at + (8 * k + i) = omega arith in
    let none : i ≡ 0 + i = omega arith in
    ap (λ (p : ℕ). get_or bytes p 0) place
    ∙ h (8 * k + i) (omega (arith, b, l))
    ∙ row_byte rows m k i l b
    ∙ ap (λ (p : ℕ). get_or (in_bytes 8 row) p 0) none)
    ∙ number_in_bytes 8 row (all k (omega arith))
