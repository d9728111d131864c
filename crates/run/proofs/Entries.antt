-- The entry of a place: what the test "one of the n boxes, and sound" says of it. Assumes nothing.
use mathlib.Core.Path.{◌≡◌, refl, sym, ◌∙◌}
use mathlib.Core.List.{List}
use mathlib.Core.Bool.{true, false, not, ◌&&◌, ◌||◌}
use Prim.Native.Nat.{ℕ, ◌+◌, ◌≤◌, ◌<◌}
use native.Mathlib.Omega.{arith}
use lib.Dec.{eqb, ltb}
use lib.ListN.{get_or, replicate, get_or-replicate}
use borrow.Author.Tests.{eqb-true, ltb-true, le-ltb}
use Rattle.counting.specs.Count.{any, build}
use Rattle.counting.specs.Sets.{member}
use Rattle.counting.proofs.Bools.{
  and_left,
  and_right,
  not_both,
  not_true,
  not_false,
  or_false_right,
  cond_true,
  cond_false,
}
use Rattle.counting.proofs.Build.{front_stays}
use Rattle.counting.proofs.Count.{any_none}
use Rattle.counting.proofs.Loops.{Filled, fill_rest}
use Rattle.sizes.specs.Sizes.{sound, stray}
use Rattle.run.specs.declared.Run.{Run}
use Rattle.run.specs.Iteration.{entry}
use Rattle.run.specs.State.{bad_entry, bad_place}

module _ (n faulty k : ℕ) where
  pub is_box : ltb k n && sound faulty k ≡ true → k < n
  is_box h = ltb-true k n (and_left (ltb k n) (sound faulty k) h)

  pub is_sound : ltb k n && sound faulty k ≡ true → member faulty k ≡ false
  unfolding sound
  is_sound h = not_true (member faulty k) (and_right (ltb k n) (sound faulty k) h)

  pub entry_box : (f : ℕ → ℕ) → ltb k n && sound faulty k ≡ true → f k ≡ entry n faulty f k
  unfolding entry
  entry_box f h = sym (cond_true (f k) 0 h)

  pub entry_none : (f : ℕ → ℕ) → ltb k n && sound faulty k ≡ false → 0 ≡ entry n faulty f k
  unfolding entry
  entry_none f h = sym (cond_false (f k) 0 h)

  pub entry_above : (f : ℕ → ℕ) → n ≤ k → 0 ≡ entry n faulty f k
  entry_above f h = entry_none f (not_both (sound faulty k) (le-ltb k n h))

  pub bad_box_lem : (row list : ℕ) → ltb k n && sound faulty k ≡ true → stray n list ≡ bad_entry n faulty k row list
  unfolding bad_entry
  bad_box_lem row list h = sym (cond_true (stray n list) (not (eqb row 0) || not (eqb list 0)) h)

  pub bad_none : (row list : ℕ) → ltb k n && sound faulty k ≡ false →
      not (eqb row 0) || not (eqb list 0) ≡ bad_entry n faulty k row list
  unfolding bad_entry
  bad_none row list h = sym (cond_false (stray n list) (not (eqb row 0) || not (eqb list 0)) h)

-- a loop that has filled the n places of the boxes has filled all thirteen, where those above hold 0
pub places_filled : {n k : ℕ} (f : ℕ → ℕ) {out : List ℕ} → n ≤ 13 → ((q : ℕ) → n ≤ q → 0 ≡ f q) →
    Filled n f (replicate 13 0) k out → n ≤ k → out ≡ build 13 f
places_filled f high none =
    fill_rest 13 f (replicate 13 0) high refl (λ q h l. get_or-replicate 13 q 0 0 l ∙ none q h)

-- a turn that leaves a place as it was: it holds 0 already
pub place_stays : {n k : ℕ} (f : ℕ → ℕ) {out : List ℕ} → n ≤ 13 → Filled n f (replicate 13 0) k out → k < n →
    0 ≡ f k → Filled n f (replicate 13 0) (k + 1) out
place_stays {k = k} f high filled l none = (
  omega (arith, l),
  filled.1
      ∙ front_stays k f (replicate 13 0) (omega (arith, l, high))
      (get_or-replicate 13 k 0 0 (omega (arith, l, high)) ∙ none),
)

-- in a state whose places are good, the list of a place without a sound box is empty
pub no_list : (s : Run) → any 13 (bad_place s) ≡ false → (i : ℕ) → i < 13 →
    (ltb i s.n && sound s.faulty i) ≡ false → get_or s.lists i 0 ≡ 0
unfolding bad_place
no_list s good i l e =
    let row = get_or s.rows i 0 in
    let list = get_or s.lists i 0 in
    let fine = bad_none s.n s.faulty i row list e ∙ any_none 13 (bad_place s) good i l in
    eqb-true list 0 (not_false (eqb list 0) (or_false_right (not (eqb row 0)) _ fine))
