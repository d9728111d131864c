-- What is kept of those that join, place by place: one place is looked at in a turn, and the places of which nobody
-- joins hold what they held. Assumes nothing.
use mathlib.Core.Path.{◌≡◌, refl, sym, ap, ◌∙◌}
use mathlib.Core.Bool.{Bool, true, false, cond, not, ◌&&◌}
use mathlib.Core.List.{List}
use Prim.Native.Nat.{ℕ, ◌+◌, ◌-◌, ◌*◌, ◌/◌, ◌%◌, ◌≤◌, ◌<◌}
use native.Mathlib.Omega.{arith}
use lib.ListN.{length, get_or, set, length-set}
use Rattle.counting.specs.Count.{front}
use Rattle.counting.specs.Sets.{member}
use Rattle.counting.proofs.Bools.{cond_true, cond_false}
use Rattle.counting.proofs.Build.{front_none, front_turn, front_more}
use Rattle.run.specs.declared.Joining.{Joining}
use Rattle.run.specs.Inside.{BoxKept, joins_in, kept_to}
use Rattle.run.specs.Iteration.{joined}
use Rattle.run.proofs.Listings.{place_box, place_leader, place_again, leader_lt}

module _ (j : Joining) (found : ℕ → ℕ → ℕ) where
  -- what a place holds afterwards
  at : List ℕ → ℕ → ℕ
  at first p = cond (joins_in j (p / 13) (p % 13)) (found (p / 13) (p % 13)) (get_or first p 0)

  at_place : (first : List ℕ) (i k : ℕ) → k < 13 →
      at first (13 * i + k) ≡ cond (joins_in j i k) (found i k) (get_or first (13 * i + k) 0)
  unfolding at
  at_place first i k l = rw (place_box i l, place_leader i l) refl

  -- no place is looked at yet
  kept_none : (first : List ℕ) → first ≡ kept_to 0 j found first
  unfolding kept_to
  kept_none first = front_none _ first

  -- m places of which nobody joins
  kept_more : (q m : ℕ) (first : List ℕ) → q + m ≤ length first →
      ((p : ℕ) → q ≤ p → p < q + m → joins_in j (p / 13) (p % 13) ≡ false) →
      kept_to q j found first ≡ kept_to (q + m) j found first
  unfolding kept_to
  kept_more q m first l none =
      front_more q m _ first l
      (λ k h. sym (cond_false (found ((q + k) / 13) ((q + k) % 13)) (get_or first (q + k) 0)
      (none (q + k) (omega arith) (omega (arith, h)))))

  -- the places of box i so far
  abbrev pub SoFar : ℕ → List ℕ → ℕ → List ℕ → Type 0
  SoFar i before k after =
      (length after ≡ length before) ×
      ((first : List ℕ) → length first ≡ 169 → before ≡ kept_to (13 * i) j found first →
      after ≡ kept_to (13 * i + k) j found first)

  module _ (i : ℕ) (li : i < 13) {before : List ℕ} where
    pub so_far_begins : SoFar i before 0 before
    so_far_begins = (refl, λ first whole e. e ∙ ap (λ (q : ℕ). kept_to q j found first) (omega arith))

    -- a box that joins: what is found now is put down in its place
    pub so_far_joins : {k v : ℕ} {after : List ℕ} → k < 13 → SoFar i before k after → joins_in j i k ≡ true →
        v ≡ found i k → SoFar i before (k + 1) (set after (13 * i + k) v)
    unfolding kept_to at
    so_far_joins {k} {v} {after} lk h joins e = (
      length-set after (13 * i + k) v ∙ h.0,
      λ first whole b.
          let inside : 13 * i + k < length first = omega (arith, li, lk, whole) in
          let here = at_place first i k lk ∙ cond_true (found i k) (get_or first (13 * i + k) 0) joins in
          front_turn (13 * i + k) (at first) first after inside (h.1 first whole b) (e ∙ sym here)
          ∙ ap (λ (q : ℕ). front q (at first) first) (omega arith),
    )

    -- any other box: its place stays
    pub so_far_stays : {k : ℕ} {after : List ℕ} → k < 13 → SoFar i before k after → joins_in j i k ≡ false →
        SoFar i before (k + 1) after
    so_far_stays {k} {after} lk h stays = (
      h.0,
      λ first whole b.
          h.1 first whole b
          ∙ kept_more (13 * i + k) 1 first (omega (arith, li, lk, whole))
          (λ p low up.
          let here : p ≡ 13 * i + k = omega (arith, low, up) in
          ap (λ (q : ℕ). joins_in j (q / 13) (q % 13)) here ∙ rw (place_box i lk, place_leader i lk) stays)
          ∙ ap (λ (q : ℕ). kept_to q j found first) (omega arith),
    )

    -- behind the n boxes nobody joins
    pub so_far_ends : {n k : ℕ} {after : List ℕ} → k ≡ n → n ≤ 13 →
        ((b : ℕ) → n ≤ b → joins_in j i b ≡ false) → SoFar i before k after → BoxKept j i found before after
    so_far_ends {n} {k} same high none h =
        record {
          long = h.0;
          kept =
              λ first whole b.
              h.1 first whole b
              ∙ kept_more (13 * i + k) (13 - k) first (omega (arith, li, same, high, whole))
              (λ p low up.
              let b = p - 13 * i in
              let place : 13 * i + b ≡ p = omega (arith, low) in
              let lb : b < 13 = omega (arith, up, same, high) in
              ap (λ (q : ℕ). joins_in j (q / 13) (q % 13)) (sym place)
              ∙ rw (place_box i lb, place_leader i lb) (none b (omega (arith, low, same))))
              ∙ ap (λ (q : ℕ). kept_to q j found first) (omega (arith, same, high));
        }

    -- nobody joins a list that has not changed
    pub box_stays : get_or j.old i 0 ≡ get_or j.new i 0 → BoxKept j i found before before
    unfolding joins_in joined
    box_stays e =
        so_far_ends {n = 0} {k = 0} refl (omega arith)
        (λ b l.
        ap (λ (new : ℕ). member new b && not (member (get_or j.old i 0) b)) (sym e)
        ∙ neither (member (get_or j.old i 0) b))
        so_far_begins
      where
        neither : (b : Bool) → (b && not b) ≡ false
        neither true = refl
        neither false = refl

  -- all boxes
  abbrev pub Boxes : List ℕ → ℕ → List ℕ → Type 0
  Boxes first i after = (length after ≡ 169) × (after ≡ kept_to (13 * i) j found first)

  pub boxes_begin : {first : List ℕ} → length first ≡ 169 → Boxes first 0 first
  boxes_begin {first} whole = (whole, kept_none first ∙ ap (λ (q : ℕ). kept_to q j found first) (omega arith))

  pub boxes_turn : (first : List ℕ) {before after : List ℕ} (i : ℕ) → length first ≡ 169 → Boxes first i before →
      BoxKept j i found before after → Boxes first (i + 1) after
  boxes_turn first i whole b h = (
    h.long ∙ b.0,
    h.kept first whole b.1 ∙ ap (λ (q : ℕ). kept_to q j found first) (omega arith),
  )

  -- nobody joins the list of a box behind the n
  pub boxes_end : {n i : ℕ} (first : List ℕ) {after : List ℕ} → length first ≡ 169 → i ≡ n → n ≤ 13 →
      ((a k : ℕ) → n ≤ a → joins_in j a k ≡ false) → Boxes first i after → after ≡ kept_to 169 j found first
  boxes_end {n} {i} first whole same high none b =
      b.1
      ∙ kept_more (13 * i) (169 - 13 * i) first (omega (arith, whole, same, high))
      (λ p low up. none (p / 13) (p % 13) (far p low))
      ∙ ap (λ (q : ℕ). kept_to q j found first) (omega (arith, same, high))
    where
      far : (p : ℕ) → 13 * i ≤ p → n ≤ p / 13
      far p low = omega (arith, low, same, place_again p, leader_lt p)
