-- The reply of steps 1 to 4, put together: refused with its number, or what they find. A call that is not refused is
-- ready for them, and one that is ready is not refused.
-- Assumes nothing.
use mathlib.Core.Path.{◌≡◌, refl, sym, ◌∙◌}
use mathlib.Core.Bool.{Bool, true, false, cond, not}
use mathlib.Core.List.{List, [], ◌∷◌}
use Prim.Native.Nat.{ℕ, ◌*◌, ◌<◌}
use native.Mathlib.Omega.{arith}
use lib.Dec.{eqb}
use lib.ListN.{length, replicate}
use borrow.Author.Tests.{eqb-true, eq-eqb, ne_eqb}
use Rattle.counting.specs.Refuse.{Refusal}
use Rattle.counting.specs.Refuse.Refusal.{refuse}
use Rattle.counting.proofs.Bools.{not_false, not_of_true, not_of_false}
use Rattle.counting.proofs.Refuse.{accepted, refused, passed, none_left}
use Rattle.sizes.specs.Sizes.{outside, too_many, size_refusal, table_rows, by_n, sound}
use Rattle.sizes.proofs.Laws.{inside, inside_low, inside_high, tolerated_lt, by_n_inside}
use Rattle.sizes.proofs.Laws.{passes_sized, sized_passes, size_given, size_passed}
use Rattle.tally.specs.Tally.{confidence_at}
use Rattle.tally.proofs.Laws.{fits}
use Rattle.gradecast.specs.declared.Cast.{Cast}
use Rattle.gradecast.specs.Steps.{grade_row, confidence, support_for, messages}
use Rattle.gradecast.specs.Cast.{of_sound, cells, cast_of, cast_refusal, no_cast, cast_reply}
use Rattle.gradecast.specs.declared.Settings.{Settings}
use Rattle.gradecast.specs.Inside.{Ready, RightSize}
use Rattle.gradecast.proofs.Cells.{cells_ext}
use Rattle.gradecast.proofs.Grades.{confidence_by}

module _ (n t : ℕ) (table : List ℕ) where
  -- the test behind 4 and 5
  abbrev last : List Refusal
  last = refuse 11 (not (eqb (length table) (table_rows n))) ∷ []

  pub steps_fail : (size_refusal n t ≡ 0 → ⊥) → size_refusal n t ≡ cast_refusal n t table
  unfolding cast_refusal
  steps_fail z = sym (size_given n t last z)

  module _ (e : size_refusal n t ≡ 0) {rows : ℕ} (h : rows ≡ by_n table_rows n) where
    named : rows ≡ table_rows n
    named = let s = passes_sized n t e in h ∙ by_n_inside table_rows n (inside n s.low s.high)

    pub steps_cut : (length table ≡ rows → ⊥) → 11 ≡ cast_refusal n t table
    unfolding cast_refusal
    steps_cut z = sym (size_passed n t last e ∙ refused 11 [] (not_of_false (ne_eqb _ _ (λ q. z (q ∙ sym named)))))

    pub steps_pass : length table ≡ rows → 0 ≡ cast_refusal n t table
    unfolding cast_refusal
    steps_pass q = sym (size_passed n t last e ∙ passed 11 [] (not_of_true (eq-eqb _ _ (q ∙ named))) ∙ none_left)

  few : cast_refusal n t table ≡ 0 → 3 * t < n
  unfolding cast_refusal
  few e = tolerated_lt n t (accepted 4 (too_many n t) last (accepted 3 (outside n) _ e).1).0

  -- not refused and ready are the same
  pub steps_ready : cast_refusal n t table ≡ 0 → Ready n table
  unfolding cast_refusal
  steps_ready e =
      let first = accepted 3 (outside n) _ e in
      let second = accepted 4 (too_many n t) last first.1 in
      let whole = accepted 10 (not (eqb (length table) (table_rows n))) [] second.1 in
      record {
        low = inside_low n first.0;
        high = inside_high n first.0;
        whole = eqb-true (length table) (table_rows n) (not_false (eqb (length table) (table_rows n)) whole.0);
      }

  pub ready_passes : Ready n table → 3 * t < n → cast_refusal n t table ≡ 0
  unfolding cast_refusal
  ready_passes r few =
      size_passed n t last (sized_passes n t (record { low = r.low; high = r.high; tolerated = few }))
      ∙ passed 11 [] (not_of_true (eq-eqb _ _ r.whole))
      ∙ none_left

-- and then the numbers of boxes are right
pub steps_sized : (s : Settings) (table : List ℕ) → cast_refusal s.n s.t table ≡ 0 → RightSize s
steps_sized s table e =
    let ready = steps_ready s.n s.t table e in
    record { low = ready.low; high = ready.high; tolerated = few s.n s.t table e }

module _ (n t faulty : ℕ) (rows lists table : List ℕ) where
  -- the supports, with 0 in a faulty box's place
  abbrev supports : ℕ → ℕ → ℕ
  supports = of_sound faulty (support_for n t faulty rows lists table)

  -- the confidences are those that they give: a support of 0 gives 0
  confidences_are : cells n (λ i k. confidence_at t (supports i k)) ≡
      cells n (of_sound faulty (confidence n t faulty rows lists table))
  unfolding of_sound
  confidences_are = cells_ext n _ _ (λ i k. go (sound faulty i) _ (confidence_by n t faulty rows lists table i k))
    where
      go : (is_sound : Bool) (support : ℕ) {c : ℕ} → c ≡ confidence_at t support →
          confidence_at t (cond is_sound support 0) ≡ cond is_sound c 0
      go true support e = sym e
      go false support e = (fits t 0).none.1 (omega arith)

  -- a reply is what the steps find where each of its parts is
  pub cast_is : (r : Cast) → r.refusal ≡ 0 → r.sent ≡ messages n t faulty rows lists table →
      (r.rows ≡ cells n (of_sound faulty (grade_row n t faulty rows lists table))) × (r.supports ≡ cells n supports) →
      r.confidences ≡ cells n (λ i k. confidence_at t (supports i k)) → r ≡ cast_of n t faulty rows lists table
  unfolding cast_of
  cast_is r none sent grades sure =
      λ i.
      record {
        refusal = none i;
        sent = sent i;
        rows = grades.0 i;
        confidences = (sure ∙ confidences_are) i;
        supports = grades.1 i;
      }

  pub cast_refused : (r : ℕ) → r ≡ cast_refusal n t table → (r ≡ 0 → ⊥) →
      ◌≡◌ {A = Cast}
      (record {
        refusal = r;
        sent = 0;
        rows = replicate 169 0;
        confidences = replicate 169 0;
        supports = replicate 169 0;
      })
      (cast_reply n t faulty rows lists table)
  unfolding cast_reply no_cast
  cast_refused r e h = rw (← e, ne_eqb r 0 h) refl

  pub cast_taken : cast_refusal n t table ≡ 0 →
      cast_of n t faulty rows lists table ≡ cast_reply n t faulty rows lists table
  unfolding cast_reply
  cast_taken e = rw e refl
