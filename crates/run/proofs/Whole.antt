-- One iteration put together: an accepted call is ready for steps 1 to 4, their reply is what step 5 is given, the
-- counters stay small, and the parts are the next state of the definitions. Assumes nothing.
use mathlib.Core.Path.{◌≡◌, refl, sym, ap, ap₂, ◌∙◌}
use mathlib.Core.Bool.{Bool, true, false, cond, not, ◌&&◌}
use mathlib.Core.List.{List}
use mathlib.Core.Logic.{⊎_elim}
use Prim.Native.Nat.{ℕ, ◌+◌, ◌*◌, ◌/◌, ◌%◌, ◌≤◌, ◌<◌}
use native.Mathlib.Omega.{arith}
use lib.Dec.{ltb}
use lib.ListN.{length, get_or, get_or-eq_default}
use borrow.Author.Tests.{ltb-true, ltb-false, le-ltb}
use Rattle.counting.specs.Count.{build}
use Rattle.counting.specs.Sets.{member}
use Rattle.counting.proofs.Bools.{either, not_both, cond_false}
use Rattle.counting.proofs.Build.{build_ext, length_build, get_or_build, front_all}
use Rattle.sizes.specs.Sizes.{sound}
use Rattle.sizes.proofs.Laws.{inside_low, inside_high, tolerated_lt}
use Rattle.gradecast.specs.declared.Cast.{Cast}
use Rattle.gradecast.specs.Fair.{SoundBox}
use Rattle.gradecast.specs.Steps.{messages}
use Rattle.gradecast.specs.Cast.{cast_of, cast_reply}
use Rattle.gradecast.specs.Inside.{Ready}
use Rattle.gradecast.proofs.Boxes.{box_is}
use Rattle.gradecast.proofs.Cells.{length_cells}
use Rattle.gradecast.proofs.Messages.{messages_bound, limit_le}
use Rattle.gradecast.proofs.Replies.{cast_taken, ready_passes}
use Rattle.run.specs.declared.Joining.{Joining}
use Rattle.run.specs.declared.Reason.{Reason}
use Rattle.run.specs.declared.Reasons.{Reasons}
use Rattle.run.specs.declared.Run.{Run}
use Rattle.run.specs.Inside.{
  GradesOf,
  AllPlaces,
  Keeping,
  cell_of,
  rows_from,
  lists_from,
  joins_in,
  kept_to,
  kept_reasons,
}
use Rattle.run.specs.Iteration.{
  entry,
  new_row,
  new_list,
  reason_from,
  reason_in,
  reason_at,
  reasons_of,
  joined,
  joins_now,
  reason_now,
  new_reason,
  next_run,
}
use Rattle.run.proofs.Accepted.{Iterable}
use Rattle.run.proofs.Entries.{no_list}
use Rattle.run.proofs.Fits.{sent_at_most}
use Rattle.run.proofs.Kept.{Joins, joins_by, joins_none, joins_above, joins_is}
use Rattle.run.proofs.Listings.{place_again}
use Rattle.run.proofs.Parts.{confidence_cell, support_cell, row_of, list_of}

module _ (s : Run) (table : List ℕ) (a : Iterable s table) where
  pub low : 1 ≤ s.n
  low = inside_low s.n a.legal.pass4

  pub high : s.n ≤ 13
  high = inside_high s.n a.legal.pass4

  pub few : 3 * s.t < s.n
  few = tolerated_lt s.n s.t a.legal.pass5

  pub ready : Ready s.n table
  ready = record { low = low; high = high; whole = a.rows_of_table }

  -- the counters stay small
  pub done_small : s.done ≤ 4
  done_small = omega (arith, a.done_few, few, high)

  module _ (r : Cast) (e : r ≡ cast_reply s.n s.t s.faulty s.rows s.lists table) where
    -- an accepted iteration's steps are not refused
    found : r ≡ cast_of s.n s.t s.faulty s.rows s.lists table
    found =
        e ∙ sym (cast_taken s.n s.t s.faulty s.rows s.lists table
        (ready_passes s.n s.t table ready few))

    sent_is : r.sent ≡ messages s.n s.t s.faulty s.rows s.lists table
    unfolding cast_of
    sent_is = ap (λ (c : Cast). c.sent) found

    pub sent_small : s.sent + r.sent ≤ 21060
    sent_small =
        omega (
          arith,
          sent_at_most s a.legal,
          done_small,
          limit_le high,
          sent_is,
          messages_bound s.n s.t s.faulty s.rows s.lists table,
        )

    -- the reply of steps 1 to 4 is what step 5 is given
    pub grades : GradesOf s table r.rows r.confidences r.supports
    unfolding cast_of
    grades =
        record {
          found_rows = ap (λ (c : Cast). c.rows) found;
          found_confidences = ap (λ (c : Cast). c.confidences) found;
          found_supports = ap (λ (c : Cast). c.supports) found;
        }

    rows_long : length r.rows ≡ 169
    rows_long = ap length grades.found_rows ∙ length_cells s.n _ high

    confidences_long : length r.confidences ≡ 169
    confidences_long = ap length grades.found_confidences ∙ length_cells s.n _ high

    -- the rows and the lists of step 5 are those of the definitions
    places_are : (f g : ℕ → ℕ) → ((i : ℕ) → SoundBox s.n s.faulty i → f i ≡ g i) →
        build 13 (entry s.n s.faulty f) ≡ build 13 (entry s.n s.faulty g)
    unfolding entry
    places_are f g h = build_ext 13 _ _ (λ i l. go i (ltb i s.n && sound s.faulty i) refl)
      where
        go : (i : ℕ) (b : Bool) → (ltb i s.n && sound s.faulty i) ≡ b → cond b (f i) 0 ≡ cond b (g i) 0
        go i false e = refl
        go i true e = h i (box_is s.n s.faulty i e)

    pub rows_are : rows_from s r ≡ build 13 (entry s.n s.faulty (new_row s table))
    rows_are =
        places_are _ (new_row s table)
        (λ i b. row_of s i low high b table r.rows r.confidences r.supports grades rows_long confidences_long)

    pub lists_are : lists_from s r ≡ build 13 (entry s.n s.faulty (new_list s table))
    lists_are =
        places_are _ (new_list s table)
        (λ i b. list_of s i low high b table r.rows r.confidences r.supports grades confidences_long)

    -- the reasons of step 5, from the lists before and after
    module _ (lists : List ℕ) (are : lists ≡ build 13 (entry s.n s.faulty (new_list s table))) where
      abbrev joining : Joining
      joining = record { n = s.n; iteration = s.done + 1; old = s.lists; new = lists }

      new_at : (i : ℕ) → get_or lists i 0 ≡ entry s.n s.faulty (new_list s table) i
      unfolding entry
      new_at i =
          let new = entry s.n s.faulty (new_list s table) in
          ap (λ (xs : List ℕ). get_or xs i 0) are
          ∙ ⊎_elim
          (λ l. get_or_build 13 new i 0 (ltb-true i 13 l))
          (λ h.
          let l = ltb-false i 13 h in
          get_or-eq_default (build 13 new) 0 {n = i} (omega (arith, l, length_build 13 new))
          ∙ sym (cond_false (new_list s table i) 0
          (not_both (sound s.faulty i) (le-ltb i s.n (omega (arith, l, high))))))
          (either (ltb i 13))

      joins_as : (i k : ℕ) → joins_in joining i k ≡ joins_now s table i k
      unfolding joins_in joins_now
      joins_as i k = ap (λ (new : ℕ). joined (get_or s.lists i 0) new k) (new_at i)

      -- a list that has changed is that of a sound box
      changed : (i : ℕ) → i < s.n → (get_or s.lists i 0 ≡ get_or lists i 0 → ⊥) → SoundBox s.n s.faulty i
      unfolding entry
      changed i l h = box_is s.n s.faulty i (go (ltb i s.n && sound s.faulty i) refl)
        where
          go : (b : Bool) → (ltb i s.n && sound s.faulty i) ≡ b → (ltb i s.n && sound s.faulty i) ≡ true
          go true e = e
          go false e =
              let zero = no_list s a.legal.pass14_places i (omega (arith, l, high)) e in
              absurd (h (zero ∙ sym (new_at i ∙ cond_false (new_list s table i) 0 e)))

      pub keeping : Keeping joining r.confidences
      keeping =
          record {
            high = high;
            within = λ i k l. joins_as i k ∙ joins_above s table i k l;
            beyond = λ i k l. joins_as i k ∙ joins_none s table i k (λ b. absurd (omega (arith, l, b.below)));
            by_confidence =
                λ i k li lk h.
                let b = changed i li h in
                joins_as i k ∙ joins_by s table i k b lk
                ∙ ap (λ (sure : ℕ). not (member (get_or s.lists i 0) k) && ltb sure 2)
                (sym (confidence_cell s i low high b table r.rows r.confidences r.supports grades k lk));
          }

      -- one part of the reasons
      part_is : (part : Reason → ℕ) (first : List ℕ) (found : ℕ → ℕ → ℕ) → length first ≡ 169 →
          ((i k : ℕ) → Joins s table i k → found i k ≡ part (reason_now s table i k)) →
          ((i k : ℕ) → get_or first (13 * i + k) 0 ≡ part (reason_at s i k)) →
          kept_to 169 joining found first ≡ build 169 (λ p. part (new_reason s table (p / 13) (p % 13)))
      unfolding kept_to new_reason
      part_is part first found whole now before =
          front_all _ first 169 whole refl ∙ build_ext 169 _ _ (λ p l. go p (p / 13) (p % 13) (place_again p))
        where
          by : (b : Bool) (i k : ℕ) → joins_now s table i k ≡ b →
              cond b (found i k) (get_or first (13 * i + k) 0) ≡ part
              (cond b (reason_now s table i k) (reason_at s i k))
          by true i k e = now i k (joins_is s table i k e)
          by false i k e = before i k

          go : (p i k : ℕ) → 13 * i + k ≡ p →
              cond (joins_in joining i k) (found i k) (get_or first p 0) ≡
              part (cond (joins_now s table i k) (reason_now s table i k) (reason_at s i k))
          go p i k e =
              ap₂ (λ (b : Bool) (q : ℕ). cond b (found i k) (get_or first q 0)) (joins_as i k) (sym e)
              ∙ by (joins_now s table i k) i k refl

      pub reasons_are : AllPlaces s.reasons →
          kept_reasons joining r.confidences r.supports s.reasons ≡ reasons_of (new_reason s table)
      unfolding kept_reasons reasons_of reason_now reason_at reason_in reason_from
      reasons_are long =
          λ d.
          record {
            iterations =
                part_is (λ r. r.iteration) s.reasons.iterations (λ i k. s.done + 1)
                long.all_iterations (λ i k j. refl)
                (λ i k. refl) d;
            confidences =
                part_is (λ r. r.confidence) s.reasons.confidences (cell_of s.n r.confidences)
                long.all_confidences
                (λ i k j.
                confidence_cell s i low high j.of_box table r.rows r.confidences r.supports grades k
                j.is_one)
                (λ i k. refl) d;
            supports =
                part_is (λ r. r.support) s.reasons.supports (cell_of s.n r.supports)
                long.all_supports
                (λ i k j.
                support_cell s i low high j.of_box table r.rows r.confidences r.supports grades k
                j.is_one)
                (λ i k. refl) d;
          }

    -- the parts together are the next state
    pub next_is : (rows lists : List ℕ) (reasons : Reasons) →
        rows ≡ build 13 (entry s.n s.faulty (new_row s table)) →
        lists ≡ build 13 (entry s.n s.faulty (new_list s table)) → reasons ≡ reasons_of (new_reason s table) →
        ◌≡◌ {A = Run}
        (record {
          n = s.n;
          t = s.t;
          faulty = s.faulty;
          done = s.done + 1;
          sent = s.sent + r.sent;
          rows = rows;
          lists = lists;
          reasons = reasons;
        })
        (next_run s table)
    unfolding next_run
    next_is rows lists reasons er el ew =
        λ i.
        record {
          n = s.n;
          t = s.t;
          faulty = s.faulty;
          done = s.done + 1;
          sent = s.sent + sent_is i;
          rows = er i;
          lists = el i;
          reasons = ew i;
        }
