-- A start, an iteration and the call that says why are accepted exactly where each of their tests fails: the refusal
-- is the number of the first test that holds, and no number is 0. Assumes nothing.
use mathlib.Core.Path.{◌≡◌, refl}
use mathlib.Core.Bool.{false, not, ◌||◌}
use mathlib.Core.List.{List}
use Prim.Native.Nat.{ℕ, ◌+◌, ◌-◌, ◌≤◌}
use native.Mathlib.Omega.{arith}
use lib.Dec.{eqb, ltb}
use lib.ListN.{length, get_or}
use borrow.Author.Tests.{eqb-true, eqb-false, eq-eqb, ne_eqb, ltb-false, le-ltb}
use Rattle.counting.specs.Count.{any}
use Rattle.counting.specs.Refuse.{first_of}
use Rattle.counting.specs.Sets.{member}
use Rattle.counting.proofs.Bools.{not_false, or_none, or_false_left, or_false_right}
use Rattle.counting.proofs.Refuse.{accepted}
use Rattle.sizes.specs.Sizes.{outside, too_many, stray, table_rows, sound_zero, Startable}
use Rattle.gradecast.specs.Fair.{SoundRowsNotZero}
use Rattle.gradecast.proofs.Boxes.{no_sound, sound_none}
use Rattle.run.specs.declared.Run.{Run}
use Rattle.run.specs.State.{
  start_refusal,
  bad_place,
  too_many_sent,
  bad_reasons,
  bad_state,
  overdone,
  iterate_refusal,
}
use Rattle.run.specs.Why.{no_box, not_asked, why_refusal}
use Rattle.run.specs.Legal.{Legal}

-- refusal 14 by its three tests, both ways
module _ (s : Run) where
  -- the first two tests
  good_first : bad_state s ≡ false → (any 13 (bad_place s) || too_many_sent s) ≡ false
  unfolding bad_state
  good_first h = or_false_left (any 13 (bad_place s) || too_many_sent s) (any 13 (bad_reasons s)) h

  good_places : bad_state s ≡ false → any 13 (bad_place s) ≡ false
  good_places h = or_false_left (any 13 (bad_place s)) (too_many_sent s) (good_first h)

  good_sent : bad_state s ≡ false → too_many_sent s ≡ false
  good_sent h = or_false_right (any 13 (bad_place s)) (too_many_sent s) (good_first h)

  good_reasons : bad_state s ≡ false → any 13 (bad_reasons s) ≡ false
  unfolding bad_state
  good_reasons h = or_false_right (any 13 (bad_place s) || too_many_sent s) (any 13 (bad_reasons s)) h

  pub good_state : Legal s → bad_state s ≡ false
  unfolding bad_state
  good_state l = or_none (or_none l.pass14_places l.pass14_sent) l.pass14_reasons

-- where no more iterations are done than may be run
pub not_over : (s : Run) → s.done ≤ s.t + 1 → overdone s ≡ false
unfolding overdone
not_over s l = le-ltb (s.t + 1) s.done l

-- a call that is not refused: the state is legal, the table has its length, and not all iterations are done
pub record Iterable (s : Run) (table : List ℕ) : Type 0 where
  pub legal : Legal s
  pub rows_of_table : length table ≡ table_rows s.n
  pub done_few : s.done ≤ s.t

module _ (s : Run) (table : List ℕ) where
  pub is_accepted : iterate_refusal s table ≡ 0 → Iterable s table
  unfolding iterate_refusal
  is_accepted h0 =
      let h4 = accepted 3 (outside s.n) _ h0 in
      let h5 = accepted 4 (too_many s.n s.t) _ h4.1 in
      let h6 = accepted 5 (stray s.n s.faulty) _ h5.1 in
      let h9 = accepted 8 (sound_zero s.n s.faulty s.rows) _ h6.1 in
      let h11 = accepted 10 (not (eqb (length table) (table_rows s.n))) _ h9.1 in
      let h12 = accepted 11 (ltb s.t s.done) _ h11.1 in
      let h14 = accepted 13 (bad_state s) _ h12.1 in
      record {
        legal =
            record {
              pass4 = h4.0;
              pass5 = h5.0;
              pass6 = h6.0;
              pass9 = h9.0;
              pass14_places = good_places s h14.0;
              pass14_sent = good_sent s h14.0;
              pass14_reasons = good_reasons s h14.0;
              pass14_done = not_over s (omega (arith, ltb-false s.t s.done h12.0));
            };
        rows_of_table =
            eqb-true (length table) (table_rows s.n) (not_false (eqb (length table) (table_rows s.n)) h11.0);
        done_few = ltb-false s.t s.done h12.0;
      }

  pub accepted_is : Iterable s table → iterate_refusal s table ≡ 0
  unfolding iterate_refusal first_of
  accepted_is a =
      let l = a.legal in
      rw (
        l.pass4,
        l.pass5,
        l.pass6,
        l.pass9,
        eq-eqb (length table) (table_rows s.n) a.rows_of_table,
        le-ltb s.t s.done a.done_few,
        good_state s l,
      )
      refl

-- a box number from 1 to n
pub is_number : {n number : ℕ} → no_box n number ≡ false → (1 ≤ number) × (number ≤ n)
unfolding no_box
is_number {n} {number} h = (
  ltb-false number 1 (or_false_left (ltb number 1) (ltb n number) h),
  ltb-false n number (or_false_right (ltb number 1) (ltb n number) h),
)

pub number_is : {n number : ℕ} → 1 ≤ number → number ≤ n → no_box n number ≡ false
unfolding no_box
number_is {n} {number} low high = or_none (le-ltb number 1 low) (le-ltb n number high)

-- a question that is not refused: the state is legal, and the two are boxes, of which the one that is asked is sound
pub record Askable (s : Run) (asked listed : ℕ) : Type 0 where
  pub legal : Legal s
  pub asked_box : no_box s.n asked ≡ false
  pub asked_sound : member s.faulty (asked - 1) ≡ false
  pub listed_box : no_box s.n listed ≡ false

module _ (s : Run) (asked listed : ℕ) where
  pub is_askable : why_refusal s asked listed ≡ 0 → Askable s asked listed
  unfolding why_refusal not_asked
  is_askable h0 =
      let h4 = accepted 3 (outside s.n) _ h0 in
      let h5 = accepted 4 (too_many s.n s.t) _ h4.1 in
      let h6 = accepted 5 (stray s.n s.faulty) _ h5.1 in
      let h9 = accepted 8 (sound_zero s.n s.faulty s.rows) _ h6.1 in
      let h14 = accepted 13 (overdone s || bad_state s) _ h9.1 in
      let h15 = accepted 14 (not_asked s asked || no_box s.n listed) _ h14.1 in
      let good = or_false_right (overdone s) (bad_state s) h14.0 in
      let sound = or_false_left (not_asked s asked) (no_box s.n listed) h15.0 in
      record {
        legal =
            record {
              pass4 = h4.0;
              pass5 = h5.0;
              pass6 = h6.0;
              pass9 = h9.0;
              pass14_places = good_places s good;
              pass14_sent = good_sent s good;
              pass14_reasons = good_reasons s good;
              pass14_done = or_false_left (overdone s) (bad_state s) h14.0;
            };
        asked_box = or_false_left (no_box s.n asked) (member s.faulty (asked - 1)) sound;
        asked_sound = or_false_right (no_box s.n asked) (member s.faulty (asked - 1)) sound;
        listed_box = or_false_right (not_asked s asked) (no_box s.n listed) h15.0;
      }

  pub askable_is : Askable s asked listed → why_refusal s asked listed ≡ 0
  unfolding why_refusal first_of not_asked
  askable_is a =
      let l = a.legal in
      rw (
        l.pass4,
        l.pass5,
        l.pass6,
        l.pass9,
        l.pass14_done,
        good_state s l,
        a.asked_box,
        a.asked_sound,
        a.listed_box,
      )
      refl

module _ (n t faulty : ℕ) (rows : List ℕ) where
  pub is_start_accepted : start_refusal n t faulty rows ≡ 0 → Startable n t faulty rows
  unfolding start_refusal
  is_start_accepted h0 =
      let h4 = accepted 3 (outside n) _ h0 in
      let h5 = accepted 4 (too_many n t) _ h4.1 in
      let h6 = accepted 5 (stray n faulty) _ h5.1 in
      let h11 = accepted 10 (not (eqb (length rows) n)) _ h6.1 in
      let h9 = accepted 8 (sound_zero n faulty rows) _ h11.1 in
      record {
        pass4 = h4.0;
        pass5 = h5.0;
        pass6 = h6.0;
        pass11 = eqb-true (length rows) n (not_false (eqb (length rows) n) h11.0);
        pass9 = h9.0;
      }

  pub start_accepted_is : Startable n t faulty rows → start_refusal n t faulty rows ≡ 0
  unfolding start_refusal first_of
  start_accepted_is a =
      rw (a.pass4, a.pass5, a.pass6, eq-eqb (length rows) n a.pass11, a.pass9) refl

-- refusal 9, both ways
module _ (n faulty : ℕ) (rows : List ℕ) where
  pub rows_not_zero : sound_zero n faulty rows ≡ false → SoundRowsNotZero n faulty rows
  unfolding sound_zero
  rows_not_zero h k b = eqb-false (get_or rows k 0) 0 (no_sound n faulty (λ j. eqb (get_or rows j 0) 0) h k b)

  pub not_zero_rows : SoundRowsNotZero n faulty rows → sound_zero n faulty rows ≡ false
  unfolding sound_zero
  not_zero_rows h = sound_none n faulty (λ j. eqb (get_or rows j 0) 0) (λ k b. ne_eqb (get_or rows k 0) 0 (h k b))
