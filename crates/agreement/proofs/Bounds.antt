-- The three runs are computed. Their premises are what a start tests, besides the number of faulty boxes and the
-- tables' length. Assumes nothing.
use mathlib.Core.Path.{◌≡◌, refl, ap, ◌∙◌}
use mathlib.Core.List.{List}
use Prim.Native.Nat.{ℕ, ◌≤◌, ◌<◌}
use native.Mathlib.Omega.{arith}
use lib.ListN.{length, get_or-replicate}
use Rattle.counting.specs.Count.{sum, count, any, build, find}
use Rattle.counting.specs.Sets.{member, set_of}
use Rattle.counting.proofs.Sets.{member_empty}
use Rattle.counting.specs.Most.{places, support, before, best, most}
use Rattle.counting.specs.Refuse.{first_of}
use Rattle.sizes.specs.Sizes.{outside, too_many, stray, table_rows, sound, sound_zero}
use Rattle.sizes.proofs.Laws.{inside_low, inside_high, tolerated_lt, within_lt}
use Rattle.tally.specs.Tally.{
  carried,
  vote_of,
  support_of,
  confidence_at,
  confidence_of,
  graded_row,
  counted,
  chosen_row,
}
use Rattle.gradecast.specs.Steps.{
  place1,
  place_from,
  place2,
  place3,
  sends,
  hears,
  heard1,
  heard2,
  column2,
  voted,
  heard3,
  column3,
  confidence,
  grade_row,
  sent_to,
  messages,
}
use Rattle.gradecast.specs.Fair.{faulty_boxes}
use Rattle.gradecast.proofs.Grades.{positive}
use Rattle.run.specs.Iteration.{
  graded_rows,
  confidences,
  new_row,
  new_list,
  entry,
  reason_from,
  reason_in,
  reason_at,
  next_run,
}
use Rattle.run.specs.State.{
  start_row,
  start_refusal,
  start_run,
  start_reply,
  bad_place,
  bad_entry,
  too_many_sent,
  no_reasons,
  listed_by,
  kept,
  without_iteration,
  unlisted,
  not_yet_done,
  confidence_above1,
  unfit,
  bad_reason,
  bad_reasons,
  bad_state,
  iterate_refusal,
  iterate_reply,
  after,
}
use Rattle.run.proofs.Accepted.{is_start_accepted, rows_not_zero}
use Rattle.agreement.specs.Demand.{iterations, Premises}
use Rattle.agreement.specs.Bounds.{BoundsNeeded, three, two, splitting}

-- the premises of demand 3, from a start that is not refused
pub start_premises : (n t faulty : ℕ) (rows : List ℕ) (tables : ℕ → List ℕ) → start_refusal n t faulty rows ≡ 0 →
    faulty_boxes n faulty ≤ t → ((m : ℕ) → m < iterations t → length (tables m) ≡ table_rows n) →
    Premises n t faulty rows tables
start_premises n t faulty rows tables e few sized =
    let a = is_start_accepted n t faulty rows e in
    record {
      from_1 = inside_low n a.pass4;
      to_13 = inside_high n a.pass4;
      tolerated = omega (arith, tolerated_lt n t a.pass5);
      within = within_lt n faulty a.pass6;
      few = omega arith;
      given = a.pass11;
      none_zero = λ k b. omega (arith, positive (rows_not_zero n faulty rows a.pass9 k b));
      sized = sized;
    }

pub bounds_needed : BoundsNeeded
unfolding sum count any build find member set_of places support before best most first_of outside too_many stray
    table_rows carried vote_of support_of confidence_at confidence_of graded_row counted chosen_row sound place1
    place_from place2 place3 sends hears heard1 heard2 column2 voted heard3 column3 confidence grade_row sent_to
    messages graded_rows confidences new_row new_list entry next_run sound_zero start_row start_refusal start_run
    start_reply bad_place bad_entry too_many_sent no_reasons reason_from reason_in reason_at listed_by kept
    without_iteration unlisted not_yet_done confidence_above1 unfit bad_reason bad_reasons bad_state
    iterate_refusal iterate_reply after
bounds_needed =
    record {
      too_few_iterations =
          record {
            setting = start_premises 4 1 8 three splitting refl (omega arith) (λ m l. refl);
            counts = refl;
            leaves = refl;
            box0 = refl;
            box1 = refl;
          };
      too_many_faulty = record { faulty_count = refl; start = refl; iteration = refl; box0 = refl; box1 = refl };
      too_small =
          record {
            boxes = refl;
            faulty_count = omega arith;
            none_listed =
                λ i k si sk. ap (λ (list : ℕ). member list k) (get_or-replicate 3 i 0 0 si.below) ∙ member_empty k;
            none_zero = rows_not_zero 3 4 two refl;
            vote0 = refl;
            vote1 = refl;
          };
    }
