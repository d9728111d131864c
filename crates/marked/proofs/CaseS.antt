-- Case S after each of its iterations, written out. What is asked of the last state is then computed from numbers and
-- not from the run again. Assumes nothing.
use mathlib.Core.Path.{◌≡◌, refl, ap, ◌∙◌}
use mathlib.Core.List.{List, [], ◌∷◌, ◌++◌}
use Prim.Native.Nat.{ℕ}
use lib.ListN.{set, replicate}
use Rattle.counting.specs.Count.{sum, count, any, build, find}
use Rattle.counting.specs.Sets.{member, set_of}
use Rattle.counting.specs.Most.{places, support, before, best, most}
use Rattle.counting.specs.Refuse.{first_of}
use Rattle.sizes.specs.Sizes.{outside, too_many, stray, sound, sound_zero, table_rows}
use Rattle.tally.specs.Tally.{
  carried,
  vote_of,
  support_of,
  confidence_at,
  confidence_of,
  graded_row,
  counted,
  chosen_row,
}
use Rattle.gradecast.specs.Lies.{silent}
use Rattle.gradecast.specs.Steps.{
  place1,
  place_from,
  place2,
  place3,
  sends,
  hears,
  heard1,
  heard2,
  column2,
  voted,
  heard3,
  column3,
  confidence,
  grade_row,
  support_for,
  sent_to,
  messages,
}
use Rattle.run.specs.declared.Next.{Next}
use Rattle.run.specs.declared.Reasons.{Reasons}
use Rattle.run.specs.Iteration.{
  entry,
  graded_rows,
  confidences,
  new_row,
  new_list,
  reason_from,
  reason_in,
  reason_at,
  reasons_of,
  joined,
  joins_now,
  reason_now,
  new_reason,
  next_run,
}
use Rattle.run.specs.State.{
  start_row,
  start_refusal,
  start_run,
  start_reply,
  no_reasons,
  bad_entry,
  bad_place,
  too_many_sent,
  listed_by,
  kept,
  without_iteration,
  unlisted,
  not_yet_done,
  confidence_above1,
  unfit,
  bad_reason,
  bad_reasons,
  bad_state,
  iterate_refusal,
  iterate_reply,
  after,
}
use Rattle.marked.specs.Cases.{case_s}

-- what boxes 1, 2 and 3 keep of box 4, one number for each
abbrev of4 : ℕ → ℕ → ℕ → List ℕ
of4 a b c = set (set (set (replicate 169 0) 3 a) 16 b) 29 c

-- the reasons after iteration 1, which stay
abbrev reasons_in_s : Reasons
reasons_in_s = record { iterations = of4 1 1 1; confidences = of4 0 1 0; supports = of4 1 2 1 }

-- the reply after so many iterations, with so many messages and these rows
abbrev pub written_out : ℕ → ℕ → List ℕ → Next
written_out done sent rows =
    record {
      refusal = 0;
      run =
          record {
            n = 4;
            t = 1;
            faulty = 8;
            done = done;
            sent = sent;
            rows = rows ++ replicate 10 0;
            lists = (8 ∷ 8 ∷ 8 ∷ []) ++ replicate 10 0;
            reasons = reasons_in_s;
          };
    }

-- after iteration 1, and after the whole run
abbrev pub first : Next
first = written_out 1 75 (10 ∷ 20 ∷ 10 ∷ [])

abbrev pub last : Next
last = written_out 2 138 (10 ∷ 10 ∷ 10 ∷ [])

pub after_1 : case_s 1 ≡ first
unfolding sum count any build find member set_of places support before best most first_of outside too_many stray sound
    sound_zero table_rows carried vote_of support_of confidence_at confidence_of graded_row counted chosen_row place1
    place_from place2 place3 sends hears heard1 heard2 column2 voted heard3 column3 support_for confidence grade_row
    sent_to messages entry graded_rows confidences new_row new_list reason_from reason_in reason_at reasons_of joined
    joins_now reason_now new_reason next_run start_row start_refusal start_run start_reply no_reasons bad_entry
    bad_place
    too_many_sent listed_by kept without_iteration unlisted not_yet_done confidence_above1 unfit bad_reason bad_reasons
    bad_state iterate_refusal
    iterate_reply after
after_1 = refl

last_from_first : iterate_reply first.run (silent 4) ≡ last
unfolding sum count any build find member set_of places support before best most first_of outside too_many stray sound
    sound_zero table_rows carried vote_of support_of confidence_at confidence_of graded_row counted chosen_row place1
    place_from place2 place3 sends hears heard1 heard2 column2 voted heard3 column3 support_for confidence grade_row
    sent_to messages entry graded_rows confidences new_row new_list reason_from reason_in reason_at reasons_of joined
    joins_now reason_now new_reason next_run bad_entry bad_place too_many_sent listed_by kept without_iteration
    unlisted
    not_yet_done
    confidence_above1 unfit bad_reason bad_reasons bad_state iterate_refusal iterate_reply
last_from_first = refl

pub after_2 : case_s 2 ≡ last
unfolding after
after_2 = ap (λ (r : Next). iterate_reply r.run (silent 4)) after_1 ∙ last_from_first
