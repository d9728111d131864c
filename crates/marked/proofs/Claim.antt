-- The one claim over the marked cases: the definitions compute to what docs/SCOPE.md prints; and for every slice of
-- rows confidence 1 never arises when t is 0. The states of case S are those of CaseS.antt, so that they are computed
-- once. Assumes nothing.
use mathlib.Core.Path.{◌≡◌, refl, ap}
use mathlib.Core.Bool.{Bool, true, false, cond}
use mathlib.Core.List.{List}
use Prim.Native.Nat.{ℕ}
use native.Mathlib.Omega.{arith}
use lib.Dec.{eqb}
use lib.ListN.{length}
use Rattle.counting.specs.Count.{sum, count, any, build, find}
use Rattle.counting.specs.Sets.{member, set_of}
use Rattle.counting.specs.Most.{places, support, before, best, most}
use Rattle.counting.specs.Refuse.{first_of}
use Rattle.sizes.specs.Sizes.{outside, too_many, stray, size_refusal, sound, sound_zero, table_rows}
use Rattle.tally.specs.Tally.{
  carried,
  vote_of,
  two_rows,
  support_of,
  confidence_at,
  confidence_of,
  graded_row,
  counted,
  chosen_row,
}
use Rattle.tally.specs.Reply.{vote_refusal, unless, vote_reply, grade_reply}
use Rattle.tally.proofs.Laws.{never_1}
use Rattle.gradecast.specs.Steps.{
  place1,
  place_from,
  place2,
  place3,
  sends,
  hears,
  heard1,
  heard2,
  column2,
  voted,
  heard3,
  column3,
  confidence,
  grade_row,
  support_for,
  sent_to,
  messages,
}
use Rattle.run.specs.declared.Next.{Next}
use Rattle.run.specs.Iteration.{
  entry,
  graded_rows,
  confidences,
  new_row,
  new_list,
  no_reason,
  reason_from,
  reason_in,
  reason_at,
  reasons_of,
  joined,
  joins_now,
  reason_now,
  new_reason,
  next_run,
}
use Rattle.run.specs.State.{
  start_row,
  start_refusal,
  start_run,
  start_reply,
  bad_entry,
  bad_place,
  too_many_sent,
  no_reasons,
  listed_by,
  kept,
  without_iteration,
  unlisted,
  not_yet_done,
  confidence_above1,
  unfit,
  bad_reason,
  bad_reasons,
  bad_state,
  iterate_refusal,
  iterate_reply,
  after,
}
use Rattle.run.specs.Why.{no_box, not_asked, why_refusal, why_reply}
use Rattle.sizes.specs.Sizes.{largest_t}
use Rattle.runfile.specs.File.{
  number,
  has_mark,
  version_of,
  n_of,
  t_byte,
  faulty_of,
  t_of,
  heading_bytes,
  row_from,
  heading_row,
  table_row,
}
use Rattle.runfile.specs.Reply.{
  heading_tests,
  heading_refusal,
  heading_of,
  nothing_read,
  heading_reply,
  table_tests,
  table_refusal,
}
use Rattle.lines.specs.Line.{tens, decimal, field, fields, line_of}
use Rattle.listing.specs.File.{
  or_else,
  table_bytes,
  table_begins,
  bytes_of,
  table_of,
  refused_table,
  heading,
  rows_of,
  reply_after,
  state_after,
  refused_start,
  refused_at,
  due,
  goes_on,
}
use Rattle.listing.specs.Listing.{
  run_line,
  at_line,
  last_line,
  box_line,
  box_lines,
  ended_by,
  passed,
  done_of,
  iteration_lines,
  refused_later,
  ends_with,
  start_line,
  first_lines,
  outcome_of,
  listing_of,
}
use Rattle.run.specs.State.{zeros, overdone}
use Rattle.marked.specs.Cases.{Hold, shown, says, says_of3, marked}
use Rattle.marked.proofs.CaseS.{after_1, after_2}

infixr 4 ◌⨾◌
-- a case that holds, and those behind it
◌⨾◌ : {A B : Type 0} → A → B → A × B
a ⨾ b = (a, b)

-- a refused grade has confidence 0, and any other is that of the definition
never_confidence_1 : (rows : List ℕ) → (grade_reply rows 0).confidence ≡ 1 → ⊥
unfolding grade_reply unless
never_confidence_1 rows = go (eqb (size_refusal (length rows) 0) 0)
  where
    go : (taken : Bool) → cond taken (confidence_of 0 rows) 0 ≡ 1 → ⊥
    go true e = never_1 rows e
    go false e = absurd (omega (arith, e))

pub marked_hold : Hold marked
unfolding sum count any build find member set_of places support before best most first_of outside too_many stray sound
    sound_zero table_rows carried vote_of two_rows support_of confidence_at confidence_of graded_row counted chosen_row
    vote_refusal size_refusal unless vote_reply grade_reply place1 place_from place2 place3 sends hears heard1 heard2
    column2 voted heard3 column3 support_for confidence grade_row sent_to messages entry graded_rows confidences
    new_row
    new_list next_run start_row start_refusal start_run start_reply bad_entry bad_place too_many_sent no_reasons
    reason_from
    reason_in reason_at reasons_of joined joins_now reason_now new_reason listed_by kept without_iteration unlisted
    not_yet_done confidence_above1
    unfit bad_reason bad_reasons bad_state iterate_refusal iterate_reply after largest_t number has_mark version_of
    n_of
    t_byte faulty_of t_of heading_bytes row_from heading_row table_row heading_tests heading_refusal heading_of
    nothing_read
    heading_reply table_tests table_refusal tens decimal field fields line_of or_else table_bytes table_begins bytes_of
    table_of refused_table heading rows_of reply_after state_after refused_start refused_at due goes_on run_line
    at_line
    last_line box_line box_lines ended_by passed done_of iteration_lines refused_later ends_with start_line first_lines
    outcome_of listing_of zeros no_reason overdone no_box not_asked why_refusal why_reply
marked_hold =
    ap shown after_1 ⨾ ap shown after_2 ⨾ refl ⨾ refl ⨾ refl ⨾
    ap (λ (r : Next). says r 1 4) after_2 ⨾
    ap (λ (r : Next). says r 2 4) after_2 ⨾
    ap (λ (r : Next). says r 3 4) after_2 ⨾
    ap (λ (r : Next). says_of3 r 1) after_2 ⨾
    ap (λ (r : Next). says_of3 r 2) after_2 ⨾
    ap (λ (r : Next). says_of3 r 3) after_2 ⨾
    ap (λ (r : Next). says r 4 1) after_2 ⨾
    refl ⨾ refl ⨾ refl ⨾ refl ⨾ refl ⨾ refl ⨾ refl ⨾ refl ⨾ refl ⨾ refl ⨾ refl ⨾ refl ⨾
    never_confidence_1 ⨾ refl ⨾ refl ⨾ tt
