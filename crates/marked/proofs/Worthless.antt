-- None of the five worthless builds meets the contracts, as the toolchain states them: at case S, or at a marked vote
-- or grade, its reply is not the one that the contract admits. Two of them break demand 3 as well. Assumes nothing.
use mathlib.Core.Path.{◌≡◌, refl, ap, ◌∙◌}
use mathlib.Core.List.{[], ◌∷◌}
use Prim.Native.Nat.{ℕ, zero, suc, ◌+◌}
use native.Mathlib.Omega.{arith}
use lib.ListN.{get_or}
use Rattle.counting.specs.Count.{sum, count, any, build, find}
use Rattle.counting.specs.Sets.{member, set_of}
use Rattle.counting.specs.Most.{places, support, before, best, most}
use Rattle.counting.specs.Refuse.{first_of}
use Rattle.counting.proofs.Bools.{never}
use Rattle.sizes.specs.Sizes.{outside, too_many, stray, size_refusal, sound, sound_zero, table_rows}
use Rattle.tally.specs.Tally.{
  carried,
  vote_of,
  two_rows,
  support_of,
  confidence_at,
  confidence_of,
  graded_row,
  counted,
  chosen_row,
  firm_for,
  firm_leaders,
  above2,
}
use Rattle.tally.specs.declared.Voted.{Voted}
use Rattle.tally.specs.declared.Graded.{Graded}
use Rattle.tally.specs.declared.Chosen.{Chosen}
use Rattle.tally.specs.Reply.{vote_refusal, choice_refusal, unless, vote_reply, grade_reply, choice_reply}
use Rattle.tally.proofs.Calls.{VoteCall, GradeCall, ChooseCall, vote_call_is, grade_call_is, choose_call_is}
use Rattle.gradecast.specs.Lies.{silent}
use Rattle.gradecast.specs.Fair.{SoundBox}
use Rattle.gradecast.specs.Steps.{
  place1,
  place_from,
  place2,
  place3,
  sends,
  hears,
  heard1,
  heard2,
  column2,
  voted,
  heard3,
  column3,
  confidence,
  grade_row,
  support_for,
  sent_to,
  messages,
}
use Rattle.run.specs.declared.Next.{Next}
use Rattle.run.specs.Iteration.{
  entry,
  graded_rows,
  confidences,
  new_row,
  new_list,
  reason_from,
  reason_in,
  reason_at,
  reasons_of,
  joined,
  joins_now,
  reason_now,
  new_reason,
  next_run,
}
use Rattle.run.specs.State.{
  start_row,
  start_refusal,
  start_run,
  start_reply,
  zeros,
  bad_entry,
  bad_place,
  too_many_sent,
  no_reasons,
  listed_by,
  kept,
  without_iteration,
  unlisted,
  not_yet_done,
  confidence_above1,
  unfit,
  bad_reason,
  bad_reasons,
  bad_state,
  iterate_refusal,
  iterate_reply,
  after,
}
use Rattle.run.proofs.Calls.{StartCall, IterateCall, start_call_is, iterate_call_is}
use Rattle.agreement.specs.Demand.{Agrees, Valid, AllHold}
use Rattle.marked.specs.Cases.{rows_of_s, lies_of_s, tables_of_s, case_s}
use Rattle.marked.proofs.CaseS.{after_1, after_2}
use Rattle.marked.specs.Worthless.{
  refusing,
  fixed_row,
  handed_back,
  first_only,
  invented,
  run_by,
  common,
  votes6,
  votes0,
  quietly,
}

-- what the definitions give in case S, and at the votes and grades that are marked
record Computed : Type 0 where
  started : (case_s 0).refusal ≡ 0
  iterated : (case_s 1).refusal ≡ 0
  done0 : (case_s 0).run.done ≡ 0
  done1 : (case_s 1).run.done ≡ 1
  messages1 : (case_s 1).run.sent ≡ 75
  messages2 : (case_s 2).run.sent ≡ 138
  row0 : get_or (case_s 1).run.rows 0 0 ≡ 10
  row1 : get_or (case_s 1).run.rows 1 0 ≡ 20
  last1 : get_or (case_s 2).run.rows 1 0 ≡ 10
  vote6 : vote_reply votes6 1 ≡ record { refusal = 0; row = 6 }
  vote0 : vote_reply votes0 1 ≡ record { refusal = 0; row = 0 }
  grade6 : grade_reply votes6 1 ≡ record { refusal = 0; row = 6; confidence = 2; support = 3 }
  grade7 : grade_reply (7 ∷ []) 0 ≡ record { refusal = 0; row = 7; confidence = 2; support = 1 }
  choice6 : choice_reply (6 ∷ []) (2 ∷ []) ≡ record { refusal = 0; row = 6; firm = 1 }
  choice7 : choice_reply (7 ∷ []) (2 ∷ []) ≡ record { refusal = 0; row = 7; firm = 1 }

-- what three of the builds give, for every fixed row and every invented number
record ComputedBy (v : ℕ) (number : ℕ → ℕ → ℕ → ℕ) : Type 0 where
  fixed0 : get_or (fixed_row v (case_s 0).run lies_of_s).run.rows 0 0 ≡ v
  fixed1 : get_or (fixed_row v (case_s 0).run lies_of_s).run.rows 1 0 ≡ v
  from50 : get_or (run_by (fixed_row v) (common 50) quietly 1).run.rows 0 0 ≡ v
  from60 : get_or (run_by (fixed_row v) (common 60) quietly 1).run.rows 0 0 ≡ v
  first : (invented number (case_s 0).run lies_of_s).run.sent ≡ 0 + number 4 1 8
  second : (invented number (case_s 1).run (silent 4)).run.sent ≡ 75 + number 4 1 8
  only0 : get_or (run_by first_only rows_of_s tables_of_s 2).run.rows 0 0 ≡ 10
  only1 : get_or (run_by first_only rows_of_s tables_of_s 2).run.rows 1 0 ≡ 20
  stays1 : get_or (first_only (case_s 1).run (silent 4)).run.rows 1 0 ≡ 20

computed : Computed
unfolding sum count any build find member places support before best most first_of outside too_many stray sound
    sound_zero
    carried vote_of two_rows support_of confidence_at confidence_of graded_row counted chosen_row firm_for firm_leaders
    above2 vote_refusal size_refusal choice_refusal unless vote_reply grade_reply choice_reply start_refusal start_run
    start_reply after
computed =
    record {
      started = refl;
      iterated = ap (λ (r : Next). r.refusal) after_1;
      done0 = refl;
      done1 = ap (λ (r : Next). r.run.done) after_1;
      messages1 = ap (λ (r : Next). r.run.sent) after_1;
      messages2 = ap (λ (r : Next). r.run.sent) after_2;
      row0 = ap (λ (r : Next). get_or r.run.rows 0 0) after_1;
      row1 = ap (λ (r : Next). get_or r.run.rows 1 0) after_1;
      last1 = ap (λ (r : Next). get_or r.run.rows 1 0) after_2;
      vote6 = refl;
      vote0 = refl;
      grade6 = refl;
      grade7 = refl;
      choice6 = refl;
      choice7 = refl;
    }

computed_by : (v : ℕ) (number : ℕ → ℕ → ℕ → ℕ) → ComputedBy v number
unfolding sum count any build find member set_of places support before best most first_of outside too_many stray sound
    sound_zero table_rows carried vote_of two_rows support_of confidence_at confidence_of graded_row counted chosen_row
    firm_for firm_leaders above2 vote_refusal size_refusal choice_refusal unless vote_reply grade_reply choice_reply
    place1
    place_from place2 place3 sends hears heard1 heard2 column2 voted heard3 column3 confidence grade_row support_for
    sent_to messages entry graded_rows confidences new_row new_list next_run start_row start_refusal start_run
    start_reply
    bad_entry bad_place too_many_sent no_reasons reason_from reason_in reason_at reasons_of joined joins_now reason_now
    new_reason listed_by kept without_iteration unlisted not_yet_done confidence_above1 unfit bad_reason bad_reasons
    bad_state iterate_refusal
    iterate_reply after fixed_row first_only invented run_by
computed_by v number =
    record {
      fixed0 = refl;
      fixed1 = refl;
      from50 = refl;
      from60 = refl;
      first = refl;
      second = refl;
      only0 = refl;
      only1 = refl;
      stays1 = refl;
    }

-- all sound boxes start with the row
common_holds : (row : ℕ) → AllHold 4 8 (common row) row
unfolding sound member
common_holds row zero b = refl
common_holds row (suc zero) b = refl
common_holds row (suc (suc zero)) b = refl
common_holds row (suc (suc (suc zero))) b = never b.is_sound refl
common_holds row (suc (suc (suc (suc i)))) b = let l = b.below in absurd (omega (arith, l))

-- boxes 1 and 2 of case S are sound
sound0 : SoundBox 4 8 0
unfolding sound member
sound0 = record { below = omega arith; is_sound = refl }

sound1 : SoundBox 4 8 1
unfolding sound member
sound1 = record { below = omega arith; is_sound = refl }

-- one that refuses everything: a start, an iteration, a vote, a grade and a choice, by whatever number
module _ (number : ℕ) (some : number ≡ 0 → ⊥) where
  pub not_refusing_start : StartCall 4 1 8 rows_of_s (refusing number zeros) → ⊥
  unfolding after
  not_refusing_start c = some (ap (λ (r : Next). r.refusal) (start_call_is c) ∙ computed.started)

  pub not_refusing_iteration : IterateCall (case_s 0).run lies_of_s (refusing number (case_s 0).run) → ⊥
  unfolding after
  not_refusing_iteration c = some (ap (λ (r : Next). r.refusal) (iterate_call_is c) ∙ computed.iterated)

  pub not_refusing_vote : (row : ℕ) → VoteCall votes6 1 (record { refusal = number; row = row }) → ⊥
  not_refusing_vote row c = some (ap (λ (r : Voted). r.refusal) (vote_call_is c ∙ computed.vote6))

  pub not_refusing_grade : (row confidence support : ℕ) →
      GradeCall votes6 1 (record { refusal = number; row = row; confidence = confidence; support = support }) → ⊥
  not_refusing_grade row confidence support c =
      some (ap (λ (r : Graded). r.refusal) (grade_call_is c ∙ computed.grade6))

  pub not_refusing_choice : (row firm : ℕ) →
      ChooseCall (6 ∷ []) (2 ∷ []) (record { refusal = number; row = row; firm = firm }) → ⊥
  not_refusing_choice row firm c = some (ap (λ (r : Chosen). r.refusal) (choose_call_is c ∙ computed.choice6))

-- one that yields a fixed row, whichever
module _ (v : ℕ) where
  pub not_fixed_vote : VoteCall votes6 1 (record { refusal = 0; row = v }) →
      VoteCall votes0 1 (record { refusal = 0; row = v }) → ⊥
  not_fixed_vote c d =
      let six = ap (λ (r : Voted). r.row) (vote_call_is c ∙ computed.vote6) in
      let none = ap (λ (r : Voted). r.row) (vote_call_is d ∙ computed.vote0) in
      omega (arith, six, none)

  pub not_fixed_grade : (support support' : ℕ) →
      GradeCall votes6 1 (record { refusal = 0; row = v; confidence = 2; support = support }) →
      GradeCall (7 ∷ []) 0 (record { refusal = 0; row = v; confidence = 2; support = support' }) → ⊥
  not_fixed_grade support support' c d =
      let six = ap (λ (r : Graded). r.row) (grade_call_is c ∙ computed.grade6) in
      let seven = ap (λ (r : Graded). r.row) (grade_call_is d ∙ computed.grade7) in
      omega (arith, six, seven)

  pub not_fixed_choice : ChooseCall (6 ∷ []) (2 ∷ []) (record { refusal = 0; row = v; firm = 1 }) →
      ChooseCall (7 ∷ []) (2 ∷ []) (record { refusal = 0; row = v; firm = 1 }) → ⊥
  not_fixed_choice c d =
      let six = ap (λ (r : Chosen). r.row) (choose_call_is c ∙ computed.choice6) in
      let seven = ap (λ (r : Chosen). r.row) (choose_call_is d ∙ computed.choice7) in
      omega (arith, six, seven)

  pub not_fixed_iteration : IterateCall (case_s 0).run lies_of_s (fixed_row v (case_s 0).run lies_of_s) → ⊥
  unfolding after
  not_fixed_iteration c =
      let by = computed_by v (λ n t faulty. 0) in
      let at : (k : ℕ) → get_or (fixed_row v (case_s 0).run lies_of_s).run.rows k 0 ≡ get_or (case_s 1).run.rows k 0 =
      λ k. ap (λ (r : Next). get_or r.run.rows k 0) (iterate_call_is c) in
      omega (arith, by.fixed0, by.fixed1, at 0, at 1, computed.row0, computed.row1)

  -- and demand 3: a common start does not stay
  pub fixed_row_moves : Valid 4 1 8 quietly (run_by (fixed_row v) (common 50) quietly) (common 50) →
      Valid 4 1 8 quietly (run_by (fixed_row v) (common 60) quietly) (common 60) → ⊥
  fixed_row_moves c d =
      let by = computed_by v (λ n t faulty. 0) in
      omega (
        arith,
        by.from50,
        by.from60,
        c 50 (common_holds 50) 1 (omega arith) 0 sound0,
        d 60 (common_holds 60) 1 (omega arith) 0 sound0,
      )

-- one that hands the state straight back
pub not_handed_back : IterateCall (case_s 0).run lies_of_s (handed_back (case_s 0).run lies_of_s) → ⊥
unfolding after
not_handed_back c =
    let same = ap (λ (r : Next). r.run.done) (iterate_call_is c) in
    omega (arith, same, computed.done0, computed.done1)

-- one that works in the first iteration and afterwards only raises the counter
pub not_first_only : IterateCall (case_s 1).run (silent 4) (first_only (case_s 1).run (silent 4)) → ⊥
unfolding after
not_first_only c =
    let same = ap (λ (r : Next). get_or r.run.rows 1 0) (iterate_call_is c) in
    omega (arith, same, (computed_by 0 (λ n t faulty. 0)).stays1, computed.last1)

-- and demand 3: in case S boxes 1 and 2 end with different rows
pub first_only_parts : Agrees 4 1 8 tables_of_s (run_by first_only rows_of_s tables_of_s) → ⊥
first_only_parts agrees =
    let by = computed_by 0 (λ n t faulty. 0) in
    omega (arith, by.only0, by.only1, agrees 0 1 sound0 sound1)

-- one whose message number is invented: the two iterations of case S send 75 and 63
pub not_invented : (number : ℕ → ℕ → ℕ → ℕ) →
    IterateCall (case_s 0).run lies_of_s (invented number (case_s 0).run lies_of_s) →
    IterateCall (case_s 1).run (silent 4) (invented number (case_s 1).run (silent 4)) → ⊥
unfolding after
not_invented number c d =
    let by = computed_by 0 number in
    let one = ap (λ (r : Next). r.run.sent) (iterate_call_is c) in
    let two = ap (λ (r : Next). r.run.sent) (iterate_call_is d) in
    omega (arith, by.first, by.second, one, two, computed.messages1, computed.messages2)
