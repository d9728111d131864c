-- What a start or an iteration gives without refusal is never refused by 4, 5, 6, 9 or 14: n, t and the faulty set
-- stay; a sound box's new row is a row that was chosen, or its old row; a new list is a set of boxes below n; every
-- other place is 0; one iteration keeps within its limit of messages; and a box that joins gets a whole reason, while
-- those of the others stay. Assumes nothing.
use mathlib.Core.Path.{◌≡◌, refl, sym, ap, ◌∙◌, subst}
use mathlib.Core.Bool.{Bool, true, false, cond, not, ◌&&◌, ◌||◌}
use mathlib.Core.List.{List}
use Prim.Native.Nat.{ℕ, ◌+◌, ◌*◌, ◌^◌, ◌≤◌, ◌<◌}
use native.Mathlib.Nat.{add-mul}
use native.Mathlib.Omega.{arith}
use lib.Dec.{eqb, ltb}
use lib.ListN.{get_or}
use lib.Pow.{pow_pos}
use borrow.Author.Tests.{eq-eqb, ltb-true, ltb-false, le-ltb}
use Rattle.counting.specs.Count.{any}
use Rattle.counting.specs.Sets.{member}
use Rattle.counting.proofs.Bools.{
  never,
  both,
  not_both,
  and_false_right,
  not_of_true,
  not_of_false,
  or_none,
  or_true_left,
  cond_true,
}
use Rattle.counting.proofs.Count.{none_any, any_none}
use Rattle.counting.proofs.Sets.{set_of_lt, member_above, member_empty}
use Rattle.sizes.specs.Sizes.{stray, sound, Startable}
use Rattle.sizes.proofs.Laws.{inside_high, lt_within}
use Rattle.gradecast.specs.Steps.{messages, message_limit}
use Rattle.gradecast.specs.Fair.{SoundBox, SoundRowsNotZero}
use Rattle.gradecast.proofs.Boxes.{is_box, box_is}
use Rattle.gradecast.proofs.Messages.{messages_bound}
use Rattle.run.specs.declared.Run.{Run}
use Rattle.run.specs.declared.Reason.{Reason}
use Rattle.run.specs.Iteration.{
  confidences,
  new_list,
  no_reason,
  reason_at,
  joins_now,
  reason_now,
  next_run,
}
use Rattle.run.specs.State.{
  bad_entry,
  start_refusal,
  start_run,
  start_reply,
  zeros,
  bad_place,
  too_many_sent,
  listed_by,
  bad_reason,
  bad_reasons,
  iterate_refusal,
  iterate_reply,
}
use Rattle.run.specs.Legal.{Legal}
use Rattle.gradecast.proofs.Grades.{confidence_by}
use Rattle.run.proofs.Entries.{no_list}
use Rattle.run.proofs.Fits.{sent_within, list_below}
use Rattle.run.proofs.Listings.{Listing, good_listed, listed_good, unlisted_none, none_good}
use Rattle.run.proofs.Kept.{
  start_row_lem,
  start_list,
  start_unused,
  next_row,
  next_list,
  next_unused,
  new_row_not_zero,
  start_reason,
  next_listed,
  entry_member,
  joins_is,
  reason_stays,
  reason_joins,
  joins_listed,
}
use Rattle.run.proofs.Accepted.{is_accepted, is_start_accepted, rows_not_zero, not_zero_rows, not_over}

-- refusal 14: what a place must hold
good_place : (s : Run) (k : ℕ) → (SoundBox s.n s.faulty k → get_or s.lists k 0 < 2 ^ s.n) →
    ((SoundBox s.n s.faulty k → ⊥) → (get_or s.rows k 0 ≡ 0) × (get_or s.lists k 0 ≡ 0)) →
    bad_place s k ≡ false
unfolding bad_place bad_entry
good_place s k inner outer = go (ltb k s.n && sound s.faulty k) refl
  where
    go : (b : Bool) → (ltb k s.n && sound s.faulty k) ≡ b →
        cond b (stray s.n (get_or s.lists k 0))
        (not (eqb (get_or s.rows k 0) 0) || not (eqb (get_or s.lists k 0) 0)) ≡ false
    go true e = lt_within s.n (get_or s.lists k 0) (inner (box_is s.n s.faulty k e))
    go false e =
        let z = outer (λ b. never (is_box b) e) in
        or_none (not_of_true (eq-eqb (get_or s.rows k 0) 0 z.0))
        (not_of_true (eq-eqb (get_or s.lists k 0) 0 z.1))

listed_member : (s : Run) (i k : ℕ) → listed_by s i k ≡ true → member (get_or s.lists i 0) k ≡ true
unfolding listed_by
listed_member s i k h = h

-- who may be on a list of a legal state: a box of the n on that of a sound box
module _ (s : Run) (legal : Legal s) (i k : ℕ) (li : i < 13) (listed : listed_by s i k ≡ true) where
  listing_box : SoundBox s.n s.faulty i
  unfolding listed_by
  listing_box = box_is s.n s.faulty i (go (ltb i s.n && sound s.faulty i) refl)
    where
      go : (b : Bool) → (ltb i s.n && sound s.faulty i) ≡ b → (ltb i s.n && sound s.faulty i) ≡ true
      go true e = e
      go false e =
          let zero = no_list s legal.pass14_places i li e in
          never listed (subst (λ (l : ℕ). member l k ≡ false) (sym zero) (member_empty k))

  listed_one : k < s.n
  unfolding listed_by
  listed_one = ltb-true k s.n (go (ltb k s.n) refl)
    where
      go : (b : Bool) → ltb k s.n ≡ b → ltb k s.n ≡ true
      go true e = e
      go false e =
          never listed
          (member_above s.n (get_or s.lists i 0) k (list_below s legal i listing_box) (ltb-false k s.n e))

-- what a legal state keeps: of a listed box a whole reason, and of any other nothing
module _ (s : Run) (legal : Legal s) (i k : ℕ) (li : i < 13) (lk : k < 13) where
  good_one : bad_reason s.t s.done (listed_by s i k) (reason_at s i k) ≡ false
  unfolding bad_reasons
  good_one = any_none 13 _ (any_none 13 (bad_reasons s) legal.pass14_reasons i li) k lk

  pub legal_listing : listed_by s i k ≡ true → Listing s.t s.done (reason_at s i k)
  legal_listing h =
      listed_good s.t s.done (reason_at s i k)
      (subst (λ (b : Bool). bad_reason s.t s.done b (reason_at s i k) ≡ false) h good_one)

  pub legal_none : listed_by s i k ≡ false → reason_at s i k ≡ no_reason
  legal_none h =
      unlisted_none s.t s.done (reason_at s i k)
      (subst (λ (b : Bool). bad_reason s.t s.done b (reason_at s i k) ≡ false) h good_one)

-- the state after an iteration that was not refused
module _ (s : Run) (table : List ℕ) (legal : Legal s) where
  few : s.n ≤ 13
  few = inside_high s.n legal.pass4

  pub next_not_zero : SoundRowsNotZero s.n s.faulty (next_run s table).rows
  next_not_zero k b e =
      new_row_not_zero s table k
      (rows_not_zero s.n s.faulty s.rows legal.pass9 k b)
      (sym (next_row s table k few b) ∙ e)

  next_within : (k : ℕ) → SoundBox s.n s.faulty k → get_or (next_run s table).lists k 0 < 2 ^ s.n
  unfolding new_list
  next_within k b =
      subst (λ (list : ℕ). list < 2 ^ s.n) (sym (next_list s table k few b))
      (set_of_lt s.n (λ j. member (get_or s.lists k 0) j || ltb (get_or (confidences s table k) j 0) 2))

  next_sent : too_many_sent (next_run s table) ≡ false
  unfolding too_many_sent next_run
  next_sent =
      le-ltb ((s.done + 1) * message_limit s.n)
      (s.sent + messages s.n s.t s.faulty s.rows s.lists table)
      (omega (
        arith,
        add-mul s.done 1 (message_limit s.n),
        sent_within s legal,
        messages_bound s.n s.t s.faulty s.rows s.lists table,
      ))

  -- a box that was listed is so still
  pub stays_listed : (i k : ℕ) → i < 13 → listed_by s i k ≡ true → listed_by (next_run s table) i k ≡ true
  stays_listed i k li h =
      let b = listing_box s legal i k li h in
      let l = listed_one s legal i k li h in
      next_listed s table i k li ∙ entry_member s table i k b l ∙ or_true_left _ (listed_member s i k h)

  -- the reason of a box that joins is whole
  now_whole : (i k : ℕ) → joins_now s table i k ≡ true → Listing s.t (s.done + 1) (reason_now s table i k)
  unfolding reason_now
  now_whole i k h =
      let unsure = (joins_is s table i k h).unsure in
      record {
        from_1 = omega arith;
        is_done = omega arith;
        at_most_1 = omega (arith, unsure);
        fitting = sym (confidence_by s.n s.t s.faulty s.rows s.lists table i k);
      }

  next_good : (i k : ℕ) → i < 13 → k < 13 → (before after : Bool) → listed_by s i k ≡ before →
      listed_by (next_run s table) i k ≡ after →
      bad_reason s.t (s.done + 1) after (reason_at (next_run s table) i k) ≡ false
  next_good i k li lk true true e f =
      let l = legal_listing s legal i k li lk e in
      let new = listed_by (next_run s table) i k in
      let stays = reason_stays s table i k li lk (joins_listed s table i k li ∙ and_false_right new (not_of_true e)) in
      let r = reason_at s i k in
      subst (λ (r : Reason). bad_reason s.t (s.done + 1) true r ≡ false) (sym stays)
      (good_listed s.t (s.done + 1) r
      (record {
        from_1 = l.from_1;
        is_done = omega (arith, l.is_done);
        at_most_1 = l.at_most_1;
        fitting = l.fitting;
      }))
  next_good i k li lk true false e f = never (stays_listed i k li e) f
  next_good i k li lk false true e f =
      let now = joins_listed s table i k li ∙ both f (not_of_false e) in
      subst (λ (r : Reason). bad_reason s.t (s.done + 1) true r ≡ false) (sym (reason_joins s table i k li lk now))
      (good_listed s.t (s.done + 1) (reason_now s table i k) (now_whole i k now))
  next_good i k li lk false false e f =
      let stays = reason_stays s table i k li lk (joins_listed s table i k li ∙ not_both (not (listed_by s i k)) f) in
      subst (λ (r : Reason). bad_reason s.t (s.done + 1) false r ≡ false)
      (sym (stays ∙ legal_none s legal i k li lk e)) (none_good s.t (s.done + 1))

  next_reasons : any 13 (bad_reasons (next_run s table)) ≡ false
  unfolding bad_reasons next_run
  next_reasons =
      none_any 13 _ (λ i li. none_any 13 _ (λ k lk. next_good i k li lk _ _ refl refl))

  pub next_legal : s.done ≤ s.t → Legal (next_run s table)
  unfolding next_run
  next_legal few =
      record {
        pass4 = legal.pass4;
        pass5 = legal.pass5;
        pass6 = legal.pass6;
        pass9 = not_zero_rows s.n s.faulty (next_run s table).rows next_not_zero;
        pass14_places =
            none_any 13 (bad_place (next_run s table))
            (λ k l. good_place (next_run s table) k (next_within k) (next_unused s table k l));
        pass14_sent = next_sent;
        pass14_reasons = next_reasons;
        pass14_done = not_over (next_run s table) (omega (arith, few));
      }

-- the state after a start that was not refused
module _ (n t faulty : ℕ) (rows : List ℕ) (a : Startable n t faulty rows) where
  pub start_not_zero : SoundRowsNotZero n faulty (start_run n t faulty rows).rows
  start_not_zero k b e =
      rows_not_zero n faulty rows a.pass9 k b
      (sym (start_row_lem n t faulty rows k (inside_high n a.pass4) b) ∙ e)

  -- nobody is listed, and nothing is kept
  pub start_listed : (i k : ℕ) → i < 13 → listed_by (start_run n t faulty rows) i k ≡ false
  unfolding listed_by
  start_listed i k li =
      ap (λ (list : ℕ). member list k) (start_list n t faulty rows i li) ∙ member_empty k

  start_good : (i k : ℕ) → i < 13 → k < 13 →
      bad_reason t 0 (listed_by (start_run n t faulty rows) i k) (reason_at (start_run n t faulty rows) i k) ≡ false
  start_good i k li lk = rw (start_listed i k li, start_reason n t faulty rows i k li lk) (none_good t 0)

  start_reasons : any 13 (bad_reasons (start_run n t faulty rows)) ≡ false
  unfolding bad_reasons start_run
  start_reasons = none_any 13 _ (λ i li. none_any 13 _ (λ k lk. start_good i k li lk))

  pub start_legal : Legal (start_run n t faulty rows)
  unfolding start_run too_many_sent
  start_legal =
      record {
        pass4 = a.pass4;
        pass5 = a.pass5;
        pass6 = a.pass6;
        pass9 = not_zero_rows n faulty (start_run n t faulty rows).rows start_not_zero;
        pass14_places =
            none_any 13 (bad_place (start_run n t faulty rows))
            (λ k l.
            good_place (start_run n t faulty rows) k
            (λ b. subst (λ (list : ℕ). list < 2 ^ n) (sym (start_list n t faulty rows k l)) (pow_pos n))
            (λ e. (start_unused n t faulty rows k l e, start_list n t faulty rows k l)));
        pass14_sent = le-ltb (0 * message_limit n) 0 (omega arith);
        pass14_reasons = start_reasons;
        pass14_done = not_over (start_run n t faulty rows) (omega arith);
      }

-- the replies
pub closed_start : (n t faulty : ℕ) (rows : List ℕ) → (start_reply n t faulty rows).refusal ≡ 0 →
    Legal (start_reply n t faulty rows).run
unfolding start_reply
closed_start n t faulty rows e =
    subst Legal (sym (cond_true (start_run n t faulty rows) zeros (eq-eqb (start_refusal n t faulty rows) 0 e)))
    (start_legal n t faulty rows (is_start_accepted n t faulty rows e))

pub closed_iterate : (s : Run) (table : List ℕ) → (iterate_reply s table).refusal ≡ 0 →
    Legal (iterate_reply s table).run
unfolding iterate_reply
closed_iterate s table e =
    subst Legal (sym (cond_true (next_run s table) s (eq-eqb (iterate_refusal s table) 0 e)))
    (let a = is_accepted s table e in next_legal s table a.legal a.done_few)
