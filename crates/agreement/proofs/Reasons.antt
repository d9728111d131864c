-- Why a box is on a list, of the run itself. By induction on the iterations: a box that is listed keeps its reason,
-- one that joins gets this iteration's, and of one that stays off the list the confidence was 2, now and before. Said
-- of the replies of any calls that meet the contracts, and of what the call that says why replies on their states.
-- Assumes nothing.
use mathlib.Core.Path.{◌≡◌, refl, sym, ap, ap₂, ◌∙◌, subst}
use mathlib.Core.Bool.{Bool, true, false, not}
use mathlib.Core.List.{List}
use mathlib.Core.Logic.{⊎_elim}
use Prim.Native.Nat.{ℕ, zero, suc, ◌+◌, ◌-◌, ◌≤◌, ◌<◌}
use native.Mathlib.Nat.{not-suc-le-zero}
use native.Mathlib.Numerals.{add-one}
use native.Mathlib.Omega.{arith}
use lib.Dec.{ltb}
use lib.ListN.{length, get_or}
use borrow.Author.Tests.{ltb-false}
use Rattle.counting.specs.Sets.{member}
use Rattle.counting.proofs.Bools.{
  either,
  never,
  both,
  not_both,
  and_false_right,
  not_of_true,
  not_of_false,
  or_false_right,
}
use Rattle.counting.proofs.Count.{at_or_below}
use Rattle.sizes.specs.Sizes.{table_rows, Startable}
use Rattle.sizes.proofs.Laws.{inside_high}
use Rattle.gradecast.specs.Steps.{confidence, support_for}
use Rattle.gradecast.specs.Fair.{SoundBox}
use Rattle.gradecast.proofs.Boxes.{sound_not_faulty}
use Rattle.gradecast.proofs.Grades.{at_most_2}
use Rattle.run.specs.declared.Next.{Next}
use Rattle.run.specs.declared.Reason.{Reason}
use Rattle.run.specs.declared.Run.{Run}
use Rattle.run.specs.declared.Why.{Why}
use Rattle.run.specs.Iteration.{no_reason, reason_at, joins_now, reason_now, next_run}
use Rattle.run.specs.Legal.{Legal}
use Rattle.run.specs.State.{listed_by, after}
use Rattle.run.specs.Why.{why_refusal, why_reply}
use Rattle.run.proofs.Accepted.{askable_is, number_is}
use Rattle.run.proofs.Calls.{Calls, calls_are, WhyCall, why_call_is}
use Rattle.run.proofs.Closed.{start_listed, stays_listed}
use Rattle.run.proofs.Course.{Reached, start_run_lem, reached, next_state}
use Rattle.run.proofs.Kept.{
  start_reason,
  next_listed,
  entry_member,
  joins_is,
  reason_stays,
  reason_joins,
  joins_listed,
}
use Rattle.run.proofs.Refusals.{why_reason}
use Rattle.agreement.specs.Demand.{replies, lists_after, confidence_in}
use Rattle.agreement.specs.Reasons.{support_in, TrueReason, Reasoned}

module _ (n t faulty : ℕ) (rows : List ℕ) (tables : ℕ → List ℕ) (last : ℕ) (most : last ≤ t + 1)
    (starts : Startable n t faulty rows) (sized : (m : ℕ) → m < last → length (tables m) ≡ table_rows n) where
  abbrev reply : ℕ → Next
  reply = replies n t faulty rows tables

  abbrev state : ℕ → Run
  state m = (reply m).run

  at : (m : ℕ) → m ≤ last → Reached n t faulty m (state m)
  at = reached n t faulty rows tables last most starts sized

  step : (m : ℕ) → m < last → state (suc m) ≡ next_run (state m) (tables m)
  step = next_state n t faulty rows tables last most starts sized

  module _ (i k : ℕ) (box : SoundBox n faulty i) (is_one : k < n) where
    high : n ≤ 13
    high = inside_high n starts.pass4

    li : i < 13
    li = omega (arith, box.below, high)

    lk : k < 13
    lk = omega (arith, is_one, high)

    -- the confidence and the support by the state's own n, t and faulty set
    own_confidence : (m : ℕ) → m ≤ last →
        confidence (state m).n (state m).t (state m).faulty (state m).rows (state m).lists (tables m) i k ≡
        confidence_in n t faulty tables reply m i k
    own_confidence m l =
        let g = at m l in
        rw (g.same_n, g.same_t, g.same_faulty) refl

    own_support : (m : ℕ) → m ≤ last →
        support_for (state m).n (state m).t (state m).faulty (state m).rows (state m).lists (tables m) i k ≡
        support_in n t faulty tables reply m i k
    own_support m l =
        let g = at m l in
        rw (g.same_n, g.same_t, g.same_faulty) refl

    -- what is kept after one more iteration, by whether the box was listed before and is so after it
    module _ (m : ℕ) (l : m < last) (old : Reasoned n t faulty tables reply m i k (reason_at (state m) i k)) where
      here : Reached n t faulty m (state m)
      here = at m (omega arith)

      legal : Legal (state m)
      legal = here.legal

      next : Run
      next = next_run (state m) (tables m)

      was_listed : listed_by (state m) i k ≡ true → TrueReason n t faulty tables reply (suc m) i k (reason_at next i k)
      unfolding listed_by next
      was_listed h =
          let why = old.listed h in
          let new = listed_by (next_run (state m) (tables m)) i k in
          let stays =
          reason_stays (state m) (tables m) i k li lk
          (joins_listed (state m) (tables m) i k li ∙ and_false_right new (not_of_true h)) in
          subst (TrueReason n t faulty tables reply (suc m) i k) (sym stays)
          (record {
            before = why.before;
            is_done = omega (arith, why.is_done);
            number = why.number;
            found = why.found;
            backed = why.backed;
            low = why.low;
            earliest = why.earliest;
          })

      joins : listed_by (state m) i k ≡ false → listed_by next i k ≡ true → joins_now (state m) (tables m) i k ≡ true
      unfolding next
      joins h e = joins_listed (state m) (tables m) i k li ∙ both e (not_of_false h)

      now_listed : listed_by (state m) i k ≡ false → listed_by next i k ≡ true →
          TrueReason n t faulty tables reply (suc m) i k (reason_at next i k)
      unfolding next listed_by reason_now
      now_listed h e =
          let j = joins h e in
          let get = own_confidence m (omega arith) in
          subst (TrueReason n t faulty tables reply (suc m) i k)
          (sym (reason_joins (state m) (tables m) i k li lk j))
          (record {
            before = m;
            is_done = omega arith;
            number = add-one (state m).done ∙ ap suc here.done_m;
            found = get;
            backed = own_support m (omega arith);
            low = (joins_is (state m) (tables m) i k j).unsure;
            earliest = old.always_sure h;
          })

      still_none : listed_by (state m) i k ≡ false → listed_by next i k ≡ false → reason_at next i k ≡ no_reason
      unfolding next listed_by
      still_none h e =
          reason_stays (state m) (tables m) i k li lk
          (joins_listed (state m) (tables m) i k li ∙ not_both (not (listed_by (state m) i k)) e)
          ∙ old.not_listed h

      still_sure : listed_by (state m) i k ≡ false → listed_by next i k ≡ false →
          (q : ℕ) → q < suc m → confidence_in n t faulty tables reply q i k ≡ 2
      unfolding next listed_by
      still_sure h e q lq =
          ⊎_elim (λ same. ap (λ (p : ℕ). confidence_in n t faulty tables reply p i k) same ∙ sure)
          (λ b. old.always_sure h q b) (at_or_below q m lq)
        where
          own_box : SoundBox (state m).n (state m).faulty i
          own_box = rw (here.same_n, here.same_faulty) box

          own : ℕ
          own = confidence (state m).n (state m).t (state m).faulty (state m).rows (state m).lists (tables m) i k

          sure : confidence_in n t faulty tables reply m i k ≡ 2
          sure =
              let lk' : k < (state m).n = rw here.same_n is_one in
              let new = next_listed (state m) (tables m) i k li in
              let off = sym (new ∙ entry_member (state m) (tables m) i k own_box lk') ∙ e in
              let two = ltb-false own 2 (or_false_right (member (get_or (state m).lists i 0) k) (ltb own 2) off) in
              let s = state m in
              let few = at_most_2 s.n s.t s.faulty s.rows s.lists (tables m) i k in
              sym (own_confidence m (omega arith)) ∙ omega (arith, two, few)

      -- together
      listed_next : (b : Bool) → listed_by (state m) i k ≡ b → listed_by next i k ≡ true →
          TrueReason n t faulty tables reply (suc m) i k (reason_at next i k)
      listed_next true h e = was_listed h
      listed_next false h e = now_listed h e

      off_before : listed_by next i k ≡ false → listed_by (state m) i k ≡ false
      unfolding next
      off_before e =
          ⊎_elim (λ t. never (stays_listed (state m) (tables m) legal i k li t) e) (λ f. f)
          (either (listed_by (state m) i k))

      -- of the next state what is said of the state after it
      moved : (b : Bool) → member (get_or (lists_after reply (suc m)) i 0) k ≡ b → listed_by next i k ≡ b
      unfolding next listed_by
      moved b h = subst (λ (s : Run). member (get_or s.lists i 0) k ≡ b) (step m l) h

      back : (P : Reason → Type 0) → P (reason_at next i k) → P (reason_at (state (suc m)) i k)
      unfolding next
      back P = subst (λ (s : Run). P (reason_at s i k)) (sym (step m l))

      more : Reasoned n t faulty tables reply (suc m) i k (reason_at (state (suc m)) i k)
      more =
          record {
            listed =
                λ h.
                back (TrueReason n t faulty tables reply (suc m) i k)
                (listed_next (listed_by (state m) i k) refl (moved true h));
            not_listed =
                λ h.
                let e = moved false h in
                back (λ (r : Reason). r ≡ no_reason) (still_none (off_before e) e);
            always_sure = λ h. let e = moved false h in still_sure (off_before e) e;
          }

    -- nobody is listed at the start
    off_first : member (get_or (lists_after reply 0) i 0) k ≡ false
    unfolding after listed_by
    off_first =
        subst (λ (s : Run). member (get_or s.lists i 0) k ≡ false) (sym (start_run_lem starts))
        (start_listed n t faulty rows starts i k li)

    first : Reasoned n t faulty tables reply 0 i k (reason_at (state 0) i k)
    unfolding after
    first =
        record {
          listed = λ h. never h off_first;
          not_listed =
              λ h.
              subst (λ (s : Run). reason_at s i k ≡ no_reason) (sym (start_run_lem starts))
              (start_reason n t faulty rows i k li lk);
          always_sure = λ h m l. absurd (not-suc-le-zero l);
        }

    -- after every iteration
    kept_true : (m : ℕ) → m ≤ last → Reasoned n t faulty tables reply m i k (reason_at (state m) i k)
    kept_true zero l = first
    kept_true (suc m) l = more m l (kept_true m (omega arith))

-- of the replies of any such calls
module _ {n t faulty : ℕ} {rows : List ℕ} {tables : ℕ → List ℕ} {last : ℕ} {reply : ℕ → Next}
    (calls : Calls n t faulty rows tables last reply) (most : last ≤ t + 1) (starts : Startable n t faulty rows)
    (sized : (m : ℕ) → m < last → length (tables m) ≡ table_rows n) where
  -- what holds of the definitions' reply holds of the call's
  by : (m : ℕ) → m ≤ last → (P : Next → Type 0) → P (replies n t faulty rows tables m) → P (reply m)
  by m h P = subst P (sym (calls_are calls m h))

  same_confidence : (m i k : ℕ) → m ≤ last →
      confidence_in n t faulty tables (replies n t faulty rows tables) m i k ≡
      confidence_in n t faulty tables reply m i k
  same_confidence m i k h =
      ap (λ (r : Next). confidence n t faulty r.run.rows r.run.lists (tables m) i k)
      (sym (calls_are calls m h))

  same_support : (m i k : ℕ) → m ≤ last →
      support_in n t faulty tables (replies n t faulty rows tables) m i k ≡ support_in n t faulty tables reply m i k
  same_support m i k h =
      ap (λ (r : Next). support_for n t faulty r.run.rows r.run.lists (tables m) i k)
      (sym (calls_are calls m h))

  true_by : {m i k : ℕ} {r : Reason} → m ≤ last →
      TrueReason n t faulty tables (replies n t faulty rows tables) m i k r →
      TrueReason n t faulty tables reply m i k r
  true_by {m} {i} {k} h w =
      let few : w.before ≤ last = omega (arith, h, w.is_done) in
      record {
        before = w.before;
        is_done = w.is_done;
        number = w.number;
        found = w.found ∙ same_confidence w.before i k few;
        backed = w.backed ∙ same_support w.before i k few;
        low = w.low;
        earliest = λ q l. sym (same_confidence q i k (omega (arith, l, few))) ∙ w.earliest q l;
      }

  -- what a sound box keeps of each box is true of the run
  pub reasons_true : (m i k : ℕ) → m ≤ last → SoundBox n faulty i → k < n →
      Reasoned n t faulty tables reply m i k (reason_at (reply m).run i k)
  reasons_true m i k h b l =
      let w = kept_true n t faulty rows tables last most starts sized i k b l m h in
      by m h (λ (r : Next). Reasoned n t faulty tables reply m i k (reason_at r.run i k))
      (record {
        listed = λ e. true_by h (w.listed (off m h true e));
        not_listed = λ e. w.not_listed (off m h false e);
        always_sure =
            λ e q lq. sym (same_confidence q i k (omega (arith, lq, h))) ∙ w.always_sure (off m h false e) q lq;
      })
    where
      off : (m : ℕ) → m ≤ last → (b : Bool) → member (get_or (lists_after reply m) i 0) k ≡ b →
          member (get_or (lists_after (replies n t faulty rows tables) m) i 0) k ≡ b
      off m h b e = subst (λ (r : Next). member (get_or r.run.lists i 0) k ≡ b) (calls_are calls m h) e

  -- and so is what the call that says why replies: it is not refused, and gives that reason
  pub why_true : (m i k : ℕ) → m ≤ last → SoundBox n faulty i → k < n → {w : Why} →
      WhyCall (reply m).run (i + 1) (k + 1) w →
      (w.refusal ≡ 0) × (w.run ≡ (reply m).run) × Reasoned n t faulty tables reply m i k w.reason
  unfolding why_reply
  why_true m i k h b l {w} call =
      let is = why_call_is call in
      let zero = not_refused in
      let place : reason_at s (i + 1 - 1) (k + 1 - 1) ≡ reason_at s i k =
      ap₂ (reason_at s) (omega arith) (omega arith) in (
        ap (λ (r : Why). r.refusal) is ∙ zero,
        ap (λ (r : Why). r.run) is,
        subst (Reasoned n t faulty tables reply m i k)
            (sym (ap (λ (r : Why). r.reason) is ∙ why_reason s (i + 1) (k + 1) zero ∙ place))
            (reasons_true m i k h b l),
      )
    where
      s : Run
      s = (reply m).run

      there : Reached n t faulty m (reply m).run
      there =
          by m h (λ (r : Next). Reached n t faulty m r.run)
          (reached n t faulty rows tables last most starts sized m h)

      not_refused : why_refusal (reply m).run (i + 1) (k + 1) ≡ 0
      not_refused =
          askable_is (reply m).run (i + 1) (k + 1)
          (record {
            legal = there.legal;
            asked_box = number_is (omega arith) (omega (arith, there.same_n, b.below));
            asked_sound =
                ap₂ member there.same_faulty (omega arith) ∙ sound_not_faulty faulty i b.is_sound;
            listed_box = number_is (omega arith) (omega (arith, there.same_n, l));
          })
