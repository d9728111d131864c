-- Demand 3. By induction on the iterations: the state stays legal and fair, so no call is refused. After m iterations
-- the sound rows are all equal, or m boxes are on every sound list; there are at most t of those, so after t + 1 the
-- rows are equal. Assumes nothing.
use mathlib.Core.Path.{◌≡◌, sym, ap, ◌∙◌, subst, subst₃}
use mathlib.Core.Bool.{true}
use mathlib.Core.List.{List}
use mathlib.Core.Logic.{◌⊎◌, ⊎_elim}
use mathlib.Core.Logic.◌⊎◌.{inl, inr}
use Prim.Native.Nat.{ℕ, zero, suc, ◌+◌, ◌≤◌, ◌<◌}
use native.Mathlib.Nat.{le_refl}
use native.Mathlib.Omega.{arith}
use lib.ListN.{get_or}
use Rattle.counting.specs.Count.{count}
use Rattle.counting.specs.Sets.{member}
use Rattle.counting.proofs.Sets.{member_empty}
use Rattle.sizes.specs.Sizes.{Startable}
use Rattle.sizes.proofs.Laws.{inside, tolerated, lt_within}
use Rattle.gradecast.specs.Steps.{confidence}
use Rattle.gradecast.specs.Fair.{SoundBox, Fair, NoSoundListed, SoundRowsNotZero, Gradecast}
use Rattle.gradecast.proofs.Properties.{gradecast}
use Rattle.run.specs.declared.Run.{Run}
use Rattle.run.specs.Iteration.{next_run}
use Rattle.run.specs.declared.Next.{Next}
use Rattle.run.specs.State.{start_run, after}
use Rattle.run.specs.Legal.{Legal}
use Rattle.run.proofs.Accepted.{not_zero_rows}
use Rattle.run.proofs.Calls.{Calls, calls_are}
use Rattle.run.proofs.Closed.{start_not_zero}
use Rattle.run.proofs.Course.{Reached, start_run_lem, reached, next_state, never_refused}
use Rattle.run.proofs.Kept.{start_row_lem, start_list}
use Rattle.agreement.specs.Demand.{
  iterations,
  Premises,
  AllHold,
  SameRow,
  replies,
  rows_after,
  lists_after,
  Agrees,
  Valid,
  NeverListed,
  NeverZero,
  Promises,
  SplitsJoin,
  Demand3,
}
use Rattle.agreement.proofs.Condemned.{condemned, condemned_few}
use Rattle.agreement.proofs.Iteration.{next_fair, rows_stay, same_or_split, split_joins, split_more}

-- a state is fair, by its own n, t and faulty set
abbrev FairState : Run → Type 0
FairState s = Fair s.n s.t s.faulty s.rows s.lists

fair_next : (s : Run) (table : List ℕ) → Legal s → FairState s → FairState (next_run s table)
unfolding next_run
fair_next = next_fair

module _ (n t faulty : ℕ) (rows : List ℕ) (tables : ℕ → List ℕ) (setting : Premises n t faulty rows tables) where
  -- the start is taken
  starts : Startable n t faulty rows
  starts =
      record {
        pass4 = inside n setting.from_1 setting.to_13;
        pass5 = tolerated n t (omega (arith, setting.tolerated));
        pass6 = lt_within n faulty setting.within;
        pass11 = setting.given;
        pass9 = not_zero_rows n faulty rows (λ k b e. absurd (omega (arith, setting.none_zero k b)));
      }

  -- so many iterations may be run
  enough : iterations t ≤ t + 1
  enough = omega arith

  abbrev reply : ℕ → Next
  reply = replies n t faulty rows tables

  abbrev state : ℕ → Run
  state m = (reply m).run

  reached_at : (m : ℕ) → m ≤ iterations t → Reached n t faulty m (state m)
  reached_at = reached n t faulty rows tables (iterations t) enough starts setting.sized

  step_run : (m : ℕ) → m < iterations t → state (suc m) ≡ next_run (state m) (tables m)
  step_run = next_state n t faulty rows tables (iterations t) enough starts setting.sized

  start_fair : FairState (start_run n t faulty rows)
  unfolding start_run
  start_fair =
      record {
        tolerated = omega (arith, setting.tolerated);
        few = omega (arith, setting.few);
        none_listed =
            λ i k si sk.
            let l = si.below in
            let high = setting.to_13 in
            ap (λ (list : ℕ). member list k) (start_list n t faulty rows i (omega arith)) ∙ member_empty k;
        none_zero = start_not_zero n t faulty rows starts;
      }

  fair_state : (m : ℕ) → m ≤ iterations t → FairState (state m)
  unfolding after
  fair_state zero h = subst FairState (sym (start_run_lem starts)) start_fair
  fair_state (suc m) h =
      subst FairState (sym (step_run m h))
      (fair_next (state m) (tables m) (reached_at m (omega arith)).legal (fair_state m (omega arith)))

  -- what one iteration brings, by the state's own n, t and faulty set, it brings by those of the run
  onward : (P : ℕ → ℕ → ℕ → Run → Type 0) (m : ℕ) → m < iterations t →
      (Legal (state m) → Fair (state m).n (state m).t (state m).faulty (state m).rows (state m).lists →
      P (state m).n (state m).t (state m).faulty (next_run (state m) (tables m))) →
      P n t faulty (state (suc m))
  onward P m l h =
      let g = reached_at m (omega arith) in
      subst (P n t faulty) (sym (step_run m l))
      (subst₃ (λ (a b c : ℕ). P a b c (next_run (state m) (tables m))) g.same_n g.same_t g.same_faulty
      (h g.legal (fair_state m (omega arith))))

  -- a state is fair by n, t and the faulty set of the run
  fair_after : (m : ℕ) → m ≤ iterations t → Fair n t faulty (rows_after reply m) (lists_after reply m)
  fair_after m h =
      let g = reached_at m h in
      subst₃ (λ (a b c : ℕ). Fair a b c (state m).rows (state m).lists) g.same_n g.same_t g.same_faulty
      (fair_state m h)

  never_listed : NeverListed n t faulty tables reply
  never_listed m h = (fair_after m h).none_listed

  never_zero : NeverZero n t faulty tables reply
  never_zero m h = (fair_after m h).none_zero

  promises : Promises n t faulty tables reply
  promises m l = gradecast (fair_after m (omega arith)) (tables m)

  splits_join : SplitsJoin n t faulty tables reply
  splits_join m l i j k si sj b counts none =
      onward
      (λ (a b c : ℕ) (s : Run).
      SoundBox a c j → k < a → confidence a b c (state m).rows (state m).lists (tables m) j k ≡ 0 →
      (l : ℕ) → SoundBox a c l → member (get_or s.lists l 0) k ≡ true)
      m l (λ legal fair. split_joins (state m) (tables m) legal fair j k) sj b none

  -- a row that all sound boxes hold stays
  stays : (m : ℕ) → m < iterations t → (v : ℕ) → AllHold n faulty (state m).rows v →
      AllHold n faulty (state (suc m)).rows v
  stays m l v =
      onward (λ (a b c : ℕ) (s : Run). AllHold a c (state m).rows v → AllHold a c s.rows v) m l
      (λ legal fair. rows_stay (state m) (tables m) legal fair v)

  valid : Valid n t faulty tables reply rows
  unfolding after
  valid v h zero l =
      subst (λ (s : Run). AllHold n faulty s.rows v) (sym (start_run_lem starts))
      (λ i si. start_row_lem n t faulty rows i setting.to_13 si ∙ h i si)
  valid v h (suc m) l = stays m l v (valid v h m (omega arith))

  -- the sound rows are equal, or as many boxes as iterations are on every sound list
  progress : (m : ℕ) → m ≤ iterations t →
      SameRow n faulty (state m).rows ⊎ (m ≤ count n (condemned n faulty (state m).lists))
  progress zero h = inr (omega arith)
  progress (suc m) h = go (progress m (omega arith))
    where
      go : SameRow n faulty (state m).rows ⊎ (m ≤ count n (condemned n faulty (state m).lists)) →
          SameRow n faulty (state (suc m)).rows ⊎ (suc m ≤ count n (condemned n faulty (state (suc m)).lists))
      go (inl same) =
          inl
          (λ i j si sj.
          let hold = stays m h (get_or (state m).rows i 0) (λ k sk. same k i sk si) in
          hold i si ∙ sym (hold j sj))
      go (inr c) =
          onward
          (λ (a b c : ℕ) (s : Run).
          m ≤ count a (condemned a c (state m).lists) →
          SameRow a c s.rows ⊎ (suc m ≤ count a (condemned a c s.lists)))
          m h
          (λ legal fair most.
          ⊎_elim
          (λ same. inl same)
          (λ split. inr (omega (arith, split_more (state m) (tables m) legal fair split)))
          (same_or_split (state m) (tables m) legal fair))
          c

  agrees : Agrees n t faulty tables reply
  agrees =
      ⊎_elim
      (λ same. same)
      (λ c.
      absurd
      (omega (
        arith,
        c,
        setting.few,
        condemned_few n faulty (state (iterations t)).lists (never_listed (iterations t) (le_refl _)),
      )))
      (progress (iterations t) (le_refl _))

  -- demand 3 of the replies that the definitions give
  pub replies_keep : Demand3 n t faulty rows tables reply
  replies_keep =
      record {
        not_refused = never_refused n t faulty rows tables (iterations t) enough starts setting.sized;
        agrees = agrees;
        valid = valid;
        never_listed = never_listed;
        never_zero = never_zero;
        promises = promises;
        splits_join = splits_join;
      }

-- demand 3, of any replies of which the first meets the contract of `start` and each of the t + 1 that follow that of
-- `iterate`, on the state before it and its table
pub demand3 : {n t faulty : ℕ} {rows : List ℕ} {tables : ℕ → List ℕ} {reply : ℕ → Next} →
    Premises n t faulty rows tables → Calls n t faulty rows tables (iterations t) reply →
    Demand3 n t faulty rows tables reply
demand3 {n} {t} {faulty} {rows} {tables} {reply} premises calls =
    record {
      not_refused = λ m h. by m h (λ (r : Next). r.refusal ≡ 0) (d.not_refused m h);
      agrees = by (iterations t) (le_refl _) (λ (r : Next). SameRow n faulty r.run.rows) d.agrees;
      valid = λ v all m h. by m h (λ (r : Next). AllHold n faulty r.run.rows v) (d.valid v all m h);
      never_listed = λ m h. by m h (λ (r : Next). NoSoundListed n faulty r.run.lists) (d.never_listed m h);
      never_zero = λ m h. by m h (λ (r : Next). SoundRowsNotZero n faulty r.run.rows) (d.never_zero m h);
      promises =
          λ m l.
          by m (omega arith) (λ (r : Next). Gradecast n t faulty r.run.rows r.run.lists (tables m))
          (d.promises m l);
      splits_join =
          λ m l i j k si sj b.
          by m (omega arith)
          (λ (r : Next).
          1 ≤ sure r.run m i k → sure r.run m j k ≡ 0 →
          (o : ℕ) → SoundBox n faulty o → member (get_or (lists_after reply (suc m)) o 0) k ≡ true)
          (λ counts none o so.
          by (suc m) l (λ (r : Next). member (get_or r.run.lists o 0) k ≡ true)
          (d.splits_join m l i j k si sj b counts none o so));
    }
  where
    d : Demand3 n t faulty rows tables (replies n t faulty rows tables)
    d = replies_keep n t faulty rows tables premises

    sure : Run → ℕ → ℕ → ℕ → ℕ
    sure s m i k = confidence n t faulty s.rows s.lists (tables m) i k

    -- what holds of the definitions' reply holds of the call's
    by : (m : ℕ) → m ≤ iterations t → (P : Next → Type 0) → P (replies n t faulty rows tables m) → P (reply m)
    by m h P = subst P (sym (calls_are calls m h))
