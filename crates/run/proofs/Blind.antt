-- What is never read. A start puts 0 in the places of faulty boxes and tests the rows of sound boxes alone, so slices
-- that differ in faulty boxes' rows start alike. In a table, entries in a sound sender's place are not read: two
-- tables that differ only there give the same grades and messages, so the same rows, lists and reasons, and where
-- they are equally long the same refusal; and so a whole run of such tables, since n and the faulty set stay. Assumes
-- nothing.
use mathlib.Core.Path.{◌≡◌, refl, sym, ap, ap₂, ◌∙◌, subst₂}
use mathlib.Core.Bool.{Bool, true, false, cond, ◌&&◌, ◌||◌}
use mathlib.Core.List.{List}
use Prim.Native.Nat.{ℕ, zero, suc, ◌+◌, ◌<◌}
use native.Mathlib.Nat.{le_refl}
use lib.Dec.{eqb, ltb}
use lib.ListN.{length, get_or, replicate}
use borrow.Author.Tests.{ltb-true}
use Rattle.counting.specs.Count.{build}
use Rattle.counting.specs.Sets.{member, set_of}
use Rattle.counting.proofs.Bools.{and_left, and_right}
use Rattle.counting.proofs.Build.{build_ext}
use Rattle.counting.proofs.Count.{lower, any_ext}
use Rattle.sizes.specs.Sizes.{sound, sound_zero}
use Rattle.tally.specs.Tally.{chosen_row}
use Rattle.gradecast.specs.Steps.{confidence, grade_row}
use Rattle.gradecast.specs.Fair.{SoundBox}
use Rattle.gradecast.specs.Lies.{SameLies}
use Rattle.gradecast.proofs.Blind.{confidence_same, grade_row_same, support_same, messages_same}
use Rattle.run.specs.declared.Run.{Run}
use Rattle.run.specs.declared.Next.{Next}
use Rattle.run.specs.Iteration.{
  graded_rows,
  confidences,
  new_row,
  new_list,
  entry,
  reason_at,
  reasons_of,
  joined,
  joins_now,
  reason_now,
  new_reason,
  next_run,
}
use Rattle.run.proofs.Kept.{joins_is}
use Rattle.run.specs.State.{
  start_refusal,
  start_row,
  start_run,
  start_reply,
  no_reasons,
  zeros,
  iterate_refusal,
  iterate_reply,
  after,
}

-- the places of a state agree where those of the sound boxes do
places_same : (n faulty : ℕ) (f g : ℕ → ℕ) → ((i : ℕ) → SoundBox n faulty i → f i ≡ g i) →
    build 13 (entry n faulty f) ≡ build 13 (entry n faulty g)
unfolding entry
places_same n faulty f g h =
    build_ext 13 (entry n faulty f) (entry n faulty g) (λ i l. go i (ltb i n && sound faulty i) refl)
  where
    go : (i : ℕ) (c : Bool) → (ltb i n && sound faulty i) ≡ c → cond c (f i) 0 ≡ cond c (g i) 0
    go i true e =
        h i (record { below = ltb-true i n (and_left _ (sound faulty i) e); is_sound = and_right (ltb i n) _ e })
    go i false e = refl

-- a start ignores the rows of faulty boxes: two slices of one length that agree in the sound boxes' rows start alike
module _ (n t faulty : ℕ) (a b : List ℕ) (whole : length a ≡ length b)
    (same : (k : ℕ) → SoundBox n faulty k → get_or a k 0 ≡ get_or b k 0) where
  zero_same : sound_zero n faulty a ≡ sound_zero n faulty b
  unfolding sound_zero
  zero_same = any_ext n _ _ (λ k l. go k l (sound faulty k) refl)
    where
      go : (k : ℕ) → k < n → (c : Bool) → sound faulty k ≡ c →
          (c && eqb (get_or a k 0) 0) ≡ (c && eqb (get_or b k 0) 0)
      go k l true e = ap (λ (row : ℕ). eqb row 0) (same k (record { below = l; is_sound = e }))
      go k l false e = refl

  start_refusal_same : start_refusal n t faulty a ≡ start_refusal n t faulty b
  unfolding start_refusal
  start_refusal_same = rw (whole, zero_same) refl

  start_run_same : start_run n t faulty a ≡ start_run n t faulty b
  unfolding start_run start_row
  start_run_same =
      ap (λ (rows : List ℕ). record {
        n = n;
        t = t;
        faulty = faulty;
        done = 0;
        sent = 0;
        rows = rows;
        lists = replicate 13 0;
        reasons = no_reasons;
      })
      (places_same n faulty (λ k. get_or a k 0) (λ k. get_or b k 0) same)

  pub start_blind : start_reply n t faulty a ≡ start_reply n t faulty b
  unfolding start_reply
  start_blind =
      ap₂ (λ (refusal : ℕ) (s : Run). record { refusal = refusal; run = cond (eqb refusal 0) s zeros })
      start_refusal_same start_run_same

module _ (s : Run) (a b : List ℕ) (same : SameLies s.n s.faulty a b) where
  confidences_same : (i : ℕ) → i < s.n → confidences s a i ≡ confidences s b i
  unfolding confidences
  confidences_same i l =
      build_ext s.n (confidence s.n s.t s.faulty s.rows s.lists a i)
      (confidence s.n s.t s.faulty s.rows s.lists b i)
      (λ k lk. confidence_same s.n s.t s.faulty s.rows s.lists a b same i k l lk)

  graded_rows_same : (i : ℕ) → i < s.n → graded_rows s a i ≡ graded_rows s b i
  unfolding graded_rows
  graded_rows_same i l =
      build_ext s.n (grade_row s.n s.t s.faulty s.rows s.lists a i)
      (grade_row s.n s.t s.faulty s.rows s.lists b i)
      (λ k lk. grade_row_same s.n s.t s.faulty s.rows s.lists a b same i k l lk)

  new_row_same : (i : ℕ) → i < s.n → new_row s a i ≡ new_row s b i
  unfolding new_row
  new_row_same i l =
      ap (λ (chosen : ℕ). cond (eqb chosen 0) (get_or s.rows i 0) chosen)
      (ap₂ chosen_row (graded_rows_same i l) (confidences_same i l))

  new_list_same : (i : ℕ) → i < s.n → new_list s a i ≡ new_list s b i
  unfolding new_list
  new_list_same i l =
      ap (λ (cs : List ℕ). set_of s.n (λ k. member (get_or s.lists i 0) k || ltb (get_or cs k 0) 2))
      (confidences_same i l)

  -- a place's entry of the new lists
  entry_same : (i : ℕ) → entry s.n s.faulty (new_list s a) i ≡ entry s.n s.faulty (new_list s b) i
  unfolding entry
  entry_same i = go (ltb i s.n && sound s.faulty i) refl
    where
      go : (c : Bool) → (ltb i s.n && sound s.faulty i) ≡ c → cond c (new_list s a i) 0 ≡ cond c (new_list s b i) 0
      go true e = new_list_same i (ltb-true i s.n (and_left _ (sound s.faulty i) e))
      go false e = refl

  joins_same : (i k : ℕ) → joins_now s a i k ≡ joins_now s b i k
  unfolding joins_now
  joins_same i k = ap (λ (new : ℕ). joined (get_or s.lists i 0) new k) (entry_same i)

  -- only a box of the n joins, and only the list of one
  reason_now_same : (i k : ℕ) → joins_now s a i k ≡ true → reason_now s a i k ≡ reason_now s b i k
  unfolding reason_now
  reason_now_same i k h =
      let j = joins_is s a i k h in
      let li = j.of_box.below in
      λ d.
      record {
        iteration = s.done + 1;
        confidence = confidence_same s.n s.t s.faulty s.rows s.lists a b same i k li j.is_one d;
        support = support_same s.n s.t s.faulty s.rows s.lists a b same i k li j.is_one d;
      }

  new_reason_same : (i k : ℕ) → new_reason s a i k ≡ new_reason s b i k
  unfolding new_reason
  new_reason_same i k =
      go (joins_now s a i k) refl
      ∙ ap (λ (c : Bool). cond c (reason_now s b i k) (reason_at s i k)) (joins_same i k)
    where
      go : (c : Bool) → joins_now s a i k ≡ c →
          cond c (reason_now s a i k) (reason_at s i k) ≡ cond c (reason_now s b i k) (reason_at s i k)
      go true e = reason_now_same i k e
      go false e = refl

  next_same : next_run s a ≡ next_run s b
  unfolding next_run
  next_same =
      λ d.
      record {
        n = s.n;
        t = s.t;
        faulty = s.faulty;
        done = s.done + 1;
        sent = s.sent + messages_same s.n s.t s.faulty s.rows s.lists a b same d;
        rows = places_same s.n s.faulty (new_row s a) (new_row s b) (λ i b. new_row_same i b.below) d;
        lists = places_same s.n s.faulty (new_list s a) (new_list s b) (λ i b. new_list_same i b.below) d;
        reasons = reasons_of (λ i k. new_reason_same i k d);
      }

  refusal_same : length a ≡ length b → iterate_refusal s a ≡ iterate_refusal s b
  unfolding iterate_refusal
  refusal_same e = rw e refl

  -- one iteration
  pub iterate_blind : length a ≡ length b → iterate_reply s a ≡ iterate_reply s b
  unfolding iterate_reply
  iterate_blind e =
      ap₂ (λ (refusal : ℕ) (next : Run). record { refusal = refusal; run = cond (eqb refusal 0) next s })
      (refusal_same e) next_same

-- a run keeps n and the faulty set
kept : (s : Run) (table : List ℕ) →
    ((iterate_reply s table).run.n ≡ s.n) × ((iterate_reply s table).run.faulty ≡ s.faulty)
unfolding iterate_reply next_run
kept s table = go (eqb (iterate_refusal s table) 0)
  where
    go : (c : Bool) → ((cond c (next_run s table) s).n ≡ s.n) × ((cond c (next_run s table) s).faulty ≡ s.faulty)
    go true = (refl, refl)
    go false = (refl, refl)

after_kept : (first : Next) (tables : ℕ → List ℕ) (m : ℕ) →
    ((after first tables m).run.n ≡ first.run.n) × ((after first tables m).run.faulty ≡ first.run.faulty)
unfolding after
after_kept first tables zero = (refl, refl)
after_kept first tables (suc m) =
    let h = kept (after first tables m).run (tables m) in
    let g = after_kept first tables m in
    (h.0 ∙ g.0, h.1 ∙ g.1)

-- a whole run
pub after_blind : (first : Next) (a b : ℕ → List ℕ) (m : ℕ) →
    ((j : ℕ) → j < m → SameLies first.run.n first.run.faulty (a j) (b j) × (length (a j) ≡ length (b j))) →
    after first a m ≡ after first b m
unfolding after
after_blind first a b zero h = refl
after_blind first a b (suc m) h =
    let g = after_kept first a m in
    let l = h m (le_refl _) in
    iterate_blind (after first a m).run (a m) (b m)
    (subst₂ (λ (n faulty : ℕ). SameLies n faulty (a m) (b m)) (sym g.0) (sym g.1) l.0)
    l.1
    ∙ ap (λ (r : Next). iterate_reply r.run (b m)) (after_blind first a b m (lower m h))
