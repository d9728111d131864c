-- How long a listing can be. A line `run` has 14 bytes at most: n is at most 13, t at most 4, a set of boxes below
-- 8,192. A line `at` has 34 at most: iteration at most 5, box at most 13, row below 2 to the 64, list below 8,192;
-- and there are at most 13 boxes in each of at most 5 iterations. The last line has 11 at most: at most 21,060
-- messages, or a refusal below 100. That is 14 + 65 * 34 + 11. Rows are so small because a row of the file is 8
-- bytes, and a run makes no row that was not given.
-- Assumes nothing.
use mathlib.Core.Path.{◌≡◌, refl, sym, ap, subst, ◌∙◌}
use mathlib.Core.Bool.{Bool, true, false, cond, ◌&&◌}
use mathlib.Core.List.{List, [], ◌∷◌, ◌++◌}
use mathlib.Core.Logic.{⊎_elim}
use Prim.Native.Nat.{ℕ, zero, suc, ◌+◌, ◌*◌, ◌^◌, ◌≤◌, ◌<◌, max}
use native.Mathlib.Nat.{le_refl, not-suc-le-zero, pow-suc, lt_of_lt_of_le}
use native.Mathlib.Decide.{ℕ_discrete}
use native.Mathlib.Omega.{arith}
use lib.Dec.{eqb, ltb}
use lib.ListN.{length, get_or, take, drop, length-append, length-take, get_or-eq_default}
use lib.Seq.{get_or-take, get_or-drop}
use borrow.Author.Tests.{eqb-true, eq-eqb, le-ltb, ltb-true, ltb-false}
use Rattle.counting.specs.Count.{sum}
use Rattle.counting.specs.Refuse.{Refusal, first_of}
use Rattle.counting.specs.Refuse.Refusal.{refuse}
use Rattle.counting.proofs.Bools.{and_left, and_right, cond_true, either}
use Rattle.counting.proofs.Count.{at_or_below}
use Rattle.counting.proofs.Sets.{bits_le}
use Rattle.sizes.specs.Sizes.{sound}
use Rattle.sizes.proofs.Laws.{inside_high, tolerated_lt, within_lt}
use Rattle.run.specs.declared.Run.{Run}
use Rattle.run.specs.State.{start_refusal, start_run, start_reply, zeros, iterate_refusal, iterate_reply, after}
use Rattle.run.specs.Legal.{Legal}
use Rattle.run.proofs.Closed.{start_legal, closed_iterate}
use Rattle.run.proofs.Fits.{Below, cond_below, build_below, start_below, after_below, list_below, sent_at_most}
use Rattle.runfile.specs.File.{number, row_from, heading_row, table_row}
use Rattle.runfile.specs.Reply.{heading_tests, heading_refusal, table_tests, table_refusal}
use Rattle.runfile.proofs.Laws.{heading_number}
use Rattle.lines.specs.Line.{line_of}
use Rattle.lines.proofs.Decimal.{decimal_most, decimal_20}
use Rattle.lines.proofs.Lines.{line_size}
use Rattle.listing.specs.File.{
  or_else,
  table_bytes,
  table_begins,
  bytes_of,
  table_of,
  refused_table,
  heading,
  rows_of,
  reply_after,
  state_after,
  refused_start,
  refused_at,
  due,
  goes_on,
}
use Rattle.listing.specs.Listing.{
  run_word,
  at_word,
  sent_word,
  refused_word,
  run_line,
  at_line,
  last_line,
  box_line,
  box_lines,
  ended_by,
  passed,
  done_of,
  iteration_lines,
  refused_later,
  ends_with,
  start_line,
  first_lines,
  outcome_of,
  listing_of,
  list_reply,
}
use Rattle.listing.proofs.Heading.{
  none_refused,
  heading_good,
  heading_high,
  heading_few,
  heading_starts,
  start_state,
}
use Rattle.listing.proofs.Iterations.{passed_most, iterate_next}
use Rattle.listing.proofs.Whole.{early_lines}

-- a number of so many bytes
number_below : (bytes : List ℕ) (at size : ℕ) → Below 256 bytes → number bytes at size < 256 ^ size
unfolding number
number_below bytes at zero h = omega arith
number_below bytes at (suc size) h =
    omega (arith, number_below bytes at size h, h (at + size), pow-suc 256 size)

pub row_below : (at : ℕ) (bytes : List ℕ) (k : ℕ) → Below 256 bytes → row_from at bytes k < 2 ^ 64
unfolding row_from
row_below at bytes k h = number_below bytes _ 8 h

-- the bytes of a table, which are some of the file's
pub table_below : (n : ℕ) (bytes : List ℕ) (m : ℕ) → Below 256 bytes → Below 256 (bytes_of n bytes m)
unfolding bytes_of
table_below n bytes m h k =
    let rest = drop (table_begins n m) bytes in
    ⊎_elim
    (λ t.
    rw (get_or-take (table_bytes n) rest k 0 (ltb-true k (table_bytes n) t), get_or-drop (table_begins n m) bytes k 0)
    (h (table_begins n m + k)))
    (λ f.
    let long = ltb-false k (table_bytes n) f in
    rw (get_or-eq_default (take (table_bytes n) rest) 0 {n = k} (simp length-take (omega arith))) (omega arith))
    (either (ltb k (table_bytes n)))

-- refusals: none is above the highest number of its list
highest : List Refusal → ℕ
highest [] = 0
highest (refuse number test ∷ rest) = max number (highest rest)

first_highest : (tests : List Refusal) → first_of tests ≤ highest tests
unfolding first_of highest
first_highest [] = le_refl _
first_highest (refuse number true ∷ rest) = omega arith
first_highest (refuse number false ∷ rest) = omega (arith, first_highest rest)

heading_highest : (bytes : List ℕ) (room : ℕ) → heading_refusal bytes room ≤ 10
unfolding heading_refusal heading_tests highest
heading_highest bytes room = first_highest (heading_tests bytes room)

start_highest : (n t faulty : ℕ) (rows : List ℕ) → start_refusal n t faulty rows ≤ 11
unfolding start_refusal highest
start_highest n t faulty rows = first_highest _

table_highest : (n : ℕ) (bytes : List ℕ) (room : ℕ) → table_refusal n bytes room ≤ 10
unfolding table_refusal table_tests highest
table_highest n bytes room = first_highest (table_tests n bytes room)

iterate_highest : (s : Run) (table : List ℕ) → iterate_refusal s table ≤ 14
unfolding iterate_refusal highest
iterate_highest s table = first_highest _

or_below : (a b : ℕ) → a < 100 → b < 100 → or_else a b < 100
unfolding or_else
or_below a b h l = cond_below 100 (omega arith) (eqb a 0) l h

passed_each : (f : ℕ → ℕ) (k j : ℕ) → j < passed f k → f j ≡ 0
unfolding passed
passed_each f zero j l = absurd (not-suc-le-zero l)
passed_each f (suc k) j l = go (eqb (passed f k) k && eqb (f k) 0) refl (passed_each f k j) l
  where
    go : (b : Bool) → (eqb (passed f k) k && eqb (f k) 0) ≡ b → (j < passed f k → f j ≡ 0) →
        j < passed f k + cond b 1 0 → f j ≡ 0
    go true e rest l =
        let all = eqb-true (passed f k) k (and_left _ _ e) in
        ⊎_elim
        (λ at. ap f at ∙ eqb-true (f k) 0 (and_right (eqb (passed f k) k) _ e))
        (λ below. rest (omega arith))
        (at_or_below j k (omega arith))
    go false e rest l = rest (omega arith)

-- the lines
run_short : (n t faulty : ℕ) → n ≤ 13 → t ≤ 4 → faulty < 8192 → length (run_line n t faulty) ≤ 14
unfolding run_line sum
run_short n t faulty hn ht hf =
    omega (
      arith,
      line_size run_word (n ∷ t ∷ faulty ∷ []),
      decimal_most 1 n (omega arith),
      decimal_most 0 t (omega arith),
      decimal_most 3 faulty (omega arith),
    )

at_short : (done i row list : ℕ) → done ≤ 5 → i < 13 → row < 2 ^ 64 → list < 8192 →
    length (at_line done i row list) ≤ 34
unfolding at_line sum
at_short done i row list hd hi hr hl =
    omega (
      arith,
      line_size at_word (done ∷ (i + 1) ∷ row ∷ list ∷ []),
      decimal_most 0 done (omega arith),
      decimal_most 1 (i + 1) (omega arith),
      decimal_20 row hr,
      decimal_most 3 list (omega arith),
    )

last_short : (refusal sent : ℕ) → refusal < 100 → (refusal ≡ 0 → sent ≤ 21060) → length (last_line refusal sent) ≤ 11
unfolding last_line sum
last_short refusal sent h few = go (eqb refusal 0) refl
  where
    go : (b : Bool) → eqb refusal 0 ≡ b →
        length (cond b (line_of sent_word (sent ∷ [])) (line_of refused_word (refusal ∷ []))) ≤ 11
    go true e =
        let l = few (eqb-true refusal 0 e) in
        omega (arith, line_size sent_word (sent ∷ []), decimal_most 4 sent (omega arith))
    go false e = omega (arith, line_size refused_word (refusal ∷ []), decimal_most 1 refusal (omega arith))

-- a legal state: its line of the start, and its boxes' lines
module _ (s : Run) (legal : Legal s) where
  high : s.n ≤ 13
  high = inside_high s.n legal.pass4

  start_short : length (run_line s.n s.t s.faulty) ≤ 14
  start_short =
      run_short s.n s.t s.faulty high (omega (arith, high, tolerated_lt s.n s.t legal.pass5))
      (lt_of_lt_of_le (within_lt s.n s.faulty legal.pass6) (bits_le s.n high))

  module _ (few : s.done ≤ 5) (small : Below (2 ^ 64) s.rows) where
    line_short : (i : ℕ) → i < s.n → length (box_line s i) ≤ 34
    unfolding box_line
    line_short i l = go (sound s.faulty i) refl
      where
        go : (b : Bool) → sound s.faulty i ≡ b →
            length (cond b (at_line s.done i (get_or s.rows i 0) (get_or s.lists i 0)) []) ≤ 34
        go true e =
            at_short s.done i (get_or s.rows i 0) (get_or s.lists i 0) few (omega (arith, high)) (small i)
            (lt_of_lt_of_le (list_below s legal i (record { below = l; is_sound = e })) (bits_le s.n high))
        go false e = omega arith

    lines_short : (k : ℕ) → k ≤ s.n → length (box_lines s k) ≤ k * 34
    unfolding box_lines
    lines_short zero l = omega arith
    lines_short (suc k) l =
        omega (
          arith,
          length-append (box_lines s k) (box_line s k),
          lines_short k (omega arith),
          line_short k l,
        )

-- the state after so many iterations: legal, and it counts them
record Reached (bytes : List ℕ) (m : ℕ) : Type 0 where
  legal : Legal (state_after bytes m)
  counts : (state_after bytes m).done ≡ m

module _ (bytes : List ℕ) where
  -- every refusal is below 100
  start_refusal_lem : refused_start bytes < 100
  unfolding refused_start heading reply_after after start_reply
  start_refusal_lem =
      or_below _ _ (omega (arith, heading_number bytes 13, heading_highest bytes 13))
      (omega (arith, start_highest (heading bytes).n (heading bytes).t (heading bytes).faulty (rows_of bytes)))

  table_refusal_lem : (m : ℕ) → refused_at bytes m < 100
  unfolding refused_at refused_table reply_after after iterate_reply
  table_refusal_lem m =
      or_below _ _ (omega (arith, table_highest (heading bytes).n (bytes_of (heading bytes).n bytes m) 4563))
      (omega (arith, iterate_highest (reply_after bytes m).run (table_of (heading bytes).n bytes m)))

  ends_below : ends_with bytes < 100
  unfolding ends_with refused_later
  ends_below =
      or_below _ _ start_refusal_lem
      (cond_below 100 (omega arith) (ltb (done_of bytes) (due bytes)) (table_refusal_lem (done_of bytes))
      (cond_below 100 (omega arith) (goes_on bytes) (omega arith) (omega arith)))

  module _ (ok : refused_start bytes ≡ 0) where
    good : (heading bytes).refusal ≡ 0
    good = heading_good bytes ok

    done_few : done_of bytes ≤ 5
    unfolding done_of due
    done_few =
        omega (
          arith,
          passed_most (refused_at bytes) ((heading bytes).t + 1),
          heading_few bytes good,
          heading_high bytes good,
        )

    reached_next : (m : ℕ) → refused_at bytes m ≡ 0 → Reached bytes m → Reached bytes (suc m)
    unfolding refused_at refused_table state_after reply_after after
    reached_next m e r =
        let s = state_after bytes m in
        let table = table_of (heading bytes).n bytes m in
        let none : (iterate_reply s table).refusal ≡ 0 = (none_refused _ _ e).1 in
        record {
          legal = closed_iterate s table none;
          counts = omega (arith, (iterate_next s table none).2, r.counts);
        }

    reached : (m : ℕ) → m ≤ done_of bytes → Reached bytes m
    unfolding start_run done_of
    reached zero l =
        record {
          legal = subst Legal (sym (start_state bytes good)) (start_legal _ _ _ _ (heading_starts bytes good));
          counts = ap (λ (q : Run). q.done) (start_state bytes good);
        }
    reached (suc m) l = reached_next m (passed_each (refused_at bytes) (due bytes) m l) (reached m (omega arith))

  sent_few : ends_with bytes ≡ 0 → (outcome_of bytes).run.sent ≤ 21060
  unfolding outcome_of ended_by ends_with
  sent_few e =
      let ok = (none_refused _ _ e).0 in
      let r = reached ok (done_of bytes) (le_refl _) in
      let s = state_after bytes (done_of bytes) in
      let last = ap (λ (q : Run). q.sent) (cond_true s zeros (eq-eqb (ends_with bytes) 0 e)) in
      omega (arith, last, sent_at_most s r.legal, r.counts, done_few ok)

  -- a file of bytes
  module _ (small : Below 256 bytes) where
    rows_below : refused_start bytes ≡ 0 → (m : ℕ) → Below (2 ^ 64) (state_after bytes m).rows
    unfolding state_after reply_after after table_of rows_of heading_row table_row
    rows_below ok =
        after_below (2 ^ 64) (omega arith) (reply_after bytes 0) (table_of (heading bytes).n bytes)
        (subst (λ (q : Run). Below (2 ^ 64) q.rows) (sym (start_state bytes (heading_good bytes ok)))
        (start_below (2 ^ 64) (omega arith) _ _ _ (rows_of bytes)
        (build_below (2 ^ 64) (omega arith) _ (heading_row bytes) (λ k. row_below 9 bytes k small))))
        (λ m.
        build_below (2 ^ 64) (omega arith) _ (table_row (bytes_of (heading bytes).n bytes m))
        (λ k. row_below 0 (bytes_of (heading bytes).n bytes m) k (table_below (heading bytes).n bytes m small)))

    iterations_short : refused_start bytes ≡ 0 → (m : ℕ) → m ≤ done_of bytes →
        length (iteration_lines bytes m) ≤ m * 442
    unfolding iteration_lines
    iterations_short ok zero l = omega arith
    iterations_short ok (suc m) l =
        let s = state_after bytes (suc m) in
        let r = reached ok (suc m) l in
        omega (
          arith,
          length-append (iteration_lines bytes m) (box_lines s s.n),
          iterations_short ok m (omega arith),
          lines_short s r.legal (omega (arith, r.counts, done_few ok)) (rows_below ok (suc m)) s.n (le_refl _),
          high s r.legal,
        )

    first_short : Dec (refused_start bytes ≡ 0) → length (first_lines bytes) ≤ 2224
    unfolding first_lines start_line
    first_short (yes ok) =
        let both = start_line bytes ++ iteration_lines bytes (done_of bytes) in
        let lines = cond_true both [] (eq-eqb (refused_start bytes) 0 ok) in
        omega (
          arith,
          ap length lines,
          length-append (start_line bytes) (iteration_lines bytes (done_of bytes)),
          start_short (state_after bytes 0) (reached ok 0 (omega arith)).legal,
          iterations_short ok (done_of bytes) (le_refl _),
          done_few ok,
        )
    first_short (no d) = omega (arith, ap length (early_lines bytes d))

-- no listing is longer
pub listing_most : (bytes : List ℕ) → ((i : ℕ) → get_or bytes i 0 < 256) → length (listing_of bytes) ≤ 2235
unfolding listing_of outcome_of ended_by
listing_most bytes small =
    omega (
      arith,
      length-append (first_lines bytes) (last_line (outcome_of bytes).refusal (outcome_of bytes).run.sent),
      first_short bytes small (ℕ_discrete (refused_start bytes) 0),
      last_short (ends_with bytes) (outcome_of bytes).run.sent (ends_below bytes) (sent_few bytes),
    )

-- so a slice with that much room is always enough
pub always_fits : (bytes : List ℕ) (room : ℕ) → ((i : ℕ) → get_or bytes i 0 < 256) → 2235 ≤ room →
    (list_reply bytes room).refusal ≡ 0
unfolding list_reply
always_fits bytes room small h =
    rw (le-ltb room (length (listing_of bytes)) (omega (arith, listing_most bytes small))) refl
