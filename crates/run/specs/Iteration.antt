-- Step 5 of one iteration over the state and the table: the new row and the new list of every box, and the reason that
-- it keeps for each box that joins its list.
use Rattle.std.specs.Prelude.{ℕ, ◌+◌, ◌*◌, ◌/◌, ◌%◌, Bool, cond, not, ◌&&◌, ◌||◌, List, eqb, ltb, get_or}
use Rattle.counting.specs.Count.{build}
use Rattle.counting.specs.Sets.{member, set_of}
use Rattle.tally.specs.Tally.{chosen_row}
use Rattle.sizes.specs.Sizes.{sound}
use Rattle.gradecast.specs.Steps.{confidence, grade_row, messages, support_for}
use Rattle.run.specs.declared.Reason.{Reason}
use Rattle.run.specs.declared.Reasons.{Reasons}
use Rattle.run.specs.declared.Run.{Run}

-- what a sound box i has, and 0 in a faulty box's place and above n
unfoldable pub entry : ℕ → ℕ → (ℕ → ℕ) → ℕ → ℕ
entry n faulty f i = cond (ltb i n && sound faulty i) (f i) 0

-- what is kept where there is no listing
unfoldable pub no_reason : Reason
no_reason = record { iteration = 0; confidence = 0; support = 0 }

-- the reason at a place, from its three parts
unfoldable pub reason_from : List ℕ → List ℕ → List ℕ → ℕ → Reason
reason_from iterations confidences supports p =
    record { iteration = get_or iterations p 0; confidence = get_or confidences p 0; support = get_or supports p 0 }

unfoldable pub reason_in : Reasons → ℕ → Reason
reason_in reasons p = reason_from reasons.iterations reasons.confidences reasons.supports p

-- the reason that box i keeps for box k, at place 13 * i + k for every n
unfoldable pub reason_at : Run → ℕ → ℕ → Reason
reason_at s i k = reason_in s.reasons (13 * i + k)

-- the reasons of all boxes for all boxes, in 169 places
unfoldable pub reasons_of : (ℕ → ℕ → Reason) → Reasons
reasons_of why =
    record {
      iterations = build 169 (λ p. (why (p / 13) (p % 13)).iteration);
      confidences = build 169 (λ p. (why (p / 13) (p % 13)).confidence);
      supports = build 169 (λ p. (why (p / 13) (p % 13)).support);
    }

-- box k joins a list: it is on the new one and was not on the old one
unfoldable pub joined : ℕ → ℕ → ℕ → Bool
joined old new k = member new k && not (member old k)

module _ (s : Run) (table : List ℕ) where
  -- step 4 by box i: the rows of leaders 1 to n
  unfoldable pub graded_rows : ℕ → List ℕ
  graded_rows i = build s.n (λ k. grade_row s.n s.t s.faulty s.rows s.lists table i k)

  -- step 4 by box i: the confidences of leaders 1 to n
  unfoldable pub confidences : ℕ → List ℕ
  confidences i = build s.n (λ k. confidence s.n s.t s.faulty s.rows s.lists table i k)

  -- the row held by the most leaders with confidence 1 or 2; with no such leader the old row stays
  unfoldable pub new_row : ℕ → ℕ
  new_row i =
      let chosen = chosen_row (graded_rows i) (confidences i) in
      cond (eqb chosen 0) (get_or s.rows i 0) chosen

  -- every leader with confidence 0 or 1 joins the list; nothing leaves it
  unfoldable pub new_list : ℕ → ℕ
  new_list i = set_of s.n (λ k. member (get_or s.lists i 0) k || ltb (get_or (confidences i) k 0) 2)

  -- does box k join the list of box i?
  unfoldable pub joins_now : ℕ → ℕ → Bool
  joins_now i k = joined (get_or s.lists i 0) (entry s.n s.faulty new_list i) k

  -- what box i finds for box k in this iteration, which is counted from 1
  unfoldable pub reason_now : ℕ → ℕ → Reason
  reason_now i k =
      record {
        iteration = s.done + 1;
        confidence = confidence s.n s.t s.faulty s.rows s.lists table i k;
        support = support_for s.n s.t s.faulty s.rows s.lists table i k;
      }

  -- a box that joins gets its reason now; every other reason stays
  unfoldable pub new_reason : ℕ → ℕ → Reason
  new_reason i k = cond (joins_now i k) (reason_now i k) (reason_at s i k)

  -- the state after one iteration
  unfoldable pub next_run : Run
  next_run =
      record {
        n = s.n;
        t = s.t;
        faulty = s.faulty;
        done = s.done + 1;
        sent = s.sent + messages s.n s.t s.faulty s.rows s.lists table;
        rows = build 13 (entry s.n s.faulty new_row);
        lists = build 13 (entry s.n s.faulty new_list);
        reasons = reasons_of new_reason;
      }
