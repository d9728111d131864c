-- Five worthless builds, each as the reply that it would give. None of them meets the contracts, and two of them break
-- demand 3 besides. Boxes count from 0.
use Rattle.std.specs.Prelude.{ℕ, zero, suc, ◌+◌, cond, List, [], ◌∷◌, eqb}
use Rattle.counting.specs.Count.{build}
use Rattle.gradecast.specs.Lies.{silent}
use Rattle.run.specs.declared.Run.{Run}
use Rattle.run.specs.declared.Next.{Next}
use Rattle.run.specs.Iteration.{entry}
use Rattle.run.specs.State.{start_reply, iterate_reply}

-- one that refuses everything, by any number: a start with a state of zeros, an iteration with the state as it came
abbrev pub refusing : ℕ → Run → Next
refusing number s = record { refusal = number; run = s }

-- a reply with another number of messages and other rows
abbrev pub altered : Next → ℕ → List ℕ → Next
altered r sent rows =
    record {
      refusal = r.refusal;
      run =
          record {
            n = r.run.n;
            t = r.run.t;
            faulty = r.run.faulty;
            done = r.run.done;
            sent = sent;
            rows = rows;
            lists = r.run.lists;
            reasons = r.run.reasons;
          };
    }

-- one that yields a fixed row: the right reply, but every sound box holds v
unfoldable pub fixed_row : ℕ → Run → List ℕ → Next
fixed_row v s table =
    let r = iterate_reply s table in
    altered r r.run.sent (build 13 (entry r.run.n r.run.faulty (λ i. v)))

-- one that hands the state straight back
abbrev pub handed_back : Run → List ℕ → Next
handed_back s table = record { refusal = 0; run = s }

-- only the number of iterations is raised
abbrev pub raised : Run → Next
raised s =
    record {
      refusal = 0;
      run =
          record {
            n = s.n;
            t = s.t;
            faulty = s.faulty;
            done = s.done + 1;
            sent = s.sent;
            rows = s.rows;
            lists = s.lists;
            reasons = s.reasons;
          };
    }

-- one that works in the first iteration and afterwards only raises the counter
unfoldable pub first_only : Run → List ℕ → Next
first_only s table = cond (eqb s.done 0) (iterate_reply s table) (raised s)

-- one whose message number is invented: made up from n, t and the faulty set, whatever is sent
unfoldable pub invented : (ℕ → ℕ → ℕ → ℕ) → Run → List ℕ → Next
invented number s table =
    let r = iterate_reply s table in
    altered r (s.sent + number s.n s.t s.faulty) r.run.rows

-- the replies of a run in which such a build makes the iterations: n = 4, t = 1, box 4 faulty
unfoldable pub run_by : (Run → List ℕ → Next) → List ℕ → (ℕ → List ℕ) → ℕ → Next
run_by iteration rows tables zero = start_reply 4 1 8 rows
run_by iteration rows tables (suc m) = iteration (run_by iteration rows tables m).run (tables m)

-- three sound boxes that start with one row
abbrev pub common : ℕ → List ℕ
common row = row ∷ row ∷ row ∷ 0 ∷ []

-- a faulty box that says nothing
abbrev pub quietly : ℕ → List ℕ
quietly m = silent 4

-- the votes that are marked for n = 4 and t = 1: these rows give 6, and the others 0
abbrev pub votes6 : List ℕ
votes6 = 6 ∷ 6 ∷ 0 ∷ 6 ∷ []

abbrev pub votes0 : List ℕ
votes0 = 6 ∷ 6 ∷ 0 ∷ 0 ∷ []
