-- The start, the iteration with its refusals, and a run of several tables.
use Rattle.std.specs.Prelude.{
  ℕ,
  zero,
  suc,
  ◌+◌,
  ◌*◌,
  Bool,
  cond,
  not,
  ◌&&◌,
  ◌||◌,
  List,
  [],
  ◌∷◌,
  eqb,
  ltb,
  length,
  get_or,
  replicate,
}
use Rattle.counting.specs.Count.{any, build}
use Rattle.counting.specs.Refuse.{first_of}
use Rattle.counting.specs.Refuse.Refusal.{refuse}
use Rattle.sizes.specs.Sizes.{outside, too_many, stray, sound, sound_zero, table_rows}
use Rattle.counting.specs.Sets.{member}
use Rattle.tally.specs.Tally.{confidence_at}
use Rattle.gradecast.specs.Steps.{message_limit}
use Rattle.run.specs.declared.Reason.{Reason}
use Rattle.run.specs.declared.Reasons.{Reasons}
use Rattle.run.specs.declared.Run.{Run}
use Rattle.run.specs.declared.Next.{Next}
use Rattle.run.specs.Iteration.{entry, reason_at, next_run}

-- the places of a start that hold a row: sound boxes below n
unfoldable pub start_row : ℕ → ℕ → List ℕ → ℕ → ℕ
start_row n faulty rows = entry n faulty (λ k. get_or rows k 0)

-- no reasons are kept
unfoldable pub no_reasons : Reasons
no_reasons = record { iterations = replicate 169 0; confidences = replicate 169 0; supports = replicate 169 0 }

-- a state of zeros
unfoldable pub zeros : Run
zeros =
    record {
      n = 0;
      t = 0;
      faulty = 0;
      done = 0;
      sent = 0;
      rows = replicate 13 0;
      lists = replicate 13 0;
      reasons = no_reasons;
    }

-- the refusals of a start: 4, 5, 6, 11, 9
unfoldable pub start_refusal : ℕ → ℕ → ℕ → List ℕ → ℕ
start_refusal n t faulty rows =
    first_of
    (refuse 4 (outside n) ∷
    refuse 5 (too_many n t) ∷
    refuse 6 (stray n faulty) ∷
    refuse 11 (not (eqb (length rows) n)) ∷
    refuse 9 (sound_zero n faulty rows) ∷
    [])

-- the state at the start: rows of faulty boxes stand as 0, lists are empty, and no reasons are kept
unfoldable pub start_run : ℕ → ℕ → ℕ → List ℕ → Run
start_run n t faulty rows =
    record {
      n = n;
      t = t;
      faulty = faulty;
      done = 0;
      sent = 0;
      rows = build 13 (start_row n faulty rows);
      lists = replicate 13 0;
      reasons = no_reasons;
    }

-- a refused start gives a state of zeros
unfoldable pub start_reply : ℕ → ℕ → ℕ → List ℕ → Next
start_reply n t faulty rows =
    record {
      refusal = start_refusal n t faulty rows;
      run = cond (eqb (start_refusal n t faulty rows) 0) (start_run n t faulty rows) zeros;
    }

-- refusal 14: a non-zero row or list in a faulty or unused place, or a list bit at place n or above
unfoldable pub bad_entry : ℕ → ℕ → ℕ → ℕ → ℕ → Bool
bad_entry n faulty k row list = cond (ltb k n && sound faulty k) (stray n list) (not (eqb row 0) || not (eqb list 0))

-- refusal 14 at place k of a state
unfoldable pub bad_place : Run → ℕ → Bool
bad_place s k = bad_entry s.n s.faulty k (get_or s.rows k 0) (get_or s.lists k 0)

-- refusal 14: more messages than iterations done times the limit for one iteration
unfoldable pub too_many_sent : Run → Bool
too_many_sent s = ltb (s.done * message_limit s.n) s.sent

-- is box k on the list of box i?
unfoldable pub listed_by : Run → ℕ → ℕ → Bool
listed_by s i k = member (get_or s.lists i 0) k

-- anything is kept
unfoldable pub kept : Reason → Bool
kept r = not (eqb r.iteration 0) || not (eqb r.confidence 0) || not (eqb r.support 0)

-- refusal 14: a listing without its iteration
unfoldable pub without_iteration : Bool → Reason → Bool
without_iteration listed r = listed && eqb r.iteration 0

-- refusal 14: anything kept without a listing
unfoldable pub unlisted : Bool → Reason → Bool
unlisted listed r = not listed && kept r

-- refusal 14: an iteration not yet done
unfoldable pub not_yet_done : ℕ → Reason → Bool
not_yet_done done r = ltb done r.iteration

-- refusal 14: a confidence above 1
unfoldable pub confidence_above1 : Reason → Bool
confidence_above1 r = ltb 1 r.confidence

-- refusal 14: a support that does not fit the confidence. 0 takes at most t, 1 more than t and less than 2t + 1; what
-- fits 2 does not matter, for that is above 1
unfoldable pub unfit : ℕ → Reason → Bool
unfit t r = not (eqb (confidence_at t r.support) r.confidence)

-- refusal 14 of a reason
unfoldable pub bad_reason : ℕ → ℕ → Bool → Reason → Bool
bad_reason t done listed r =
    without_iteration listed r || unlisted listed r || not_yet_done done r || confidence_above1 r || unfit t r

-- refusal 14 of the reasons of box i
unfoldable pub bad_reasons : Run → ℕ → Bool
bad_reasons s i = any 13 (λ k. bad_reason s.t s.done (listed_by s i k) (reason_at s i k))

-- refusal 14 of a state
unfoldable pub bad_state : Run → Bool
bad_state s = any 13 (bad_place s) || too_many_sent s || any 13 (bad_reasons s)

-- refusal 14 of a state, for every call but the iteration: more iterations are done than may be run
unfoldable pub overdone : Run → Bool
overdone s = ltb (s.t + 1) s.done

-- the refusals of an iteration: 4, 5, 6, 9, 11, 12, 14
unfoldable pub iterate_refusal : Run → List ℕ → ℕ
iterate_refusal s table =
    first_of
    (refuse 4 (outside s.n) ∷
    refuse 5 (too_many s.n s.t) ∷
    refuse 6 (stray s.n s.faulty) ∷
    refuse 9 (sound_zero s.n s.faulty s.rows) ∷
    refuse 11 (not (eqb (length table) (table_rows s.n))) ∷
    refuse 12 (ltb s.t s.done) ∷
    refuse 14 (bad_state s) ∷
    [])

-- a refused iteration returns the state as it came
unfoldable pub iterate_reply : Run → List ℕ → Next
iterate_reply s table =
    record {
      refusal = iterate_refusal s table;
      run = cond (eqb (iterate_refusal s table) 0) (next_run s table) s;
    }

-- a run of several tables: the reply after the first m of them
unfoldable pub after : Next → (ℕ → List ℕ) → ℕ → Next
after first tables zero = first
after first tables (suc m) = iterate_reply (after first tables m).run (tables m)
