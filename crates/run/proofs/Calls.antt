-- A run made of calls: the contracts of `start`, `iterate` and `why`, as the toolchain states them, of one reply after
-- another. Each reply is then the one that the definitions give, so that what is proved of those holds of every run
-- that is made by calls. A contract that said less of its reply would not do. And there are such runs: what the
-- definitions give is one. Assumes nothing.
use mathlib.Core.Path.{◌≡◌, refl, sym, ap, ◌∙◌}
use mathlib.Core.Bool.{Bool, true, false, cond}
use mathlib.Core.List.{List, []}
use Prim.Native.Nat.{ℕ, zero, suc, ◌+◌, ◌≤◌, ◌<◌}
use native.Mathlib.Nat.{not-suc-le-zero}
use native.Mathlib.Omega.{arith}
use lib.ListN.{length, get_or}
use Rattle.tally.proofs.Calls.{lent}
use lib.Dec.{eqb}
use Rattle.sizes.specs.Sizes.{table_rows, Startable}
use Rattle.gradecast.specs.Fair.{SoundBox}
use Rattle.gradecast.specs.Lies.{SameLies}
use Rattle.run.specs.declared.Run.{Run}
use Rattle.run.specs.declared.Next.{Next}
use Rattle.run.specs.declared.Why.{Why}
use Rattle.run.specs.State.{start_refusal, start_run, start_reply, zeros, iterate_reply, after}
use Rattle.run.specs.Why.{why_reply}
use Rattle.run.proofs.Blind.{start_blind, after_blind}
use Rattle.run.proofs.Course.{never_refused}
use Rattle.run.proofs.start.Reads as StartReads
use Rattle.run.proofs.Run.iterate.Reads as IterateReads
use Rattle.run.proofs.Run.why.Reads as WhyReads

-- r is a reply of `start` to n, t, the faulty set and these rows: a call whose reply meets the contract
pub data StartCall : ℕ → ℕ → ℕ → List ℕ → Next → Type 1 where
  call : (κs : _) (a : _) (r : _) (x : _) → StartReads.Post κs a r x →
      StartCall a.0 a.1.0 a.1.1.0 a.1.1.1.0.now r

-- r is a reply of `iterate` to this state and this table
pub data IterateCall : Run → List ℕ → Next → Type 1 where
  call : (κs : _) (a : _) (r : _) (x : _) → IterateReads.Post κs a r x → IterateCall a.0 a.1.0.now r

-- r is a reply of `why` to this state and these two box numbers
pub data WhyCall : Run → ℕ → ℕ → Why → Type 1 where
  call : (κs : _) (a : _) (r : _) (x : _) → WhyReads.Post κs a r x → WhyCall a.0 a.1.0 a.1.1.0 r

pub start_call_is : {n t faulty : ℕ} {rows : List ℕ} {r : Next} → StartCall n t faulty rows r →
    r ≡ start_reply n t faulty rows
start_call_is (StartCall.call κs a r x p) = p

pub iterate_call_is : {s : Run} {table : List ℕ} {r : Next} → IterateCall s table r → r ≡ iterate_reply s table
iterate_call_is (IterateCall.call κs a r x p) = p

pub why_call_is : {s : Run} {asked listed : ℕ} {r : Why} → WhyCall s asked listed r → r ≡ why_reply s asked listed
why_call_is (WhyCall.call κs a r x p) = p

-- a start, and then so many iterations, each on the state before it and its own table
pub record Calls (n t faulty : ℕ) (rows : List ℕ) (tables : ℕ → List ℕ) (last : ℕ) (reply : ℕ → Next) : Type 1 where
  pub started : StartCall n t faulty rows (reply 0)
  pub iterated : (m : ℕ) → m < last → IterateCall (reply m).run (tables m) (reply (suc m))

-- their replies are those of the definitions
pub calls_are : {n t faulty : ℕ} {rows : List ℕ} {tables : ℕ → List ℕ} {last : ℕ} {reply : ℕ → Next} →
    Calls n t faulty rows tables last reply → (m : ℕ) → m ≤ last →
    reply m ≡ after (start_reply n t faulty rows) tables m
unfolding after
calls_are c zero l = start_call_is c.started
calls_are {tables = tables} c (suc m) l =
    iterate_call_is (c.iterated m l)
    ∙ ap (λ (r : Next). iterate_reply r.run (tables m)) (calls_are c m (omega arith))

-- the state of a start has n and the faulty set that it was given, or 0 boxes, of which nothing is read
started_lies : (n t faulty : ℕ) (rows a b : List ℕ) → SameLies n faulty a b →
    SameLies (start_reply n t faulty rows).run.n (start_reply n t faulty rows).run.faulty a b
unfolding start_reply start_run zeros
started_lies n t faulty rows a b same = go (eqb (start_refusal n t faulty rows) 0)
  where
    go : (c : Bool) →
        SameLies (cond c (start_run n t faulty rows) zeros).n (cond c (start_run n t faulty rows) zeros).faulty a b
    go true = same
    go false =
        record {
          step1 = λ sender receiver l. absurd (not-suc-le-zero l);
          step2 = λ sender receiver leader l. absurd (not-suc-le-zero l);
          step3 = λ sender receiver leader l. absurd (not-suc-le-zero l);
        }

-- starts whose rows differ in faulty boxes' places alone have one reply
pub calls_start_blind : {n t faulty : ℕ} {a b : List ℕ} {p q : Next} → StartCall n t faulty a p →
    StartCall n t faulty b q → length a ≡ length b → ((k : ℕ) → SoundBox n faulty k → get_or a k 0 ≡ get_or b k 0) →
    p ≡ q
calls_start_blind {n} {t} {faulty} {a} {b} p q whole same =
    start_call_is p ∙ start_blind n t faulty a b whole same ∙ sym (start_call_is q)

-- runs whose tables differ in sound senders' places alone have the same replies
pub calls_blind : {n t faulty : ℕ} {rows : List ℕ} {a b : ℕ → List ℕ} {last : ℕ} {p q : ℕ → Next} →
    Calls n t faulty rows a last p → Calls n t faulty rows b last q →
    ((j : ℕ) → j < last → SameLies n faulty (a j) (b j) × (length (a j) ≡ length (b j))) →
    (m : ℕ) → m ≤ last → p m ≡ q m
calls_blind {n} {t} {faulty} {rows} {a} {b} c d h m l =
    calls_are c m l
    ∙ after_blind (start_reply n t faulty rows) a b m
    (λ j k. (started_lies n t faulty rows _ _ (h j (omega (arith, k, l))).0, (h j (omega (arith, k, l))).1))
    ∙ sym (calls_are d m l)

-- with a start that is taken and tables of the right length no call is refused, whoever is faulty and whatever is sent
pub calls_taken : {n t faulty : ℕ} {rows : List ℕ} {tables : ℕ → List ℕ} {last : ℕ} {reply : ℕ → Next} →
    Calls n t faulty rows tables last reply → last ≤ t + 1 → Startable n t faulty rows →
    ((m : ℕ) → m < last → length (tables m) ≡ table_rows n) → (m : ℕ) → m ≤ last → (reply m).refusal ≡ 0
calls_taken {n} {t} {faulty} {rows} {tables} {last} c most starts sized m l =
    ap (λ (r : Next). r.refusal) (calls_are c m l)
    ∙ never_refused n t faulty rows tables last most starts sized m l

-- there are such calls, with every argument: what the definitions give meets the contracts
start_call : (n t faulty : ℕ) (rows : List ℕ) → StartCall n t faulty rows (start_reply n t faulty rows)
start_call n t faulty rows =
    StartCall.call ([], tt) (n, (t, (faulty, (lent rows, tt)))) (start_reply n t faulty rows)
    (n, (t, (faulty, (lent rows, tt)))) refl

iterate_call : (s : Run) (table : List ℕ) → IterateCall s table (iterate_reply s table)
iterate_call s table =
    IterateCall.call ([], tt) (s, (lent table, tt)) (iterate_reply s table) (s, (lent table, tt)) refl

pub why_call : (s : Run) (asked listed : ℕ) → WhyCall s asked listed (why_reply s asked listed)
why_call s asked listed =
    WhyCall.call tt (s, (asked, (listed, tt))) (why_reply s asked listed) (s, (asked, (listed, tt))) refl

pub calls_exist : (n t faulty : ℕ) (rows : List ℕ) (tables : ℕ → List ℕ) (last : ℕ) →
    Calls n t faulty rows tables last (after (start_reply n t faulty rows) tables)
unfolding after
calls_exist n t faulty rows tables last =
    record {
      started = start_call n t faulty rows;
      iterated = λ m l. iterate_call (after (start_reply n t faulty rows) tables m).run (tables m);
    }
