-- What the private functions say of their parts of the work: what step 5 is given, which is what every sound box found
-- in step 4, each part in 169 places; what is kept of the boxes that join; and parts of the lists of refusals. No
-- promise of the crate names any of it.
use Rattle.std.specs.Prelude.{
  ◌≡◌,
  Bool,
  true,
  false,
  cond,
  not,
  ◌&&◌,
  ◌||◌,
  List,
  [],
  ◌∷◌,
  ℕ,
  ◌+◌,
  ◌*◌,
  ◌/◌,
  ◌%◌,
  ◌≤◌,
  ◌<◌,
  eqb,
  ltb,
  length,
  get_or,
  take,
  drop,
}
use Rattle.counting.specs.Count.{any, build, front}
use Rattle.counting.specs.Refuse.{first_of}
use Rattle.counting.specs.Refuse.Refusal.{refuse}
use Rattle.counting.specs.Sets.{member, set_of}
use Rattle.sizes.specs.Sizes.{outside, too_many, stray, sound_zero}
use Rattle.tally.specs.Reply.{choice_reply}
use Rattle.gradecast.specs.Steps.{grade_row, confidence, support_for}
use Rattle.gradecast.specs.Cast.{of_sound, cells}
use Rattle.gradecast.specs.declared.Cast.{Cast}
use Rattle.run.specs.declared.Joining.{Joining}
use Rattle.run.specs.declared.Reason.{Reason}
use Rattle.run.specs.declared.Reasons.{Reasons}
use Rattle.run.specs.declared.Run.{Run}
use Rattle.run.specs.Iteration.{entry, joined, reason_in}
use Rattle.run.specs.State.{bad_reason, bad_state, overdone}
use Rattle.run.specs.Why.{not_asked, no_box}

-- rows, confidences and supports are what the sound boxes found with this table
pub record GradesOf (s : Run) (table rows confidences supports : List ℕ) : Type 0 where
  pub found_rows : rows ≡ cells s.n
      (of_sound s.faulty (grade_row s.n s.t s.faulty s.rows s.lists table))
  pub found_confidences :
      confidences ≡ cells s.n
      (of_sound s.faulty (confidence s.n s.t s.faulty s.rows s.lists table))
  pub found_supports :
      supports ≡ cells s.n
      (of_sound s.faulty (support_for s.n s.t s.faulty s.rows s.lists table))

-- what box i found for leader k, of n
unfoldable pub cell_of : ℕ → List ℕ → ℕ → ℕ → ℕ
cell_of n cells i k = get_or cells (i * n + k) 0

-- what box i found, one of n parts of the places
abbrev pub part : ℕ → List ℕ → ℕ → List ℕ
part n cells i = take n (drop (i * n) cells)

-- the new row of a box, from the rows and the confidences that it found
unfoldable pub row_from : ℕ → List ℕ → List ℕ → ℕ
row_from old rows confidences =
    let chosen = (choice_reply rows confidences).row in
    cond (eqb chosen 0) old chosen

-- the new list of a box, from the confidences that it found
unfoldable pub list_from : ℕ → List ℕ → ℕ
list_from old confidences = set_of (length confidences) (λ k. member old k || ltb (get_or confidences k 0) 2)

-- the rows and the lists after an iteration, from the reply of steps 1 to 4
abbrev pub rows_from : Run → Cast → List ℕ
rows_from s cast =
    build 13
    (entry s.n s.faulty
    (λ i. row_from (get_or s.rows i 0) (part s.n cast.rows i) (part s.n cast.confidences i)))

abbrev pub lists_from : Run → Cast → List ℕ
lists_from s cast =
    build 13 (entry s.n s.faulty (λ i. list_from (get_or s.lists i 0) (part s.n cast.confidences i)))

-- box k is listed, with a bad reason
unfoldable pub bad_listing : ℕ → ℕ → ℕ → (ℕ → Reason) → ℕ → Bool
bad_listing t done list why k = member list k && bad_reason t done true (why k)

-- some box on the list of box i is listed with a bad reason
abbrev pub bad_box : ℕ → ℕ → ℕ → Reasons → ℕ → Bool
bad_box t done list reasons i = any 13 (bad_listing t done list (λ k. reason_in reasons (13 * i + k)))

-- box k joins the list of box i
unfoldable pub joins_in : Joining → ℕ → ℕ → Bool
joins_in j i k = joined (get_or j.old i 0) (get_or j.new i 0) k

-- one part of the reasons, which was `first`, with what is found now in the places of those that join, of which the
-- first q are looked at
unfoldable pub kept_to : ℕ → Joining → (ℕ → ℕ → ℕ) → List ℕ → List ℕ
kept_to q j found first =
    front q (λ p. cond (joins_in j (p / 13) (p % 13)) (found (p / 13) (p % 13)) (get_or first p 0)) first

-- each part of the reasons has 169 places
pub record AllPlaces (reasons : Reasons) : Type 0 where
  pub all_iterations : length reasons.iterations ≡ 169
  pub all_confidences : length reasons.confidences ≡ 169
  pub all_supports : length reasons.supports ≡ 169

-- all reasons after an iteration
unfoldable pub kept_reasons : Joining → List ℕ → List ℕ → Reasons → Reasons
kept_reasons j confidences supports reasons =
    record {
      iterations = kept_to 169 j (λ i k. j.iteration) reasons.iterations;
      confidences = kept_to 169 j (cell_of j.n confidences) reasons.confidences;
      supports = kept_to 169 j (cell_of j.n supports) reasons.supports;
    }

-- what the lists before and after an iteration have to do with the confidences: none but the n boxes joins or is
-- joined, and where a list has changed, those joined that have confidence 0 or 1 and were not on it
pub record Keeping (j : Joining) (confidences : List ℕ) : Type 0 where
  pub high : j.n ≤ 13
  pub within : (i k : ℕ) → j.n ≤ k → joins_in j i k ≡ false
  pub beyond : (i k : ℕ) → j.n ≤ i → joins_in j i k ≡ false
  pub by_confidence : (i k : ℕ) → i < j.n → k < j.n → (get_or j.old i 0 ≡ get_or j.new i 0 → ⊥) →
      joins_in j i k ≡ (not (member (get_or j.old i 0) k) && ltb (cell_of j.n confidences i k) 2)

-- the part that was looked at up to box i is looked at up to the next
pub record BoxKept (j : Joining) (i : ℕ) (found : ℕ → ℕ → ℕ) (before after : List ℕ) : Type 0 where
  pub long : length after ≡ length before
  pub kept : (first : List ℕ) → length first ≡ 169 → before ≡ kept_to (13 * i) j found first →
      after ≡ kept_to (13 * i + 13) j found first

-- refusals 4, 5 and 6, of n, t and the faulty set
unfoldable pub setting_refusal : ℕ → ℕ → ℕ → ℕ
setting_refusal n t faulty =
    first_of (refuse 4 (outside n) ∷ refuse 5 (too_many n t) ∷ refuse 6 (stray n faulty) ∷ [])

-- refusals 4, 5, 6 and 9, of a state
unfoldable pub first_refusal : Run → ℕ
first_refusal s =
    first_of
    (refuse 4 (outside s.n) ∷
    refuse 5 (too_many s.n s.t) ∷
    refuse 6 (stray s.n s.faulty) ∷
    refuse 9 (sound_zero s.n s.faulty s.rows) ∷
    [])

-- refusals 12 and 14, of a state that has passed the tests before them
unfoldable pub late_refusal : Run → ℕ
late_refusal s = first_of (refuse 12 (ltb s.t s.done) ∷ refuse 14 (bad_state s) ∷ [])

-- refusals 14 and 15 of the call that says why, of a state that has passed the tests before them
unfoldable pub asking_refusal : Run → ℕ → ℕ → ℕ
asking_refusal s asked listed =
    first_of (refuse 14 (overdone s || bad_state s) ∷ refuse 15 (not_asked s asked || no_box s.n listed) ∷ [])
