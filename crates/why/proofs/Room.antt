-- How long the line that says why can be. A state that answers has a reason with iteration 5 at most, confidence 1 at
-- most and support 8 at most, since t is 4 at most: one digit each, and 54 bytes in all. `refused` has a number below
-- 100: 11 bytes at most, as `not listed` has. So 64 bytes are always room enough. Assumes nothing.
use mathlib.Core.Path.{◌≡◌, refl, sym, subst}
use mathlib.Core.Bool.{Bool, true, false, cond}
use mathlib.Core.List.{List, [], ◌∷◌, ◌++◌}
use mathlib.Core.Logic.{⊎_elim}
use Prim.Native.Nat.{ℕ, ◌+◌, ◌-◌, ◌*◌, ◌≤◌, ◌<◌, max}
use native.Mathlib.Nat.{le_refl}
use native.Mathlib.Decide.{ℕ_discrete}
use native.Mathlib.Omega.{arith}
use lib.Dec.{eqb, leb, ltb}
use lib.ListN.{length, length-append}
use borrow.Author.Tests.{leb-false, ltb-false, le-ltb}
use Rattle.counting.specs.Count.{sum}
use Rattle.counting.specs.Refuse.{Refusal, first_of}
use Rattle.counting.specs.Refuse.Refusal.{refuse}
use Rattle.counting.proofs.Bools.{either}
use Rattle.sizes.proofs.Laws.{inside_high, tolerated_lt}
use Rattle.tally.specs.Tally.{confidence_at}
use Rattle.run.specs.declared.Next.{Next}
use Rattle.run.specs.declared.Reason.{Reason}
use Rattle.run.specs.declared.Run.{Run}
use Rattle.run.specs.declared.Why.{Why}
use Rattle.run.specs.Iteration.{no_reason, reason_at}
use Rattle.run.specs.State.{listed_by, overdone}
use Rattle.run.specs.Why.{why_refusal, why_reply}
use Rattle.run.proofs.Accepted.{Askable, is_askable, is_number}
use Rattle.run.proofs.Closed.{legal_listing, legal_none}
use Rattle.run.proofs.Listings.{Listing}
use Rattle.runfile.specs.Reply.{heading_tests, heading_refusal}
use Rattle.runfile.proofs.Laws.{heading_number}
use Rattle.lines.specs.Line.{field}
use Rattle.lines.proofs.Decimal.{decimal_most}
use Rattle.lines.proofs.Lines.{line_size}
use Rattle.listing.specs.File.{or_else, table_begins, heading, due}
use Rattle.listing.specs.Listing.{refused_word, ends_with, outcome_of}
use Rattle.listing.proofs.Ends.{ends_is}
use Rattle.listing.proofs.Whole.{outcome_ends}
use Rattle.why.specs.Answer.{
  newline,
  listed_words,
  confidence_words,
  support_words,
  reason_line,
  not_listed_line,
  refused_line,
  why_line,
  why_after,
  why_of,
  answer_of,
  answer_reply,
}
use Rattle.why.proofs.Answers.{line_refused, line_not_listed, line_listed, after_refused, after_asked}

-- refusals: none is above the highest number of its list
highest : List Refusal → ℕ
highest [] = 0
highest (refuse number test ∷ rest) = max number (highest rest)

first_highest : (tests : List Refusal) → first_of tests ≤ highest tests
unfolding first_of highest
first_highest [] = le_refl _
first_highest (refuse number true ∷ rest) = omega arith
first_highest (refuse number false ∷ rest) = omega (arith, first_highest rest)

-- those of the question, and those of a file, by its heading and its length
asking_highest : (s : Run) (asked listed : ℕ) → why_refusal s asked listed ≤ 15
unfolding why_refusal highest
asking_highest s asked listed = first_highest _

either_below : (b : Bool) {x y : ℕ} → x < 100 → y < 100 → cond b x y < 100
either_below true h l = h
either_below false h l = l

heading_below : (bytes : List ℕ) → (heading bytes).refusal < 100
unfolding heading heading_refusal heading_tests highest
heading_below bytes = omega (arith, heading_number bytes 13, first_highest (heading_tests bytes 13))

ends_below : (bytes : List ℕ) → ends_with bytes < 100
unfolding or_else
ends_below bytes =
    let exact = eqb (length bytes) (table_begins (heading bytes).n (due bytes)) in
    let later = either_below exact {x = 0} {y = 8} (omega arith) (omega arith) in
    rw (ends_is bytes) (either_below (eqb (heading bytes).refusal 0) later (heading_below bytes))

-- a support that gives confidence 0 or 1
support_few : (t support : ℕ) → confidence_at t support ≤ 1 → support ≤ 2 * t
unfolding confidence_at
support_few t support h = go (leb (2 * t + 1) support) refl
  where
    go : (b : Bool) → leb (2 * t + 1) support ≡ b → support ≤ 2 * t
    go true e = absurd (omega (arith, rw e at h))
    go false e = omega (arith, leb-false (2 * t + 1) support e)

-- a reason has one digit in each place
record Small (r : Reason) : Type 0 where
  pub iteration : r.iteration ≤ 5
  pub confidence : r.confidence ≤ 1
  pub support : r.support ≤ 8

none_small : Small no_reason
unfolding no_reason
none_small = record { iteration = omega arith; confidence = omega arith; support = omega arith }

-- the reason of a state that answers
module _ (s : Run) (asked listed : ℕ) (ok : why_refusal s asked listed ≡ 0) where
  a : Askable s asked listed
  a = is_askable s asked listed ok

  t_few : s.t ≤ 4
  t_few =
      omega (arith, inside_high s.n a.legal.pass4, tolerated_lt s.n s.t a.legal.pass5)

  done_few : s.done ≤ s.t + 1
  unfolding overdone
  done_few = ltb-false (s.t + 1) s.done a.legal.pass14_done

  listing_small : (r : Reason) → Listing s.t s.done r → Small r
  listing_small r l =
      record {
        iteration = omega (arith, l.is_done, done_few, t_few);
        confidence = l.at_most_1;
        support = omega (arith, support_few s.t r.support (omega (arith, l.fitting, l.at_most_1)), t_few);
      }

  reason_small : Small (reason_at s (asked - 1) (listed - 1))
  reason_small =
      let high = inside_high s.n a.legal.pass4 in
      let li : asked - 1 < 13 = omega (arith, (is_number a.asked_box).0, (is_number a.asked_box).1, high) in
      let lk : listed - 1 < 13 = omega (arith, (is_number a.listed_box).0, (is_number a.listed_box).1, high) in
      ⊎_elim
      (λ t. listing_small _ (legal_listing s a.legal (asked - 1) (listed - 1) li lk t))
      (λ f. subst Small (sym (legal_none s a.legal (asked - 1) (listed - 1) li lk f)) none_small)
      (either (listed_by s (asked - 1) (listed - 1)))

-- the lines
refused_short : (refusal : ℕ) → refusal < 100 → length (refused_line refusal) ≤ 54
unfolding refused_line sum
refused_short refusal h = omega (arith, line_size refused_word (refusal ∷ []), decimal_most 1 refusal (omega arith))

one_digit : (words : List ℕ) (n : ℕ) → n < 10 → length (words ++ field n) ≤ length words + 2
unfolding field
one_digit words n h = omega (arith, length-append words (field n), decimal_most 0 n (omega arith))

reason_short : (r : Reason) → Small r → length (reason_line r.iteration r.confidence r.support) ≤ 54
unfolding reason_line
reason_short r s =
    let first = listed_words ++ field r.iteration in
    let second = confidence_words ++ field r.confidence in
    let third = support_words ++ field r.support in
    omega (
      arith,
      length-append (first ++ second ++ third) newline,
      length-append (first ++ second) third,
      length-append first second,
      one_digit listed_words r.iteration (omega (arith, s.iteration)),
      one_digit confidence_words r.confidence (omega (arith, s.confidence)),
      one_digit support_words r.support (omega (arith, s.support)),
    )

-- the line of a reply whose refusal is below 100, and whose reason is small
why_short : (w : Why) → w.refusal < 100 → (w.refusal ≡ 0 → Small w.reason) → length (why_line w) ≤ 54
unfolding not_listed_line
why_short w low small = go (ℕ_discrete w.refusal 0) (ℕ_discrete w.reason.iteration 0)
  where
    go : Dec (w.refusal ≡ 0) → Dec (w.reason.iteration ≡ 0) → length (why_line w) ≤ 54
    go (no d) _ = rw (line_refused w d) (refused_short w.refusal low)
    go (yes e) (yes z) = rw (line_not_listed w e z) (omega arith)
    go (yes e) (no d) = rw (line_listed w e d) (reason_short w.reason (small e))

-- the reply of a state is such a one, and so is that of a file
abbrev Plain : Why → Type 0
Plain w = (w.refusal < 100) × (w.refusal ≡ 0 → Small w.reason)

reply_plain : (s : Run) (asked listed : ℕ) → Plain (why_reply s asked listed)
unfolding why_reply
reply_plain s asked listed = (
  omega (arith, asking_highest s asked listed),
  λ ok. rw ok (reason_small s asked listed ok),
)

of_plain : (bytes : List ℕ) (asked listed : ℕ) → Plain (why_of bytes asked listed)
unfolding why_of
of_plain bytes asked listed = go (ℕ_discrete last.refusal 0)
  where
    last : Next
    last = outcome_of bytes

    go : Dec (last.refusal ≡ 0) → Plain (why_after last asked listed)
    go (yes e) = subst Plain (after_asked last asked listed e) (reply_plain last.run asked listed)
    go (no d) =
        subst Plain (after_refused last asked listed d)
        (omega (arith, outcome_ends bytes, ends_below bytes), λ z. absurd (d z))

-- no line is longer
pub answer_most : (bytes : List ℕ) (asked listed : ℕ) → length (answer_of bytes asked listed) ≤ 54
unfolding answer_of
answer_most bytes asked listed =
    let p = of_plain bytes asked listed in
    why_short (why_of bytes asked listed) p.0 p.1

-- so a slice with 64 bytes is always enough, and takes the whole line
module _ (bytes : List ℕ) (asked listed room : ℕ) (h : 64 ≤ room) where
  enough : ltb room (length (answer_of bytes asked listed)) ≡ false
  enough = le-ltb room (length (answer_of bytes asked listed)) (omega (arith, answer_most bytes asked listed))

  pub answer_fits : (answer_reply bytes asked listed room).refusal ≡ 0
  unfolding answer_reply
  answer_fits = rw enough refl

  pub answer_whole : (answer_reply bytes asked listed room).size ≡ length (answer_of bytes asked listed)
  unfolding answer_reply
  answer_whole = rw enough refl
