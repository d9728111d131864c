-- What is said of calls: of every reply of `answer`, with the last contents of the slice, that meets the contract as
-- the toolchain states it. Assumes nothing.
use mathlib.Core.Path.{◌≡◌, refl, sym, ap, ap₂, ◌∙◌}
use mathlib.Core.Bool.{cond}
use mathlib.Core.List.{List, []}
use Prim.Native.Nat.{ℕ, ◌≤◌}
use native.Mathlib.Omega.{arith}
use lib.ListN.{length, take}
use Rattle.tally.proofs.Calls.{lent, lent_mut}
use Rattle.lines.proofs.Placed.{placed_found}
use Rattle.listing.specs.File.{or_else}
use Rattle.listing.specs.Listing.{ends_with}
use Rattle.why.specs.declared.Answered.{Answered}
use Rattle.why.specs.Answer.{refused_line, why_of, answer_of, answer_reply, answer_writes}
use Rattle.why.proofs.Answers.{answer_given, answer_written, says_refused, says_other}
use Rattle.why.proofs.Refused.{no_question, refused_by}
use Rattle.why.proofs.Room.{answer_most}
use Rattle.why.proofs.answer.Reads as AnswerReads

-- r is a reply of `answer` to a file of these bytes, two numbers and a slice, which holds last after the call
pub data AnswerCall : List ℕ → ℕ → ℕ → List ℕ → Answered → List ℕ → Type 1 where
  call : (κs : _) (a : _) (r : _) (x : _) → AnswerReads.Post κs a r x →
      AnswerCall a.0.now a.1.0 a.1.1.0 a.1.1.1.0.now r x.1.1.1.0.now

pub answer_call_is : {bytes slice last : List ℕ} {asked listed : ℕ} {r : Answered} →
    AnswerCall bytes asked listed slice r last →
    (r ≡ answer_reply bytes asked listed (length slice)) × (last ≡ answer_writes bytes asked listed slice)
answer_call_is (AnswerCall.call κs a r x p) = p

-- there is one for every file, all numbers and every slice
pub answer_call : (bytes : List ℕ) (asked listed : ℕ) (slice : List ℕ) →
    AnswerCall bytes asked listed slice (answer_reply bytes asked listed (length slice))
    (answer_writes bytes asked listed slice)
answer_call bytes asked listed slice =
    AnswerCall.call ([], ([], tt)) (lent bytes, (asked, (listed, (lent_mut slice, tt))))
    (answer_reply bytes asked listed (length slice))
    (lent bytes, (asked, (listed, (lent_mut (answer_writes bytes asked listed slice), tt)))) (refl, refl)

-- a call with 64 bytes of room is not refused, and what it wrote is the line
module _ {bytes slice last : List ℕ} {asked listed : ℕ} {r : Answered} (roomy : 64 ≤ length slice)
    (c : AnswerCall bytes asked listed slice r last) where
  fits : length (answer_of bytes asked listed) ≤ length slice
  fits = omega (arith, answer_most bytes asked listed)

  given : r
      ≡ record {
        refusal = 0;
        size = length (answer_of bytes asked listed);
        ends = (why_of bytes asked listed).refusal;
      }
  given = (answer_call_is c).0 ∙ sym (answer_given bytes asked listed (length slice) _ _ fits refl refl)

  pub answer_taken : r.refusal ≡ 0
  answer_taken = ap (λ (q : Answered). q.refusal) given

  pub answer_wrote : take r.size last ≡ answer_of bytes asked listed
  answer_wrote =
      ap₂ (λ (q : Answered) (xs : List ℕ). take q.size xs) given
      ((answer_call_is c).1 ∙ sym (answer_written bytes asked listed slice fits))
      ∙ placed_found slice (answer_of bytes asked listed)

  -- the number behind `refused`: the one with which the file's listing ends, else 15 where there is no such question
  pub answer_ends : r.ends ≡ or_else (ends_with bytes) (cond (no_question bytes asked listed) 15 0)
  answer_ends = ap (λ (q : Answered). q.ends) given ∙ refused_by bytes asked listed

  -- the line is `refused` and a number exactly where that number is not 0
  pub wrote_refused : (r.ends ≡ 0 → ⊥) → take r.size last ≡ refused_line r.ends
  wrote_refused d =
      let ends = ap (λ (q : Answered). q.ends) given in
      answer_wrote
      ∙ says_refused bytes asked listed (λ z. d (ends ∙ z))
      ∙ ap refused_line (sym ends)

  pub wrote_other : r.ends ≡ 0 → (number : ℕ) → take r.size last ≡ refused_line number → ⊥
  wrote_other e number same =
      says_other bytes asked listed (sym (ap (λ (q : Answered). q.ends) given) ∙ e) number (sym answer_wrote ∙ same)
