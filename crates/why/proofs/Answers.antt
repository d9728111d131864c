-- The line that says why, by what the reply is; the question that is put to a file; and the reply of the call by
-- whether the line fits. Assumes nothing.
use mathlib.Core.Path.{◌≡◌, refl, sym, ap, ◌∙◌}
use mathlib.Core.Bool.{Bool, true, false}
use mathlib.Core.List.{List, ◌++◌}
use Prim.Native.Nat.{ℕ, ◌≤◌, ◌<◌}
use native.Mathlib.Decide.{ℕ_discrete}
use native.Mathlib.Omega.{arith}
use lib.Dec.{ltb}
use lib.ListN.{length, get_or, take, drop}
use borrow.Author.Tests.{eq-eqb, ne_eqb, lt-ltb, le-ltb, ltb-false}
use Rattle.counting.proofs.Bools.{cond_true, cond_false}
use Rattle.run.specs.declared.Next.{Next}
use Rattle.run.specs.declared.Why.{Why}
use Rattle.run.specs.Iteration.{no_reason}
use Rattle.run.specs.Why.{why_reply}
use Rattle.lines.specs.Line.{line_of, placed}
use Rattle.lines.proofs.Placed.{placed_front}
use Rattle.listing.specs.Listing.{outcome_of}
use Rattle.why.specs.Answer.{
  reason_line,
  not_listed_line,
  refused_line,
  listed_line,
  why_line,
  why_after,
  why_of,
  answer_of,
  answer_reply,
  answer_writes,
}

-- the line of a reply: it is refused, or the box is not listed, or it is
module _ (w : Why) where
  pub line_refused : (w.refusal ≡ 0 → ⊥) → why_line w ≡ refused_line w.refusal
  unfolding why_line
  line_refused d = cond_false _ _ (ne_eqb _ _ d)

  module _ (ok : w.refusal ≡ 0) where
    pub line_not_listed : w.reason.iteration ≡ 0 → why_line w ≡ not_listed_line
    unfolding why_line listed_line
    line_not_listed e = cond_true _ _ (eq-eqb _ _ ok) ∙ cond_true _ _ (eq-eqb _ _ e)

    pub line_listed : (w.reason.iteration ≡ 0 → ⊥) →
        why_line w ≡ reason_line w.reason.iteration w.reason.confidence w.reason.support
    unfolding why_line listed_line
    line_listed d = cond_true _ _ (eq-eqb _ _ ok) ∙ cond_false _ _ (ne_eqb _ _ d)

-- the question put to an outcome: it is refused, or its last state is asked
module _ (last : Next) (asked listed : ℕ) where
  pub after_refused : (last.refusal ≡ 0 → ⊥) →
      record { refusal = last.refusal; run = last.run; reason = no_reason } ≡ why_after last asked listed
  unfolding why_after
  after_refused d = sym (cond_false _ _ (ne_eqb _ _ d))

  pub after_asked : last.refusal ≡ 0 → why_reply last.run asked listed ≡ why_after last asked listed
  unfolding why_after
  after_asked e = sym (cond_true _ _ (eq-eqb _ _ e))

-- the question put to a file, by its outcome
pub why_of_lem : (bytes : List ℕ) (asked listed : ℕ) (last : Next) → last ≡ outcome_of bytes →
    why_after last asked listed ≡ why_of bytes asked listed
unfolding why_of
why_of_lem bytes asked listed last e = ap (λ (r : Next). why_after r asked listed) e

-- the reply of the call
module _ (bytes : List ℕ) (asked listed : ℕ) where
  pub line_of_lem : (w : Why) → w ≡ why_of bytes asked listed → why_line w ≡ answer_of bytes asked listed
  unfolding answer_of
  line_of_lem w e = ap why_line e

  -- the line does not fit
  pub answer_refused : (room : ℕ) → room < length (answer_of bytes asked listed) →
      record { refusal = 10; size = 0; ends = 0 } ≡ answer_reply bytes asked listed room
  unfolding answer_reply
  answer_refused room l = sym (cond_true _ _ (lt-ltb _ _ l))

  pub answer_leaves : (slice : List ℕ) → length slice < length (answer_of bytes asked listed) →
      slice ≡ answer_writes bytes asked listed slice
  unfolding answer_writes
  answer_leaves slice l = sym (cond_true _ _ (lt-ltb _ _ l))

  -- it fits
  pub answer_given : (room size ends : ℕ) → length (answer_of bytes asked listed) ≤ room →
      size ≡ length (answer_of bytes asked listed) → ends ≡ (why_of bytes asked listed).refusal →
      record { refusal = 0; size = size; ends = ends } ≡ answer_reply bytes asked listed room
  unfolding answer_reply
  answer_given room size ends l es ee =
      (λ i. record { refusal = 0; size = es i; ends = ee i }) ∙ sym (cond_false _ _ (le-ltb _ _ l))

  pub answer_written : (slice : List ℕ) → length (answer_of bytes asked listed) ≤ length slice →
      placed slice 0 (answer_of bytes asked listed) ≡ answer_writes bytes asked listed slice
  unfolding answer_writes
  answer_written slice l = sym (cond_false _ _ (le-ltb _ _ l))

  pub answer_copied : (text slice last : List ℕ) → text ≡ answer_of bytes asked listed →
      length (answer_of bytes asked listed) ≤ length slice →
      last ≡ take (length text) text ++ drop (length text) slice → last ≡ answer_writes bytes asked listed slice
  answer_copied text slice last e l w =
      w ∙ placed_front slice text ∙ ap (placed slice 0) e ∙ answer_written slice l

  -- what is written lies within the slice
  pub answer_within : (room : ℕ) → (answer_reply bytes asked listed room).size ≤ room
  unfolding answer_reply
  answer_within room = go (ltb room (length (answer_of bytes asked listed))) refl
    where
      go : (b : Bool) → ltb room (length (answer_of bytes asked listed)) ≡ b →
          (answer_reply bytes asked listed room).size ≤ room
      go true e = rw e (omega arith)
      go false e = rw e (ltb-false _ _ e)

  -- the line is `refused` and a number exactly where that number is not 0: each other line begins with another byte
  pub says_refused : ((why_of bytes asked listed).refusal ≡ 0 → ⊥) →
      answer_of bytes asked listed ≡ refused_line (why_of bytes asked listed).refusal
  unfolding answer_of
  says_refused d = line_refused (why_of bytes asked listed) d

  pub says_other : (why_of bytes asked listed).refusal ≡ 0 → (number : ℕ) →
      answer_of bytes asked listed ≡ refused_line number → ⊥
  unfolding answer_of not_listed_line reason_line refused_line line_of
  says_other e number same = go (ℕ_discrete w.reason.iteration 0)
    where
      w : Why
      w = why_of bytes asked listed

      front : List ℕ → ℕ
      front xs = get_or xs 0 0

      go : Dec (w.reason.iteration ≡ 0) → ⊥
      go (yes z) = absurd (omega (arith, ap front (sym (line_not_listed w e z) ∙ same)))
      go (no d) = absurd (omega (arith, ap front (sym (line_listed w e d) ∙ same)))
