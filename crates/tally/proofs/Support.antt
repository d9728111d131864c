-- What a caller reads from the support in a grade's reply, said of the contract as the toolchain states it: whatever
-- reply meets it has this support. The support is the places of the row found most often. Where some row is not 0
-- that row stands somewhere, so there is at least one; the places are no more than n; and the confidence was made
-- from it. Assumes nothing.
use mathlib.Core.Path.{◌≡◌, sym, ap, ◌∙◌}
use mathlib.Core.List.{List}
use Prim.Native.Nat.{ℕ}
use native.Mathlib.Omega.{arith}
use lib.ListN.{length}
use borrow.Author.Tests.{ne_eqb}
use Rattle.counting.proofs.Bools.{cond_false}
use Rattle.sizes.specs.Sizes.{Sized, size_refusal}
use Rattle.sizes.proofs.Laws.{passes_sized}
use Rattle.tally.specs.declared.Graded.{Graded}
use Rattle.tally.specs.Tally.{support_of, confidence_of}
use Rattle.tally.specs.Reply.{grade_reply, unless}
use Rattle.tally.specs.Support.{SupportSays}
use Rattle.tally.proofs.Laws.{support_le, support_none, confidence_fits}
use Rattle.tally.proofs.Taken.{grade_support, grade_confidence}
use Rattle.tally.proofs.Calls.{GradeCall, grade_call_is}

module _ {rows : List ℕ} {t : ℕ} {r : Graded} (c : GradeCall rows t r) where
  -- its refusal is the one of the sizes
  refusal_is : r.refusal ≡ size_refusal (length rows) t
  unfolding grade_reply
  refusal_is = ap (λ (g : Graded). g.refusal) (grade_call_is c)

  -- a grade that is not refused
  pub support_says : r.refusal ≡ 0 → SupportSays rows t r
  support_says e =
      record {
        nothing_heard = (
          λ z. (support_none rows).0 (sym supports ∙ z),
          λ h. supports ∙ (support_none rows).1 h,
        );
        at_most_n = omega (arith, supports, support_le rows);
        gives = rw (supports, confides) (confidence_fits t rows);
      }
    where
      sized : Sized (length rows) t
      sized = passes_sized (length rows) t (sym refusal_is ∙ e)

      supports : r.support ≡ support_of rows
      supports = ap (λ (g : Graded). g.support) (grade_call_is c) ∙ grade_support rows t sized

      confides : r.confidence ≡ confidence_of t rows
      confides = ap (λ (g : Graded). g.confidence) (grade_call_is c) ∙ grade_confidence rows t sized

  -- and one that is
  pub support_refused : (r.refusal ≡ 0 → ⊥) → r.support ≡ 0
  unfolding grade_reply unless
  support_refused z =
      ap (λ (g : Graded). g.support) (grade_call_is c)
      ∙ cond_false (support_of rows) 0 (ne_eqb (size_refusal (length rows) t) 0 (λ e. z (refusal_is ∙ e)))
