-- By what the line is `refused`: by the number with which the listing of the file ends, and else by 15, where a number
-- is no box or the box that is asked is faulty. For a file that is taken ends in a legal state, of n, t and the faulty
-- set of its heading, with no more than t + 1 iterations done; so nothing else is refused. Assumes nothing.
use mathlib.Core.Path.{◌≡◌, refl, sym, ap, ap₂, subst, ◌∙◌}
use mathlib.Core.Bool.{Bool, cond, ◌||◌}
use mathlib.Core.List.{List}
use Prim.Native.Nat.{ℕ, ◌+◌, ◌-◌}
use native.Mathlib.Nat.{le_refl}
use native.Mathlib.Decide.{ℕ_discrete}
use borrow.Author.Tests.{eq-eqb}
use Rattle.counting.specs.Refuse.{first_of}
use Rattle.counting.specs.Sets.{member}
use Rattle.counting.proofs.Bools.{cond_true}
use Rattle.counting.proofs.Build.{length_build}
use Rattle.sizes.specs.Sizes.{table_rows}
use Rattle.run.specs.declared.Run.{Run}
use Rattle.run.specs.declared.Why.{Why}
use Rattle.run.specs.Legal.{Legal}
use Rattle.run.specs.Why.{no_box, not_asked, why_refusal, why_reply}
use Rattle.run.proofs.Accepted.{good_state}
use Rattle.run.proofs.Course.{Reached, reached}
use Rattle.runfile.specs.File.{table_row}
use Rattle.listing.specs.File.{
  or_else,
  bytes_of,
  table_of,
  heading,
  rows_of,
  reply_after,
  state_after,
  refused_at,
  due,
}
use Rattle.listing.specs.Listing.{ended_by, done_of, ends_with, outcome_of}
use Rattle.listing.proofs.Ends.{taken_exact}
use Rattle.listing.proofs.Heading.{first_refused, first_passed, heading_starts}
use Rattle.listing.proofs.Iterations.{passed_most}
use Rattle.listing.proofs.Whole.{outcome_ends}
use Rattle.why.specs.Answer.{why_of}
use Rattle.why.proofs.Answers.{after_refused, after_asked}

-- one of the numbers is no box of the file, or the box that is asked is faulty
abbrev pub no_question : List ℕ → ℕ → ℕ → Bool
no_question bytes asked listed =
    let h = heading bytes in
    no_box h.n asked || member h.faulty (asked - 1) || no_box h.n listed

-- a legal state is refused by 15 alone
by_15 : (s : Run) (asked listed : ℕ) → Legal s →
    why_refusal s asked listed ≡ cond (not_asked s asked || no_box s.n listed) 15 0
unfolding why_refusal first_of
by_15 s asked listed l = rw (l.pass4, l.pass5, l.pass6, l.pass9, l.pass14_done, good_state s l) refl

module _ (bytes : List ℕ) where
  -- a file that is taken
  module _ (taken : ends_with bytes ≡ 0) where
    last_run : (outcome_of bytes).run ≡ state_after bytes (done_of bytes)
    unfolding outcome_of ended_by
    last_run = cond_true _ _ (eq-eqb _ 0 taken)

    arrived : let h = heading bytes in Reached h.n h.t h.faulty (done_of bytes) (outcome_of bytes).run
    unfolding state_after reply_after table_of done_of due
    arrived =
        let h = heading bytes in
        subst (Reached h.n h.t h.faulty (done_of bytes)) (sym last_run)
        (reached h.n h.t h.faulty (rows_of bytes) (table_of h.n bytes) (h.t + 1) (le_refl _)
        (heading_starts bytes (taken_exact bytes taken).0)
        (λ m l. length_build (table_rows h.n) (table_row (bytes_of h.n bytes m)))
        (done_of bytes) (passed_most (refused_at bytes) (due bytes)))

    last_15 : (asked listed : ℕ) →
        why_refusal (outcome_of bytes).run asked listed ≡ cond (no_question bytes asked listed) 15 0
    unfolding not_asked done_of due
    last_15 asked listed =
        let r = arrived in
        by_15 (outcome_of bytes).run asked listed r.legal
        ∙ ap₂
        (λ (n faulty : ℕ). cond (no_box n asked || member faulty (asked - 1) || no_box n listed) 15 0)
        r.same_n r.same_faulty

  -- the number behind `refused`, or 0
  pub refused_by : (asked listed : ℕ) →
      (why_of bytes asked listed).refusal ≡ or_else (ends_with bytes) (cond (no_question bytes asked listed) 15 0)
  unfolding why_of why_reply
  refused_by asked listed = go (ℕ_discrete (ends_with bytes) 0)
    where
      number : Why → ℕ
      number w = w.refusal

      go : Dec (ends_with bytes ≡ 0) →
          (why_of bytes asked listed).refusal ≡ or_else (ends_with bytes) (cond (no_question bytes asked listed) 15 0)
      go (yes e) =
          sym (ap number (after_asked (outcome_of bytes) asked listed (outcome_ends bytes ∙ e)))
          ∙ last_15 e asked listed
          ∙ sym (first_passed _ _ e)
      go (no d) =
          sym (ap number (after_refused (outcome_of bytes) asked listed (λ z. d (sym (outcome_ends bytes) ∙ z))))
          ∙ outcome_ends bytes
          ∙ sym (first_refused _ _ d)
