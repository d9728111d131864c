-- The whole replies of vote, grade and choice: first the refusals in the order of docs/SCOPE.md, then the answer. A
-- refused call gives 0 for everything but the refusal's number.
use Rattle.std.specs.Prelude.{ℕ, cond, not, List, [], ◌∷◌, eqb, length}
use Rattle.counting.specs.Refuse.{first_of}
use Rattle.counting.specs.Refuse.Refusal.{refuse}
use Rattle.sizes.specs.Sizes.{outside, too_many, size_refusal}
use Rattle.tally.specs.declared.Voted.{Voted}
use Rattle.tally.specs.declared.Graded.{Graded}
use Rattle.tally.specs.declared.Chosen.{Chosen}
use Rattle.tally.specs.Tally.{
  two_rows,
  vote_of,
  graded_row,
  confidence_of,
  support_of,
  chosen_row,
  firm_leaders,
  above2,
}

-- the refusals of a vote: 4, 5, 7
unfoldable pub vote_refusal : ℕ → List ℕ → ℕ
vote_refusal t xs =
    first_of
    (refuse 4 (outside (length xs)) ∷ refuse 5 (too_many (length xs) t) ∷ refuse 7 (two_rows t xs) ∷ [])

-- the refusals of a choice: 4, 11, 13
unfoldable pub choice_refusal : List ℕ → List ℕ → ℕ
choice_refusal rows confidences =
    first_of
    (refuse 4 (outside (length rows)) ∷
    refuse 11 (not (eqb (length rows) (length confidences))) ∷
    refuse 13 (above2 confidences) ∷
    [])

-- the answer, or 0 where the call is refused
unfoldable pub unless : ℕ → ℕ → ℕ
unless refusal answer = cond (eqb refusal 0) answer 0

-- a vote's whole reply: refusal and row
unfoldable pub vote_reply : List ℕ → ℕ → Voted
vote_reply xs t = record { refusal = vote_refusal t xs; row = unless (vote_refusal t xs) (vote_of t xs) }

-- a grade's whole reply: refusal, 4 or 5, row, confidence and support
unfoldable pub grade_reply : List ℕ → ℕ → Graded
grade_reply xs t =
    record {
      refusal = size_refusal (length xs) t;
      row = unless (size_refusal (length xs) t) (graded_row t xs);
      confidence = unless (size_refusal (length xs) t) (confidence_of t xs);
      support = unless (size_refusal (length xs) t) (support_of xs);
    }

-- a choice's whole reply: refusal, row and the number of confidence-2 leaders
unfoldable pub choice_reply : List ℕ → List ℕ → Chosen
choice_reply rows confidences =
    record {
      refusal = choice_refusal rows confidences;
      row = unless (choice_refusal rows confidences) (chosen_row rows confidences);
      firm = unless (choice_refusal rows confidences) (firm_leaders rows confidences);
    }
