-- The replies by cases: what a refused call gives, and what one gives that is not refused. Assumes nothing.
use mathlib.Core.Path.{◌≡◌, refl, sym, ap, ◌∙◌}
use mathlib.Core.Bool.{cond, not}
use mathlib.Core.List.{List, [], ◌∷◌}
use Prim.Native.Nat.{ℕ, ◌≤◌}
use lib.Dec.{eqb}
use lib.ListN.{length}
use borrow.Author.Tests.{ne_eqb, eq-eqb, eqb-true}
use Rattle.counting.specs.Refuse.{first_of}
use Rattle.counting.specs.Refuse.Refusal.{refuse}
use Rattle.counting.specs.Most.{most}
use Rattle.counting.proofs.Bools.{not_false, cond_true, cond_false}
use Rattle.counting.proofs.Refuse.{accepted}
use Rattle.sizes.specs.Sizes.{outside}
use Rattle.sizes.specs.Sizes.{size_refusal}
use Rattle.sizes.proofs.Laws.{inside_low, inside_high, size_given, size_passed}
use Rattle.tally.specs.declared.Voted.{Voted}
use Rattle.tally.specs.declared.Graded.{Graded}
use Rattle.tally.specs.declared.Chosen.{Chosen}
use Rattle.tally.specs.declared.Lead.{Lead}
use Rattle.tally.specs.Tally.{
  confidence_at,
  support_of,
  counted,
  firm_for,
  two_rows,
  vote_of,
  graded_row,
  confidence_of,
  chosen_row,
  firm_leaders,
}
use Rattle.tally.specs.Reply.{vote_refusal, choice_refusal, unless, vote_reply, grade_reply, choice_reply}
use Rattle.tally.specs.Inside.{lead_of}

module _ (xs : List ℕ) (t : ℕ) where
  -- a vote that passes 4 and 5 is refused by 7 alone
  pub vote_passes : size_refusal (length xs) t ≡ 0 → vote_refusal t xs ≡ cond (two_rows t xs) 7 0
  unfolding vote_refusal first_of
  vote_passes e = size_passed (length xs) t (refuse 7 (two_rows t xs) ∷ []) e

  -- and one that is refused by 4 or 5 has that number
  pub vote_fails : (size_refusal (length xs) t ≡ 0 → ⊥) → vote_refusal t xs ≡ size_refusal (length xs) t
  unfolding vote_refusal
  vote_fails h = size_given (length xs) t (refuse 7 (two_rows t xs) ∷ []) h

  pub vote_refused : (r : ℕ) → r ≡ vote_refusal t xs → (r ≡ 0 → ⊥) →
      ◌≡◌ {A = Voted} (record { refusal = r; row = 0 }) (vote_reply xs t)
  unfolding vote_reply unless
  vote_refused r e h = rw (← e, ne_eqb r 0 h) refl

  pub vote_taken : (row : ℕ) → vote_refusal t xs ≡ 0 → row ≡ vote_of t xs →
      ◌≡◌ {A = Voted} (record { refusal = 0; row = row }) (vote_reply xs t)
  unfolding vote_reply unless
  vote_taken row e h = rw (e, h) refl

  pub grade_refused : (r : ℕ) → r ≡ size_refusal (length xs) t → (r ≡ 0 → ⊥) →
      ◌≡◌ {A = Graded} (record { refusal = r; row = 0; confidence = 0; support = 0 }) (grade_reply xs t)
  unfolding grade_reply unless
  grade_refused r e h = rw (← e, ne_eqb r 0 h) refl

  pub grade_taken : (row confidence support : ℕ) → size_refusal (length xs) t ≡ 0 → row ≡ graded_row t xs →
      confidence ≡ confidence_of t xs → support ≡ support_of xs →
      ◌≡◌ {A = Graded} (record { refusal = 0; row = row; confidence = confidence; support = support })
      (grade_reply xs t)
  unfolding grade_reply unless
  grade_taken row confidence support e h k l = rw (e, h, k, l) refl

  -- what the lead gives: its support is the support of the grade, and its row is the graded row where the confidence
  -- is not 0
  pub lead_support : (lead : Lead) → lead ≡ lead_of xs (most xs) → lead.support ≡ support_of xs
  unfolding lead_of support_of
  lead_support lead e = ap (λ (l : Lead). l.support) e

  pub lead_confidence : (lead : Lead) (c : ℕ) → lead ≡ lead_of xs (most xs) → c ≡ confidence_at t lead.support →
      c ≡ confidence_of t xs
  unfolding confidence_of
  lead_confidence lead c e h = h ∙ ap (confidence_at t) (lead_support lead e)

  pub lead_row : (lead : Lead) → lead ≡ lead_of xs (most xs) → (confidence_of t xs ≡ 0 → ⊥) →
      lead.row ≡ graded_row t xs
  unfolding lead_of graded_row
  lead_row lead e h = ap (λ (l : Lead). l.row) e ∙ sym (cond_false 0 (most xs) (ne_eqb (confidence_of t xs) 0 h))

  pub no_row : confidence_of t xs ≡ 0 → 0 ≡ graded_row t xs
  unfolding graded_row
  no_row h = sym (cond_true 0 (most xs) (eq-eqb (confidence_of t xs) 0 h))

module _ (rows confidences : List ℕ) where
  pub choice_refused : (r : ℕ) → r ≡ choice_refusal rows confidences → (r ≡ 0 → ⊥) →
      ◌≡◌ {A = Chosen} (record { refusal = r; row = 0; firm = 0 }) (choice_reply rows confidences)
  unfolding choice_reply unless
  choice_refused r e h = rw (← e, ne_eqb r 0 h) refl

  pub choice_taken : (row firm : ℕ) → choice_refusal rows confidences ≡ 0 → row ≡ chosen_row rows confidences →
      firm ≡ firm_leaders rows confidences →
      ◌≡◌ {A = Chosen} (record { refusal = 0; row = row; firm = firm }) (choice_reply rows confidences)
  unfolding choice_reply unless
  choice_taken row firm e h k = rw (e, h, k) refl

  -- a choice that is not refused is over 1 to 13 rows and as many confidences
  pub choice_lengths : choice_refusal rows confidences ≡ 0 →
      (1 ≤ length rows) × (length rows ≤ 13) × (length rows ≡ length confidences)
  unfolding choice_refusal
  choice_lengths e =
      let first = accepted 3 (outside (length rows)) _ e in
      let second = accepted 10 (not (eqb (length rows) (length confidences))) _ first.1 in (
        inside_low (length rows) first.0,
        inside_high (length rows) first.0,
        eqb-true (length rows) (length confidences) (not_false (eqb (length rows) (length confidences)) second.0),
      )

  -- the lead among the counted rows is the chosen row, and its firm leaders are counted where there is one
  pub lead_chosen : (lead : Lead) → lead ≡ lead_of (counted rows confidences) (most (counted rows confidences)) →
      lead.row ≡ chosen_row rows confidences
  unfolding lead_of chosen_row
  lead_chosen lead e = ap (λ (l : Lead). l.row) e

  pub firm_none : chosen_row rows confidences ≡ 0 → 0 ≡ firm_leaders rows confidences
  unfolding firm_leaders
  firm_none h = sym (cond_true 0 _ (eq-eqb (chosen_row rows confidences) 0 h))

  pub firm_some : (row firm : ℕ) → row ≡ chosen_row rows confidences → (row ≡ 0 → ⊥) →
      firm ≡ firm_for rows confidences row →
      firm ≡ firm_leaders rows confidences
  unfolding firm_leaders
  firm_some row firm e z h =
      h
      ∙ ap (firm_for rows confidences) e
      ∙ sym (cond_false 0 _ (ne_eqb (chosen_row rows confidences) 0 (λ q. z (e ∙ q))))
