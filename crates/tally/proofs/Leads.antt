-- The lead so far and a row v: v takes the lead exactly where it stands before the leading row, and the lead carries
-- its own support. Assumes nothing.
use mathlib.Core.Path.{◌≡◌, refl, sym, ap, ◌∙◌}
use mathlib.Core.Bool.{true, false, cond}
use mathlib.Core.List.{List}
use Prim.Native.Nat.{ℕ, ◌+◌, ◌-◌, ◌/◌, ◌≤◌, ◌<◌}
use native.Mathlib.Decide.{ℕ_discrete}
use native.Mathlib.Omega.{arith}
use lib.ListN.{length, get_or}
use Rattle.counting.specs.Most.{support, before, best, most}
use Rattle.counting.proofs.Bools.{cond_false}
use Rattle.counting.proofs.Most.{best_turn, best_early, support_zero, support_places}
use Rattle.counting.proofs.Places.{most_majority}
use Rattle.tally.specs.declared.Lead.{Lead}
use Rattle.tally.specs.Inside.{lead_of}

module _ (xs : List ℕ) (lead : Lead) (v : ℕ) where
  -- the lead's own number is the support of its row
  pub lead_support : lead ≡ lead_of xs lead.row → lead.support ≡ support xs lead.row
  unfolding lead_of
  lead_support e = ap (λ (l : Lead). l.support) e

  pub keeps_lead : lead ≡ lead_of xs lead.row → before xs lead.row v ≡ false →
      lead ≡ lead_of xs (cond (before xs lead.row v) v lead.row)
  keeps_lead e h = e ∙ ap (lead_of xs) (sym (cond_false v lead.row h))

  pub takes_lead : (s : ℕ) → s ≡ support xs v → before xs lead.row v ≡ true →
      ◌≡◌ {A = Lead} (record { row = v; support = s }) (lead_of xs (cond (before xs lead.row v) v lead.row))
  unfolding lead_of
  takes_lead s e h = rw (h, e) refl

-- the turn of a loop that keeps the lead
pub lead_turn : (xs : List ℕ) (k : ℕ) (lead next : Lead) → lead ≡ lead_of xs (best xs k) →
    next ≡ lead_of xs (cond (before xs lead.row (get_or xs k 0)) (get_or xs k 0) lead.row) →
    next ≡ lead_of xs (best xs (k + 1))
unfolding lead_of
lead_turn xs k lead next e h = rw (best_turn, ← ap (λ (l : Lead). l.row) e) h

-- a lead that was built is the lead of its own row
pub own_lead : (xs : List ℕ) (w : ℕ) (lead : Lead) → lead ≡ lead_of xs w → lead ≡ lead_of xs lead.row
unfolding lead_of
own_lead xs w lead e = e ∙ ap (lead_of xs) (sym (ap (λ (l : Lead). l.row) e))

-- a lead with more than half of the places is the row found most often
pub lead_most : (xs : List ℕ) (lead : Lead) → lead ≡ lead_of xs lead.row → length xs / 2 < lead.support →
    lead ≡ lead_of xs (most xs)
lead_most xs lead e h = go (ℕ_discrete lead.row 0)
  where
    is : lead.support ≡ support xs lead.row
    is = lead_support xs lead 0 e

    go : Dec (lead.row ≡ 0) → lead ≡ lead_of xs (most xs)
    go (yes z) = absurd (omega (arith, is, ap (support xs) z, support_zero xs))
    go (no z) =
        e
        ∙ ap (lead_of xs)
        (sym (most_majority xs lead.row z (omega (arith, is, support_places xs lead.row z))))

-- a best row so far with more places than are left leads for good
pub lead_early : (xs : List ℕ) (k : ℕ) (lead : Lead) → lead ≡ lead_of xs (best xs k) → k ≤ length xs →
    length xs - k < lead.support → lead ≡ lead_of xs (most xs)
unfolding lead_of
lead_early xs k lead e l h = e ∙ ap (lead_of xs) (best_early xs k l (omega (arith, ap (λ (r : Lead). r.support) e)))
