-- Reasons. Place 13 i + k is that of box i for box k, both ways. And what refusal 14 says of a reason, both ways: a
-- box that is listed needs a whole one, and of any other nothing is kept. Assumes nothing.
use mathlib.Core.Path.{◌≡◌, refl, ap, ap₂, ◌∙◌}
use mathlib.Core.Bool.{Bool, true, false, not, ◌||◌}
use Prim.Native.Nat.{ℕ, ◌+◌, ◌*◌, ◌/◌, ◌%◌, ◌≤◌, ◌<◌}
use native.Mathlib.Nat.{mul_comm, div-add-mod', zero-lt-suc, mod-lt}
use native.Mathlib.Omega.{arith}
use lib.Arith.{digits_div, digits_mod}
use lib.Dec.{eqb}
use lib.ListN.{get_or}
use borrow.Author.Tests.{eqb-true, eqb-false, eq-eqb, ne_eqb, ltb-false, le-ltb}
use Rattle.counting.specs.Count.{build}
use Rattle.counting.proofs.Bools.{or_none, or_false_left, or_false_right, not_of_true, not_false}
use Rattle.counting.proofs.Build.{get_or_build}
use Rattle.tally.specs.Tally.{confidence_at}
use Rattle.tally.proofs.Laws.{fits}
use Rattle.run.specs.declared.Reason.{Reason}
use Rattle.run.specs.Iteration.{no_reason, reason_from, reason_in, reasons_of}
use Rattle.run.specs.State.{kept, without_iteration, unlisted, not_yet_done, confidence_above1, unfit, bad_reason}

-- a place and its two boxes
pub place_box : (i : ℕ) {k : ℕ} → k < 13 → (13 * i + k) / 13 ≡ i
place_box i {k} l = ap (λ (m : ℕ). (m + k) / 13) (mul_comm 13 i) ∙ digits_div i l

pub place_leader : (i : ℕ) {k : ℕ} → k < 13 → (13 * i + k) % 13 ≡ k
place_leader i {k} l = ap (λ (m : ℕ). (m + k) % 13) (mul_comm 13 i) ∙ digits_mod i l

pub place_again : (p : ℕ) → 13 * (p / 13) + p % 13 ≡ p
place_again p = ap (λ (m : ℕ). m + p % 13) (mul_comm 13 (p / 13)) ∙ div-add-mod' p 13

pub leader_lt : (p : ℕ) → p % 13 < 13
leader_lt p = mod-lt p (zero-lt-suc 12)

-- the reason at a place of those that are built
pub reason_of : (why : ℕ → ℕ → Reason) (i k : ℕ) → i < 13 → k < 13 → reason_in (reasons_of why) (13 * i + k) ≡ why i k
unfolding reason_in reason_from reasons_of
reason_of why i k li lk =
    λ d.
    record {
      iteration = at (λ r. r.iteration) d;
      confidence = at (λ r. r.confidence) d;
      support = at (λ r. r.support) d;
    }
  where
    at : (part : Reason → ℕ) → get_or (build 169 (λ p. part (why (p / 13) (p % 13)))) (13 * i + k) 0 ≡ part (why i k)
    at part =
        get_or_build 169 (λ p. part (why (p / 13) (p % 13))) (13 * i + k) 0 (omega (arith, li, lk))
        ∙ ap₂ (λ (a b : ℕ). part (why a b)) (place_box i lk) (place_leader i lk)

-- the reason of a box that is listed
pub record Listing (t done : ℕ) (r : Reason) : Type 0 where
  pub from_1 : 1 ≤ r.iteration
  pub is_done : r.iteration ≤ done
  pub at_most_1 : r.confidence ≤ 1
  pub fitting : confidence_at t r.support ≡ r.confidence

module _ (t done : ℕ) (r : Reason) where
  -- the five tests, one after another
  abbrev missing : Bool
  missing = without_iteration true r || unlisted true r

  abbrev early : Bool
  early = missing || not_yet_done done r

  abbrev sure : Bool
  sure = early || confidence_above1 r

  pub good_listed : Listing t done r → bad_reason t done true r ≡ false
  unfolding bad_reason without_iteration unlisted not_yet_done confidence_above1 unfit
  good_listed l =
      or_none
      (or_none
      (or_none (or_none (ne_eqb r.iteration 0 (λ e. absurd (omega (arith, e, l.from_1)))) refl)
      (le-ltb done r.iteration l.is_done))
      (le-ltb 1 r.confidence l.at_most_1))
      (not_of_true (eq-eqb (confidence_at t r.support) r.confidence l.fitting))

  pub listed_good : bad_reason t done true r ≡ false → Listing t done r
  unfolding bad_reason without_iteration unlisted not_yet_done confidence_above1 unfit
  listed_good h =
      let h3 = or_false_left sure (unfit t r) h in
      let h2 = or_false_left early (confidence_above1 r) h3 in
      let h1 = or_false_left missing (not_yet_done done r) h2 in
      let some = eqb-false r.iteration 0 (or_false_left (eqb r.iteration 0) false h1) in
      record {
        from_1 = omega (arith, some);
        is_done = ltb-false done r.iteration (or_false_right missing (not_yet_done done r) h2);
        at_most_1 = ltb-false 1 r.confidence (or_false_right early (confidence_above1 r) h3);
        fitting =
            eqb-true (confidence_at t r.support) r.confidence
            (not_false (eqb (confidence_at t r.support) r.confidence) (or_false_right sure (unfit t r) h));
      }

  -- the support decides where no other test holds
  pub bad_by_fit : (r.iteration ≡ 0 → ⊥) → r.iteration ≤ done → r.confidence ≤ 1 →
      not (eqb (confidence_at t r.support) r.confidence) ≡ bad_reason t done true r
  unfolding bad_reason without_iteration unlisted not_yet_done confidence_above1 unfit
  bad_by_fit some is_done h =
      rw (ne_eqb r.iteration 0 some, le-ltb done r.iteration is_done, le-ltb 1 r.confidence h) refl

  -- nothing is kept
  pub nothing_kept : kept r ≡ false → r ≡ no_reason
  unfolding kept no_reason
  nothing_kept h =
      let a = not (eqb r.iteration 0) in
      let b = not (eqb r.confidence 0) in
      let c = not (eqb r.support 0) in
      let h1 = or_false_left (a || b) c h in
      λ d.
      record {
        iteration = none r.iteration (or_false_left a b h1) d;
        confidence = none r.confidence (or_false_right a b h1) d;
        support = none r.support (or_false_right (a || b) c h) d;
      }
    where
      none : (m : ℕ) → not (eqb m 0) ≡ false → m ≡ 0
      none m h = eqb-true m 0 (not_false (eqb m 0) h)

  pub unlisted_none : bad_reason t done false r ≡ false → r ≡ no_reason
  unfolding bad_reason without_iteration unlisted
  unlisted_none h =
      let h3 = or_false_left (kept r || not_yet_done done r || confidence_above1 r) (unfit t r) h in
      let h2 = or_false_left (kept r || not_yet_done done r) (confidence_above1 r) h3 in
      nothing_kept (or_false_left (kept r) (not_yet_done done r) h2)

  -- what is kept of a box that is listed is something
  pub listing_kept : Listing t done r → kept r ≡ true
  unfolding kept
  listing_kept l = rw (ne_eqb r.iteration 0 (λ e. absurd (omega (arith, e, l.from_1)))) refl

pub none_good : (t done : ℕ) → bad_reason t done false no_reason ≡ false
unfolding bad_reason without_iteration unlisted not_yet_done confidence_above1 unfit kept no_reason
none_good t done =
    or_none (or_none (le-ltb done 0 (omega arith)) refl)
    (not_of_true (eq-eqb (confidence_at t 0) 0 ((fits t 0).none.1 (omega arith))))

pub none_kept : kept no_reason ≡ false
unfolding kept no_reason
none_kept = refl
