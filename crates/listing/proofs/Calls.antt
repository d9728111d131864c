-- What is promised of a file, said of calls: of every reply of `outcome`, and every reply of `list` with the last
-- contents of the slice, that meets the function's contract as the toolchain states it. Assumes nothing.
use mathlib.Core.Path.{◌≡◌, refl, sym, ap, ap₂, ◌∙◌, subst}
use mathlib.Core.Bool.{cond}
use mathlib.Core.List.{List, []}
use Prim.Native.Nat.{ℕ, ◌≤◌}
use lib.Dec.{ltb}
use lib.ListN.{length}
use Rattle.tally.proofs.Calls.{lent, lent_mut}
use Rattle.gradecast.specs.Fair.{faulty_boxes}
use Rattle.run.specs.declared.Next.{Next}
use Rattle.lines.specs.Line.{placed}
use Rattle.listing.specs.declared.Listed.{Listed}
use Rattle.listing.specs.File.{heading}
use Rattle.listing.specs.Files.{SameButSound, Demand3Of, ReasonedOf}
use Rattle.listing.specs.Listing.{outcome_of, ends_with, list_reply, list_writes}
use Rattle.listing.proofs.Alike.{listing_blind, outcome_blind}
use Rattle.listing.proofs.Taken.{outcome_keeps, outcome_reasoned}
use Rattle.listing.proofs.Whole.{outcome_ends}
use Rattle.listing.proofs.list.Reads as ListReads
use Rattle.listing.proofs.outcome.Reads as OutcomeReads

-- r is a reply of `outcome` to a file of these bytes
pub data OutcomeCall : List ℕ → Next → Type 1 where
  call : (κs : _) (a : _) (r : _) (x : _) → OutcomeReads.Post κs a r x → OutcomeCall a.0.now r

pub outcome_call_is : {bytes : List ℕ} {r : Next} → OutcomeCall bytes r → r ≡ outcome_of bytes
outcome_call_is (OutcomeCall.call κs a r x p) = p

-- there is one for every file
pub outcome_call : (bytes : List ℕ) → OutcomeCall bytes (outcome_of bytes)
outcome_call bytes = OutcomeCall.call ([], tt) (lent bytes, tt) (outcome_of bytes) (lent bytes, tt) refl

-- demand 3 of a file: one that is taken and names no more boxes faulty than may be
pub file_demand3 : {bytes : List ℕ} {r : Next} → OutcomeCall bytes r → r.refusal ≡ 0 →
    faulty_boxes (heading bytes).n (heading bytes).faulty ≤ (heading bytes).t → Demand3Of bytes r.run
file_demand3 {bytes} c taken few =
    let e = outcome_call_is c in
    subst (λ (r : Next). Demand3Of bytes r.run) (sym e)
    (outcome_keeps bytes (sym (outcome_ends bytes) ∙ sym (ap (λ (r : Next). r.refusal) e) ∙ taken) few)

-- why a box is on a list, of a file that is taken, with any number of faulty boxes
pub file_reasons : {bytes : List ℕ} {r : Next} → OutcomeCall bytes r → r.refusal ≡ 0 → ReasonedOf bytes r.run
file_reasons {bytes} c taken =
    let e = outcome_call_is c in
    subst (λ (r : Next). ReasonedOf bytes r.run) (sym e)
    (outcome_reasoned bytes (sym (outcome_ends bytes) ∙ sym (ap (λ (r : Next). r.refusal) e) ∙ taken))

-- files that differ only in sound senders' places have one outcome
pub calls_outcome_blind : {a b : List ℕ} {p q : Next} → SameButSound a b → OutcomeCall a p → OutcomeCall b q → p ≡ q
calls_outcome_blind {a} {b} same c d = outcome_call_is c ∙ outcome_blind a b same ∙ sym (outcome_call_is d)

-- r is a reply of `list` to a file of these bytes and a slice, which holds last after the call
pub data ListCall : List ℕ → List ℕ → Listed → List ℕ → Type 1 where
  call : (κs : _) (a : _) (r : _) (x : _) → ListReads.Post κs a r x →
      ListCall a.0.now a.1.0.now r x.1.0.now

list_call_is : {bytes slice last : List ℕ} {r : Listed} → ListCall bytes slice r last →
    (r ≡ list_reply bytes (length slice)) × (last ≡ list_writes bytes slice)
list_call_is (ListCall.call κs a r x p) = p

-- there is one for every file and every slice
pub list_call : (bytes slice : List ℕ) →
    ListCall bytes slice (list_reply bytes (length slice)) (list_writes bytes slice)
list_call bytes slice =
    ListCall.call ([], ([], tt)) (lent bytes, (lent_mut slice, tt)) (list_reply bytes (length slice))
    (lent bytes, (lent_mut (list_writes bytes slice), tt)) (refl, refl)

module _ (a b : List ℕ) (same : SameButSound a b) where
  ends_same : ends_with a ≡ ends_with b
  ends_same =
      sym (outcome_ends a) ∙ ap (λ (r : Next). r.refusal) (outcome_blind a b same) ∙ outcome_ends b

  reply_same : (room : ℕ) → list_reply a room ≡ list_reply b room
  unfolding list_reply
  reply_same room =
      ap₂
      (λ (text : List ℕ) (ends : ℕ).
      cond (ltb room (length text))
      (record { refusal = 10; size = 0; ends = 0 })
      (record { refusal = 0; size = length text; ends = ends }))
      (listing_blind a b same) ends_same

  writes_same : (slice : List ℕ) → list_writes a slice ≡ list_writes b slice
  unfolding list_writes
  writes_same slice =
      ap (λ (text : List ℕ). cond (ltb (length slice) (length text)) slice (placed slice 0 text))
      (listing_blind a b same)

-- and they have one listing
pub calls_list_blind : {a b slice last-a last-b : List ℕ} {p q : Listed} → SameButSound a b →
    ListCall a slice p last-a → ListCall b slice q last-b → (p ≡ q) × (last-a ≡ last-b)
calls_list_blind {a} {b} {slice} same c d = (
  (list_call_is c).0 ∙ reply_same a b same (length slice) ∙ sym (list_call_is d).0,
  (list_call_is c).1 ∙ writes_same a b same slice ∙ sym (list_call_is d).1,
)
