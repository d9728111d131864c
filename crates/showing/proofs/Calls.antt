-- What is shown, said of calls: of every reply of `show`, with the last contents of the slice, that meets the contract
-- as the toolchain states it. The parts of a good file, one call for each, are its whole text. Assumes nothing.
use mathlib.Core.Path.{◌≡◌, refl, sym, ap, ap₂, ◌∙◌}
use mathlib.Core.List.{List, [], ◌++◌}
use Prim.Native.Nat.{ℕ, zero, suc, ◌≤◌, ◌<◌}
use native.Mathlib.Omega.{arith}
use lib.ListN.{length, take}
use Rattle.tally.proofs.Calls.{lent, lent_mut}
use Rattle.lines.proofs.Placed.{placed_found}
use Rattle.listing.specs.Listing.{ends_with}
use Rattle.showing.specs.declared.Shown.{Shown}
use Rattle.showing.specs.Show.{
  part_text,
  first_parts,
  parts_of,
  shown_text,
  show_refusal,
  show_reply,
  show_writes,
}
use Rattle.showing.proofs.Laws.{show_given, show_written}
use Rattle.showing.proofs.Room.{show_number, always_fits}
use Rattle.showing.proofs.show.Reads as ShowReads

-- r is a reply of `show` to a file of these bytes, a part and a slice, which holds last after the call
pub data ShowCall : List ℕ → ℕ → List ℕ → Shown → List ℕ → Type 1 where
  call : (κs : _) (a : _) (r : _) (x : _) → ShowReads.Post κs a r x →
      ShowCall a.0.now a.1.0 a.1.1.0.now r x.1.1.0.now

pub show_call_is : {bytes slice last : List ℕ} {part : ℕ} {r : Shown} → ShowCall bytes part slice r last →
    (r ≡ show_reply bytes part (length slice)) × (last ≡ show_writes bytes part slice)
show_call_is (ShowCall.call κs a r x p) = p

-- there is one for every file, every part and every slice
pub show_call : (bytes : List ℕ) (part : ℕ) (slice : List ℕ) →
    ShowCall bytes part slice (show_reply bytes part (length slice)) (show_writes bytes part slice)
show_call bytes part slice =
    ShowCall.call ([], ([], tt)) (lent bytes, (part, (lent_mut slice, tt))) (show_reply bytes part (length slice))
    (lent bytes, (part, (lent_mut (show_writes bytes part slice), tt))) (refl, refl)

-- what a call wrote
abbrev pub wrote : Shown → List ℕ → List ℕ
wrote r last = take r.size last

-- a call on a good file with room for any part says how many parts there are, and writes its part
module _ {bytes slice last : List ℕ} {part : ℕ} {r : Shown} (good : ends_with bytes ≡ 0)
    (roomy : 182520 ≤ length slice) (c : ShowCall bytes part slice r last) where
  none : show_refusal bytes part (length slice) ≡ 0
  none =
      sym (show_number bytes part (length slice)) ∙ always_fits bytes part (length slice) roomy ∙ good

  given : r ≡ record { refusal = 0; size = length (part_text bytes part); parts = parts_of bytes }
  given = (show_call_is c).0 ∙ sym (show_given bytes part (length slice) none)

  pub part_count : r.parts ≡ parts_of bytes
  part_count = ap (λ (q : Shown). q.parts) given

  pub part_wrote : wrote r last ≡ part_text bytes part
  part_wrote =
      ap₂ (λ (q : Shown) (xs : List ℕ). wrote q xs) given
      ((show_call_is c).1 ∙ sym (show_written bytes part slice none))
      ∙ placed_found slice (part_text bytes part)

-- calls for the parts of a file, the first of which says how many there are
pub record PartCalls (bytes : List ℕ) (slice : ℕ → List ℕ) (reply : ℕ → Shown) (last : ℕ → List ℕ) : Type 1 where
  pub first : ShowCall bytes 0 (slice 0) (reply 0) (last 0)
  pub each : (part : ℕ) → part < (reply 0).parts → ShowCall bytes part (slice part) (reply part) (last part)

-- what the first k calls wrote, one behind the other
unfoldable pub wrote_to : (ℕ → Shown) → (ℕ → List ℕ) → ℕ → List ℕ
wrote_to reply last zero = []
wrote_to reply last (suc k) = wrote_to reply last k ++ wrote (reply k) (last k)

module _ (bytes : List ℕ) (slice : ℕ → List ℕ) (reply : ℕ → Shown) (last : ℕ → List ℕ)
    (roomy : (part : ℕ) → 182520 ≤ length (slice part)) where
  -- together they wrote the whole text of a good file
  pub parts_whole : ends_with bytes ≡ 0 → PartCalls bytes slice reply last →
      wrote_to reply last (reply 0).parts ≡ shown_text bytes
  unfolding shown_text wrote_to first_parts
  parts_whole good calls =
      let count = part_count good (roomy 0) calls.first in
      upto (reply 0).parts (omega arith) ∙ ap (first_parts bytes) count
    where
      upto : (k : ℕ) → k ≤ (reply 0).parts → wrote_to reply last k ≡ first_parts bytes k
      upto zero l = refl
      upto (suc k) l =
          ap₂ (λ (xs ys : List ℕ). xs ++ ys) (upto k (omega arith)) (part_wrote good (roomy k) (calls.each k l))

-- there are such calls for every file and all slices
pub part_calls : (bytes : List ℕ) (slice : ℕ → List ℕ) →
    PartCalls bytes slice (λ part. show_reply bytes part (length (slice part)))
    (λ part. show_writes bytes part (slice part))
part_calls bytes slice =
    record { first = show_call bytes 0 (slice 0); each = λ part l. show_call bytes part (slice part) }
