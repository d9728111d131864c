-- Replies of place_of, write_say and tell that meet the contracts, as the toolchain states them; and what two of them
-- say together: asked where the line of a place goes, `place_of` gives that place. Assumes nothing.
use mathlib.Core.Path.{◌≡◌, refl, sym, ap, ◌∙◌}
use mathlib.Core.Bool.{true}
use mathlib.Core.List.{List, []}
use Prim.Native.Nat.{ℕ, ◌+◌, ◌*◌, ◌≤◌, ◌<◌}
use lib.ListN.{length, take}
use borrow.Author.Tests.{eq-eqb}
use Rattle.counting.proofs.Bools.{cond_false}
use Rattle.sizes.specs.Sizes.{Sized, table_rows}
use Rattle.sizes.proofs.Laws.{inside, sized_passes}
use Rattle.tally.proofs.Calls.{lent, lent_mut}
use Rattle.lines.specs.declared.Written.{Written}
use Rattle.lines.proofs.Lines.{line_given}
use Rattle.lines.proofs.Laws.{line_front}
use Rattle.listing.specs.File.{table_begins}
use Rattle.says.specs.declared.Place.{Place}
use Rattle.says.specs.Say.{say_word, place_reply, say_numbers, say_line, say_reply, say_writes}
use Rattle.says.specs.Told.{told_text, text_reply, text_writes}
use Rattle.says.proofs.Places.{line_of_place}
use Rattle.says.proofs.place_of.Reads as PlaceReads
use Rattle.says.proofs.write_say.Reads as SayReads
use Rattle.says.proofs.tell.Reads as TellReads

-- r is a reply of `place_of` to n, t and these numbers
pub data PlaceCall : ℕ → ℕ → List ℕ → Place → Type 1 where
  call : (κs : _) (a : _) (r : _) (x : _) → PlaceReads.Post κs a r x →
      PlaceCall a.0 a.1.0 a.1.1.0.now r

pub place_call_is : {n t : ℕ} {numbers : List ℕ} {r : Place} → PlaceCall n t numbers r → r ≡ place_reply n t numbers
place_call_is (PlaceCall.call κs a r x p) = p

-- r is a reply of `write_say` to n, a table, a place and a row, with this slice before it and that behind it
pub data SayCall : ℕ → ℕ → ℕ → ℕ → List ℕ → Written → List ℕ → Type 1 where
  call : (κs : _) (a : _) (r : _) (x : _) → SayReads.Post κs a r x →
      SayCall a.0 a.1.0 a.1.1.0 a.1.1.1.0 a.1.1.1.1.0.now r x.1.1.1.1.0.now

pub say_call_is : {n table place row : ℕ} {slice last : List ℕ} {r : Written} →
    SayCall n table place row slice r last →
    (r ≡ say_reply n table place row (length slice)) × (last ≡ say_writes n table place row slice)
say_call_is (SayCall.call κs a r x p) = p

-- r is a reply of `tell` to a refusal, a line and a fault, with this slice before it and that behind it
pub data TellCall : ℕ → ℕ → ℕ → List ℕ → Written → List ℕ → Type 1 where
  call : (κs : _) (a : _) (r : _) (x : _) → TellReads.Post κs a r x →
      TellCall a.0 a.1.0 a.1.1.0 a.1.1.1.0.now r x.1.1.1.0.now

pub tell_call_is : {refusal line fault : ℕ} {slice last : List ℕ} {r : Written} →
    TellCall refusal line fault slice r last →
    (r ≡ text_reply (told_text refusal line fault) (length slice))
    × (last ≡ text_writes (told_text refusal line fault) slice)
tell_call_is (TellCall.call κs a r x p) = p

-- the numbers of the line of a place are understood, and their place is that place
pub place_call_names : {n t : ℕ} {r : Place} (table place row : ℕ) →
    PlaceCall n t (say_numbers n table place row) r → Sized n t → table ≤ t → place < table_rows n →
    r ≡ record { refusal = 0; meant = true; at = table_begins n table + 8 * place }
unfolding place_reply
place_call_names {n} {t} table place row c sized few low =
    let names = line_of_place n t table place row sized.low few low in
    place_call_is c ∙ rw (eq-eqb _ 0 (sized_passes n t sized), names.meant, names.at_is) refl

-- where the slice has room, the line stands at its front
pub say_call_writes : {n table place row : ℕ} {slice last : List ℕ} {r : Written} →
    SayCall n table place row slice r last → 1 ≤ n → n ≤ 13 →
    length (say_line n table place row) ≤ length slice →
    (r ≡ record { refusal = 0; size = length (say_line n table place row) })
    × (take (length (say_line n table place row)) last ≡ say_line n table place row)
unfolding say_line say_reply say_writes
say_call_writes {n} {table} {place} {row} {slice} c low high room =
    let e = say_call_is c in
    let numbers = say_numbers n table place row in (
      e.0 ∙ cond_false _ _ (inside n low high) ∙ sym (line_given say_word numbers (length slice) room),
      ap (take (length (say_line n table place row))) (e.1 ∙ cond_false _ _ (inside n low high))
          ∙ line_front say_word numbers slice room,
    )

-- there are such calls, with every argument: what the definitions give meets the contracts
pub place_call : (n t : ℕ) (numbers : List ℕ) → PlaceCall n t numbers (place_reply n t numbers)
place_call n t numbers =
    PlaceCall.call ([], tt) (n, (t, (lent numbers, tt))) (place_reply n t numbers) (n, (t, (lent numbers, tt))) refl

pub say_call : (n table place row : ℕ) (slice : List ℕ) →
    SayCall n table place row slice (say_reply n table place row (length slice)) (say_writes n table place row slice)
say_call n table place row slice =
    SayCall.call ([], tt) (n, (table, (place, (row, (lent_mut slice, tt)))))
    (say_reply n table place row (length slice))
    (n, (table, (place, (row, (lent_mut (say_writes n table place row slice), tt))))) (refl, refl)

pub tell_call : (refusal line fault : ℕ) (slice : List ℕ) →
    TellCall refusal line fault slice (text_reply (told_text refusal line fault) (length slice))
    (text_writes (told_text refusal line fault) slice)
tell_call refusal line fault slice =
    TellCall.call ([], tt) (refusal, (line, (fault, (lent_mut slice, tt))))
    (text_reply (told_text refusal line fault) (length slice))
    (refusal, (line, (fault, (lent_mut (text_writes (told_text refusal line fault) slice), tt)))) (refl, refl)
