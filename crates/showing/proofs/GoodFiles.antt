-- What a file that was opened has: its heading is the one of its bytes, and good. Assumes nothing.
use mathlib.Core.Path.{◌≡◌, sym, ap, ap₂, ◌∙◌}
use mathlib.Core.List.{List}
use Prim.Native.Nat.{ℕ, ◌^◌, ◌<◌}
use native.Mathlib.Omega.{arith}
use lib.ListN.{get_or, take}
use Rattle.counting.proofs.Sets.{bits_le}
use Rattle.sizes.proofs.Laws.{within_lt}
use Rattle.run.proofs.Fits.{build_below}
use Rattle.runfile.specs.declared.Heading.{Heading}
use Rattle.runfile.specs.File.{heading_row}
use Rattle.runfile.specs.Reply.{heading_writes}
use Rattle.listing.specs.File.{heading, rows_of}
use Rattle.listing.specs.Listing.{ends_with}
use Rattle.listing.proofs.Heading.{heading_rows, heading_starts, thirteen}
use Rattle.listing.proofs.Room.{row_below}
use Rattle.showing.specs.Inside.{GoodRead}
use Rattle.showing.proofs.Laws.{Headed, headed, good_of}

-- the bytes as the clauses see them are those that were read
module _ {read bytes : List ℕ} {h : Heading} {rows : List ℕ} (g : GoodRead read h rows) (same : read ≡ bytes) where
  pub said : h ≡ heading bytes
  said = g.said ∙ ap heading same

  pub boxes : h.n ≡ (heading bytes).n
  boxes = ap (λ (k : Heading). k.n) said

  pub sent_of : ends_with bytes ≡ 0
  sent_of = ap ends_with (sym same) ∙ g.sent

  ok : (heading bytes).refusal ≡ 0
  ok = (good_of bytes sent_of).ok

  pub headed_of : Headed bytes
  headed_of = headed bytes ok

  -- the named faulty boxes are among thirteen
  pub faulty_small : h.faulty < 8192
  faulty_small =
      let within = within_lt (heading bytes).n (heading bytes).faulty (heading_starts bytes ok).pass6 in
      let f = ap (λ (k : Heading). k.faulty) said in
      omega (arith, f, within, bits_le (heading bytes).n headed_of.high)

  -- the first n of the rows are the heading's
  pub rows_read : take h.n rows ≡ rows_of bytes
  rows_read =
      ap₂ (λ (k : Heading) (xs : List ℕ). take k.n xs) said
      (g.written ∙ ap (λ (xs : List ℕ). heading_writes xs thirteen) same)
      ∙ heading_rows bytes ok

  pub rows_small : (i : ℕ) → get_or (take h.n rows) i 0 < 2 ^ 64
  unfolding rows_of heading_row
  rows_small =
      rw rows_read
      (build_below (2 ^ 64) (omega arith) (heading bytes).n (heading_row bytes)
      (λ k. row_below 9 bytes k (rw (sym same) g.small)))
