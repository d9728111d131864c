-- What a part can need, and by what it is refused. A part of a good file is never longer than the room that it is held
-- against, since rows are 8 bytes, and no such room is above 182,520; so there the file alone refuses. A number other
-- than 10 refuses all parts alike, and 10 is always the slice's. Assumes nothing.
use mathlib.Core.Path.{◌≡◌, refl, sym, ap, ◌∙◌}
use mathlib.Core.Bool.{Bool, true, false}
use mathlib.Core.List.{List, [], ◌∷◌}
use mathlib.Core.Logic.{⊎_elim}
use Prim.Native.Nat.{ℕ, zero, suc, ◌-◌, ◌*◌, ◌^◌, ◌≤◌, ◌<◌}
use native.Mathlib.Nat.{le_refl, lt_of_lt_of_le}
use native.Mathlib.Decide.{ℕ_discrete}
use native.Mathlib.Omega.{arith}
use lib.Dec.{leb}
use lib.ListN.{length, get_or, length-append}
use borrow.Author.Tests.{le-ltb, leb-true, leb-false}
use Rattle.counting.specs.Refuse.{Refusal, first_of}
use Rattle.counting.specs.Refuse.Refusal.{refuse}
use Rattle.counting.proofs.Bools.{either}
use Rattle.counting.proofs.Build.{length_build}
use Rattle.counting.proofs.Refuse.{passed, none_left}
use Rattle.counting.proofs.Sets.{bits_le}
use Rattle.sizes.specs.Sizes.{table_rows}
use Rattle.sizes.proofs.Laws.{inside_high, within_lt, table_le}
use Rattle.run.proofs.Fits.{build_below}
use Rattle.runfile.specs.File.{n_of, heading_row, table_row}
use Rattle.runfile.specs.Reply.{heading_tests, heading_refusal}
use Rattle.runfile.proofs.Laws.{heading_number}
use Rattle.lines.specs.Line.{line_of}
use Rattle.listing.specs.File.{table_begins, bytes_of, heading, rows_of, due}
use Rattle.listing.specs.Listing.{run_line, ends_with}
use Rattle.listing.proofs.Heading.{heading_starts}
use Rattle.listing.proofs.Text.{run_most}
use Rattle.listing.proofs.Room.{row_below, table_below}
use Rattle.says.specs.Say.{rows_word}
use Rattle.showing.specs.declared.Shown.{Shown}
use Rattle.showing.specs.Show.{
  place_text,
  places_text,
  heading_text,
  table_text,
  part_text,
  part_room,
  show_refusal,
  show_reply,
}
use Rattle.showing.proofs.Laws.{
  ends_early_lem,
  ends_other,
  ends_good,
  headed,
  good_of,
  rows_most,
  say_most,
  place_none,
  place_some,
  table_m,
  room_first,
  room_table,
  text_first,
  text_table,
  text_behind,
  refused_early,
  refused_short,
  refused_none,
  none_refused_of,
  show_refused,
  show_given,
}

-- the lines of the first k places of a table have at most 40 bytes each
module _ (n table : ℕ) (rows : ℕ → ℕ) (low : 1 ≤ n) (high : n ≤ 13) (few : table ≤ 4)
    (small : (k : ℕ) → rows k < 2 ^ 64) where
  place_short : (k : ℕ) → k < table_rows n → length (place_text n table k (rows k)) ≤ 40
  place_short k below = go (ℕ_discrete (rows k) 0)
    where
      go : Dec (rows k ≡ 0) → length (place_text n table k (rows k)) ≤ 40
      go (yes e) = omega (arith, ap length (place_none n table k (rows k) e))
      go (no d) =
          omega (
            arith,
            ap length (place_some n table k (rows k) d),
            say_most n table k (rows k) low high few below (small k),
          )

  places_short : (k : ℕ) → k ≤ table_rows n → length (places_text n table rows k) ≤ 40 * k
  unfolding places_text
  places_short zero l = omega arith
  places_short (suc k) l =
      omega (
        arith,
        length-append (places_text n table rows k) (place_text n table k (rows k)),
        places_short k (omega (arith, l)),
        place_short k l,
      )

module _ (bytes : List ℕ) (good : ends_with bytes ≡ 0) (small : (i : ℕ) → get_or bytes i 0 < 256) where
  heading_short : length (heading_text bytes) ≤ 300
  unfolding heading_text rows_of heading_row
  heading_short =
      let ok = (good_of bytes good).ok in
      let h = headed bytes ok in
      let g = heading bytes in
      let set : g.faulty < 8192 =
      lt_of_lt_of_le (within_lt g.n g.faulty (heading_starts bytes ok).pass6) (bits_le g.n h.high) in
      omega (
        arith,
        length-append (run_line g.n g.t g.faulty) (line_of rows_word (rows_of bytes)),
        run_most g.n g.t g.faulty (omega (arith, h.high)) (omega (arith, h.few)) (omega (arith, set)),
        rows_most (rows_of bytes) (omega (arith, length_build g.n (heading_row bytes), h.high))
            (build_below (2 ^ 64) (omega arith) g.n (heading_row bytes) (λ k. row_below 9 bytes k small)),
      )

  table_short : (m : ℕ) → m < due bytes → length (table_text bytes m) ≤ 40 * table_rows (heading bytes).n
  unfolding table_text table_row
  table_short m l =
      let h = headed bytes (good_of bytes good).ok in
      let n = (heading bytes).n in
      places_short n m (table_row (bytes_of n bytes m)) h.low h.high (table_m bytes good m l)
      (λ k. row_below 0 (bytes_of n bytes m) k (table_below n bytes m small))
      (table_rows n)
      (le_refl _)

  -- no part of a good file is longer than the room that it is held against
  pub part_short : (part : ℕ) → length (part_text bytes part) ≤ part_room bytes part
  part_short part = go (ℕ_discrete part 0)
    where
      go : Dec (part ≡ 0) → length (part_text bytes part) ≤ part_room bytes part
      go (yes e) =
          omega (arith, ap length (text_first bytes part e), room_first bytes part e, heading_short)
      go (no d) =
          ⊎_elim
          (λ t.
          let l = leb-true part (due bytes) t in
          omega (
            arith,
            ap length (text_table bytes part d l),
            room_table bytes part d,
            table_short (part - 1) (omega (arith, l, d)),
          ))
          (λ f. omega (arith, ap length (text_behind bytes part d (leb-false part (due bytes) f))))
          (either (leb part (due bytes)))

-- the reply has the refusal's number
pub show_number : (bytes : List ℕ) (part room : ℕ) →
    (show_reply bytes part room).refusal ≡ show_refusal bytes part room
show_number bytes part room = go (ℕ_discrete (show_refusal bytes part room) 0)
  where
    go : Dec (show_refusal bytes part room ≡ 0) → (show_reply bytes part room).refusal ≡ show_refusal bytes part room
    go (yes z) = sym (ap (λ (r : Shown). r.refusal) (show_given bytes part room z)) ∙ sym z
    go (no d) = sym (ap (λ (r : Shown). r.refusal) (show_refused bytes part room d))

-- what is written lies within the slice
pub show_within : (bytes : List ℕ) (part room : ℕ) → ((i : ℕ) → get_or bytes i 0 < 256) →
    (show_reply bytes part room).size ≤ room
show_within bytes part room small = go (ℕ_discrete (show_refusal bytes part room) 0)
  where
    go : Dec (show_refusal bytes part room ≡ 0) → (show_reply bytes part room).size ≤ room
    go (yes z) =
        let both = none_refused_of bytes part room z in
        omega (
          arith,
          ap (λ (r : Shown). r.size) (show_given bytes part room z),
          part_short bytes both.0 small part,
          both.1,
        )
    go (no d) = omega (arith, ap (λ (r : Shown). r.size) (show_refused bytes part room d))

-- no part of a good file is held against more than 182,520 bytes
room_most : (bytes : List ℕ) → ends_with bytes ≡ 0 → (part : ℕ) → part_room bytes part ≤ 182520
room_most bytes good part = go (ℕ_discrete part 0)
  where
    go : Dec (part ≡ 0) → part_room bytes part ≤ 182520
    go (yes e) = omega (arith, room_first bytes part e)
    go (no d) = omega (arith, room_table bytes part d, table_le (headed bytes (good_of bytes good).ok).high)

module _ (bytes : List ℕ) (part room : ℕ) where
  -- so a slice with that much room is always enough: the file alone refuses
  pub always_fits : 182520 ≤ room → (show_reply bytes part room).refusal ≡ ends_with bytes
  always_fits l = show_number bytes part room ∙ go (ℕ_discrete (ends_with bytes) 0)
    where
      go : Dec (ends_with bytes ≡ 0) → show_refusal bytes part room ≡ ends_with bytes
      go (yes z) = refused_none bytes part room z (omega (arith, l, room_most bytes z part)) ∙ sym z
      go (no d) = refused_early bytes part room d

  -- a bad file is refused by the number with which its listing ends, whatever the part and the slice
  pub bad_refused : (ends_with bytes ≡ 0 → ⊥) → (show_reply bytes part room).refusal ≡ ends_with bytes
  bad_refused d = show_number bytes part room ∙ refused_early bytes part room d

  -- and a number other than 10 refuses a bad file alone
  other_refused : ((show_reply bytes part room).refusal ≡ 0 → ⊥) → ((show_reply bytes part room).refusal ≡ 10 → ⊥) →
      ends_with bytes ≡ 0 → ⊥
  other_refused some other z =
      ⊎_elim
      (λ t.
      some (show_number bytes part room ∙ refused_none bytes part room z (leb-true (part_room bytes part) room t)))
      (λ f.
      other (show_number bytes part room ∙ refused_short bytes part room z (leb-false (part_room bytes part) room f)))
      (either (leb (part_room bytes part) room))

-- so a number other than 10 that refuses one part refuses every part, and is the one with which the listing ends
pub show_refused_alike : (bytes : List ℕ) (part room : ℕ) → ((show_reply bytes part room).refusal ≡ 0 → ⊥) →
    ((show_reply bytes part room).refusal ≡ 10 → ⊥) →
    ((show_reply bytes part room).refusal ≡ ends_with bytes)
    × ((other space : ℕ) → (show_reply bytes other space).refusal ≡ ends_with bytes)
show_refused_alike bytes part room some short =
    let bad = other_refused bytes part room some short in
    (bad_refused bytes part room bad, λ other space. bad_refused bytes other space bad)

-- a list of tests gives 10 only by a test that has that number
behind : (number : ℕ) (test : Bool) (rest : List Refusal) → (number ≡ 10 → ⊥) →
    first_of (refuse number test ∷ rest) ≡ 10 →
    (test ≡ false) × (first_of rest ≡ 10)
unfolding first_of
behind number true rest d e = absurd (d e)
behind number false rest d e = (refl, e)

-- the heading is read with room for thirteen rows, which is enough
heading_never_10 : (bytes : List ℕ) → heading_refusal bytes 13 ≡ 10 → ⊥
unfolding heading_refusal heading_tests
heading_never_10 bytes e =
    let b1 = behind 1 _ _ (λ z. omega (arith, z)) e in
    let b2 = behind 2 _ _ (λ z. omega (arith, z)) b1.1 in
    let b3 = behind 3 _ _ (λ z. omega (arith, z)) b2.1 in
    let b4 = behind 4 _ _ (λ z. omega (arith, z)) b3.1 in
    let b5 = behind 5 _ _ (λ z. omega (arith, z)) b4.1 in
    let b6 = behind 6 _ _ (λ z. omega (arith, z)) b5.1 in
    let b8 = behind 8 _ _ (λ z. omega (arith, z)) b6.1 in
    let b9 = behind 9 _ _ (λ z. omega (arith, z)) b8.1 in
    let none = passed 10 [] (le-ltb 13 (n_of bytes) (inside_high (n_of bytes) b4.0)) ∙ none_left in
    omega (arith, none, b9.1)

-- so no listing ends with 10
pub ends_never_10 : (bytes : List ℕ) → ends_with bytes ≡ 10 → ⊥
unfolding heading
ends_never_10 bytes e = go (ℕ_discrete (heading bytes).refusal 0)
  where
    exact : (heading bytes).refusal ≡ 0 → Dec (length bytes ≡ table_begins (heading bytes).n (due bytes)) → ⊥
    exact ok (yes l) = omega (arith, ends_good bytes ok l, e)
    exact ok (no d) = omega (arith, ends_other bytes ok d, e)

    go : Dec ((heading bytes).refusal ≡ 0) → ⊥
    go (yes ok) = exact ok (ℕ_discrete (length bytes) (table_begins (heading bytes).n (due bytes)))
    go (no d) = heading_never_10 bytes (sym (heading_number bytes 13) ∙ sym (ends_early_lem bytes d) ∙ e)

-- and 10 says that the file is good and the slice too short
pub short_refused : (bytes : List ℕ) (part room : ℕ) → (show_reply bytes part room).refusal ≡ 10 →
    (ends_with bytes ≡ 0) × (room < part_room bytes part)
short_refused bytes part room e = go (ℕ_discrete (ends_with bytes) 0)
  where
    go : Dec (ends_with bytes ≡ 0) → (ends_with bytes ≡ 0) × (room < part_room bytes part)
    go (yes z) =
        ⊎_elim
        (λ t.
        let none = refused_none bytes part room z (leb-true (part_room bytes part) room t) in
        absurd (omega (arith, show_number bytes part room, none, e)))
        (λ f. (z, leb-false (part_room bytes part) room f))
        (either (leb (part_room bytes part) room))
    go (no d) = absurd (ends_never_10 bytes (sym (bad_refused bytes part room d) ∙ e))
