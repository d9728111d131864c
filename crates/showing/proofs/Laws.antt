-- What the proofs of the functions share: how the listing of a file ends, by its heading and its length; what a good
-- file has; how long the lines of a text can be; and the lines of the places of a table. Assumes nothing.
use mathlib.Core.Path.{◌≡◌, refl, sym, ap, ap₂, ◌∙◌}
use mathlib.Core.Bool.{Bool, true, false, cond}
use mathlib.Core.List.{List, [], ◌++◌}
use Prim.Native.Nat.{ℕ, zero, suc, ◌+◌, ◌-◌, ◌*◌, ◌^◌, ◌≤◌, ◌<◌}
use native.Mathlib.Nat.{le_refl, suc-mul, mul-le-mul_right}
use native.Mathlib.Decide.{ℕ_discrete}
use native.Mathlib.Omega.{arith}
use lib.Dec.{eqb, ltb}
use lib.ListN.{length, get_or, take, drop}
use borrow.Author.Tests.{lt-ltb, le-ltb, lt-leb, le-leb, ltb-false, eq-eqb, ne_eqb}
use Rattle.counting.proofs.Bools.{cond_true, cond_false}
use Rattle.counting.proofs.Build.{get_or_build, front_take}
use Rattle.sizes.specs.Sizes.{table_rows}
use Rattle.sizes.proofs.Laws.{inside}
use Rattle.lines.specs.declared.Written.{Written}
use Rattle.lines.specs.Line.{line_of, placed}
use Rattle.lines.proofs.Lines.{line_length, fields_most, line_given, line_written}
use Rattle.lines.proofs.Placed.{rest_whole, rest_none, placed_within}
use Rattle.runfile.specs.File.{table_row}
use Rattle.runfile.specs.Reply.{table_refusal, table_writes}
use Rattle.runfile.proofs.Laws.{table_written}
use Rattle.listing.specs.File.{table_bytes, table_begins, bytes_of, table_of, heading, due}
use Rattle.listing.specs.Listing.{ends_with}
use Rattle.listing.specs.Inside.{Put}
use Rattle.listing.proofs.Heading.{
  first_refused,
  first_passed,
  none_refused,
  heading_low,
  heading_high,
  heading_few,
}
use Rattle.listing.proofs.Table.{table_good}
use Rattle.listing.proofs.Ends.{ends_is}
use Rattle.says.specs.Say.{rows_word, say_word, say_numbers, say_line, say_reply, say_writes}
use Rattle.says.proofs.Short.{say_short}
use Rattle.showing.specs.Show.{
  place_text,
  places_text,
  heading_text,
  table_text,
  part_text,
  parts_of,
  part_room,
  show_refusal,
  show_reply,
  show_writes,
}

-- how the listing ends: by the heading's refusal, or by the length of the file
module _ (bytes : List ℕ) where
  abbrev end_of : ℕ
  end_of = table_begins (heading bytes).n (due bytes)

  pub ends_early_lem : ((heading bytes).refusal ≡ 0 → ⊥) → ends_with bytes ≡ (heading bytes).refusal
  ends_early_lem d = ends_is bytes ∙ first_refused _ _ d

  behind_heading : (heading bytes).refusal ≡ 0 → ends_with bytes ≡ cond (eqb (length bytes) end_of) 0 8
  behind_heading e = ends_is bytes ∙ first_passed _ _ e

  pub ends_other : (heading bytes).refusal ≡ 0 → (length bytes ≡ end_of → ⊥) → ends_with bytes ≡ 8
  ends_other e d = behind_heading e ∙ cond_false _ _ (ne_eqb (length bytes) end_of d)

  pub ends_good : (heading bytes).refusal ≡ 0 → length bytes ≡ end_of → ends_with bytes ≡ 0
  ends_good e l = behind_heading e ∙ cond_true _ _ (eq-eqb (length bytes) end_of l)

-- a good heading has 1 to 13 boxes and at most 4 tolerated
pub record Headed (bytes : List ℕ) : Type 0 where
  pub low : 1 ≤ (heading bytes).n
  pub high : (heading bytes).n ≤ 13
  pub few : (heading bytes).t ≤ 4

pub headed : (bytes : List ℕ) → (heading bytes).refusal ≡ 0 → Headed bytes
headed bytes ok =
    record {
      low = heading_low bytes ok;
      high = heading_high bytes ok;
      few = omega (arith, heading_few bytes ok, heading_high bytes ok);
    }

-- a good file has a good heading and ends behind its last table
pub record Good (bytes : List ℕ) : Type 0 where
  pub ok : (heading bytes).refusal ≡ 0
  pub exact : length bytes ≡ table_begins (heading bytes).n (due bytes)

pub good_of : (bytes : List ℕ) → ends_with bytes ≡ 0 → Good bytes
good_of bytes e =
    let ok : (heading bytes).refusal ≡ 0 = (none_refused _ _ (sym (ends_is bytes) ∙ e)).0 in
    record { ok = ok; exact = go ok (ℕ_discrete (length bytes) (end_of bytes)) }
  where
    go : (heading bytes).refusal ≡ 0 → Dec (length bytes ≡ end_of bytes) → length bytes ≡ end_of bytes
    go ok (yes l) = l
    go ok (no d) = absurd (omega (arith, ends_other bytes ok d, e))

-- the line `rows` has at most 278 bytes: the word, 21 for each of 13 rows, and the newline
pub rows_most : (rows : List ℕ) → length rows ≤ 13 → ((i : ℕ) → get_or rows i 0 < 2 ^ 64) →
    length (line_of rows_word rows) ≤ 278
rows_most rows few fits =
    omega (arith, line_length rows_word rows, fields_most rows fits (length rows))

-- a place of a table: its line has at most 40 bytes
module _ (n table place row : ℕ) (low : 1 ≤ n) (high : n ≤ 13) (few : table ≤ 4) (below : place < table_rows n)
    (fits : row < 2 ^ 64) where
  pub say_most : length (say_line n table place row) ≤ 40
  say_most = say_short n table place row high few below fits

  -- what the call that writes it says
  pub say_size : (r : Written) (room : ℕ) → 40 ≤ room → r ≡ say_reply n table place row room →
      r.size ≡ length (say_line n table place row)
  unfolding say_reply say_line
  say_size r room enough e =
      ap (λ (w : Written). w.size)
      (e
      ∙ cond_false _ _ (inside n low high)
      ∙ sym (line_given say_word (say_numbers n table place row) _ (omega (arith, say_most))))

  pub say_put : (r : Written) (xs ys : List ℕ) → 40 ≤ length xs → r ≡ say_reply n table place row (length xs) →
      ys ≡ say_writes n table place row xs → Put xs ys 0 r.size (say_line n table place row)
  unfolding say_writes say_line
  say_put r xs ys enough e w =
      record {
        ends = say_size r (length xs) enough e ∙ omega arith;
        stands =
            w
            ∙ cond_false _ _ (inside n low high)
            ∙ line_written say_word (say_numbers n table place row) xs (omega (arith, say_most));
      }

-- a text put at the front of what lies from a place of a slice on is put at the place
pub put_within : (xs ys text : List ℕ) (at size : ℕ) → Put (take (length xs - at) (drop at xs)) ys 0 size text →
    Put xs (take at xs ++ (ys ++ drop (length xs - at) (drop at xs))) at (at + size) text
put_within xs ys text at size p =
    record {
      ends = omega (arith, p.ends);
      stands =
          ap (λ (zs : List ℕ). take at xs ++ zs)
          (rest_none xs ys at ∙ p.stands ∙ ap (λ (zs : List ℕ). placed zs 0 text) (rest_whole xs at))
          ∙ placed_within xs at text;
    }

-- the line of a place: none where it holds 0
pub place_none : (n table place row : ℕ) → row ≡ 0 → place_text n table place row ≡ []
unfolding place_text
place_none n table place row e = cond_true _ _ (eq-eqb row 0 e)

pub place_some : (n table place row : ℕ) → (row ≡ 0 → ⊥) → place_text n table place row ≡ say_line n table place row
unfolding place_text
place_some n table place row d = cond_false _ _ (ne_eqb row 0 d)

-- tables with the same rows have the same lines
pub places_same : (n table : ℕ) (f g : ℕ → ℕ) (k : ℕ) → ((j : ℕ) → j < k → f j ≡ g j) →
    places_text n table f k ≡ places_text n table g k
unfolding places_text
places_same n table f g zero h = refl
places_same n table f g (suc k) h =
    ap₂ (λ (xs : List ℕ) (row : ℕ). xs ++ place_text n table k row)
    (places_same n table f g k (λ j l. h j (omega (arith, l))))
    (h k (le_refl _))

-- a table of a good file lies within it, is read whole, and its lines are those of the rows that were read
module _ (bytes : List ℕ) (e : ends_with bytes ≡ 0) (m : ℕ) (due_of : m < due bytes) where
  abbrev boxes : ℕ
  boxes = (heading bytes).n

  pub table_next : table_begins boxes (m + 1) ≡ table_begins boxes m + table_bytes boxes
  unfolding table_begins
  table_next = omega (arith, suc-mul m (table_bytes boxes))

  pub table_within : table_begins boxes m + table_bytes boxes ≤ length bytes
  unfolding table_begins
  table_within =
      let upto : suc m ≤ due bytes = due_of in
      omega (
        arith,
        suc-mul m (table_bytes boxes),
        mul-le-mul_right (table_bytes boxes) upto,
        (good_of bytes e).exact,
      )

  pub table_m : m ≤ 4
  unfolding due
  table_m = omega (arith, due_of, (headed bytes (good_of bytes e).ok).few)

  pub table_read : (from end : ℕ) (slice last : List ℕ) → from ≡ table_begins boxes m →
      end ≡ from + table_bytes boxes → length slice ≡ 4563 →
      last ≡ table_writes boxes (take (end - from) (drop from bytes)) slice →
      take (table_rows boxes) last ≡ table_of boxes bytes m
  unfolding table_of bytes_of
  table_read from end slice last f t long w =
      let h = headed bytes (good_of bytes e).ok in
      let size : end - from ≡ table_bytes boxes = omega arith in
      let part : take (end - from) (drop from bytes) ≡ bytes_of boxes bytes m =
      ap₂ (λ (k p : ℕ). take k (drop p bytes)) size f in
      let good : table_refusal boxes (bytes_of boxes bytes m) (length slice) ≡ 0 =
      ap (table_refusal boxes (bytes_of boxes bytes m)) long
      ∙ table_good boxes bytes m h.low h.high (omega (arith, table_within)) in
      ap (take (table_rows boxes))
      (w
      ∙ ap (λ (p : List ℕ). table_writes boxes p slice) part
      ∙ table_written boxes (bytes_of boxes bytes m) slice good)
      ∙ front_take (table_rows boxes) (table_row (bytes_of boxes bytes m)) slice

  pub table_lines : places_text boxes m (λ k. get_or (table_of boxes bytes m) k 0) (table_rows boxes)
      ≡ table_text bytes m
  unfolding table_text table_of
  table_lines =
      places_same boxes m _ _ (table_rows boxes)
      (λ j l. get_or_build (table_rows boxes) (table_row (bytes_of boxes bytes m)) j 0 l)

-- the parts: the first, the tables, and what lies behind the last
module _ (bytes : List ℕ) (part : ℕ) where
  pub room_first : part ≡ 0 → part_room bytes part ≡ 300
  unfolding part_room
  room_first e = cond_true _ _ (eq-eqb part 0 e)

  pub room_table : (part ≡ 0 → ⊥) → part_room bytes part ≡ 40 * table_rows (heading bytes).n
  unfolding part_room
  room_table d = cond_false _ _ (ne_eqb part 0 d)

  pub text_first : part ≡ 0 → part_text bytes part ≡ heading_text bytes
  unfolding part_text
  text_first e = cond_true _ _ (eq-eqb part 0 e)

  pub text_table : (part ≡ 0 → ⊥) → part ≤ due bytes → part_text bytes part ≡ table_text bytes (part - 1)
  unfolding part_text
  text_table d l = cond_false _ _ (ne_eqb part 0 d) ∙ cond_true _ _ (le-leb part (due bytes) l)

  pub text_behind : (part ≡ 0 → ⊥) → due bytes < part → part_text bytes part ≡ []
  unfolding part_text
  text_behind d l = cond_false _ _ (ne_eqb part 0 d) ∙ cond_false _ _ (lt-leb part (due bytes) l)

  -- the refusals, both ways
  module _ (room : ℕ) where
    pub refused_early : (ends_with bytes ≡ 0 → ⊥) → show_refusal bytes part room ≡ ends_with bytes
    unfolding show_refusal
    refused_early d = first_refused _ _ d

    pub refused_short : ends_with bytes ≡ 0 → room < part_room bytes part → show_refusal bytes part room ≡ 10
    unfolding show_refusal
    refused_short e l = first_passed _ _ e ∙ cond_true _ _ (lt-ltb room _ l)

    pub refused_none : ends_with bytes ≡ 0 → part_room bytes part ≤ room → show_refusal bytes part room ≡ 0
    unfolding show_refusal
    refused_none e l = first_passed _ _ e ∙ cond_false _ _ (le-ltb room _ l)

    pub none_refused_of : show_refusal bytes part room ≡ 0 → (ends_with bytes ≡ 0) × (part_room bytes part ≤ room)
    unfolding show_refusal
    none_refused_of z =
        let both = none_refused _ _ z in
        (both.0, go (ltb room (part_room bytes part)) refl both.1)
      where
        go : (b : Bool) → ltb room (part_room bytes part) ≡ b → ◌≡◌ {A = ℕ} (cond b 10 0) 0 →
            part_room bytes part ≤ room
        go true t y = absurd (omega (arith, y))
        go false f y = ltb-false room (part_room bytes part) f

    -- the reply
    pub show_refused : (show_refusal bytes part room ≡ 0 → ⊥) →
        record { refusal = show_refusal bytes part room; size = 0; parts = 0 } ≡ show_reply bytes part room
    unfolding show_reply
    show_refused d = sym (cond_false _ _ (ne_eqb _ 0 d))

    pub show_given : show_refusal bytes part room ≡ 0 →
        record { refusal = 0; size = length (part_text bytes part); parts = parts_of bytes }
        ≡ show_reply bytes part room
    unfolding show_reply
    show_given z = sym (cond_true _ _ (eq-eqb _ 0 z))

  -- and the slice
  module _ (slice : List ℕ) where
    pub show_leaves : (show_refusal bytes part (length slice) ≡ 0 → ⊥) → slice ≡ show_writes bytes part slice
    unfolding show_writes
    show_leaves d = sym (cond_false _ _ (ne_eqb _ 0 d))

    pub show_written : show_refusal bytes part (length slice) ≡ 0 →
        placed slice 0 (part_text bytes part) ≡ show_writes bytes part slice
    unfolding show_writes
    show_written z = sym (cond_true _ _ (eq-eqb _ 0 z))
