-- The pieces of a text: where one ends and what comes behind it; the line without its carriage return; and what a
-- good line is. Assumes nothing.
use mathlib.Core.Path.{◌≡◌, refl, sym, ap, ap₂, ◌∙◌}
use mathlib.Core.Bool.{Bool, true, false, false≢true, cond, ◌&&◌}
use mathlib.Core.List.{List, [], ◌∷◌}
use Rattle.std.specs.Cmp.Lexicographic.{same_text}
use Prim.Native.Nat.{ℕ, suc, ◌+◌, ◌-◌, ◌≤◌, ◌<◌}
use native.Mathlib.Nat.{le_refl}
use native.Mathlib.Numerals.{add-one}
use native.Mathlib.Omega.{arith}
use lib.Dec.{eqb, ltb}
use lib.ListN.{length, get_or, take, drop, length-take, drop_of_length-le, get_or-eq_default}
use Rattle.std.proofs.lemmas.List.{get_or-drop}
use lib.Seq.{drop-cons, take-length, length-take-le}
use borrow.Author.Tests.{lt-ltb, le-ltb, ltb-true, ltb-false, eq-eqb, ne_eqb}
use denote.Ref.{Bor}
use lib.Pointwise.{pointwise}
use Rattle.std.proofs.Common.{Option, Some, None, MatchOption}
use Rattle.std.proofs.lemmas.List.Recursion.{is_position_or_len}
use Rattle.std.specs.List.{position, position_or_len}
use Rattle.std.specs.Option.{unwrap_or}
use Rattle.counting.proofs.Bools.{cond_true, cond_false, and_left, and_right, not_both}
use Rattle.lines.specs.Read.{bare, piece, behind, word_in, said_in, are_numbers, is_line}

-- a piece is no longer than the text, of which it is the front
pub piece_within : (text : List ℕ) → length (piece text) ≤ length text
unfolding piece
piece_within [] = le_refl _
piece_within (byte ∷ text) = go (eqb byte 32) (piece_within text)
  where
    go : (b : Bool) → length (piece text) ≤ length text →
        length (cond b [] (byte ∷ piece text)) ≤ suc (length text)
    go true h = omega arith
    go false h = omega (arith, h)

pub piece_front : (text : List ℕ) → take (length (piece text)) text ≡ piece text
unfolding piece
piece_front [] = refl
piece_front (byte ∷ text) = go (eqb byte 32) (piece_front text)
  where
    go : (b : Bool) → take (length (piece text)) text ≡ piece text →
        take (length (cond b [] (byte ∷ piece text))) (byte ∷ text) ≡ cond b [] (byte ∷ piece text)
    go true h = refl
    go false h = ap (λ (bytes : List ℕ). byte ∷ bytes) h

-- it ends at the first space, or with the text
piece_long : (text : List ℕ) → length (piece text) ≡ position_or_len (λ byte. eqb byte 32) text
unfolding piece
piece_long =
    is_position_or_len (λ text. length (piece text)) (λ byte. eqb byte 32) refl
    (λ byte text. go (eqb byte 32) byte text)
  where
    go : (b : Bool) (byte : ℕ) (text : List ℕ) →
        length (cond b [] (byte ∷ piece text)) ≡ cond b 0 (1 + length (piece text))
    go true byte text = refl
    go false byte text = omega arith

pub piece_found : (text : List ℕ) → unwrap_or (position (λ byte. eqb byte 32) text) (length text) ≡ length (piece text)
piece_found text =
    go (ltb (position_or_len (λ byte. eqb byte 32) text) (length text)) refl ∙ sym (piece_long text)
  where
    go : (b : Bool) → ltb (position_or_len (λ byte. eqb byte 32) text) (length text) ≡ b →
        unwrap_or (cond b (Some (position_or_len (λ byte. eqb byte 32) text)) None) (length text)
        ≡ position_or_len (λ byte. eqb byte 32) text
    go true e = refl
    go false e = omega (arith, piece_within text, piece_long text, ltb-false _ _ e)

-- behind it no further piece begins until the next space
pub piece_past : (text : List ℕ) → piece (drop (length (piece text)) text) ≡ []
unfolding piece
piece_past [] = refl
piece_past (byte ∷ text) = go (eqb byte 32) refl (piece_past text)
  where
    go : (b : Bool) → eqb byte 32 ≡ b → piece (drop (length (piece text)) text) ≡ [] →
        piece (drop (length (cond b [] (byte ∷ piece text))) (byte ∷ text)) ≡ []
    go true e h = cond_true _ _ e
    go false e h = h

pub behind_past : (text : List ℕ) → behind (drop (length (piece text)) text) ≡ behind text
unfolding piece behind
behind_past [] = refl
behind_past (byte ∷ text) = go (eqb byte 32) refl (behind_past text)
  where
    go : (b : Bool) → eqb byte 32 ≡ b → behind (drop (length (piece text)) text) ≡ behind text →
        behind (drop (length (cond b [] (byte ∷ piece text))) (byte ∷ text)) ≡ behind (byte ∷ text)
    go true e h = refl
    go false e h = h ∙ sym (cond_false _ _ e)

-- at a place of the text
module _ (text : List ℕ) (i : ℕ) (l : i < length text) where
  here : drop i text ≡ get_or text i 0 ∷ drop (i + 1) text
  here = rw add-one (drop-cons text i 0 l)

  pub piece_stops : get_or text i 0 ≡ 32 → piece (drop i text) ≡ []
  unfolding piece
  piece_stops e = ap piece here ∙ cond_true _ _ (eq-eqb _ 32 e)

  pub piece_goes : (get_or text i 0 ≡ 32 → ⊥) → piece (drop i text) ≡ get_or text i 0 ∷ piece (drop (i + 1) text)
  unfolding piece
  piece_goes d = ap piece here ∙ cond_false _ _ (ne_eqb _ 32 d)

  pub behind_turn : piece (drop i text) ≡ [] →
      behind (drop i text) ≡ piece (drop (i + 1) text) ∷ behind (drop (i + 1) text)
  unfolding piece behind
  behind_turn e = ap behind here ∙ go (eqb (get_or text i 0) 32) (sym (ap piece here) ∙ e)
    where
      go : (b : Bool) → cond b [] (get_or text i 0 ∷ piece (drop (i + 1) text)) ≡ [] →
          cond b (piece (drop (i + 1) text) ∷ behind (drop (i + 1) text)) (behind (drop (i + 1) text))
          ≡ piece (drop (i + 1) text) ∷ behind (drop (i + 1) text)
      go true h = refl
      go false h = absurd (omega (arith, ap length h))

pub piece_end : (text : List ℕ) (i : ℕ) → length text ≤ i → piece (drop i text) ≡ []
unfolding piece
piece_end text i h = ap piece (drop_of_length-le text {i = i} h)

-- the line without its carriage return
pub bare_less : (line : List ℕ) → get_or line (length line - 1) 0 ≡ 13 → take (length line - 1) line ≡ bare line
unfolding bare
bare_less line e = sym (cond_true _ _ (eq-eqb _ 13 e))

pub bare_whole : (line : List ℕ) → (get_or line (length line - 1) 0 ≡ 13 → ⊥) → line ≡ bare line
unfolding bare
bare_whole line d = sym (cond_false _ _ (ne_eqb _ 13 d))

-- what is left once a carriage return is stripped, if there is one
module _ (line : Bor (List ℕ)) where
  abbrev last : List ℕ
  last = drop (length line.now - 1) line.now

  returned : get_or line.now (length line.now - 1) 0 ≡ 13 → last ≡ 13 ∷ []
  returned e =
      let none = get_or-eq_default line.now 0 {n = length line.now - 1} in
      let some : length line.now - 1 < length line.now = grind (arith, e, none) in
      drop-cons line.now (length line.now - 1) 0 some
      ∙ ap₂ (λ (byte : ℕ) (bytes : List ℕ). byte ∷ bytes) e
      (drop_of_length-le line.now {i = suc (length line.now - 1)} (omega arith))

  pub bare_told : (left : Option (Bor (List ℕ))) →
      MatchOption left (pointwise eqb last (13 ∷ []) ≡ false)
      (λ text. (pointwise eqb last (13 ∷ []) ≡ true)
      × (text.now ≡ take (length line.now - 1) line.now)
      × (length text.now + 1 ≡ length line.now)) →
      (unwrap_or left line).now ≡ bare line.now
  bare_told None f =
      bare_whole line.now
      (λ e. false≢true (sym f ∙ ap (λ (bytes : List ℕ). pointwise eqb bytes (13 ∷ [])) (returned e)))
  bare_told (Some text) (t, same, _) =
      let found : get_or last 0 0 ≡ 13 =
      ap (λ (bytes : List ℕ). get_or bytes 0 0) (same_text last (13 ∷ []) (sym t)) in
      same
      ∙ bare_less line.now
      (ap (λ (k : ℕ). get_or line.now k 0) (omega arith)
      ∙ sym (get_or-drop (length line.now - 1) line.now 0 0)
      ∙ found)

pub bare_take : (line : List ℕ) → take (length (bare line)) line ≡ bare line
unfolding bare
bare_take line = go (eqb (get_or line (length line - 1) 0) 13)
  where
    go : (b : Bool) → take (length (cond b (take (length line - 1) line) line)) line
        ≡ cond b (take (length line - 1) line) line
    go true = ap (λ (k : ℕ). take k line) (length-take-le (length line - 1) line (omega arith))
    go false = take-length line

pub bare_within : (line : List ℕ) → length (bare line) ≤ length line
bare_within line = omega (arith, ap length (bare_take line), length-take (length (bare line)) line)

-- a line begins with a word
pub line_none : (text : List ℕ) → length (word_in text) ≡ 0 → is_line text ≡ false
unfolding is_line
line_none text e = not_both (are_numbers (said_in text)) (le-ltb 0 (length (word_in text)) (omega arith))

pub line_worded : (text : List ℕ) → 0 < length (word_in text) → is_line text ≡ are_numbers (said_in text)
unfolding is_line
line_worded text l = ap (λ (b : Bool). b && are_numbers (said_in text)) (lt-ltb 0 (length (word_in text)) l)

pub line_word : (text : List ℕ) → is_line text ≡ true → 0 < length (word_in text)
unfolding is_line
line_word text t =
    ltb-true 0 (length (word_in text)) (and_left (ltb 0 (length (word_in text))) (are_numbers (said_in text)) t)

pub line_numbers : (text : List ℕ) → is_line text ≡ true → are_numbers (said_in text) ≡ true
unfolding is_line
line_numbers text t = and_right (ltb 0 (length (word_in text))) (are_numbers (said_in text)) t
