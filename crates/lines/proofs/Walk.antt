-- How far a loop over the parts of a line has come: each part that is not empty is a number, and adds its value to
-- those passed. Assumes nothing.
use mathlib.Core.Path.{◌≡◌, refl, sym, ap, subst, ◌∙◌}
use mathlib.Core.Bool.{Bool, true, false, ◌&&◌}
use mathlib.Core.List.{List, [], ◌∷◌}
use Prim.Native.Nat.{ℕ, suc, ◌+◌, ◌-◌, ◌≤◌, ◌<◌}
use native.Mathlib.Numerals.{add-one}
use native.Mathlib.Omega.{arith}
use lib.ListN.{length, get_or, take, drop, length-drop}
use lib.Seq.{drop-cons}
use Rattle.lines.proofs.Placed.{rest_whole}
use borrow.Author.Tests.{lt-ltb}
use Rattle.counting.proofs.Bools.{and_left, not_both}
use Rattle.lines.specs.Line.{read_on}
use Rattle.lines.specs.Read.{
  piece,
  behind,
  non_empty,
  word_in,
  said_in,
  is_digits,
  is_small,
  is_number,
  are_numbers,
  values,
  numbers_in,
}
use Rattle.lines.proofs.Pieces.{piece_past, behind_past, behind_turn}

-- whether the texts that are not empty are numbers, and what they stand for, by the first of the texts
are_turn : (text : List ℕ) (texts : List (List ℕ)) →
    are_numbers (non_empty (text ∷ texts)) ≡ (is_small text && are_numbers (non_empty texts))
unfolding non_empty are_numbers is_number is_small is_digits read_on
are_turn [] texts = refl
are_turn (byte ∷ text) texts =
    ap (λ (b : Bool). (b && is_small (byte ∷ text)) && are_numbers (non_empty texts))
    (lt-ltb 0 (suc (length text)) (omega arith))

values_none : (text : List ℕ) (texts : List (List ℕ)) → length text ≡ 0 →
    values (non_empty (text ∷ texts)) ≡ values (non_empty texts)
unfolding non_empty
values_none [] texts e = refl
values_none (byte ∷ text) texts e = absurd (omega (arith, e))

values_some : (text : List ℕ) (texts : List (List ℕ)) → 0 < length text →
    values (non_empty (text ∷ texts)) ≡ read_on 0 text ∷ values (non_empty texts)
unfolding non_empty values
values_some [] texts l = absurd (omega (arith, l))
values_some (byte ∷ text) texts l = refl

-- a list, once its first k are dropped, begins with what stands at place k
drop_next : (xs ys : List ℕ) (k x : ℕ) → drop k xs ≡ x ∷ ys →
    (k < length xs) × ((get_or xs k 0 ≡ x) × (drop (k + 1) xs ≡ ys))
drop_next xs ys k x e =
    let l : k < length xs = omega (arith, ap length e, length-drop k xs) in
    let at : get_or xs k 0 ∷ drop (suc k) xs ≡ x ∷ ys = sym (drop-cons xs k 0 l) ∙ e in
    (l, (ap (λ (zs : List ℕ). get_or zs 0 0) at, ap (λ (n : ℕ). drop n xs) (add-one k) ∙ ap (drop 1) at))

-- a loop that goes from part to part has passed so many numbers; the parts that are left decide whether all are
-- numbers
pub record Reached (text : List ℕ) (texts : List (List ℕ)) (count : ℕ) : Type 0 where
  pub some : count ≤ length (numbers_in text)
  pub left : drop count (numbers_in text) ≡ values (non_empty texts)
  pub good : are_numbers (said_in text) ≡ are_numbers (non_empty texts)

-- what is left of the text begins with a space or is empty, and of the parts behind its spaces none is passed
pub record Left (text left : List ℕ) (count : ℕ) : Type 0 where
  pub few : count + length left ≤ length text
  pub space : piece left ≡ []
  pub reached : Reached text (behind left) count

pub walk_begins : (text : List ℕ) (word : ℕ) → word ≡ length (word_in text) → Left text (drop word text) 0
unfolding word_in said_in numbers_in
walk_begins text word e =
    let past : behind (drop word text) ≡ behind text =
    ap (λ (k : ℕ). behind (drop k text)) e ∙ behind_past text in
    record {
      few = omega (arith, length-drop word text);
      space = ap (λ (k : ℕ). piece (drop k text)) e ∙ piece_past text;
      reached = record {
        some = omega arith;
        left = ap (λ (texts : List (List ℕ)). values (non_empty texts)) (sym past);
        good = ap (λ (texts : List (List ℕ)). are_numbers (non_empty texts)) (sym past);
      };
    }

-- what is left of a text from a place on, as the contract of a slice's part gives it
abbrev pub rest : List ℕ → ℕ → List ℕ
rest text at = take (length text - at) (drop at text)

module _ {text left : List ℕ} {count : ℕ} (h : Left text left count) (l : 1 ≤ length left) where
  -- behind the space stands the next part
  pub walk_next : Reached text (piece (rest left 1) ∷ behind (rest left 1)) count
  walk_next =
      subst (λ (after : List ℕ). Reached text (piece after ∷ behind after) count) (sym (rest_whole left 1))
      (subst (λ (texts : List (List ℕ)). Reached text texts count) (behind_turn left 0 l h.space) h.reached)

  -- and behind that part begins what is left then
  pub walk_left : (next size : ℕ) → next ≤ count + 1 → size ≡ length (piece (rest left 1)) →
      Reached text (behind (rest left 1)) next → Left text (rest (rest left 1) size) next
  walk_left next size few e r =
      let after = rest left 1 in
      let whole = ap length (rest_whole left 1) in
      subst (λ (then : List ℕ). Left text then next) (sym (rest_whole after size)) (record {
        few = omega (arith, few, h.few, l, whole, length-drop 1 left, length-drop size after);
        space = ap (λ (k : ℕ). piece (drop k after)) e ∙ piece_past after;
        reached = subst (λ (texts : List (List ℕ)). Reached text texts next)
            (sym (ap (λ (k : ℕ). behind (drop k after)) e ∙ behind_past after)) r;
      })

module _ {text part : List ℕ} {texts : List (List ℕ)} {count : ℕ} (r : Reached text (part ∷ texts) count) where
  walk_good : are_numbers (said_in text) ≡ (is_small part && are_numbers (non_empty texts))
  walk_good = r.good ∙ are_turn part texts

  -- a part that is no number decides
  pub walk_bad : is_small part ≡ false → are_numbers (said_in text) ≡ false
  walk_bad f = walk_good ∙ not_both _ f

  pub walk_fine : are_numbers (said_in text) ≡ true → is_small part ≡ true
  walk_fine t = and_left (is_small part) _ (sym walk_good ∙ t)

  module _ (small : is_small part ≡ true) where
    walk_still : are_numbers (said_in text) ≡ are_numbers (non_empty texts)
    walk_still = walk_good ∙ ap (λ (b : Bool). b && are_numbers (non_empty texts)) small

    -- two spaces stand side by side, or one at the end
    pub walk_skips : length part ≡ 0 → Reached text texts count
    walk_skips h = record { some = r.some; left = r.left ∙ values_none part texts h; good = walk_still }

    -- a number
    module _ (h : 0 < length part) where
      passed : (count < length (numbers_in text))
          × ((get_or (numbers_in text) count 0 ≡ read_on 0 part)
          × (drop (count + 1) (numbers_in text) ≡ values (non_empty texts)))
      passed =
          drop_next (numbers_in text) (values (non_empty texts)) count (read_on 0 part)
          (r.left ∙ values_some part texts h)

      pub walk_one : count < length (numbers_in text)
      walk_one = passed.0

      pub walk_value : read_on 0 part ≡ get_or (numbers_in text) count 0
      walk_value = sym passed.1.0

      pub walk_turn : Reached text texts (count + 1)
      walk_turn = record { some = omega (arith, walk_one); left = passed.1.1; good = walk_still }

-- behind no space stands nothing
behind_none : (left : List ℕ) → length left < 1 → behind left ≡ []
unfolding behind
behind_none [] l = refl
behind_none (byte ∷ left) l = absurd (omega (arith, l))

-- at the end all are passed, and all are numbers
module _ {text left : List ℕ} {count : ℕ} (h : Left text left count) (l : length left < 1) where
  none : Reached text [] count
  none = subst (λ (texts : List (List ℕ)). Reached text texts count) (behind_none left l) h.reached

  pub walk_all : count ≡ length (numbers_in text)
  unfolding non_empty values
  walk_all = omega (arith, none.some, length-drop count (numbers_in text), ap length none.left)

  pub walk_ends : are_numbers (said_in text) ≡ true
  unfolding non_empty are_numbers
  walk_ends = none.good
