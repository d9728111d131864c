-- The word of a line as a slice of its own: it is the word that is due where the two lists are equal, and what comes
-- of it is what comes of the line that begins with it. Assumes nothing.
use mathlib.Core.Path.{◌≡◌, refl, sym, ap, ◌∙◌}
use mathlib.Core.Bool.{Bool, true, false}
use mathlib.Core.List.{List}
use Prim.Native.Nat.{ℕ, ◌≤◌}
use native.Mathlib.Omega.{arith}
use lib.Dec.{eqb}
use lib.ListN.{length, get_or, take}
use lib.Seq.{length-take-le, get_or-take, take-length}
use lib.Pointwise.{pointwise, bytes_decides}
use borrow.Author.Tests.{eq-eqb, ne_eqb, eqb-true}
use Rattle.counting.proofs.Bools.{both, and_left, and_right, not_of_false, not_of_true, not_true, not_false, same}
use Rattle.counting.proofs.Build.{built}
use Rattle.counting.proofs.Count.{any_none, none_any}
use Rattle.counting.specs.Count.{any}
use Rattle.listing.specs.Listing.{run_word}
use Rattle.says.specs.Say.{rows_word, say_word}
use Rattle.making.specs.Make.{
  Progress,
  not_understood,
  differ,
  has_word,
  run_taken,
  rows_taken,
  say_taken,
  words_taken,
}

-- two lists are equal where they are as long and no place differs
module _ (line due : List ℕ) (size : ℕ) (room : size ≤ length line) where
  same_has : take size line ≡ due → has_word line size due ≡ true
  unfolding has_word differ
  same_has e =
      both (eq-eqb size (length due) (sym (length-take-le size line room) ∙ ap length e))
      (not_of_false
      (none_any size (differ line due)
      (λ k l.
      not_of_true
      (eq-eqb _ _ (sym (get_or-take size line k 0 l) ∙ ap (λ (xs : List ℕ). get_or xs k 0) e)))))

  has_same : has_word line size due ≡ true → take size line ≡ due
  unfolding has_word differ
  has_same h =
      let long : size ≡ length due = eqb-true size (length due) (and_left (eqb size (length due)) _ h) in
      let none = not_true (any size (differ line due)) (and_right (eqb size (length due)) _ h) in
      built size (λ k. get_or due k 0) (take size line) (length-take-le size line room)
      (λ k l.
      get_or-take size line k 0 l
      ∙ eqb-true (get_or line k 0) (get_or due k 0) (not_false _ (any_none size (differ line due) none k l)))
      ∙ sym (built size (λ k. get_or due k 0) due (sym long) (λ k l. refl))

  front_is : pointwise eqb (take size line) due ≡ has_word line size due
  front_is =
      let tells = bytes_decides (take size line) due in
      same (pointwise eqb (take size line) due) (has_word line size due)
      (λ e. same_has (tells.0 e))
      (λ h. tells.1 (has_same h))

pub word_is : (word due : List ℕ) → has_word word (length word) due ≡ pointwise eqb word due
word_is word due =
    sym (front_is word due (length word) (omega arith))
    ∙ ap (λ (xs : List ℕ). pointwise eqb xs due) (take-length word)

word_front : (line due : List ℕ) (size : ℕ) → size ≤ length line →
    has_word (take size line) (length (take size line)) due ≡ has_word line size due
word_front line due size room = word_is (take size line) due ∙ front_is line due size room

pub words_front : (s : Progress) (line numbers : List ℕ) (size : ℕ) → size ≤ length line →
    words_taken s (take size line) (length (take size line)) numbers ≡ words_taken s line size numbers
unfolding words_taken
words_front s line numbers size room =
    rw (
      word_front line run_word size room,
      word_front line rows_word size room,
      word_front line say_word size room,
    )
    refl

-- so a word and numbers are taken, by the stage
module _ (s : Progress) (word numbers : List ℕ) where
  abbrev taken : Progress
  taken = words_taken s word (length word) numbers

  module _ (h : s.maker.stage ≡ 0) where
    as_run : (named : Bool) → pointwise eqb word run_word ≡ named → run_taken s named numbers ≡ taken
    unfolding words_taken
    as_run named e = rw (eq-eqb s.maker.stage 0 h, word_is word run_word, e) refl

    pub is_run : pointwise eqb word run_word ≡ true → run_taken s true numbers ≡ taken
    is_run = as_run true

    pub not_run : pointwise eqb word run_word ≡ false → not_understood s 3 ≡ taken
    unfolding run_taken
    not_run = as_run false

  module _ (h : s.maker.stage ≡ 1) where
    as_rows : (named : Bool) → pointwise eqb word rows_word ≡ named → rows_taken s named numbers ≡ taken
    unfolding words_taken
    as_rows named e = rw (h, word_is word rows_word, e) refl

    pub is_rows : pointwise eqb word rows_word ≡ true → rows_taken s true numbers ≡ taken
    is_rows = as_rows true

    pub not_rows : pointwise eqb word rows_word ≡ false → not_understood s 4 ≡ taken
    unfolding rows_taken
    not_rows = as_rows false

  module _ (h : s.maker.stage ≡ 0 → ⊥) (g : s.maker.stage ≡ 1 → ⊥) where
    as_say : (named : Bool) → pointwise eqb word say_word ≡ named → say_taken s named numbers ≡ taken
    unfolding words_taken
    as_say named e = rw (ne_eqb s.maker.stage 0 h, ne_eqb s.maker.stage 1 g, word_is word say_word, e) refl

    pub is_say : pointwise eqb word say_word ≡ true → say_taken s true numbers ≡ taken
    is_say = as_say true

    pub not_say : pointwise eqb word say_word ≡ false → not_understood s 5 ≡ taken
    unfolding say_taken
    not_say = as_say false
