-- A piece of a text, byte by byte: one byte of it, and none left. Assumes nothing.
use mathlib.Core.Path.{◌≡◌, sym, ap, ◌∙◌}
use mathlib.Core.List.{List}
use Prim.Native.Nat.{ℕ, ◌+◌, ◌≤◌, ◌<◌}
use native.Mathlib.Numerals.{add-one}
use lib.ListN.{length, get_or, drop, drop_of_length-le}
use lib.Seq.{drop-cons}
use Rattle.making.specs.Text.{Reading, byte_taken, bytes_taken}

-- the byte at a place, and then those behind it
pub bytes_turn : (s : Reading) (text : List ℕ) (i : ℕ) → i < length text →
    bytes_taken s (drop i text) ≡ bytes_taken (byte_taken s (get_or text i 0)) (drop (i + 1) text)
unfolding bytes_taken
bytes_turn s text i l =
    ap (bytes_taken s) (drop-cons text i 0 l)
    ∙ ap (λ (k : ℕ). bytes_taken (byte_taken s (get_or text i 0)) (drop k text)) (sym (add-one i))

-- no byte is left
pub bytes_end : (s : Reading) (text : List ℕ) (i : ℕ) → length text ≤ i → s ≡ bytes_taken s (drop i text)
unfolding bytes_taken
bytes_end s text i l = sym (ap (bytes_taken s) (drop_of_length-le text {i = i} l))
