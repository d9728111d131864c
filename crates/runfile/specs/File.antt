-- The run file, as docs/RUNFILE.md lays it out: where each number stands in the bytes. All numbers are most
-- significant byte first.
use Rattle.std.specs.Prelude.{
  ℕ,
  zero,
  suc,
  ◌+◌,
  ◌*◌,
  ◌/◌,
  ◌%◌,
  ◌<◌,
  Bool,
  cond,
  ◌&&◌,
  List,
  [],
  ◌∷◌,
  ◌++◌,
  eqb,
  length,
  get_or,
}
use Rattle.sizes.specs.Sizes.{largest_t}

-- the number in so many bytes from a place on
unfoldable pub number : List ℕ → ℕ → ℕ → ℕ
number bytes at zero = 0
number bytes at (suc size) = number bytes at size * 256 + get_or bytes (at + size) 0

-- the bytes of a number, so many of them, most significant first
unfoldable pub in_bytes : ℕ → ℕ → List ℕ
in_bytes zero value = []
in_bytes (suc size) value = in_bytes size (value / 256) ++ ((value % 256) ∷ [])

-- the bytes of the first k rows, 8 of each
unfoldable pub rows_in_bytes : List ℕ → ℕ → List ℕ
rows_in_bytes rows zero = []
rows_in_bytes rows (suc k) = rows_in_bytes rows k ++ in_bytes 8 (get_or rows k 0)

-- the mark: H, N, B
abbrev pub mark : List ℕ
mark = 72 ∷ 78 ∷ 66 ∷ []

-- the one version that there is
abbrev pub the_version : ℕ
the_version = 1

-- do the bytes begin with the mark?
unfoldable pub has_mark : List ℕ → Bool
has_mark bytes =
    eqb (get_or bytes 0 0) (get_or mark 0 0) &&
    eqb (get_or bytes 1 0) (get_or mark 1 0) &&
    eqb (get_or bytes 2 0) (get_or mark 2 0)

-- version in 16 bits
unfoldable pub version_of : List ℕ → ℕ
version_of bytes = number bytes 3 2

-- n in 8 bits
unfoldable pub n_of : List ℕ → ℕ
n_of bytes = get_or bytes 5 0

-- t in 8 bits, as it is written
unfoldable pub t_byte : List ℕ → ℕ
t_byte bytes = get_or bytes 6 0

-- faulty set in 16 bits
unfoldable pub faulty_of : List ℕ → ℕ
faulty_of bytes = number bytes 7 2

-- t written as 255 means the largest t
unfoldable pub t_of : ℕ → ℕ → ℕ
t_of n byte = cond (eqb byte 255) (largest_t n) byte

-- the length of a heading: 9 bytes and n rows of 64 bits
unfoldable pub heading_bytes : ℕ → ℕ
heading_bytes n = 9 + 8 * n

-- row k of those that begin at a place, each of 64 bits
unfoldable pub row_from : ℕ → List ℕ → ℕ → ℕ
row_from at bytes k = number bytes (at + 8 * k) 8

-- the heading's rows begin behind its 9 bytes, and a table's with its first byte
unfoldable pub heading_row : List ℕ → ℕ → ℕ
heading_row = row_from 9

-- row k of a table
unfoldable pub table_row : List ℕ → ℕ → ℕ
table_row = row_from 0

-- each number of a list is below a bound
abbrev pub AllBelow : ℕ → List ℕ → Type 0
AllBelow bound xs = (k : ℕ) → k < length xs → get_or xs k 0 < bound

-- numbers of 8 bits
abbrev pub AllBytes : List ℕ → Type 0
AllBytes = AllBelow 256

-- numbers of 64 bits
abbrev pub AllRows : List ℕ → Type 0
AllRows = AllBelow 18446744073709551616
