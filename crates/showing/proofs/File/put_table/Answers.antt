-- `File::put_table` meets its contract: a table of a good file lies within it, so its rows are read, and their lines
-- are put. Assumes nothing.
use mathlib.Core.Path.{◌≡◌, sym, ap, ap₂, subst, ◌∙◌}
use mathlib.Core.List.{List}
use Prim.Native.Nat.{ℕ, ◌+◌, ◌-◌, ◌≤◌}
use native.Mathlib.Omega.{arith}
use lib.ListN.{length, get_or, take, drop, replicate, length-replicate}
use lib.Seq.{length-take-le}
use Rattle.sizes.specs.Sizes.{table_rows}
use Rattle.sizes.proofs.Laws.{table_le}
use Rattle.runfile.specs.Reply.{table_writes}
use Rattle.listing.specs.Inside.{Put}
use Rattle.listing.specs.File.{table_bytes, table_begins, begins_reply, table_of, heading}
use Rattle.listing.specs.Listing.{ends_with}
use Rattle.listing.proofs.Behind.{begins_inside, rows_inside}
use Rattle.showing.specs.Show.{places_text}
use Rattle.showing.proofs.Laws.{
  Headed,
  table_next,
  table_within,
  table_m,
  table_read,
  table_lines,
}
use Rattle.showing.proofs.GoodFiles.{sent_of, boxes, headed_of}
use Rattle.showing.proofs.File.put_table.Goals as goal
use Rattle.showing.proofs.File.put_table.Goals.{After-table_begins-end, After-table_rows-count}

-- where the two places in the file are known
abbrev bytes_of : After-table_begins-end → List ℕ
bytes_of c = c.args.self.now

n_of : (c : After-table_begins-end) → c.self.inside.heading.n ≡ (heading (bytes_of c)).n
n_of c = boxes c.self.invariant c.self.view_is

headed : (c : After-table_begins-end) → Headed (bytes_of c)
headed c = headed_of c.self.invariant c.self.view_is

sent : (c : After-table_begins-end) → ends_with (bytes_of c) ≡ 0
sent c = sent_of c.self.invariant c.self.view_is

from_of : (c : After-table_begins-end) →
    c.table_begins-from.result ≡ table_begins (heading (bytes_of c)).n c.args.m
from_of c =
    begins_inside _ _ _
    (c.table_begins-from.ensures ∙ ap (λ (k : ℕ). begins_reply k c.args.m) (n_of c))
    (headed c).low (headed c).high

to_of : (c : After-table_begins-end) →
    c.table_begins-end.result ≡ c.table_begins-from.result + table_bytes (heading (bytes_of c)).n
to_of c =
    let next =
    begins_inside _ _ _ (c.table_begins-end.ensures ∙ ap (λ (k : ℕ). begins_reply k (c.args.m + 1)) (n_of c))
    (headed c).low (headed c).high in
    omega (arith, next, from_of c, table_next (bytes_of c) (sent c) c.args.m c.requires.m)

within : (c : After-table_begins-end) → c.table_begins-end.result ≤ length c.self.inside.bytes.now
within c =
    omega (
      arith,
      to_of c,
      from_of c,
      table_within (bytes_of c) (sent c) c.args.m c.requires.m,
      ap length c.self.view_is,
    )

-- where the rows are counted
abbrev places_of : After-table_rows-count → After-table_begins-end
places_of c = (goal.at.After-table_rows-count c).After-table_begins-end

rows_of : (c : After-table_rows-count) → c.table_rows-count.result ≡ table_rows (heading (bytes_of (places_of c))).n
rows_of c =
    let b = places_of c in
    let h = headed b in
    rows_inside _ _ c.table_rows-count.ensures (omega (arith, n_of b, h.low)) (omega (arith, n_of b, h.high))
    ∙ ap table_rows (n_of b)

rows_fit : (c : After-table_rows-count) → c.table_rows-count.result ≤ length c.read_table.new.rows
rows_fit c = omega (arith, rows_of c, table_le (headed (places_of c)).high, c.read_table.auto.rows)

-- the rows that were read are the table's
read_of : (c : After-table_rows-count) → let bytes = bytes_of (places_of c) in
    take c.table_rows-count.result c.read_table.new.rows ≡ table_of (heading bytes).n bytes c.args.m
read_of c =
    let b = places_of c in
    let last = c.read_table.new.rows in
    let from = b.table_begins-from.result in
    let end = b.table_begins-end.result in
    let zeros : List ℕ = replicate 4563 0 in
    ap (λ (k : ℕ). take k last) (rows_of c)
    ∙ table_read (bytes_of b) (sent b) b.args.m b.requires.m from end zeros
    last (from_of b) (to_of b) (length-replicate {A = ℕ} 4563 0)
    (c.read_table.ensures.rows_after
    ∙ ap₂ (λ (k : ℕ) (xs : List ℕ). table_writes k (take (end - from) (drop from xs)) zeros) (n_of b)
    c.self.view_is)

pub overflow_add-m : goal.overflow_add-m
overflow_add-m c =
    omega (arith, table_m c.args.self.now (sent_of c.self.invariant c.self.view_is) c.args.m c.requires.m)

pub slice_bounds-read_table-count : goal.slice_bounds-read_table-count
slice_bounds-read_table-count c =
    omega (arith, to_of (goal.at.slice_bounds-read_table-count c).After-table_begins-end)

pub slice_bounds-read_table-start : goal.slice_bounds-read_table-start
slice_bounds-read_table-start c =
    omega (arith, to_of (goal.at.slice_bounds-read_table-start c).After-table_begins-end)

pub slice_bounds-read_table-end : goal.slice_bounds-read_table-end
slice_bounds-read_table-end c = within (goal.at.slice_bounds-read_table-end c).After-table_begins-end

pub slice_bounds-table-end : goal.slice_bounds-table-end
slice_bounds-table-end c = rows_fit c

pub slice_bounds-put_rows-end : goal.slice_bounds-put_rows-end
slice_bounds-put_rows-end c =
    sym (length-take-le _ _ (rows_fit (goal.at.slice_bounds-put_rows-end c).After-table_rows-count))

pub put_rows-requires : goal.put_rows-requires
put_rows-requires c =
    let r = (goal.at.put_rows-requires c).After-table_rows-count in
    let b = places_of r in
    let long = length-take-le r.table_rows-count.result r.read_table.new.rows (rows_fit r) in
    record {
      rows = (b.requires.m, long ∙ rows_of r);
      room = omega (arith, long, rows_of r, b.requires.room);
    }

pub returns : goal.returns
returns c =
    let r = (goal.at.returns c).After-table_rows-count in
    let b = places_of r in
    let n = (heading (bytes_of b)).n in
    subst (Put _ _ _ _)
    (ap (λ (rows : List ℕ). places_text n b.args.m (λ k. get_or rows k 0) (table_rows n)) (read_of r)
    ∙ table_lines (bytes_of b) (sent b) b.args.m b.requires.m)
    c.put_rows.ensures
