-- A turn tests box k by its row in the heading. Assumes nothing.
use mathlib.Core.Path.{◌≡◌, sym, ap, ◌∙◌}
use mathlib.Core.Bool.{◌&&◌}
use Prim.Native.Nat.{ℕ}
use native.Mathlib.Omega.{arith}
use lib.Dec.{eqb}
use Rattle.counting.proofs.Loops.{search_begins, search_turn, search_hits, search_ends}
use Rattle.counting.proofs.Build.{get_or_build}
use Rattle.sizes.specs.Sizes.{sound, sound_zero}
use Rattle.runfile.specs.File.{heading_row, row_from, heading_bytes}
use borrow.Author.Rules.{rules}
use Rattle.runfile.proofs.has_sound_zero.Invariants.{zero_at}
use Rattle.runfile.proofs.has_sound_zero.Goals as goal
use Rattle.runfile.proofs.has_sound_zero.Goals.{After-is_sound_zero}

-- the test at box k, made of its row in the heading
abbrev box_of : After-is_sound_zero → ℕ
box_of c = c.loop-k.k

at_box : (c : After-is_sound_zero) →
    let a = c.args in c.is_sound_zero.result ≡ zero_at a.bytes.now a.n a.faulty (box_of c)
unfolding heading_row row_from
at_box c =
    let a = c.args in
    let k = box_of c in
    let row = get_or_build a.n (heading_row a.bytes.now) k 0 (search rules) in
    c.is_sound_zero.ensures
    ∙ ap (λ (row : ℕ). sound a.faulty k && eqb row 0) (c.number8.ensures ∙ sym row)

pub loop-k-init : goal.loop-k-init
loop-k-init c = search_begins _

pub overflow_mul-k : goal.overflow_mul-k
unfolding heading_bytes
overflow_mul-k c = omega arith

pub overflow_add-k : goal.overflow_add-k
unfolding heading_bytes
overflow_add-k c = omega arith

pub number8-requires : goal.number8-requires
unfolding heading_bytes
number8-requires c = omega arith

pub returns-then-is_sound_zero : goal.returns-then-is_sound_zero
unfolding sound_zero
returns-then-is_sound_zero c =
    let at = at_box (goal.at.returns-then-is_sound_zero c).After-is_sound_zero in
    search_hits _ (search rules) at c.if-is_sound_zero.true

pub loop-k-preserved : goal.loop-k-preserved
loop-k-preserved c =
    let at = at_box (goal.at.loop-k-preserved c).After-is_sound_zero in
    search_turn _ (search rules) (search rules) at c.if-is_sound_zero.false

pub returns : goal.returns
unfolding sound_zero
returns c = search_ends _ c.loop-k.invariant (omega arith)
