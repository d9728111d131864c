-- `File::open` meets its contract: a refused heading is the refusal; behind a good one the listing ends with 0 where
-- the file ends with its last table, and with 8 where it does not. Assumes nothing.
use mathlib.Core.Path.{◌≡◌, refl, sym, ap, ◌∙◌}
use Prim.Native.Nat.{◌+◌}
use native.Mathlib.Omega.{arith}
use lib.ListN.{length}
use Rattle.runfile.specs.declared.Heading.{Heading}
use Rattle.listing.specs.File.{table_begins, begins_reply, heading, due}
use Rattle.listing.specs.Listing.{ends_with}
use Rattle.listing.proofs.Behind.{begins_inside}
use Rattle.showing.proofs.Laws.{headed, ends_early_lem, ends_other, ends_good}
use Rattle.showing.proofs.File.open.Goals as goal
use Rattle.showing.proofs.File.open.Goals.{After-table_begins, Else-heading-ne0}

-- where the heading is not refused
said : (c : Else-heading-ne0) → c.read_heading-heading.result ≡ heading c.args.bytes.now
unfolding heading
said c = c.read_heading-heading.ensures.value

ok : (c : Else-heading-ne0) → (heading c.args.bytes.now).refusal ≡ 0
ok c = sym (ap (λ (h : Heading). h.refusal) (said c)) ∙ c.if-heading-ne0.false

-- where the last table ends
end_of : (c : After-table_begins) → let bytes = c.args.bytes.now in
    c.table_begins.result ≡ table_begins (heading bytes).n (due bytes)
unfolding due
end_of c =
    let e = (goal.at.After-table_begins c).Else-heading-ne0 in
    let h = headed c.args.bytes.now (ok e) in
    begins_inside _ _ _
    (c.table_begins.ensures ∙ ap (λ (g : Heading). begins_reply g.n (g.t + 1)) (said e))
    h.low h.high

pub returns-then-heading-ne0 : goal.returns-then-heading-ne0
unfolding heading
returns-then-heading-ne0 c =
    let number = ap (λ (h : Heading). h.refusal) c.read_heading-heading.ensures.value in (
      number ∙ sym (ends_early_lem c.args.bytes.now (λ z. c.if-heading-ne0.true (number ∙ z))),
      c.if-heading-ne0.true,
    )

pub overflow_add-heading : goal.overflow_add-heading
overflow_add-heading c =
    let e = (goal.at.overflow_add-heading c).Else-heading-ne0 in
    omega (arith, ap (λ (h : Heading). h.t) (said e), (headed c.args.bytes.now (ok e)).few)

pub returns-then-bytes-table_begins : goal.returns-then-bytes-table_begins
returns-then-bytes-table_begins c =
    let end = end_of (goal.at.returns-then-bytes-table_begins c).After-table_begins in
    let good = ok (goal.at.returns-then-bytes-table_begins c).Else-heading-ne0 in
    rw c.from.ensures (
      sym (ends_other _ good (λ z. omega (arith, z, end, c.if-bytes-table_begins.true))),
      λ z. absurd (omega (arith, z)),
    )

sent : (c : After-table_begins) → length c.args.bytes.now ≡ c.table_begins.result → ends_with c.args.bytes.now ≡ 0
sent c l = ends_good _ (ok (goal.at.After-table_begins c).Else-heading-ne0) (l ∙ end_of c)

pub invariant_of-result : goal.invariant_of-result
unfolding heading
invariant_of-result c =
    let t = (goal.at.invariant_of-result c).After-table_begins in
    record {
      sent = sent t (omega (arith, c.if-bytes-table_begins.false));
      small = λ i. (c.type_inv.bytes i).fits;
      said = c.read_heading-heading.ensures.value;
      written = c.read_heading-heading.ensures.rows_after;
    }

pub returns : goal.returns
returns c =
    let t = (goal.at.returns c).After-table_begins in
    (sent t (omega (arith, c.if-bytes-table_begins.false)), refl)
