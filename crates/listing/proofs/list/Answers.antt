-- `listing::list` meets its contract: the listing is put together apart, so that a slice that is too short stays as
-- it is; one that has room takes it at its front. Assumes nothing.
use mathlib.Core.Path.{◌≡◌, sym, ap, subst, ◌∙◌}
use mathlib.Core.List.{◌++◌}
use Prim.Native.Nat.{ℕ, ◌≤◌, ◌<◌}
use native.Mathlib.Omega.{arith}
use lib.ListN.{length, take, drop}
use Rattle.run.specs.declared.Next.{Next}
use Rattle.listing.specs.Listing.{listing_of}
use Rattle.listing.proofs.Whole.{outcome_ends, list_refused, list_leaves, list_given, list_copied}
use Rattle.listing.proofs.list.Reads as Reads
use Rattle.listing.proofs.list.Goals as goal
use Rattle.listing.proofs.list.Goals.{After-as_bytes-told}

-- the text that was put together is the listing
told : (c : After-as_bytes-told) → c.as_bytes-told.result.now ≡ listing_of c.args.bytes.now
told c = c.as_bytes-told.ensures ∙ c.tell-last.ensures.text

-- the contract admits one reply, and one last contents of the slice
pub only_one : (κs : _) (a : _) (r s : _) (x y : _) → Reads.Post κs a r x → Reads.Post κs a s y →
    (r ≡ s) × (x.1.0.now ≡ y.1.0.now)
only_one κs a r s x y p q = (p.0 ∙ sym q.0, p.1 ∙ sym q.1)

pub returns-then-out-size : goal.returns-then-out-size
returns-then-out-size c =
    let bytes = c.args.bytes.now in
    let t = told (goal.at.returns-then-out-size c).After-as_bytes-told in
    let short : length c.args.out.now < length (listing_of bytes) = omega (arith, ap length t, c.if-out-size.true) in
    record { value = rw c.from.ensures (list_refused bytes _ short); out_after = list_leaves bytes _ short }

pub returns : goal.returns
returns c =
    let bytes = c.args.bytes.now in
    let out = c.args.out.now in
    let t = told (goal.at.returns c).After-as_bytes-told in
    let text = c.as_bytes-told.result.now in
    let fits : length (listing_of bytes) ≤ length out = omega (arith, ap length t, c.if-out-size.false) in
    let ends = ap (λ (r : Next). r.refusal) c.tell-last.ensures.outcome ∙ outcome_ends bytes in
    let all : c.copy.result ≡ length text = omega (arith, c.copy.ensures.value, c.if-out-size.false) in
    let put = subst (λ (k : ℕ). c.copy.new.out ≡ take k text ++ drop k out) all c.copy.ensures.out_after in
    record {
      value = list_given bytes _ _ _ fits (ap length t) ends;
      out_after = list_copied bytes _ out _ t fits put;
    }
