-- `run::Run::has_bad_place` meets its contract: the search goes through the 13 places and ends at a bad one.
-- Assumes nothing.
use mathlib.Core.Path.{◌≡◌, refl, sym, ap, ◌∙◌}
use mathlib.Core.Bool.{Bool, true, false}
use Prim.Native.Nat.{ℕ, ◌<◌}
use native.Mathlib.Omega.{arith}
use lib.ListN.{get_or}
use borrow.Author.Rules.{rules}
use borrow.Author.Tests.{tests}
use Rattle.std.specs.Bool.{MatchBool}
use Rattle.std.specs.List.{range_with_len, AllWithin, HoldsAt}
use Rattle.std.proofs.lemmas.Iterator.{cases_from_any, YieldsList-from_range}
use Rattle.std.proofs.lemmas.List.FromFn.{get_or-range_with_len}
use Rattle.counting.specs.Count.{any}
use Rattle.counting.proofs.Count.{some_any, none_any}
use Rattle.run.specs.State.{bad_place}
use Rattle.run.proofs.Run.has_bad_place.Goals as goal

-- the answer of the search is that of the definition
searched : (p : ℕ → Bool) (r : Bool) →
    MatchBool r ((k : ℕ) × (k < 13) × HoldsAt (λ k. p k ≡ true) (range_with_len 0 13) k)
    (AllWithin (λ k. p k ≡ false) (range_with_len 0 13) 0 13) → r ≡ any 13 p
searched p true h =
    let at : get_or (range_with_len 0 13) h.0 0 ≡ h.0 = omega (arith, get_or-range_with_len 0 13 h.0 0 h.1) in
    sym (some_any 13 p h.0 h.1 (ap p (sym at) ∙ h.2 0))
searched p false h =
    sym (none_any 13 p (λ k l.
    let at : get_or (range_with_len 0 13) k 0 ≡ k = omega (arith, get_or-range_with_len 0 13 k 0 l) in
    ap p (sym at) ∙ h k 0 (omega arith) l))

pub returns : goal.returns
returns c =
    let p = bad_place c.args.self.now in
    searched p _
    (cases_from_any _ _ _ (λ k. p k ≡ true) (λ k. p k ≡ false) c.any.ensures.ran
    (YieldsList-from_range 0 13 13 refl refl)
    (λ x q k. search (rules, tests)) (λ x q k. search (rules, tests)))
