-- `listing::tell_lines` meets its contract: a refused heading or start ends the listing, with no line before the last;
-- otherwise the line `run` comes first and the lines of the iterations behind it. Assumes nothing.
use mathlib.Core.Path.{sym, ap, ◌∙◌}
use mathlib.Core.List.{List, ◌++◌}
use Prim.Native.Nat.{ℕ}
use native.Mathlib.Omega.{arith}
use lib.ListN.{length}
use Rattle.std.proofs.lemmas.Result.{err_from_is_err_and}
use Rattle.listing.specs.Listing.{run_line, done_of, iteration_lines}
use Rattle.listing.proofs.Whole.{early_ends, early_lines, is_started, all_lines}
use Rattle.listing.proofs.tell_lines.Goals as goal

pub returns-in_err-s-clause-ends : goal.returns-in_err-s-clause-ends
returns-in_err-s-clause-ends c =
    let p = err_from_is_err_and c.from_residual.result c.from_residual.ensures.1 in
    let e = c.in_err-s.ensures in
    rw (p.1, p.2) (early_ends _ (λ z. e.1 (e.0 ∙ z)) _ e.0, e.1)

pub returns-in_err-s-clause-text : goal.returns-in_err-s-clause-text
returns-in_err-s-clause-text c =
    let e = c.in_err-s.ensures in
    c.requires ∙ sym (early_lines _ (λ z. e.1 (e.0 ∙ z)))

pub tell_iterations-requires : goal.tell_iterations-requires
tell_iterations-requires c =
    let e = c.in_ok-s.ensures in
    (is_started _ e.0 _ e.1, omega (arith, c.put_run.ensures.most, ap length c.requires))

pub returns-clause-text : goal.returns-clause-text
returns-clause-text c =
    let e = c.in_ok-s.ensures in
    let s = c.in_ok-s.s in
    let bytes = c.args.bytes.now in
    let first = c.put_run.ensures.text ∙ ap (λ (xs : List ℕ). xs ++ run_line s.n s.t s.faulty) c.requires in
    c.tell_iterations.ensures.text
    ∙ ap (λ (xs : List ℕ). xs ++ iteration_lines bytes (done_of bytes)) first
    ∙ all_lines _ e.0 _ e.1
