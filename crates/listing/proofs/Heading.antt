-- A heading that is not refused: what it says, its n rows, and that a start takes them; so a file is refused in place
-- of the line `run` exactly where its heading is, and the state before the first iteration is the start's.
-- Assumes nothing.
use mathlib.Core.Path.{◌≡◌, refl, sym, ap, subst, ◌∙◌}
use mathlib.Core.Bool.{Bool, true, false}
use mathlib.Core.List.{List}
use Prim.Native.Nat.{ℕ, ◌*◌, ◌≤◌, ◌<◌}
use lib.Dec.{eqb}
use lib.ListN.{length, take, replicate}
use borrow.Author.Tests.{eqb-true, eqb-false, eq-eqb, ne_eqb}
use Rattle.counting.proofs.Bools.{cond_true, cond_false}
use Rattle.counting.proofs.Build.{front_take}
use Rattle.sizes.specs.Sizes.{Startable}
use Rattle.sizes.proofs.Laws.{inside_low, inside_high}
use Rattle.std.specs.Prelude.{Result, Ok, Err}
use Rattle.run.specs.declared.Run.{Run}
use Rattle.run.specs.declared.Next.{Next}
use Rattle.run.specs.State.{start_refusal, start_run, start_reply, zeros, after}
use Rattle.run.proofs.Accepted.{start_accepted_is}
use Rattle.runfile.specs.declared.Heading.{Heading}
use Rattle.runfile.specs.File.{n_of, heading_bytes, heading_row}
use Rattle.runfile.specs.Reply.{heading_refusal, heading_of, heading_writes}
use Rattle.runfile.proofs.Laws.{
  Readable,
  heading_readable,
  heading_given,
  heading_written,
  heading_number,
  heading_tolerates,
  heading_startable,
}
use Rattle.listing.specs.Inside.{LeadsTo}
use Rattle.listing.specs.File.{or_else, heading, rows_of, reply_after, state_after, refused_start}

-- the first of two refusals
pub first_refused : (a b : ℕ) → (a ≡ 0 → ⊥) → or_else a b ≡ a
unfolding or_else
first_refused a b h = cond_false _ _ (ne_eqb a 0 h)

pub first_passed : (a b : ℕ) → a ≡ 0 → or_else a b ≡ b
unfolding or_else
first_passed a b h = cond_true _ _ (eq-eqb a 0 h)

pub none_refused : (a b : ℕ) → or_else a b ≡ 0 → (a ≡ 0) × (b ≡ 0)
unfolding or_else
none_refused a b h = go (eqb a 0) refl
  where
    go : (t : Bool) → eqb a 0 ≡ t → (a ≡ 0) × (b ≡ 0)
    go true e = (eqb-true a 0 e, rw e at h)
    go false e = absurd (eqb-false a 0 e (rw e at h))

-- a step that leads where another does
pub leads_same : {a b : ℕ} {s t : Run} → a ≡ b → s ≡ t → (r : Result Run ℕ) → LeadsTo a s r → LeadsTo b t r
leads_same same to (Ok r) p = (sym same ∙ p.0, p.1 ∙ to)
leads_same same to (Err number) p = (p.0 ∙ same, p.1)

-- thirteen places, which the heading's rows are read to
abbrev pub thirteen : List ℕ
thirteen = replicate 13 0

module _ (bytes : List ℕ) (ok : (heading bytes).refusal ≡ 0) where
  passed : heading_refusal bytes (length thirteen) ≡ 0
  unfolding heading
  passed = sym (heading_number bytes 13) ∙ ok

  pub heading_reads : Readable bytes (length thirteen)
  heading_reads = heading_readable bytes (length thirteen) passed

  pub heading_says : heading bytes ≡ heading_of bytes
  unfolding heading
  heading_says = heading_given bytes thirteen passed

  n_is : (heading bytes).n ≡ n_of bytes
  unfolding heading_of
  n_is = ap (λ (h : Heading). h.n) heading_says

  pub heading_rows : take (heading bytes).n (heading_writes bytes thirteen) ≡ rows_of bytes
  unfolding rows_of
  heading_rows =
      rw n_is (ap (take (n_of bytes)) (heading_written bytes thirteen passed)
      ∙ front_take (n_of bytes) (heading_row bytes) thirteen)

  pub heading_starts : Startable (heading bytes).n (heading bytes).t (heading bytes).faulty (rows_of bytes)
  unfolding heading_of
  heading_starts =
      subst (Startable (heading bytes).n (heading bytes).t (heading bytes).faulty) heading_rows
      (rw heading_says (heading_startable bytes thirteen passed))

  pub heading_low : 1 ≤ (heading bytes).n
  heading_low = inside_low _ heading_starts.pass4

  pub heading_high : (heading bytes).n ≤ 13
  heading_high = inside_high _ heading_starts.pass4

  pub heading_few : 3 * (heading bytes).t < (heading bytes).n
  unfolding heading_of
  heading_few = rw heading_says (heading_tolerates bytes (length thirteen) passed)

  pub heading_whole : heading_bytes (heading bytes).n ≤ length bytes
  heading_whole = rw n_is heading_reads.whole

  -- a start over what was read and written is the first reply
  pub start_reply_lem : (h : Heading) (rows : List ℕ) (r : Next) → h ≡ heading bytes →
      rows ≡ heading_writes bytes thirteen →
      r ≡ start_reply h.n h.t h.faulty (take h.n rows) → r ≡ reply_after bytes 0
  unfolding reply_after after
  start_reply_lem h rows r eh er e =
      e ∙ rw (eh, er) (ap (start_reply (heading bytes).n (heading bytes).t (heading bytes).faulty) heading_rows)

  starts : start_refusal (heading bytes).n (heading bytes).t (heading bytes).faulty (rows_of bytes) ≡ 0
  starts = start_accepted_is _ _ _ _ heading_starts

  pub start_state : state_after bytes 0
      ≡ start_run (heading bytes).n (heading bytes).t (heading bytes).faulty (rows_of bytes)
  unfolding state_after reply_after after start_reply
  start_state = cond_true _ zeros (eq-eqb _ 0 starts)

-- a file that is not refused in place of the line `run` has a good heading
pub heading_good : (bytes : List ℕ) → refused_start bytes ≡ 0 → (heading bytes).refusal ≡ 0
unfolding refused_start
heading_good bytes h = (none_refused _ _ h).0
