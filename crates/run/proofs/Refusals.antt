-- What a test of n, t and the faulty set, or of the first four refusals of a state, says where it is passed; where
-- those four pass, the rest of the list decides; and the replies with and without a refusal. Assumes nothing.
use mathlib.Core.Path.{◌≡◌, refl}
use mathlib.Core.Bool.{false}
use mathlib.Core.List.{List}
use Prim.Native.Nat.{ℕ, ◌-◌, ◌≤◌}
use borrow.Author.Tests.{ne_eqb}
use Rattle.counting.specs.Refuse.{first_of}
use Rattle.counting.proofs.Refuse.{accepted}
use Rattle.sizes.specs.Sizes.{outside, too_many, stray, sound_zero}
use Rattle.sizes.proofs.Laws.{inside_high}
use Rattle.run.specs.declared.Reason.{Reason}
use Rattle.run.specs.declared.Run.{Run}
use Rattle.run.specs.declared.Next.{Next}
use Rattle.run.specs.declared.Why.{Why}
use Rattle.run.specs.Iteration.{no_reason, reason_at, next_run}
use Rattle.run.specs.State.{start_refusal, start_run, start_reply, zeros, iterate_refusal, iterate_reply}
use Rattle.run.specs.Inside.{setting_refusal, first_refusal, asking_refusal}
use Rattle.run.specs.Why.{why_refusal, why_reply}

-- what passes 4, 5 and 6
pub record Allowed (n t faulty : ℕ) : Type 0 where
  pub pass4 : outside n ≡ false
  pub pass5 : too_many n t ≡ false
  pub pass6 : stray n faulty ≡ false
  pub high : n ≤ 13

module _ (n t faulty : ℕ) where
  pub setting_passes : setting_refusal n t faulty ≡ 0 → Allowed n t faulty
  unfolding setting_refusal
  setting_passes e =
      let h4 = accepted 3 (outside n) _ e in
      let h5 = accepted 4 (too_many n t) _ h4.1 in
      let h6 = accepted 5 (stray n faulty) _ h5.1 in
      record {
        pass4 = h4.0;
        pass5 = h5.0;
        pass6 = h6.0;
        high = inside_high n h4.0;
      }

  module _ (rows : List ℕ) where
    -- the replies of a start
    pub start_refused : (r : ℕ) (s : Run) → r ≡ start_refusal n t faulty rows → (r ≡ 0 → ⊥) → s ≡ zeros →
        ◌≡◌ {A = Next} (record { refusal = r; run = s }) (start_reply n t faulty rows)
    unfolding start_reply
    start_refused r s e h z = rw (← e, ne_eqb r 0 h, z) refl

    pub start_taken : (s : Run) → start_refusal n t faulty rows ≡ 0 → s ≡ start_run n t faulty rows →
        ◌≡◌ {A = Next} (record { refusal = 0; run = s }) (start_reply n t faulty rows)
    unfolding start_reply
    start_taken s e h = rw (e, h) refl

module _ (s : Run) where
  -- where all four pass
  pub record Begun : Type 0 where
    pub allowed : Allowed s.n s.t s.faulty
    pub pass9 : sound_zero s.n s.faulty s.rows ≡ false

  pub first_passes : first_refusal s ≡ 0 → Begun
  unfolding first_refusal
  first_passes e =
      let h4 = accepted 3 (outside s.n) _ e in
      let h5 = accepted 4 (too_many s.n s.t) _ h4.1 in
      let h6 = accepted 5 (stray s.n s.faulty) _ h5.1 in
      let h9 = accepted 8 (sound_zero s.n s.faulty s.rows) _ h6.1 in
      record {
        allowed =
            record {
              pass4 = h4.0;
              pass5 = h5.0;
              pass6 = h6.0;
              high = inside_high s.n h4.0;
            };
        pass9 = h9.0;
      }

  -- a call that says why
  module _ (asked listed : ℕ) where
    pub why_goes_on : first_refusal s ≡ 0 → why_refusal s asked listed ≡ asking_refusal s asked listed
    unfolding why_refusal asking_refusal first_of
    why_goes_on e =
        let b = first_passes e in
        let p = b.allowed in
        rw (p.pass4, p.pass5, p.pass6, b.pass9) refl

    -- its replies
    pub why_refused : (r : ℕ) → r ≡ why_refusal s asked listed → (r ≡ 0 → ⊥) →
        ◌≡◌ {A = Why} (record { refusal = r; run = s; reason = no_reason }) (why_reply s asked listed)
    unfolding why_reply
    why_refused r e h = rw (← e, ne_eqb r 0 h) refl

    pub why_taken : (reason : Reason) → why_refusal s asked listed ≡ 0 →
        reason ≡ reason_at s (asked - 1) (listed - 1) →
        ◌≡◌ {A = Why} (record { refusal = 0; run = s; reason = reason }) (why_reply s asked listed)
    unfolding why_reply
    why_taken reason e h = rw (e, h) refl

    pub why_reason : why_refusal s asked listed ≡ 0 →
        (why_reply s asked listed).reason ≡ reason_at s (asked - 1) (listed - 1)
    unfolding why_reply
    why_reason e = rw e refl

module _ (s : Run) (table : List ℕ) where
  -- the replies of an iteration
  pub iterate_refused : (r : ℕ) → r ≡ iterate_refusal s table → (r ≡ 0 → ⊥) →
      ◌≡◌ {A = Next} (record { refusal = r; run = s }) (iterate_reply s table)
  unfolding iterate_reply
  iterate_refused r e h = rw (← e, ne_eqb r 0 h) refl

  pub iterate_taken : (next : Run) → iterate_refusal s table ≡ 0 → next ≡ next_run s table →
      ◌≡◌ {A = Next} (record { refusal = 0; run = next }) (iterate_reply s table)
  unfolding iterate_reply
  iterate_taken next e h = rw (e, h) refl
