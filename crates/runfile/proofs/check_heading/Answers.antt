-- The nine tests are made in their order, and what is left of the list of tests is followed from one to the next.
-- Assumes nothing.
use mathlib.Core.Path.{◌≡◌, sym, ap, ◌∙◌}
use mathlib.Core.Bool.{not, false, ◌&&◌}
use mathlib.Core.List.{List, []}
use Prim.Native.Nat.{ℕ}
use native.Mathlib.Omega.{arith}
use lib.Dec.{eqb}
use lib.ListN.{drop, get_or}
use borrow.Author.Tests.{eq-eqb, ne_eqb, lt-ltb, le-ltb}
use Rattle.counting.specs.Count.{build}
use Rattle.counting.specs.Refuse.{first_of}
use Rattle.counting.proofs.Bools.{not_of_true, not_of_false}
use Rattle.counting.proofs.Refuse.{refused, passed}
use Rattle.sizes.specs.Numbers.{number_of, refusal_in}
use Rattle.sizes.specs.Sizes.{outside, too_many, stray, sound_zero}
use Rattle.runfile.specs.File.{version_of, n_of, t_byte, faulty_of, heading_bytes, heading_row, t_of}
use Rattle.runfile.specs.Reply.{heading_tests, heading_refusal, heading_of}
use Rattle.runfile.proofs.Numbers.{marked}
use borrow.Author.Rules.{rules}
use Rattle.runfile.proofs.check_heading.Goals as goal
use Rattle.runfile.proofs.check_heading.Goals.{
  After-has_sound_zero,
  After-is_stray,
  In_ok-boxes,
  Else-bytes-lt9,
  Else-bytes-n,
  Else-has_sound_zero,
  Else-is_stray,
  In_ok-t,
  Else-not-starts_with,
  Else-version-ne1,
}

-- the byte of n
abbrev n_byte : List ℕ → ℕ
n_byte bytes = get_or bytes 5 0

-- the tests up to a place of the list are passed
abbrev Passed : List ℕ → ℕ → ℕ → Type 0
Passed bytes room k = heading_refusal bytes room ≡ first_of (drop k (heading_tests bytes room))

passed_1 : (c : Else-bytes-lt9) → Passed c.args.bytes.now c.args.room 1
unfolding heading_refusal heading_tests
passed_1 c = passed 1 _ (le-ltb _ _ c.if-bytes-lt9.false)

passed_2 : (c : Else-not-starts_with) → Passed c.args.bytes.now c.args.room 2
unfolding heading_tests
passed_2 c =
    passed_1 (goal.at.Else-not-starts_with c).Else-bytes-lt9
    ∙ passed 2 _ (ap not (marked _ _ (omega arith) c.starts_with.ensures.value ∙ c.if-not-starts_with.false))

passed_3 : (c : Else-version-ne1) → Passed c.args.bytes.now c.args.room 3
unfolding heading_tests version_of
passed_3 c =
    passed_2 (goal.at.Else-version-ne1 c).Else-not-starts_with
    ∙ passed 3 _ (not_of_true (eq-eqb _ _ (sym c.number2-version.ensures ∙ c.if-version-ne1.false)))

inside_of : (c : In_ok-boxes) → outside (n_byte c.args.bytes.now) ≡ false
inside_of c = ap outside (sym c.in_ok-boxes.ensures) ∙ c.in_ok-boxes.boxes.inside

passed_4 : (c : In_ok-boxes) → Passed c.args.bytes.now c.args.room 4
unfolding heading_tests n_of
passed_4 c = passed_3 (goal.at.In_ok-boxes c).Else-version-ne1 ∙ passed 4 _ (inside_of c)

-- what the byte of t says of n, where n is the byte before it
many_of : (c : In_ok-t) →
    let t = get_or c.args.bytes.now 6 0 in
    (not (eqb t 255) && too_many (n_byte c.args.bytes.now) t) ≡ false
many_of c =
    let t = get_or c.args.bytes.now 6 0 in
    ap (λ (n : ℕ). not (eqb t 255) && too_many n t) (sym c.in_ok-boxes.ensures) ∙ c.in_ok-t.ensures.0

passed_5 : (c : In_ok-t) → Passed c.args.bytes.now c.args.room 5
unfolding heading_tests n_of t_byte
passed_5 c = passed_4 (goal.at.In_ok-t c).In_ok-boxes ∙ passed 5 _ (many_of c)

-- the faulty set is the number that was read
stray_of : (c : After-is_stray) →
    stray (n_byte c.args.bytes.now) (faulty_of c.args.bytes.now) ≡ c.is_stray.result
unfolding faulty_of
stray_of c = ap (stray _) (sym c.number2-faulty.ensures) ∙ sym c.is_stray.ensures

passed_6 : (c : Else-is_stray) → Passed c.args.bytes.now c.args.room 6
unfolding heading_tests n_of
passed_6 c =
    passed_5 (goal.at.Else-is_stray c).In_ok-t
    ∙ passed 6 _ (stray_of (goal.at.Else-is_stray c).After-is_stray ∙ c.if-is_stray.false)

passed_8 : (c : Else-bytes-n) → Passed c.args.bytes.now c.args.room 7
unfolding heading_tests n_of heading_bytes
passed_8 c = passed_6 (goal.at.Else-bytes-n c).Else-is_stray ∙ passed 8 _ (le-ltb _ _ c.if-bytes-n.false)

zero_of : (c : After-has_sound_zero) →
    let bytes = c.args.bytes.now in
    let n = n_byte bytes in
    sound_zero n (faulty_of bytes) (build n (heading_row bytes)) ≡ c.has_sound_zero.result
unfolding faulty_of
zero_of c =
    let bytes = c.args.bytes.now in
    let n = n_byte bytes in
    ap (λ (faulty : ℕ). sound_zero n faulty (build n (heading_row bytes))) (sym c.number2-faulty.ensures)
    ∙ sym c.has_sound_zero.ensures

passed_9 : (c : Else-has_sound_zero) → Passed c.args.bytes.now c.args.room 8
unfolding heading_tests n_of
passed_9 c =
    passed_8 (goal.at.Else-has_sound_zero c).Else-bytes-n
    ∙ passed 9 _ (zero_of (goal.at.Else-has_sound_zero c).After-has_sound_zero ∙ c.if-has_sound_zero.false)

pub returns-then-bytes-lt9-clause-refusal : goal.returns-then-bytes-lt9-clause-refusal
unfolding heading_refusal heading_tests
returns-then-bytes-lt9-clause-refusal c = sym (refused 1 _ (lt-ltb _ _ c.if-bytes-lt9.true))

pub returns-then-not-starts_with-clause-refusal : goal.returns-then-not-starts_with-clause-refusal
unfolding heading_tests
returns-then-not-starts_with-clause-refusal c =
    let at = goal.at.returns-then-not-starts_with-clause-refusal c in
    sym (passed_1 at.Else-bytes-lt9
    ∙ refused 2 _ (ap not (marked _ _ (omega arith) c.starts_with.ensures.value ∙ c.if-not-starts_with.true)))

pub returns-then-version-ne1-clause-refusal : goal.returns-then-version-ne1-clause-refusal
unfolding heading_tests version_of
returns-then-version-ne1-clause-refusal c =
    let at = goal.at.returns-then-version-ne1-clause-refusal c in
    sym (passed_2 at.Else-not-starts_with
    ∙ refused 3 _ (not_of_false (ne_eqb _ _ (λ e. c.if-version-ne1.true (c.number2-version.ensures ∙ e)))))

pub returns-in_err-boxes-clause-refusal : goal.returns-in_err-boxes-clause-refusal
unfolding heading_tests n_of
returns-in_err-boxes-clause-refusal c =
    let at = goal.at.returns-in_err-boxes-clause-refusal c in
    let e : refusal_in c.from_residual.result ≡ number_of c.in_err-boxes.field-0.0 = search rules in
    e
    ∙ c.in_err-boxes.ensures.1
    ∙ sym (passed_3 at.Else-version-ne1 ∙ refused 4 _ c.in_err-boxes.ensures.0)

pub returns-in_err-t-clause-refusal : goal.returns-in_err-t-clause-refusal
unfolding heading_tests n_of t_byte
returns-in_err-t-clause-refusal c =
    let at = goal.at.returns-in_err-t-clause-refusal c in
    let t = get_or c.args.bytes.now 6 0 in
    let e : refusal_in c.from_residual-in_err-t.result ≡ number_of c.in_err-t.field-0.0 = search rules in
    let n = ap (λ (n : ℕ). not (eqb t 255) && too_many n t) (sym c.in_ok-boxes.ensures) in
    e ∙ c.in_err-t.ensures.1 ∙ sym (passed_4 at.In_ok-boxes ∙ refused 5 _ (n ∙ c.in_err-t.ensures.0))

pub returns-then-is_stray-clause-refusal : goal.returns-then-is_stray-clause-refusal
unfolding heading_tests n_of
returns-then-is_stray-clause-refusal c =
    let at = goal.at.returns-then-is_stray-clause-refusal c in
    sym (passed_5 at.In_ok-t
    ∙ refused 6 _ (stray_of at.After-is_stray ∙ c.if-is_stray.true))

pub returns-then-bytes-n-clause-refusal : goal.returns-then-bytes-n-clause-refusal
unfolding heading_tests n_of heading_bytes
returns-then-bytes-n-clause-refusal c =
    let at = goal.at.returns-then-bytes-n-clause-refusal c in
    sym (passed_6 at.Else-is_stray ∙ refused 8 _ (lt-ltb _ _ c.if-bytes-n.true))

pub has_sound_zero-requires : goal.has_sound_zero-requires
unfolding heading_bytes
has_sound_zero-requires c = search rules

pub returns-then-has_sound_zero-clause-refusal : goal.returns-then-has_sound_zero-clause-refusal
unfolding heading_tests n_of
returns-then-has_sound_zero-clause-refusal c =
    let at = goal.at.returns-then-has_sound_zero-clause-refusal c in
    let zero = zero_of at.After-has_sound_zero in
    sym (passed_8 at.Else-bytes-n
    ∙ refused 9 _ (zero ∙ c.if-has_sound_zero.true))

pub returns-then-room-n-clause-refusal : goal.returns-then-room-n-clause-refusal
unfolding heading_tests n_of
returns-then-room-n-clause-refusal c =
    let at = goal.at.returns-then-room-n-clause-refusal c in
    sym (passed_9 at.Else-has_sound_zero
    ∙ refused 10 _ (lt-ltb _ _ c.if-room-n.true))

pub returns-clause-refusal : goal.returns-clause-refusal
unfolding heading_tests n_of first_of
returns-clause-refusal c =
    let at = goal.at.returns-clause-refusal c in
    sym (passed_9 at.Else-has_sound_zero ∙ passed 10 [] (le-ltb _ _ c.if-room-n.false))

pub returns-clause-heading : goal.returns-clause-heading
unfolding heading_of version_of n_of t_byte faulty_of
returns-clause-heading c =
    let bytes = c.args.bytes.now in
    let t : c.in_ok-t.t ≡ t_of (get_or bytes 5 0) (get_or bytes 6 0) =
    c.in_ok-t.ensures.1 ∙ ap (λ (n : ℕ). t_of n (get_or bytes 6 0)) c.in_ok-boxes.ensures in
    rw (← c.number2-faulty.ensures, ← t, ← c.number2-version.ensures)
