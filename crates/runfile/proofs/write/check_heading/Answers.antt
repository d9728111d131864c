-- The tests of refusals 4, 5, 6, 11, 9 and 10 are made in their order, and what is left of the list of tests is
-- followed from one to the next. Assumes nothing.
use mathlib.Core.Path.{◌≡◌, sym, ap, ◌∙◌}
use mathlib.Core.List.{[]}
use Prim.Native.Nat.{ℕ}
use lib.ListN.{drop}
use borrow.Author.Tests.{eq-eqb, ne_eqb, lt-ltb, le-ltb}
use Rattle.counting.specs.Refuse.{first_of}
use Rattle.counting.proofs.Bools.{not_of_true, not_of_false}
use Rattle.counting.proofs.Refuse.{refused, passed, none_left}
use borrow.Author.Rules.{rules}
use Rattle.sizes.specs.Numbers.{refusal_in}
use Rattle.sizes.proofs.Numbers.{named}
use Rattle.sizes.specs.Sizes.{size_refusal, sound_zero}
use Rattle.sizes.proofs.Laws.{size_given, size_passed}
use Rattle.runfile.specs.File.{heading_bytes}
use Rattle.runfile.specs.Write.{write_heading_tests, write_heading_refusal}
use Rattle.runfile.proofs.write.check_heading.Goals as goal
use Rattle.runfile.proofs.write.check_heading.Goals.{
  After-has_sound_zero,
  Else-has_sound_zero,
  Else-is_stray,
  In_ok-check_size,
  Else-rows-n,
  Start,
}

-- the tests up to a place of the list are passed
abbrev Passed : Start → ℕ → Type 0
Passed s k =
    let a = s.args in
    write_heading_refusal a.n a.t a.faulty a.rows.now a.room
    ≡ first_of (drop k (write_heading_tests a.n a.t a.faulty a.rows.now a.room))

sized : (c : In_ok-check_size) → size_refusal c.args.n c.args.t ≡ 0
sized c = sym c.in_ok-check_size.ensures

passed_5 : (c : In_ok-check_size) → Passed (goal.at.In_ok-check_size c).Start 2
unfolding write_heading_refusal write_heading_tests
passed_5 c = size_passed _ _ _ (sized c)

passed_6 : (c : Else-is_stray) → Passed (goal.at.Else-is_stray c).Start 3
unfolding write_heading_tests
passed_6 c =
    passed_5 (goal.at.Else-is_stray c).In_ok-check_size
    ∙ passed 6 _ (sym c.is_stray.ensures ∙ c.if-is_stray.false)

passed_11 : (c : Else-rows-n) → Passed (goal.at.Else-rows-n c).Start 4
unfolding write_heading_tests
passed_11 c =
    passed_6 (goal.at.Else-rows-n c).Else-is_stray
    ∙ passed 11 _ (not_of_true (eq-eqb _ _ c.if-rows-n.false))

-- there are n rows
zero_of : (c : After-has_sound_zero) → sound_zero c.args.n c.args.faulty c.args.rows.now ≡ c.has_sound_zero.result
zero_of c =
    ap (λ (n : ℕ). sound_zero n c.args.faulty c.args.rows.now) (sym c.if-rows-n.false) ∙ sym c.has_sound_zero.ensures

passed_9 : (c : Else-has_sound_zero) → Passed (goal.at.Else-has_sound_zero c).Start 5
unfolding write_heading_tests
passed_9 c =
    passed_11 (goal.at.Else-has_sound_zero c).Else-rows-n
    ∙ passed 9 _ (zero_of (goal.at.Else-has_sound_zero c).After-has_sound_zero ∙ c.if-has_sound_zero.false)

pub returns-in_err-check_size : goal.returns-in_err-check_size
unfolding write_heading_refusal write_heading_tests
returns-in_err-check_size c =
    let e : refusal_in c.from_residual.result ≡ refusal_in c.check_size.result = search rules in
    e ∙ c.check_size.ensures ∙ sym (size_given _ _ _ (λ z. named _ (c.in_err-check_size.ensures ∙ z)))

pub returns-then-is_stray : goal.returns-then-is_stray
unfolding write_heading_tests
returns-then-is_stray c =
    sym (passed_5 (goal.at.returns-then-is_stray c).In_ok-check_size
    ∙ refused 6 _ (sym c.is_stray.ensures ∙ c.if-is_stray.true))

pub returns-then-rows-n : goal.returns-then-rows-n
unfolding write_heading_tests
returns-then-rows-n c =
    sym (passed_6 (goal.at.returns-then-rows-n c).Else-is_stray
    ∙ refused 11 _ (not_of_false (ne_eqb _ _ c.if-rows-n.true)))

pub returns-then-has_sound_zero : goal.returns-then-has_sound_zero
unfolding write_heading_tests
returns-then-has_sound_zero c =
    sym (passed_11 (goal.at.returns-then-has_sound_zero c).Else-rows-n
    ∙ refused 9 _ (zero_of (goal.at.returns-then-has_sound_zero c).After-has_sound_zero ∙ c.if-has_sound_zero.true))

pub returns-then-room-n : goal.returns-then-room-n
unfolding write_heading_tests heading_bytes
returns-then-room-n c =
    sym (passed_9 (goal.at.returns-then-room-n c).Else-has_sound_zero
    ∙ refused 10 [] (lt-ltb _ _ c.if-room-n.true))

pub returns : goal.returns
unfolding write_heading_tests heading_bytes
returns c =
    sym (passed_9 (goal.at.returns c).Else-has_sound_zero
    ∙ passed 10 [] (le-ltb _ _ c.if-room-n.false) ∙ none_left)
