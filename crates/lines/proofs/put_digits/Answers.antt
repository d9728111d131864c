-- `lines::put_digits` meets its contract: below 10 the text of the number is one byte, below 100 two, stored one
-- behind the other; from there on it is what `io::decimal` puts down, copied to its place. Assumes nothing.
use mathlib.Core.Path.{◌≡◌, ap, sym, subst, ◌∙◌}
use mathlib.Core.List.{List, [], ◌∷◌, ◌++◌}
use Prim.Native.Nat.{ℕ, ◌+◌, ◌-◌, ◌/◌, ◌%◌, ◌≤◌}
use native.Mathlib.Omega.{arith}
use lib.ListN.{length, take, drop, length-set, length-drop}
use Rattle.lines.specs.Line.{decimal, placed}
use Rattle.lines.proofs.Decimal.{decimal_small, decimal_two, decimal_told}
use Rattle.lines.proofs.Placed.{placed_one, placed_next, placed_copied, rest_whole}
use Rattle.lines.proofs.put_digits.Goals as goal
use Rattle.lines.proofs.put_digits.Goals.{After-decimal-size, Start, Then-n-lt10, Then-n-lt100}

-- one digit
one_is : (c : Then-n-lt10) → decimal c.args.n ≡ (48 + c.args.n) ∷ []
one_is c = decimal_small c.args.n c.if-n-lt10.true

-- two digits
two_is : (c : Then-n-lt100) → let n = c.args.n in decimal n ≡ (48 + n / 10) ∷ (48 + n % 10) ∷ []
two_is c = decimal_two c.args.n c.if-n-lt10.false c.if-n-lt100.true

-- more: the digits that were put down
abbrev digits_of : After-decimal-size → List ℕ
digits_of c = take c.decimal-size.result c.decimal-size.new.out

digits_are : (c : After-decimal-size) → digits_of c ≡ decimal c.args.n
digits_are c =
    let told = c.decimal-size.ensures in
    decimal_told c.args.n c.decimal-size.result c.decimal-size.new.out
    (told.in_bounds, (told.len, told.digits))

room_of : (c : After-decimal-size) → c.args.at + length (digits_of c) ≤ length c.args.out.now
room_of c = omega (arith, c.requires, ap length (digits_are c))

pub bounds-out-at : goal.bounds-out-at
bounds-out-at c = omega (arith, ap length (one_is c))

pub returns-then-n-lt10 : goal.returns-then-n-lt10
returns-then-n-lt10 c =
    let f = c.args in
    let out = f.out.now in
    let one = one_is c in
    record {
      value = omega (arith, ap length one);
      out_after = placed_one out f.at (48 + f.n) (omega (arith, ap length one)) ∙ ap (placed out f.at) (sym one);
    }

pub bounds-out-at-then-n-lt100 : goal.bounds-out-at-then-n-lt100
bounds-out-at-then-n-lt100 c = omega (arith, ap length (two_is c))

pub bounds-out-at-then-n-lt100-2 : goal.bounds-out-at-then-n-lt100-2
bounds-out-at-then-n-lt100-2 c = simp length-set (omega (arith, ap length (two_is c)))

pub returns-then-n-lt100 : goal.returns-then-n-lt100
returns-then-n-lt100 c =
    let f = c.args in
    let out = f.out.now in
    let two = two_is c in
    let first = placed_one out f.at (48 + f.n / 10) (omega (arith, ap length two)) in
    record {
      value = omega (arith, ap length two);
      out_after = placed_next out _ f.at ((48 + f.n / 10) ∷ []) (48 + f.n % 10) (f.at + 1) first (omega arith)
          (omega (arith, ap length two))
          ∙ ap (placed out f.at) (sym two);
    }

pub slice_bounds-copy-count : goal.slice_bounds-copy-count
slice_bounds-copy-count c = omega (arith, room_of (goal.at.slice_bounds-copy-count c).After-decimal-size)

pub slice_bounds-copy-start : goal.slice_bounds-copy-start
slice_bounds-copy-start c = omega (arith, room_of (goal.at.slice_bounds-copy-start c).After-decimal-size)

pub returns : goal.returns
returns c =
    let copy = c.copy in
    let digits = (goal.at.returns c).After-decimal-size in
    let f = digits.args in
    let out = f.out.now in
    let text = digits_of digits in
    let told = digits_are digits in
    let rest = ap length (rest_whole out f.at) ∙ length-drop f.at out in
    let all : copy.result ≡ length text = omega (arith, copy.ensures.value, rest, room_of digits) in
    let put =
    subst (λ (k : ℕ). copy.new.out ≡ take k text ++ drop k (take (length out - f.at) (drop f.at out))) all
    copy.ensures.out_after in
    record {
      value = omega (arith, all, ap length told);
      out_after = placed_copied out f.at text copy.new.out put ∙ ap (placed out f.at) told;
    }
