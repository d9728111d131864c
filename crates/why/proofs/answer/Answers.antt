-- `why::answer` meets its contract: the line is put together apart, so that a slice that is too short stays as it is;
-- one that has room takes it at its front. Assumes nothing.
use mathlib.Core.Path.{◌≡◌, sym, ap, subst, ◌∙◌}
use mathlib.Core.List.{◌++◌}
use Prim.Native.Nat.{ℕ, ◌≤◌, ◌<◌}
use native.Mathlib.Omega.{arith}
use lib.ListN.{length, take, drop}
use Rattle.run.specs.declared.Why.{Why}
use Rattle.why.specs.Answer.{answer_of}
use Rattle.why.proofs.Answers.{line_of_lem, answer_refused, answer_leaves, answer_given, answer_copied}
use Rattle.why.proofs.answer.Reads as Reads
use Rattle.why.proofs.answer.Goals as goal
use Rattle.why.proofs.answer.Goals.{After-as_bytes-told}

-- the text that was put together is the line
told : (c : After-as_bytes-told) → c.as_bytes-told.result.now ≡ answer_of c.args.bytes.now c.args.asked c.args.listed
told c = c.as_bytes-told.ensures ∙ c.of_why-line.ensures ∙ line_of_lem _ _ _ _ c.ask-w.ensures

-- the contract admits one reply, and one last contents of the slice
pub only_one : (κs : _) (a : _) (r s : _) (x y : _) → Reads.Post κs a r x → Reads.Post κs a s y →
    (r ≡ s) × (x.1.1.1.0.now ≡ y.1.1.1.0.now)
only_one κs a r s x y p q = (p.0 ∙ sym q.0, p.1 ∙ sym q.1)

pub returns-then-out-size : goal.returns-then-out-size
returns-then-out-size c =
    let a = c.args in
    let t = told (goal.at.returns-then-out-size c).After-as_bytes-told in
    let short : length a.out.now < length (answer_of a.bytes.now a.asked a.listed) =
    omega (arith, ap length t, c.if-out-size.true) in
    record {
      value = rw c.from.ensures (answer_refused a.bytes.now a.asked a.listed _ short);
      out_after = answer_leaves a.bytes.now a.asked a.listed _ short;
    }

pub returns : goal.returns
returns c =
    let a = c.args in
    let out = a.out.now in
    let t = told (goal.at.returns c).After-as_bytes-told in
    let text = c.as_bytes-told.result.now in
    let fits : length (answer_of a.bytes.now a.asked a.listed) ≤ length out =
    omega (arith, ap length t, c.if-out-size.false) in
    let ends = ap (λ (w : Why). w.refusal) c.ask-w.ensures in
    let all : c.copy.result ≡ length text = omega (arith, c.copy.ensures.value, c.if-out-size.false) in
    let put = subst (λ (k : ℕ). c.copy.new.out ≡ take k text ++ drop k out) all c.copy.ensures.out_after in
    record {
      value = answer_given a.bytes.now a.asked a.listed _ _ _ fits (ap length t) ends;
      out_after = answer_copied a.bytes.now a.asked a.listed _ out _ t fits put;
    }
