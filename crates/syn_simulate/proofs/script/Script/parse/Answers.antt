use Rattle.std.proofs.Common.{◌≡◌, ◌∙◌, ◌+◌, [], Bor, List, ℕ, Option, arith, ap, sym, subst, map}
use Rattle.std.proofs.Common.{get_or}
use Rattle.std.proofs.lemmas.Result.{err_from_is_err_and}
use Rattle.syn_simulate.proofs.ScriptLemmas.{first_fault, said_more, said_no_more}
use Rattle.syn_simulate.specs.Scripts.{IsFirstFault, lines_of}
use Rattle.syn_simulate.specs.Words.{Text}
use Rattle.syn_simulate.specs.declared.line.Line.{Line}
use Rattle.syn_simulate.specs.inner.Rows.{SaysMaybe}
use Rattle.syn_simulate.proofs.script.Script.parse.Goals as goal

pub returns-in_err-step-clause-bad : goal.returns-in_err-step-clause-bad
returns-in_err-step-clause-bad c =
    let lines = c.as_slice-line-items.result.now in
    let text = λ (line : Bor (List ℕ)). line.now in
    let d : Bor (List ℕ) = record { ref_ptr = (0, 0); now = [] } in
    let i = c.loop-line.line-index in
    let whole : map text lines ≡ lines_of c.args.text.now =
    ap (map text) c.as_slice-line-items.ensures.value ∙ c.in_ok-lines.ensures in
    let p = err_from_is_err_and c.from_residual-in_err-step.result
    c.from_residual-in_err-step.ensures.1 in
    let bad = c.in_err-step.ensures.bad in
    rw (p.1, p.2) (λ n e.
    let fault = first_fault text lines i d c.loop-line.steps.items
    (omega arith) c.loop-line.invariant.said (bad n e).1 in
    let at : n ≡ i + 1 = let b = (bad n e).0 in omega arith in
    let P : List Text → Type 0 = λ ls. IsFirstFault ls n in
    let Q : ℕ → Type 0 = IsFirstFault (map text lines) in
    subst P whole (subst Q (sym at) fault))

pub loop-line-preserved-in_default : goal.loop-line-preserved-in_default
loop-line-preserved-in_default c =
    let lines = c.as_slice-line-items.result.now in
    let text = λ (line : Bor (List ℕ)). line.now in
    let d : Bor (List ℕ) = record { ref_ptr = (0, 0); now = [] } in
    let i = c.loop-line.line-index in
    let P : Option Line → Type 0 = SaysMaybe (text (get_or lines i d)) in
    let silent = subst P c.in_default.is c.in_ok-step.ensures.ok in
    record {
      counted = omega arith;
      said =
          said_no_more text lines i d c.loop-line.steps.items
          (omega arith) c.loop-line.invariant.said silent.0 silent.1;
    }

pub loop-line-preserved : goal.loop-line-preserved
loop-line-preserved c =
    let lines = c.as_slice-line-items.result.now in
    let text = λ (line : Bor (List ℕ)). line.now in
    let d : Bor (List ℕ) = record { ref_ptr = (0, 0); now = [] } in
    let i = c.loop-line.line-index in
    let P : Option Line → Type 0 = SaysMaybe (text (get_or lines i d)) in
    let says = subst P c.in-Some.is c.in_ok-step.ensures.ok in
    let pushed = c.in_ok-push.ensures.items in
    record {
      counted = omega arith;
      said =
          rw pushed (said_more text lines i d c.loop-line.steps.items c.in-Some.step
          (omega arith) c.loop-line.invariant.said says.0 says.1);
    }
