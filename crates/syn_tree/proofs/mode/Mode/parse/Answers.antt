use Rattle.std.proofs.Common.{◌≢◌, ◌∷◌, [], IfNone, length, slice_index_or, sym, ap, ap₂, ◌∙◌}
use Rattle.std.proofs.Common.{arith, subst}
use Rattle.syn_tree.specs.Modes.{mode_digits, mode_of}
use Rattle.syn_tree.specs.declared.mode.Mode.{Mode}
use Rattle.syn_tree.proofs.ModeLemmas.{digits_are, of_three}
use Rattle.syn_tree.proofs.mode.Mode.parse.Goals as goal

pub returns-in_default-clause-none : goal.returns-in_default-clause-none
returns-in_default-clause-none c mode e =
    let same = ap length (c.as_bytes.ensures.value ∙ (e ∙ digits_are mode)) in
    omega (arith, same, c.in_default.len_below)

pub returns-in_default-2-clause-none : goal.returns-in_default-2-clause-none
returns-in_default-2-clause-none c mode e =
    let same = ap length (c.as_bytes.ensures.value ∙ (e ∙ digits_are mode)) in
    omega (arith, same, c.in_default.len_at_least)

pub returns-in_err-parse-clause-none : goal.returns-in_err-parse-clause-none
returns-in_err-parse-clause-none c =
    subst (λ r. IfNone r ((mode : Mode) → c.args.text.now ≢ mode_digits (mode_of mode)))
    (sym c.from_residual.ensures) (λ mode e. c.in_err-parse.ensures.none mode.owner
    (ap (λ text. slice_index_or text 0 0) (c.as_bytes.ensures.value ∙ (e ∙ digits_are mode))))

pub returns-in_err-parse-2-clause-none : goal.returns-in_err-parse-2-clause-none
returns-in_err-parse-2-clause-none c =
    subst (λ r. IfNone r ((mode : Mode) → c.args.text.now ≢ mode_digits (mode_of mode)))
    (sym c.from_residual-in_err-parse-2.ensures) (λ mode e. c.in_err-parse-2.ensures.none mode.group
    (ap (λ text. slice_index_or text 1 0) (c.as_bytes.ensures.value ∙ (e ∙ digits_are mode))))

pub returns-in_err-parse-3-clause-none : goal.returns-in_err-parse-3-clause-none
returns-in_err-parse-3-clause-none c =
    subst (λ r. IfNone r ((mode : Mode) → c.args.text.now ≢ mode_digits (mode_of mode)))
    (sym c.from_residual-in_err-parse-3.ensures)
    (λ mode e. c.in_err-parse-3.ensures.none mode.others
    (ap (λ text. slice_index_or text 2 0) (c.as_bytes.ensures.value ∙ (e ∙ digits_are mode))))

pub returns-clause-some : goal.returns-clause-some
returns-clause-some c =
    let text = c.as_bytes.result.now in
    let mode : Mode = record {
      owner = c.in_ok-parse.field-0;
      group = c.in_ok-parse-2.field-0;
      others = c.in_ok-parse-3.field-0;
    } in
    sym c.as_bytes.ensures.value
    ∙ (of_three text (omega (arith, c.in-len3.len_at_least, c.in-len3.len_below))
    ∙ (ap₂ (λ a b. a ∷ b) c.in_ok-parse.ensures.some
    (ap₂ (λ a b. a ∷ b) c.in_ok-parse-2.ensures.some
    (ap (λ a. a ∷ []) c.in_ok-parse-3.ensures.some)) ∙ sym (digits_are mode)))
