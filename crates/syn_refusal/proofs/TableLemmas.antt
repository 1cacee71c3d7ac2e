-- Each refusal is in the list of all of them.
use Rattle.std.proofs.Common.{◌≡◌, ◌≢◌, ℕ, Bool, true, false, Option, Some, None, refl, sym, ap}
use Rattle.std.proofs.Common.{◌∙◌}
use Rattle.std.specs.Prelude.{◌==◌, find, is_none, IfNone}
use Rattle.syn_model.specs.Refusal.{number}
use Rattle.syn_refusal.specs.Refusals.{cause_of}
use Rattle.syn_refusal.specs.declared.refusal.Refusal.{Refusal}
use Rattle.syn_refusal.specs.declared.refusal.Refusal.TheVariants as code
use Rattle.syn_refusal.specs.declared.refusal.TheConstants.Refusal.{ALL}

found : (refusal : Refusal) →
    is_none (find (λ row. number (cause_of row) == number (cause_of refusal)) ALL) ≡ false
found code.BadPath = refl
found refusal = refl

different : true ≡ false → ⊥
different same = cc

-- where no refusal is found, none has the number
pub number-in-table : (wanted : ℕ) (first : Option Refusal) →
    first ≡ find (λ row. number (cause_of row) == wanted) ALL →
    IfNone first ((refusal : Refusal) → number (cause_of refusal) ≢ wanted)
number-in-table wanted (Some refusal) is = tt
number-in-table wanted None is = λ refusal same.
    let none_with : ℕ → Bool =
    λ n. is_none (find (λ row. number (cause_of row) == n) ALL) in
    different (ap is_none is ∙ (ap none_with (sym same) ∙ found refusal))
