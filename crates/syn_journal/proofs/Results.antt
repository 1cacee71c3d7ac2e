-- What holds of a call by how it ended.
use Rattle.std.specs.Prelude.{Result, Ok, Err, IfErr, OnOk, MatchResult}
use Rattle.std.proofs.Common.{◌≡◌, ◌∙◌, refl, sym, ap, Some, None}
use Rattle.std.proofs.lemmas.Option.{none-some}
use Rattle.syn_journal.specs.Refusals.{refusal_of}
use Rattle.syn_journal.specs.declared.error.JournalError.{JournalError}
use Rattle.syn_model.specs.Refusal.{Refusal}
use Rattle.syn_journal.specs.Endings.{ended}
use Rattle.syn_journal.specs.Openings.{IsOfJournal}
use Rattle.syn_journal.proofs.Endings.{same_error}

module _ {T E : Type 0} (which : E → Refusal) where
  pub ok_part : (result : Result T E) (P Q : Type 0) →
      MatchResult result (λ _. P) (λ _. Q) → ended which result ≡ None → P
  ok_part (Ok value) P Q h is = h
  ok_part (Err e) P Q h is = absurd (none-some _ (sym is))

  pub err_part : (result : Result T E) (P Q : Type 0) →
      MatchResult result (λ _. P) (λ _. Q) → (w : Refusal) → ended which result ≡ Some w → Q
  err_part (Ok value) P Q h w is = absurd (none-some _ is)
  err_part (Err e) P Q h w is = h

  pub on_ok_of : (result : Result T E) (P : Type 0) → (ended which result ≡ None → P) →
      OnOk result P
  on_ok_of (Ok value) P h = h refl
  on_ok_of (Err e) P h = tt

  pub if_err_of : (result : Result T E) (P : E → Type 0) →
      ((e : E) → ended which result ≡ Some (which e) → P e) → IfErr result P
  if_err_of (Ok value) P h = tt
  if_err_of (Err e) P h = h e refl

  module _ (of_journal : JournalError → E) where
    -- it is answered as the journal refused it
    pub answered : (result : Result T E) (by : JournalError) →
        IfErr result (IsOfJournal of_journal which) → ended which result ≡ Some (refusal_of by) →
        result ≡ Err (of_journal by)
    answered (Ok value) by h is = absurd (none-some _ is)
    answered (Err e) by h is =
        ap (λ x. Err x)
        (h.1 ∙ ap of_journal (same_error h.0 by (ap (λ w. Some w) (sym h.2) ∙ is)))

-- what two facts of a result give
module _ {T E : Type 0} where
  pub on_ok_both : {P Q R : Type 0} (result : Result T E) → OnOk result P → OnOk result Q →
      (P → Q → R) → OnOk result R
  on_ok_both (Ok value) p q f = f p q
  on_ok_both (Err e) p q f = tt

  pub if_err_both : {P Q R : E → Type 0} (result : Result T E) → IfErr result P → IfErr result Q →
      ((e : E) → P e → Q e → R e) → IfErr result R
  if_err_both (Ok value) p q f = tt
  if_err_both (Err e) p q f = f e p q
