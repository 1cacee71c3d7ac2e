use Rattle.std.proofs.Common.{◌≡◌, ◌++◌, ◌∷◌, ◌∙◌, [], inl, inr, take, ap, subst, sym}
use Rattle.std.proofs.lemmas.Result.{err_from_is_err_and}
use Rattle.syn_disk.proofs.LeftLemmas.{leaves_weaker}
use Rattle.syn_model.proofs.HistoryLemmas.{first_stays}
use Rattle.syn_model.specs.Event.{Edit, Edited}
use Rattle.syn_model.specs.History.{IsHistory, event_refusal, standing_of}
use Rattle.syn_model.specs.Standing.{causes_at}
use Rattle.syn_replica.specs.Replica.{KeepsBeforeOrAfter, Stands, room_shown}
use Rattle.syn_replica.specs.Steps.{add_refusal, room_causes}
use Rattle.syn_tree.specs.Edits.{edit_of}
use Rattle.syn_command.specs.Asked.{edit_asked}
use Rattle.syn_command.specs.declared.edit.TheConstants.{MOST_INPUT}
use Rattle.syn_command.proofs.EditLemmas.{same_edit, same_addition, before_or_after, same_refusal}
use Rattle.syn_command.proofs.EditLemmas.{not_written}
use Rattle.syn_command.proofs.edit.make_edit.Goals as goal

pub returns-in_err-edit-clause-any_moment : goal.returns-in_err-edit-clause-any_moment
returns-in_err-edit-clause-any_moment g c history left stands e =
    let laws = c.history_laws.ensures in
    let command = c.args.command.now in
    let edit = edit_of c.in_ok-asked.asked in
    let is : edit ≡ edit_asked command.kind c.args.path (take MOST_INPUT left) =
    c.in_ok-asked.ensures.edit left e in
    let asked = edit_asked command.kind c.args.path left in
    leaves_weaker g.D.Disk.moment g.D.Disk.left_since _ _
    (KeepsBeforeOrAfter c.args.replica.now history (Edited command.user edit))
    (KeepsBeforeOrAfter c.args.replica.now history (Edited command.user asked))
    (before_or_after laws.fits laws.put laws.steps c.args.replica.now history command.user
    command.kind c.args.path left edit is)
    (c.in_err-edit.ensures.any_moment history stands)

pub returns-in_err-edit-clause-refused : goal.returns-in_err-edit-clause-refused
returns-in_err-edit-clause-refused g c history left why stands e refused =
    let laws = c.history_laws.ensures in
    let command = c.args.command.now in
    let edit = edit_of c.in_ok-asked.asked in
    let is : edit ≡ edit_asked command.kind c.args.path (take MOST_INPUT left) =
    c.in_ok-asked.ensures.edit left e in
    let same =
    same_refusal laws.fits laws.put laws.steps history command.user command.kind c.args.path left in
    let told = err_from_is_err_and c.from_residual-in_err-edit.result
    c.from_residual-in_err-edit.ensures.1 in
    let cause = c.in_err-edit.ensures.refused history why stands
    (first_stays (causes_at (standing_of history) (Edited command.user edit))
    (room_causes (room_shown c.args.replica.now) (Edited command.user edit)) why
    (ap (λ (x : Edit). event_refusal history (Edited command.user x)) is ∙ (same ∙ refused))) in
    rw (told.1, told.2) (inl cause)

pub returns-in_err-edit-clause-cause : goal.returns-in_err-edit-clause-cause
returns-in_err-edit-clause-cause g c history left stands e =
    let laws = c.history_laws.ensures in
    let command = c.args.command.now in
    let room = room_shown c.args.replica.now in
    let edit = edit_of c.in_ok-asked.asked in
    let is : edit ≡ edit_asked command.kind c.args.path (take MOST_INPUT left) =
    c.in_ok-asked.ensures.edit left e in
    let same =
    same_addition laws.fits laws.put laws.steps room history command.user command.kind c.args.path
    left in
    let told = err_from_is_err_and c.from_residual-in_err-edit.result
    c.from_residual-in_err-edit.ensures.1 in
    let refused = λ (x : Edit). add_refusal room history (Edited command.user x) in
    rw (told.1, told.2) (elim (c.in_err-edit.ensures.cause history stands) [
      | inl outside ↦ inl outside
      | inr cause ↦ inr (sym (ap refused is ∙ same) ∙ cause)
    ])

pub returns-clause-acknowledged : goal.returns-clause-acknowledged
returns-clause-acknowledged g c history left stands e =
    let laws = c.history_laws.ensures in
    let command = c.args.command.now in
    let edit = edit_of c.in_ok-asked.asked in
    let is : edit ≡ edit_asked command.kind c.args.path (take MOST_INPUT left) =
    c.in_ok-asked.ensures.edit left e in
    let done = c.in_ok-edit.ensures.acknowledged history stands in
    let IsMade : Edit → Type 0 = λ x. IsHistory (history ++ Edited command.user x ∷ []) in
    let same =
    same_edit laws.fits laws.put laws.steps history command.user command.kind c.args.path left
    (subst IsMade is done.1.remembers.lawful) in
    let IsStanding : Edit → Type 0 =
    λ x. Stands c.edit.new.self (history ++ Edited command.user x ∷ []) in
    (done.0, subst IsStanding (is ∙ same) done.1)

pub returns-clause-any_moment : goal.returns-clause-any_moment
returns-clause-any_moment g c history left stands e =
    let laws = c.history_laws.ensures in
    let command = c.args.command.now in
    let edit = edit_of c.in_ok-asked.asked in
    let is : edit ≡ edit_asked command.kind c.args.path (take MOST_INPUT left) =
    c.in_ok-asked.ensures.edit left e in
    let asked = edit_asked command.kind c.args.path left in
    leaves_weaker g.D.Disk.moment g.D.Disk.left_since _ _
    (KeepsBeforeOrAfter c.args.replica.now history (Edited command.user edit))
    (KeepsBeforeOrAfter c.args.replica.now history (Edited command.user asked))
    (before_or_after laws.fits laws.put laws.steps c.args.replica.now history command.user
    command.kind c.args.path left edit is)
    (c.in_ok-edit.ensures.any_moment history stands)

pub returns-clause-refused : goal.returns-clause-refused
returns-clause-refused g c history left why stands e refused =
    let laws = c.history_laws.ensures in
    let command = c.args.command.now in
    let edit = edit_of c.in_ok-asked.asked in
    let is : edit ≡ edit_asked command.kind c.args.path (take MOST_INPUT left) =
    c.in_ok-asked.ensures.edit left e in
    let same =
    same_refusal laws.fits laws.put laws.steps history command.user command.kind c.args.path left in
    absurd (c.in_ok-edit.ensures.refused history why stands
    (first_stays (causes_at (standing_of history) (Edited command.user edit))
    (room_causes (room_shown c.args.replica.now) (Edited command.user edit)) why
    (ap (λ (x : Edit). event_refusal history (Edited command.user x)) is ∙ (same ∙ refused))))

pub returns-in_err-asked-clause-any_moment : goal.returns-in_err-asked-clause-any_moment
returns-in_err-asked-clause-any_moment g c history left stands e =
    not_written g.met.D.Disk.only_now c.args.replica.now history _ stands
