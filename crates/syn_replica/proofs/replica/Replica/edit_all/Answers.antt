use Rattle.std.proofs.Common.{◌≡◌, ◌⊎◌, ◌∷◌, Option, None, Some, ap, arith, inl, inr, map, refl}
use Rattle.std.proofs.Common.{subst, sym}
use Rattle.std.proofs.Common.{◌∙◌}
use Rattle.std.proofs.lemmas.Option.{none-some, same_Some}
use Rattle.syn_journal.specs.Batches.{bytes_of_each, calls_for}
use Rattle.syn_journal.specs.Journal as journal
use Rattle.syn_journal.specs.Appending.{AppendsAll, HasAll}
use Rattle.syn_journal.specs.Endings.{Spends}
use Rattle.syn_journal.specs.Journaled.{disk_of as disk_in, journal_of as journal_in}
use Rattle.syn_model.proofs.ExitLemmas.{if_err_of_exit, match_of_exit}
use Rattle.syn_model.specs.History.{History}
use Rattle.syn_model.specs.Refusal as why
use Rattle.syn_model.specs.Refusal.{Refusal}
use Rattle.syn_replica.specs.Batches.{add_all_refusal}
use Rattle.syn_replica.specs.Edits.{event_by}
use Rattle.syn_replica.specs.Refusals.{IsOneOf, edit_refusals, outside_refusals}
use Rattle.syn_replica.specs.Replica.{disk_of, journal_of, left_shown, room_shown}
use Rattle.syn_replica.specs.Replica.{Stands, standing_shown}
use Rattle.syn_replica.specs.inner.Batches.{AddsAll, add_all_refusal_at}
use Rattle.syn_replica.specs.ErrorRefusals.{refusal_of}
use Rattle.syn_replica.proofs.BatchLemmas.{edits_among, edits_inner, has_records, moments_of}
use Rattle.syn_replica.proofs.BatchLemmas.{outside_of, spends_nothing, stands_with_all}
use Rattle.syn_replica.proofs.BatchLemmas.{told_by_history}
use Rattle.syn_replica.proofs.RefusalLemmas.{inner_refusals, is_among, never}
use Rattle.syn_replica.proofs.StandLemmas.{kept_unwritten}
use Rattle.syn_replica.proofs.replica.Replica.edit_all.Given.{Over}
use Rattle.syn_replica.proofs.replica.Replica.edit_all.Goals as goal
use Rattle.syn_replica.proofs.replica.Replica.edit_all.Goals.{After-add_all, In-Ok}
use Rattle.syn_replica.proofs.replica.Replica.edit_all.Goals.{In_err-journaled, In_ok-journaled}

-- ---- an edit was refused, and nothing was written

pub returns-in-Err-add_all-clause-any_moment : goal.returns-in-Err-add_all-clause-any_moment
returns-in-Err-add_all-clause-any_moment g c history stands =
    let old = c.args.self in
    let same : c.into_disk-in-Err-add_all.result ≡ disk_of old =
    c.into_disk-in-Err-add_all.ensures
    ∙ ap (λ j. journal.disk_of j) c.into_parts-journal.ensures.journal in
    rw same (kept_unwritten g.met.D.Disk.only_now old history stands _)

-- the cause by the room and the standing is the one by the history
by_history : (g : Over) (c : After-add_all g) (history : History) → Stands c.args.self history →
    (found : Option Refusal) → add_all_refusal_at c.room-room.result
    c.into_parts-journal.result.1.standing (map (event_by c.args.user) c.args.edits.items)
    ≡ found → add_all_refusal (room_shown c.args.self) history
    (map (event_by c.args.user) c.args.edits.items) ≡ found
by_history g c history stands found =
    told_by_history c.history_laws.ensures.steps c.args.self history stands c.room-room.result _
    (map (event_by c.args.user) c.args.edits.items) found c.room-room.ensures
    (ap (λ m. m.standing) c.into_parts-journal.ensures.state)

pub returns-in-Err-add_all-clause-cause : goal.returns-in-Err-add_all-clause-cause
returns-in-Err-add_all-clause-cause g c history stands =
    let k = (goal.at.returns-in-Err-add_all-clause-cause g c).After-add_all in
    let told = by_history g k history stands in
    elim c.in-Err-add_all.ensures.refused as (λ _. IsOneOf outside_refusals c.in-Err-add_all.error
    ⊎ (add_all_refusal (room_shown c.args.self) history
    (map (event_by c.args.user) c.args.edits.items) ≡ Some (refusal_of c.in-Err-add_all.error))) [
      | inl memory ↦ inl (ap (is_among outside_refusals) memory)
      | inr cause ↦ inr (told _ cause)
    ]

pub returns-in-Err-add_all-clause-refused : goal.returns-in-Err-add_all-clause-refused
returns-in-Err-add_all-clause-refused g c history refusal stands e =
    let k = (goal.at.returns-in-Err-add_all-clause-refused g c).After-add_all in
    let told = by_history g k history stands in
    elim c.in-Err-add_all.ensures.refused as (λ _. (refusal_of c.in-Err-add_all.error ≡ refusal)
    ⊎ (refusal_of c.in-Err-add_all.error ≡ why.Memory)) [
      | inl memory ↦ inr memory
      | inr cause ↦ inl (same_Some _ _ (sym (told _ cause) ∙ e))
    ]

pub returns-in-Err-add_all-clause-refusals : goal.returns-in-Err-add_all-clause-refusals
returns-in-Err-add_all-clause-refusals g c =
    elim c.in-Err-add_all.ensures.refused as (λ _. IsOneOf edit_refusals c.in-Err-add_all.error) [
      | inl memory ↦ ap (is_among edit_refusals) memory
      | inr cause ↦ edits_among c.room-room.result _ c.args.user c.args.edits.items _ cause
    ]

pub returns-in-Err-add_all-clause-device : goal.returns-in-Err-add_all-clause-device
returns-in-Err-add_all-clause-device g c =
    let old = c.args.self in
    let refused = c.in-Err-add_all.error in
    let same : c.into_disk-in-Err-add_all.result ≡ disk_of old =
    c.into_disk-in-Err-add_all.ensures
    ∙ ap (λ j. journal.disk_of j) c.into_parts-journal.ensures.journal in
    let not_device : refusal_of refused ≡ why.Device → ⊥ =
    never (why.JournalFull ∷ inner_refusals) why.Device refl refused
    (edits_inner c.room-room.result _ c.args.user c.args.edits.items refused
    c.in-Err-add_all.ensures.refused) in
    subst (λ d. Spends g.D.Disk (calls_for c.args.edits.items) (Some (refusal_of refused))
    (disk_of old) d) (sym same) (spends_nothing _ _ (disk_of old) not_device)

-- ---- the journal refused them

adds : (g : Over) (c : In-Ok g) → AddsAll (standing_shown c.args.self)
    (map (event_by c.args.user) c.args.edits.items) (bytes_of_each c.in-Ok.added.0.items)
    c.in-Ok.added.1
adds g c =
    subst (λ s. AddsAll s (map (event_by c.args.user) c.args.edits.items)
    (bytes_of_each c.in-Ok.added.0.items) c.in-Ok.added.1)
    (ap (λ m. m.standing) c.into_parts-journal.ensures.state) c.in-Ok.ensures.added

refused_by : (g : Over) (c : In_err-journaled g) → AppendsAll (journal_of c.args.self)
    c.in_err-journaled.field-0.0.1 (bytes_of_each c.in-Ok.added.0.items)
    (Some (refusal_of c.in_err-journaled.field-0.0.0))
refused_by g c =
    let refused = c.in_err-journaled.field-0.0 in
    subst (λ j. AppendsAll j refused.1 (bytes_of_each c.in-Ok.added.0.items)
    (Some (refusal_of refused.0))) c.into_parts-journal.ensures.journal
    (subst (λ ps. AppendsAll c.into_parts-journal.result.0 refused.1 (bytes_of_each ps)
    (Some (refusal_of refused.0))) c.deref.ensures.value c.in_err-journaled.ensures.disk)

pub returns-in_err-journaled-clause-any_moment : goal.returns-in_err-journaled-clause-any_moment
returns-in_err-journaled-clause-any_moment g c history stands =
    let k = goal.at.returns-in_err-journaled-clause-any_moment g c in
    let laws = c.history_laws.ensures in
    let refused = c.in_err-journaled.field-0.0 in
    match_of_exit c.from_residual.result refused _ _ c.from_residual.ensures.1
    (moments_of laws.payload laws.allows c.args.self _ _ c.in-Ok.added.1 (adds g k.In-Ok)
    c.layout_laws.ensures.left_all refused.1 _ (refused_by g k.In_err-journaled) history stands)

pub returns-in_err-journaled-clause-cause : goal.returns-in_err-journaled-clause-cause
returns-in_err-journaled-clause-cause g c history stands =
    let refused = c.in_err-journaled.field-0.0 in
    let told = refused_by g (goal.at.returns-in_err-journaled-clause-cause g c).In_err-journaled in
    let fits = c.in-Ok.ensures.fits (left_shown c.args.self) (c.room-room.ensures ∙ omega arith) in
    let outside : IsOneOf outside_refusals refused.0 =
    outside_of (refusal_of refused.0) told.refusals
    (λ is. c.in_default.ensures.running (told.halted.0 (ap (λ w. Some w) is)))
    (λ is. absurd (omega (arith, (told.full.0 (ap (λ w. Some w) is)).1, fits))) in
    if_err_of_exit c.from_residual.result refused _ c.from_residual.ensures.1 (inl outside)

pub returns-in_err-journaled-clause-refused : goal.returns-in_err-journaled-clause-refused
returns-in_err-journaled-clause-refused g c history refusal stands e =
    let k = goal.at.returns-in_err-journaled-clause-refused g c in
    absurd (none-some _ (sym (by_history g k.After-add_all history stands None
    c.in-Ok.ensures.passed) ∙ e))

-- ---- they were made

has : (g : Over) (c : In_ok-journaled g) → HasAll (journal_of c.args.self)
    (journal_in c.in_ok-journaled.journaled) (bytes_of_each c.in-Ok.added.0.items)
has g c =
    let new = journal_in c.in_ok-journaled.journaled in
    subst (λ j. HasAll j new (bytes_of_each c.in-Ok.added.0.items))
    c.into_parts-journal.ensures.journal
    (subst (λ ps. HasAll c.into_parts-journal.result.0 new (bytes_of_each ps))
    c.deref.ensures.value c.in_ok-journaled.ensures.appended)

pub returns-clause-acknowledged : goal.returns-clause-acknowledged
returns-clause-acknowledged g c history stands =
    let k = goal.at.returns-clause-acknowledged g c in
    let laws = c.history_laws.ensures in
    let made = c.in_ok-journaled.ensures in
    stands_with_all laws.payload laws.allows c.args.self _ _ c.in-Ok.added.1 (adds g k.In-Ok)
    history stands _
    (ap (λ m. m.pair) made.state ∙ ap (λ m. m.pair) c.into_parts-journal.ensures.state)
    (ap (λ m. m.standing) made.state) (has g k.In_ok-journaled)

pub returns-clause-any_moment : goal.returns-clause-any_moment
returns-clause-any_moment g c history stands =
    let old = c.args.self in
    let laws = c.history_laws.ensures in
    let new = disk_in c.in_ok-journaled.journaled in
    let bytes = bytes_of_each c.in-Ok.added.0.items in
    let told : AppendsAll (journal_of old) new bytes None =
    subst (λ j. AppendsAll j new bytes None) c.into_parts-journal.ensures.journal
    (subst (λ ps. AppendsAll c.into_parts-journal.result.0 new (bytes_of_each ps) None)
    c.deref.ensures.value c.in_ok-journaled.ensures.disk) in
    moments_of laws.payload laws.allows old _ bytes c.in-Ok.added.1
    (adds g (goal.at.returns-clause-any_moment g c).In-Ok) c.layout_laws.ensures.left_all new None
    told history stands

pub returns-clause-refused : goal.returns-clause-refused
returns-clause-refused g c history refusal stands e =
    let k = goal.at.returns-clause-refused g c in
    absurd (none-some _ (sym (by_history g k.After-add_all history stands None
    c.in-Ok.ensures.passed) ∙ e))

pub returns-clause-readings : goal.returns-clause-readings
returns-clause-readings g c =
    let k = goal.at.returns-clause-readings g c in
    let laws = c.history_laws.ensures in
    has_records laws.payload laws.allows c.args.self _ _ c.in-Ok.added.1 (adds g k.In-Ok) _
    (ap (λ m. m.pair) c.in_ok-journaled.ensures.state
    ∙ ap (λ m. m.pair) c.into_parts-journal.ensures.state) (has g k.In_ok-journaled)
