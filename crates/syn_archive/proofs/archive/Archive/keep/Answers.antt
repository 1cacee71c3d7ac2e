use Rattle.std.proofs.Common.{◌∙◌, Some, ap, inl, subst, sym}
use Rattle.std.proofs.lemmas.Option.{none-some}
use Rattle.syn_journal.specs.Endings.{ended}
use Rattle.syn_journal.proofs.Results.{ok_part, on_ok_of}
use Rattle.syn_model.proofs.ExitLemmas.{exit_is, if_err_of_exit, is_err_of_exit, on_ok_of_exit}
use Rattle.syn_archive.specs.Archive.{KeepsBeforeOrAfter, room_shown, session_shown, shown}
use Rattle.syn_archive.specs.Refusals.{refusal_of}
use Rattle.syn_archive.specs.Calls.{Writes}
use Rattle.syn_archive.specs.Machines.{KeepsRecord, refuses}
use Rattle.syn_archive.specs.inner.Agreements.{agreed_archive}
use Rattle.syn_archive.specs.inner.Keepings.{kept_in}
use Rattle.syn_archive.proofs.StandLemmas.{keeps_now, not_written}
use Rattle.syn_disk.proofs.LeftLemmas.{seen_is_left}
use Rattle.syn_archive.proofs.EndLemmas.{err_part}
use Rattle.syn_archive.proofs.KeepLemmas.{has_cause, is_why, no_device, none_refuses}
use Rattle.syn_archive.proofs.KeepLemmas.{not_prepared, of_record}
use Rattle.syn_archive.proofs.MachineLemmas.{as_machine, keeps_record, not_idle}
use Rattle.syn_model.specs.Archive.{CanKeep, after_kept}
use Rattle.syn_archive.proofs.WriteLemmas.{cause_of_write, has_room, record_of_write, writes}
use Rattle.syn_archive.proofs.WriteLemmas.{written_moment, written_record, written_shown}
use Rattle.syn_archive.proofs.WriteLemmas.{written_stands}
use Rattle.syn_archive.proofs.archive.Archive.keep.Goals as goal

-- ---- nothing was prepared

pub returns-in_err-payload-clause-acknowledged : goal.returns-in_err-payload-clause-acknowledged
returns-in_err-payload-clause-acknowledged g c kept stands =
    on_ok_of_exit c.from_residual.result _ _ c.from_residual.ensures.1

pub returns-in_err-payload-clause-session : goal.returns-in_err-payload-clause-session
returns-in_err-payload-clause-session g c =
    on_ok_of_exit c.from_residual.result _ _ c.from_residual.ensures.1

pub returns-in_err-payload-clause-any_moment : goal.returns-in_err-payload-clause-any_moment
returns-in_err-payload-clause-any_moment g c kept stands =
    not_written g.met.D.Disk.only_now c.args.self.now kept stands _
    (inl (keeps_now c.args.self.now kept stands))

pub returns-in_err-payload-clause-refused : goal.returns-in_err-payload-clause-refused
returns-in_err-payload-clause-refused g c why running some =
    is_err_of_exit c.from_residual.result _ _ c.from_residual.ensures.1
    (is_why c.in_err-payload.ensures.refused why running some)

pub returns-in_err-payload-clause-cause : goal.returns-in_err-payload-clause-cause
returns-in_err-payload-clause-cause g c =
    if_err_of_exit c.from_residual.result _ _ c.from_residual.ensures.1
    (has_cause c.in_err-payload.ensures.refused)

pub returns-in_err-payload-clause-refusals : goal.returns-in_err-payload-clause-refusals
returns-in_err-payload-clause-refusals g c =
    if_err_of_exit c.from_residual.result _ _ c.from_residual.ensures.1
    (of_record c.in_err-payload.ensures.refused)

pub returns-in_err-payload-clause-machine : goal.returns-in_err-payload-clause-machine
returns-in_err-payload-clause-machine g c =
    let old = c.args.self.now in
    let what = kept_in (session_shown old) c.args.what in
    subst (λ r. Writes old old (Some what) (ended refusal_of r))
    (sym (exit_is c.from_residual.result _ c.from_residual.ensures.1))
    (not_prepared old what c.in_err-payload.ensures.refused)

pub returns-in_err-payload-clause-world : goal.returns-in_err-payload-clause-world
returns-in_err-payload-clause-world g c number machine is =
    let what = kept_in (session_shown c.args.self.now) c.args.what in
    subst (λ r. KeepsRecord c.args.self.now number machine what (ended refusal_of r))
    (sym (exit_is c.from_residual.result _ c.from_residual.ensures.1))
    (refuses _ (no_device c.in_err-payload.ensures.refused) is)

-- ---- it was prepared, and written as the machine answers

pub returns-clause-acknowledged : goal.returns-clause-acknowledged
returns-clause-acknowledged g c kept stands =
    on_ok_of refusal_of c.write.result _ (λ none. written_stands c.args.self.now
    (record { journaled = c.write.new.self }) c.deref.result.now _ _
    c.write.ensures.journal (c.deref.ensures.value ∙ c.in_ok-payload.ensures.payload)
    c.in_ok-payload.field-0.update none
    (ok_part refusal_of c.write.result _ _ c.write.ensures.state none) c.in_ok-payload.ensures.keeps
    c.archive_laws.ensures.record kept stands)

pub returns-clause-session : goal.returns-clause-session
returns-clause-session g c =
    on_ok_of refusal_of c.write.result _ (λ none. written_shown c.args.self.now
    (record { journaled = c.write.new.self }) c.deref.result.now _ _
    c.write.ensures.journal (c.deref.ensures.value ∙ c.in_ok-payload.ensures.payload)
    c.in_ok-payload.field-0.update none
    (ok_part refusal_of c.write.result _ _ c.write.ensures.state none)
    c.in_ok-payload.ensures.keeps)

pub returns-clause-any_moment : goal.returns-clause-any_moment
returns-clause-any_moment g c kept stands =
    written_moment c.args.self.now (record { journaled = c.write.new.self }) c.deref.result.now _ _
    c.write.ensures.journal
    (c.deref.ensures.value ∙ c.in_ok-payload.ensures.payload) c.archive_laws.ensures.record
    c.layout_laws.ensures.left _ c.in_ok-payload.ensures.keeps kept stands

pub returns-clause-refused : goal.returns-clause-refused
returns-clause-refused g c why running some =
    absurd (none-some _ (sym (none_refuses (room_shown c.args.self.now) (shown c.args.self.now)
    (session_shown c.args.self.now) c.args.what c.requires
    c.in_ok-payload.ensures.keeps.can.not_refused c.in_ok-payload.ensures.fits) ∙ some))

pub returns-clause-cause : goal.returns-clause-cause
returns-clause-cause g c =
    cause_of_write c.write.result _ c.write.ensures.journal.refusals
    (has_room c.args.self.now (record { journaled = c.write.new.self }) c.deref.result.now _ _
    c.write.ensures.journal (c.deref.ensures.value ∙ c.in_ok-payload.ensures.payload)
    c.in_ok-payload.ensures.fits)

pub returns-clause-refusals : goal.returns-clause-refusals
returns-clause-refusals g c = record_of_write c.write.result c.write.ensures.journal.refusals

pub returns-clause-machine : goal.returns-clause-machine
returns-clause-machine g c =
    let old = c.args.self.now in
    let what = kept_in (session_shown old) c.args.what in
    let spelled = c.deref.ensures.value ∙ c.in_ok-payload.ensures.payload in
    writes old (record { journaled = c.write.new.self }) c.deref.result.now what _
    c.write.ensures.journal spelled
    (λ kept stands. seen_is_left g.D.Disk.seen g.D.Disk.may_leave g.D.Disk.moment
    g.D.Disk.left_since g.met.D.Disk.seen_may_stay g.met.D.Disk.counts_now _ _
    (KeepsBeforeOrAfter old kept what) (returns-clause-any_moment g c kept stands))
    (λ none. written_record old (record { journaled = c.write.new.self }) c.deref.result.now what _
    c.write.ensures.journal spelled c.in_ok-payload.field-0.update none
    (ok_part refusal_of c.write.result _ _ c.write.ensures.state none)
    c.in_ok-payload.ensures.keeps)
    (err_part c.write.result _ _ c.write.ensures.state)

pub returns-clause-world : goal.returns-clause-world
returns-clause-world g c number machine is =
    let old = c.args.self.now in
    let what = kept_in (session_shown old) c.args.what in
    let keeps = c.in_ok-payload.ensures.keeps in
    keeps_record old (record { journaled = c.write.new.self }) number machine is what
    (not_idle number (shown old) machine.value (session_shown old) c.args.what is.remembers
    c.requires) _ (returns-clause-machine g c)
    (c.write.ensures.world number machine what (as_machine old number machine is) (record {
      can = subst (λ a. CanKeep a what) is.remembers keeps.can;
      spelled = c.deref.ensures.value ∙ c.in_ok-payload.ensures.payload;
      leads = λ state made. record {
        pair_is = ap (λ a. a.pair) made ∙ is.pair_is;
        archive_is = ap agreed_archive made
            ∙ (keeps.gives ∙ ap (λ a. after_kept a what) is.remembers);
      };
    }))
