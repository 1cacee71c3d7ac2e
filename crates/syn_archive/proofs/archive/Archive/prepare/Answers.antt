use Rattle.std.proofs.Common.{◌≡◌, ◌<◌, ◌≤◌, ◌∙◌, true≢false, Some, None, refl, sym, subst}
use Rattle.std.proofs.lemmas.Result.{IfErr-weaker}
use Rattle.syn_model.specs.Archive.{kept_refusal}
use Rattle.syn_archive.specs.Refusals.{refusal_of}
use Rattle.syn_archive.specs.inner.Agreements.{agreed_archive}
use Rattle.syn_model.proofs.ExitLemmas.{if_err_of_exit}
use Rattle.syn_archive.specs.Archive.{IsHalted, room_shown, session_shown, shown}
use Rattle.syn_archive.specs.inner.Keepings.{NotPrepared, kept_in, no_memory, not_running, refused}
use Rattle.syn_archive.specs.declared.error.ArchiveError.TheVariants.{JournalFull}
use Rattle.syn_archive.proofs.KeepLemmas.{marks_refuse, none_refuses, room_refuses}
use Rattle.syn_archive.proofs.archive.Archive.prepare.Goals as goal

pub returns-then-is_halted-clause-refused : goal.returns-then-is_halted-clause-refused
returns-then-is_halted-clause-refused g c = not_running (c.is_halted.ensures.0 c.if-is_halted.true)

pub returns-in_err-check-clause-refused : goal.returns-in_err-check-clause-refused
returns-in_err-check-clause-refused g c =
    if_err_of_exit c.from_residual.result _ _ c.from_residual.ensures.1
    (refused c.in_err-check.field-0.0
    (λ halted. true≢false (sym (c.is_halted.ensures.1 halted) ∙ c.if-is_halted.false))
    (marks_refuse (room_shown c.args.self.now) (shown c.args.self.now) _ _
    (subst (λ a. kept_refusal (agreed_archive a) (kept_in a.last_session c.args.what)
    ≡ Some (refusal_of c.in_err-check.field-0.0)) c.state-agreed.ensures
    (sym c.in_err-check.ensures.refused))) c.in_err-check.ensures.inner)

pub returns-then-length-room-clause-refused : goal.returns-then-length-room-clause-refused
returns-then-length-room-clause-refused g c =
    let old = c.args.self.now in
    refused JournalFull
    (λ halted. true≢false (sym (c.is_halted.ensures.1 halted) ∙ c.if-is_halted.false))
    (room_refuses (room_shown old) (shown old) (session_shown old) c.args.what c.requires
    (subst (λ a. kept_refusal (agreed_archive a) (kept_in a.last_session c.args.what) ≡ None)
    c.state-agreed.ensures (sym c.in_ok-check.ensures.refused))
    (subst (λ n. room_shown old < n) (c.length.ensures (session_shown old))
    (subst (λ n. n < c.length.result) c.room.ensures c.if-length-room.true))) refl

pub returns-clause-refused : goal.returns-clause-refused
returns-clause-refused g c =
    let old = c.args.self.now in
    let what = kept_in (session_shown old) c.args.what in
    IfErr-weaker c.prepare.result _ _ (λ e is. subst
    (NotPrepared (IsHalted old) (room_shown old) (shown old) what) (sym is)
    (no_memory
    (λ halted. true≢false (sym (c.is_halted.ensures.1 halted) ∙ c.if-is_halted.false))
    (none_refuses (room_shown old) (shown old) (session_shown old) c.args.what c.requires
    (subst (λ a. kept_refusal (agreed_archive a) (kept_in a.last_session c.args.what) ≡ None)
    c.state-agreed.ensures (sym c.in_ok-check.ensures.refused))
    (subst (λ n. n ≤ room_shown old) (c.length.ensures (session_shown old))
    (subst (λ n. c.length.result ≤ n) c.room.ensures c.if-length-room.false)))))
    c.prepare.ensures.memory
