use Rattle.std.proofs.Common.{◌≡◌, ◌∙◌, ap, sym}
use Rattle.syn_model.proofs.ExitLemmas.{if_err_of_exit}
use Rattle.syn_model.specs.Refusal.{Memory}
use Rattle.syn_model.specs.Version.{current_version}
use Rattle.syn_archive.specs.Refusals.{refusal_of}
use Rattle.syn_archive.specs.inner.Agreements.{IsUnreadAgain, agreed_archive, agreed_of}
use Rattle.syn_archive.specs.inner.Openings.{bytes_of_each}
use Rattle.syn_archive.proofs.MeaningLemmas.{memory_alone, one_given, unread_again}
use Rattle.syn_archive.proofs.agreed.AgreedState.read_again.Goals as goal

pub returns-clause-one : goal.returns-clause-one
returns-clause-one c other fits given =
    one_given c.opening_laws.ensures.one current_version c.args.image.now
    (bytes_of_each c.args.payloads.now) other (agreed_of c.in_ok-read.read) fits
    c.in_ok-read.ensures.fits given c.in_ok-read.ensures.stands ∙ sym c.from.ensures

pub returns-in_err-read-clause-unread : goal.returns-in_err-read-clause-unread
returns-in_err-read-clause-unread c =
    let e = c.in_err-read.field-0.0 in
    let own = c.args.self.now in
    let payloads = bytes_of_each c.args.payloads.now in
    if_err_of_exit c.from_residual.result e
    (λ e. IsUnreadAgain e own c.args.image.now payloads) c.from_residual.ensures.1
    (unread_again e own c.args.image.now payloads c.in_err-read.ensures.refusals
    c.in_err-read.ensures.damaged)

pub returns-in_err-read-clause-own : goal.returns-in_err-read-clause-own
returns-in_err-read-clause-own c given =
    let e = c.in_err-read.field-0.0 in
    if_err_of_exit c.from_residual.result e (λ e. refusal_of e ≡ Memory)
    c.from_residual.ensures.1 (ap refusal_of (memory_alone e c.in_err-read.ensures.refusals
    (λ damaged. c.in_err-read.ensures.damaged damaged (agreed_archive c.args.self.now) given)))
