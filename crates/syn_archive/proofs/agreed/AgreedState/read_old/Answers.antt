use Rattle.std.proofs.Common.{◌∙◌, sym}
use Rattle.syn_model.proofs.ExitLemmas.{if_err_of_exit}
use Rattle.syn_model.specs.Version.{One}
use Rattle.syn_archive.specs.inner.Agreements.{IsUnreadOld, agreed_of}
use Rattle.syn_archive.specs.inner.Openings.{bytes_of_each}
use Rattle.syn_archive.proofs.MeaningLemmas.{one_given, unread_old}
use Rattle.syn_archive.proofs.agreed.AgreedState.read_old.Goals as goal

pub returns-clause-one : goal.returns-clause-one
returns-clause-one c other fits given =
    one_given c.opening_laws.ensures.one One c.args.image.now
    (bytes_of_each c.args.payloads.now) other (agreed_of c.in_ok-read.read) fits
    c.in_ok-read.ensures.fits given c.in_ok-read.ensures.stands ∙ sym c.from.ensures

pub returns-in_err-read-clause-unread : goal.returns-in_err-read-clause-unread
returns-in_err-read-clause-unread c =
    let e = c.in_err-read.field-0.0 in
    let payloads = bytes_of_each c.args.payloads.now in
    if_err_of_exit c.from_residual.result e (λ e. IsUnreadOld e c.args.image.now payloads)
    c.from_residual.ensures.1 (unread_old e c.args.image.now payloads
    c.in_err-read.ensures.refusals c.in_err-read.ensures.damaged)
