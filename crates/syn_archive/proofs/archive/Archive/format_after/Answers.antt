use Rattle.std.proofs.Common.{◌∙◌, sym, ap, subst, []}
use Rattle.syn_journal.specs.Journal as journal
use Rattle.syn_journal.specs.Layout.{image_alone}
use Rattle.syn_model.proofs.ExitLemmas.{if_err_of_exit}
use Rattle.syn_model.specs.ArchiveImage.{ArchiveStandsFor}
use Rattle.syn_model.specs.MarkSpelling.{archive_spelling}
use Rattle.syn_model.specs.Tree.{Tree}
use Rattle.syn_archive.specs.Archive.{archive_after}
use Rattle.syn_archive.specs.Refusals.{IsOfFormat}
use Rattle.syn_archive.specs.inner.Agreements.{agreed_archive}
use Rattle.syn_archive.proofs.FormatLemmas.{after_is_archive, image_fits, format_refusal}
use Rattle.syn_archive.proofs.archive.Archive.format_after.Goals as goal

pub returns-clause-formatted : goal.returns-clause-formatted
returns-clause-formatted g c =
    let machine = c.in_ok-journaled.journaled in
    let pair = c.args.pair in
    let session = c.args.session in
    let new = archive_after session in
    let shown = ap (λ (m : Tree). record { marks = m; last_session = session }) c.in-Ok.ensures in
    let image = archive_spelling pair new in
    let laws = c.archive_laws.ensures in
    record {
      remembers = ap agreed_archive c.in_ok-journaled.ensures.state ∙ shown;
      value = image_alone image;
      runs = subst (λ i. journal.Stands machine.journal (image_alone i))
          (ap (archive_spelling pair) shown) c.in_ok-journaled.ensures.formatted;
      means = subst (λ n. ArchiveStandsFor n image [] new)
          (sym (ap (λ a. a.pair) c.in_ok-journaled.ensures.state))
          (laws.image pair new
          (after_is_archive pair session laws.sound laws.formatted c.ranges.session.fits));
    }

pub returns-in_err-journaled-clause-refusals : goal.returns-in_err-journaled-clause-refusals
returns-in_err-journaled-clause-refusals g c =
    let session = c.args.session in
    let shown = ap (λ (m : Tree). record { marks = m; last_session = session }) c.in-Ok.ensures in
    let h = c.in_err-journaled.ensures.refusals in
    if_err_of_exit c.from_residual.result c.in_err-journaled.field-0.0
    (λ refused. IsOfFormat refused.0) c.from_residual.ensures.1
    (subst IsOfFormat (sym h.1) (format_refusal h.0 h.2 (λ full. image_fits c.args.pair session
    (archive_spelling c.args.pair (record { marks = c.in-Ok.marks; last_session = session }))
    (ap (archive_spelling c.args.pair) shown) (h.3 full))))
