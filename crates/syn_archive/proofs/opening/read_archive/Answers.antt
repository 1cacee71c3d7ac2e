use Rattle.std.proofs.Common.{sym, subst}
use Rattle.std.proofs.lemmas.Result.{err_from_is_err_and}
use Rattle.syn_model.specs.ArchiveImage.{AllKeptIn, ArchiveStandsForIn}
use Rattle.syn_wire.specs.Versions.{version_of}
use Rattle.syn_archive.specs.inner.Openings.{archive_read, bytes_of_each}
use Rattle.syn_archive.proofs.OpeningLemmas.{stands_of, same_image}
use Rattle.syn_archive.proofs.opening.read_archive.Goals as goal

pub returns-in_err-keep_each-clause-damaged : goal.returns-in_err-keep_each-clause-damaged
returns-in_err-keep_each-clause-damaged c =
    let p = err_from_is_err_and c.from_residual-in_err-keep_each.result
    c.from_residual-in_err-keep_each.ensures.1 in
    let is = c.in_ok-archive.ensures.read in
    let image = c.args.image.now in
    rw (p.1, p.2) (λ damaged pair archive fits stands.
    let same = same_image c.opening_laws.ensures.one (version_of c.args.version) image pair
    c.in_ok-archive.archive.pair stands.first (archive_read c.in_ok-archive.archive)
    (record { fits = fits; sound = stands.sound; spelled = stands.image_is }) is in
    c.in_err-keep_each.ensures.damaged damaged stands.kept
    (subst (λ a. AllKeptIn (version_of c.args.version) a stands.kept) same stands.allowed)
    stands.payloads_are)

pub returns-clause-stands : goal.returns-clause-stands
returns-clause-stands c =
    let is = c.in_ok-archive.ensures.read in
    let image = c.args.image.now in
    let payloads = bytes_of_each c.args.payloads.now in
    let last = archive_read c.keep_each.new.archive in
    subst (λ n. ArchiveStandsForIn (version_of c.args.version) n image payloads last)
    (sym c.in_ok-keep_each.ensures.pair)
    (stands_of (version_of c.args.version) image payloads c.in_ok-archive.archive.pair
    (archive_read c.in_ok-archive.archive) last is c.in_ok-keep_each.ensures.replays)
