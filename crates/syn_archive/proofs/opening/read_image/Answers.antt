use Rattle.std.proofs.Common.{ap, ◌∙◌, sym, subst, true≢false, option_map, ◌==◌, length}
use Rattle.syn_wire.specs.Reads.{IsReading}
use Rattle.syn_wire.specs.Versions.{version_of}
use Rattle.syn_image.specs.Archives.{IsSpelledArchive, spelled_archive, archive_in}
use Rattle.syn_archive.proofs.OpeningLemmas.{image_there, image_ends}
use Rattle.syn_archive.proofs.opening.read_image.Goals as goal

pub returns-in_default-clause-damaged : goal.returns-in_default-clause-damaged
returns-in_default-clause-damaged c damaged pair archive is =
    image_there (version_of c.args.version) c.args.image.now pair archive is
    (subst (λ o. IsReading (IsSpelledArchive (version_of c.args.version))
    (spelled_archive (version_of c.args.version))
    c.args.image.now (option_map (λ found. (archive_in found.0, found.1.now)) o)) c.in_default.is
    c.in_ok-read.ensures)

pub returns-then-not-is_empty-clause-damaged : goal.returns-then-not-is_empty-clause-damaged
returns-then-not-is_empty-clause-damaged c damaged pair archive is =
    let read = subst (λ o. IsReading (IsSpelledArchive (version_of c.args.version))
    (spelled_archive (version_of c.args.version))
    c.args.image.now (option_map (λ found. (archive_in found.0, found.1.now)) o)) c.in-Some.is
    c.in_ok-read.ensures in
    let empty = image_ends (version_of c.args.version) c.args.image.now pair archive is
    c.image_laws.ensures.archive (archive_in c.in-Some.read) c.in-Some.rest.now read in
    true≢false (sym (c.is_empty.ensures ∙ ap (λ xs. length xs == 0) empty) ∙ c.if-not-is_empty.true)
