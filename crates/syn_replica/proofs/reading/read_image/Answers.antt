use Rattle.std.proofs.Common.{ap, ◌∙◌, sym, subst, true≢false, option_map, ◌==◌, length}
use Rattle.syn_wire.specs.Reads.{IsReading}
use Rattle.syn_wire.specs.Versions.{version_of}
use Rattle.syn_image.specs.Images.{IsImage, spelled_image, image_of}
use Rattle.syn_replica.proofs.ReadingLemmas.{image_there, image_ends}
use Rattle.syn_replica.proofs.reading.read_image.Goals as goal

pub returns-in_default-clause-damaged : goal.returns-in_default-clause-damaged
returns-in_default-clause-damaged c damaged pair standing is =
    image_there (version_of c.args.version) c.args.bytes.now pair standing is
    (subst (λ o. IsReading (IsImage (version_of c.args.version))
    (spelled_image (version_of c.args.version))
    c.args.bytes.now (option_map
    (λ found. (image_of found.0, found.1.now)) o)) c.in_default.is c.in_ok-image.ensures)

pub returns-then-not-is_empty-clause-damaged : goal.returns-then-not-is_empty-clause-damaged
returns-then-not-is_empty-clause-damaged c damaged pair standing is =
    let read = subst (λ o. IsReading (IsImage (version_of c.args.version))
    (spelled_image (version_of c.args.version))
    c.args.bytes.now (option_map
    (λ found. (image_of found.0, found.1.now)) o)) c.in-Some.is c.in_ok-image.ensures in
    let empty = image_ends (version_of c.args.version) c.args.bytes.now pair standing is
    c.image_laws.ensures.image (image_of c.in-Some.image) c.in-Some.rest.now read in
    true≢false (sym (c.is_empty.ensures ∙ ap (λ xs. length xs == 0) empty) ∙ c.if-not-is_empty.true)
