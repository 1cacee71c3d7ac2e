use Rattle.std.proofs.Common.{ap, ◌∙◌, sym, subst, true≢false, option_map, ◌==◌, length}
use Rattle.syn_model.specs.MarkSpelling.{kept_spelling_in}
use Rattle.syn_wire.specs.Reads.{IsReading}
use Rattle.syn_wire.specs.Versions.{version_of}
use Rattle.syn_image.specs.Archives.{IsSpelledKept, kept_of}
use Rattle.syn_archive.proofs.OpeningLemmas.{kept_there, kept_ends}
use Rattle.syn_archive.proofs.opening.read_kept.Goals as goal

pub returns-in_default : goal.returns-in_default
returns-in_default c kept spelled e =
    kept_there (version_of c.args.version) c.args.payload.now kept spelled e
    (subst (λ o. IsReading (IsSpelledKept (version_of c.args.version))
    (kept_spelling_in (version_of c.args.version))
    c.args.payload.now (option_map (λ found. (kept_of found.0, found.1.now)) o)) c.in_default.is
    c.in_ok-kept.ensures)

pub returns-else-is_empty : goal.returns-else-is_empty
returns-else-is_empty c kept spelled e =
    let read = subst (λ o. IsReading (IsSpelledKept (version_of c.args.version))
    (kept_spelling_in (version_of c.args.version))
    c.args.payload.now (option_map (λ found. (kept_of found.0, found.1.now)) o)) c.in-Some.is
    c.in_ok-kept.ensures in
    let empty = kept_ends (version_of c.args.version) c.args.payload.now kept spelled e
    c.image_laws.ensures.kept (kept_of c.in-Some.kept) c.in-Some.rest.now read in
    true≢false (sym (c.is_empty.ensures ∙ ap (λ xs. length xs == 0) empty) ∙ c.if-is_empty.false)
