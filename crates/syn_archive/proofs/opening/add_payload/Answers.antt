use Rattle.std.proofs.Common.{sym, ◌∙◌, subst, option_map}
use Rattle.std.proofs.lemmas.Result.{IfErr-weaker}
use Rattle.syn_model.specs.Archive.{CanKeep}
use Rattle.syn_model.proofs.VersionLemmas.{can_now}
use Rattle.syn_wire.specs.Versions.{version_of}
use Rattle.syn_image.specs.Archives.{kept_of}
use Rattle.syn_archive.specs.inner.Openings.{IsKeptOf, CannotKeep, archive_read}
use Rattle.syn_archive.proofs.opening.add_payload.Goals as goal

pub returns-clause-damaged : goal.returns-clause-damaged
returns-clause-damaged c =
    let laws = c.opening_laws.ensures in
    let old = archive_read c.args.archive.now in
    let read = subst (λ o. IsKeptOf (version_of c.args.version) c.args.payload.now
    (option_map kept_of o)) c.in-Some.is c.in_ok-kept.ensures in
    IfErr-weaker c.keep.result _ _ (λ e cannot damaged kept sound spelled can.
    let same = laws.told (version_of c.args.version) (kept_of c.in-Some.kept) kept read.0
    (laws.spelled (version_of c.args.version) old kept sound can) (sym read.1 ∙ spelled) in
    subst (λ e. CannotKeep e old (kept_of c.in-Some.kept)) damaged cannot
    (subst (CanKeep old) (sym same) (can_now (version_of c.args.version) old kept can)))
    c.keep.ensures.refused

pub returns-in_default-clause-damaged : goal.returns-in_default-clause-damaged
returns-in_default-clause-damaged c damaged kept sound spelled can =
    let version = version_of c.args.version in
    let none = subst (λ o. IsKeptOf version c.args.payload.now (option_map kept_of o))
    c.in_default.is c.in_ok-kept.ensures in
    none kept (c.opening_laws.ensures.spelled version (archive_read c.args.archive.now) kept sound
    can)
    spelled
