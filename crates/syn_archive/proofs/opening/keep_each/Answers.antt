use Rattle.std.proofs.Common.{◌+◌, ◌∷◌, ◌++◌, [], take, drop, sym, ap, ◌∙◌, subst}
use Rattle.std.proofs.lemmas.List.{map_more}
use Rattle.std.proofs.lemmas.Result.{err_from_is_err_and}
use Rattle.syn_model.specs.Archive.{CanKeepIn}
use Rattle.syn_model.specs.ArchiveImage.{IsArchive}
use Rattle.syn_wire.specs.Versions.{version_of}
use Rattle.syn_archive.specs.inner.Openings.{Replays, AddsKept, archive_read, bytes_of_each}
use Rattle.syn_archive.proofs.AlikeLemmas.{next_kept, replays_more}
use Rattle.syn_archive.proofs.OpeningLemmas.{row_parts}
use Rattle.syn_archive.proofs.opening.keep_each.Goals as goal

pub loop-payload-preserved : goal.loop-payload-preserved
loop-payload-preserved c =
    let i = c.loop-payload.payload-index in
    let payloads = c.args.payloads.now in
    let read = bytes_of_each (take i payloads) in
    let first = archive_read c.args.archive.now in
    let old = archive_read c.loop-payload.archive in
    let new = archive_read c.add_payload.new.archive in
    let adds =
    subst (λ p. AddsKept (version_of c.args.version) old p new) c.deref.ensures.value
    c.in_ok-add_payload.ensures.added in
    let more = replays_more (version_of c.args.version) first old new read
    c.payload-item.result.items c.loop-payload.invariant.replays adds in
    record {
      replays = subst (λ xs. Replays (version_of c.args.version) first xs new)
          (sym (map_more (λ p. p.items) payloads i c.payload-item.result c.loop-payload-test.true
          ∙ ap (λ p. read ++ p.items ∷ []) (sym c.payload-item.is))) more;
      pair = c.in_ok-add_payload.ensures.pair ∙ c.loop-payload.invariant.pair;
    }

pub returns-in_err-add_payload-clause-damaged : goal.returns-in_err-add_payload-clause-damaged
returns-in_err-add_payload-clause-damaged c =
    let p = err_from_is_err_and c.from_residual.result c.from_residual.ensures.1 in
    let laws = c.opening_laws.ensures in
    let i = c.loop-payload.payload-index in
    let payloads = c.args.payloads.now in
    let payload = c.payload-item.result in
    let read = c.loop-payload.invariant.replays in
    let parts = row_parts (version_of c.args.version) payloads i payload read.kept
    c.loop-payload-test.true c.payload-item.is read.spelled in
    rw (p.1, p.2) (λ is kept all spelled.
    let next = next_kept laws.told laws.spelled laws.keeping
    (version_of c.args.version)
    (archive_read c.args.archive.now) kept read.kept payload.items
    (bytes_of_each (drop (i + 1) payloads)) c.requires all read.allowed (sym spelled ∙ parts) in
    c.in_err-add_payload.ensures.damaged is next.0 (subst IsArchive (sym read.gives) next.3)
    (c.deref.ensures.value ∙ next.1) (subst (λ a. CanKeepIn (version_of c.args.version) a next.0)
    (sym read.gives) next.2))
