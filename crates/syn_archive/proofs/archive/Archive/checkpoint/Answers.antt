use Rattle.std.proofs.Common.{◌≡◌, ◌<◌, ◌≤◌, ◌+◌, ◌∙◌, ℕ, length, true≢false, inl, inr, sym}
use Rattle.std.proofs.Common.{ap, subst, arith, []}
use Rattle.syn_journal.specs.Layout.{image_alone, longest_image, IsBeforeOrAfter}
use Rattle.syn_journal.specs.Endings.{ended}
use Rattle.syn_journal.proofs.Results.{on_ok_of}
use Rattle.syn_model.specs.Limits.{greatest_image}
use Rattle.syn_model.specs.Version.{current_version}
use Rattle.syn_model.specs.MarkSpelling.{archive_spelling}
use Rattle.syn_model.specs.ArchiveImage.{ArchiveStandsFor}
use Rattle.syn_archive.specs.Archive.{KeepsOrCompacts, generation_shown, left_shown, pair_of, shown}
use Rattle.syn_archive.specs.Refusals.{refusal_of}
use Rattle.syn_archive.specs.declared.error.ArchiveError.TheVariants.{Full}
use Rattle.syn_archive.specs.inner.Agreements.{agreed_archive}
use Rattle.syn_archive.proofs.StandLemmas.{image_keeps, left_behind}
use Rattle.syn_disk.proofs.LeftLemmas.{leaves_weaker, seen_is_left}
use Rattle.syn_archive.proofs.StandLemmas.{stop_compacts}
use Rattle.syn_archive.proofs.EndLemmas.{err_of, of_checkpoint}
use Rattle.syn_archive.proofs.MachineLemmas.{as_machine, compacts_image}
use Rattle.syn_archive.proofs.WriteLemmas.{compacts}
use Rattle.syn_archive.proofs.archive.Archive.checkpoint.Goals as goal

pub returns-clause-acknowledged : goal.returns-clause-acknowledged
returns-clause-acknowledged g c kept stands =
    let old = c.args.self.now in
    let image = archive_spelling (pair_of old) (shown old) in
    on_ok_of refusal_of c.checkpoint.result _ (λ none. record {
      remembers = ap agreed_archive c.checkpoint.ensures.state ∙ stands.remembers;
      value = image_alone image;
      runs = c.checkpoint.ensures.journal.acknowledged none;
      means = subst (λ n. ArchiveStandsFor n image [] kept)
          (sym (ap (λ a. a.pair) c.checkpoint.ensures.state))
          (image_keeps c.archive_laws.ensures.sound c.archive_laws.ensures.image (pair_of old)
          stands.value image kept stands.means
          (ap (archive_spelling (pair_of old)) stands.remembers));
    })

pub returns-clause-any_moment : goal.returns-clause-any_moment
returns-clause-any_moment g c kept stands =
    let old = c.args.self.now in
    let image = archive_spelling (pair_of old) (shown old) in
    leaves_weaker g.D.Disk.moment g.D.Disk.left_since _ _
    (IsBeforeOrAfter stands.value (generation_shown old) (image_alone image)
    (generation_shown old + 1)) (KeepsOrCompacts old kept)
    (stop_compacts c.archive_laws.ensures.sound c.archive_laws.ensures.image (pair_of old)
    stands.value image kept (left_shown old) (generation_shown old) stands.means
    (ap (archive_spelling (pair_of old)) stands.remembers)
    (left_behind old stands.value stands.runs))
    (c.checkpoint.ensures.journal.any_moment stands.value stands.runs)

pub returns-clause-full : goal.returns-clause-full
returns-clause-full g c is = c.checkpoint.ensures.journal.full (ap (ended refusal_of) is)

not_longer : (image spelled : ℕ) → image ≡ spelled → spelled ≤ greatest_image →
    longest_image < image → ⊥
not_longer image spelled e fits long = omega (arith, e, fits, long)

pub returns-clause-greatest : goal.returns-clause-greatest
returns-clause-greatest g c kept stands =
    let laws = c.archive_laws.ensures in
    let old = c.args.self.now in
    let image = archive_spelling (pair_of old) (shown old) in
    let fits = laws.image_fits (pair_of old) kept
    (laws.sound current_version (pair_of old) stands.value.image stands.value.payloads kept
    stands.means) in
    let never : longest_image < length image → ⊥ = not_longer (length image)
    (length (archive_spelling (pair_of old) kept))
    (ap (λ a. length (archive_spelling (pair_of old) a)) stands.remembers) fits in (
      λ is. elim (c.checkpoint.ensures.journal.full (ap (ended refusal_of) is))
          [ inl last ↦ last | inr long ↦ absurd (never long) ],
      λ last. err_of c.checkpoint.result Full (c.checkpoint.ensures.journal.greatest
          (λ halted. true≢false (sym halted ∙ stands.runs.running)) last),
    )

pub returns-clause-refusals : goal.returns-clause-refusals
returns-clause-refusals g c =
    of_checkpoint c.checkpoint.result c.checkpoint.ensures.journal.refusals

pub returns-clause-machine : goal.returns-clause-machine
returns-clause-machine g c =
    compacts c.args.self.now (record { journaled = c.checkpoint.new.self }) _
    c.checkpoint.ensures.journal c.checkpoint.ensures.state
    (λ kept stands. seen_is_left g.D.Disk.seen g.D.Disk.may_leave g.D.Disk.moment
    g.D.Disk.left_since g.met.D.Disk.seen_may_stay g.met.D.Disk.counts_now _ _
    (KeepsOrCompacts c.args.self.now kept) (returns-clause-any_moment g c kept stands))

pub returns-clause-world : goal.returns-clause-world
returns-clause-world g c number machine is =
    compacts_image c.args.self.now (record { journaled = c.checkpoint.new.self }) number machine
    is _
    (returns-clause-machine g c)
    (c.checkpoint.ensures.world number machine (as_machine c.args.self.now number machine is))
