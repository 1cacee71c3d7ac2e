use Rattle.std.proofs.Common.{◌<◌, ◌^◌, ◌∙◌, inl, inr, sym, ap, subst}
use Rattle.std.proofs.lemmas.Result.{IfErr-weaker, on_ok_weaker}
use Rattle.syn_model.specs.Archive.{after_kept}
use Rattle.syn_model.specs.ArchiveImage.{ArchiveStandsFor}
use Rattle.syn_archive.specs.Archive.{disk_of, pair_of}
use Rattle.syn_archive.specs.declared.error.ArchiveError.TheVariants.{Device}
use Rattle.syn_archive.specs.inner.Agreements.{agreed_archive}
use Rattle.syn_journal.proofs.Results.{if_err_both, on_ok_both}
use Rattle.syn_archive.proofs.CallLemmas.{reopens}
use Rattle.syn_archive.proofs.EndLemmas.{same_error}
use Rattle.syn_archive.proofs.MachineLemmas.{as_machine, reads_disk}
use Rattle.syn_archive.proofs.MeaningLemmas.{keeps_stands, reopen_refusal, stands_for_each}
use Rattle.syn_archive.proofs.archive.Archive.reopen.Goals as goal

pub returns-clause-given : goal.returns-clause-given
returns-clause-given g c =
    on_ok_weaker c.reopen.result (λ opened. record {
      value = opened.value;
      means = opened.means;
      stands = opened.given;
    }) c.reopen.ensures.opened

pub returns-clause-each : goal.returns-clause-each
returns-clause-each g c =
    on_ok_weaker c.reopen.result (λ opened kept d. (stands_for_each _
    (g.D.Disk.seen (disk_of c.args.self.now)) _ kept opened opened.fits d).1)
    c.reopen.ensures.opened

pub returns-clause-before_or_after : goal.returns-clause-before_or_after
returns-clause-before_or_after g c kept what (inl d) =
    on_ok_both c.reopen.result c.reopen.ensures.opened c.reopen.ensures.follows
    (λ opened pair. inl (stands_for_each _ (g.D.Disk.seen (disk_of c.args.self.now))
    (pair_of c.args.self.now) kept opened (subst (λ n. n < 2 ^ 64) pair opened.fits)
    (keeps_stands d)).1)
returns-clause-before_or_after g c kept what (inr d) =
    on_ok_both c.reopen.result c.reopen.ensures.opened c.reopen.ensures.follows
    (λ opened pair. inr (stands_for_each _ (g.D.Disk.seen (disk_of c.args.self.now))
    (pair_of c.args.self.now) (after_kept kept what) opened
    (subst (λ n. n < 2 ^ 64) pair opened.fits) (keeps_stands d)).1)

pub returns-clause-refusals : goal.returns-clause-refusals
returns-clause-refusals g c =
    IfErr-weaker c.reopen.result _ _ (λ e refused. reopen_refusal e c.args.self.now.journaled.state
    (g.D.Disk.seen (disk_of c.args.self.now)) refused) c.reopen.ensures.refused

pub returns-clause-unchanged : goal.returns-clause-unchanged
returns-clause-unchanged g c kept stands =
    let old = c.args.self.now in
    if_err_both c.reopen.result c.reopen.ensures.state
    (c.reopen.ensures.unchanged stands.value stands.runs (subst (λ a. ArchiveStandsFor (pair_of old)
    stands.value.image stands.value.payloads a) (sym stands.remembers) stands.means))
    (λ e same h. elim h [
      | inl device ↦ inl (same_error e Device device)
      | inr runs ↦ inr (record {
        remembers = ap agreed_archive same ∙ stands.remembers;
        value = stands.value;
        runs = runs;
        means = subst (λ n. ArchiveStandsFor n stands.value.image stands.value.payloads kept)
            (sym (ap (λ a. a.pair) same)) stands.means;
      })
    ])

pub returns-clause-machine : goal.returns-clause-machine
returns-clause-machine g c =
    let told = c.reopen.ensures in
    reopens c.args.self.now _ c.reopen.result told.follows told.state told.halted told.halts
    told.readings told.room told.remembers told.device

pub returns-clause-world : goal.returns-clause-world
returns-clause-world g c number machine is =
    let old = c.args.self.now in
    reads_disk old (record { journaled = c.reopen.new.self }) number machine is _
    (c.reopen.ensures.world number machine (as_machine old number machine is))
