use Rattle.std.proofs.Common.{ℕ, inl, inr, refl}
use Rattle.std.specs.Prelude.{map}
use Rattle.syn_runs.specs.Acknowledged.{Stores}
use Rattle.syn_promise.specs.Laws.{told_by}
use Rattle.syn_refusal.specs.declared.refusal.Refusal.TheVariants as code
use Rattle.syn_world.specs.Failures.{disks_in, failures_in, failures_on}
use Rattle.syn_world.specs.Headlines.{IsCutShort}
use Rattle.syn_world.specs.Openings.{StandFor}
use Rattle.syn_world.specs.Steps.{step_of}
use Rattle.syn_world.proofs.FailureLemmas.{counts_from}
use Rattle.syn_world.proofs.HeadlineLemmas.{holds_in, world_left}
use Rattle.syn_world.proofs.PromiseLemmas.{is_run, keeps_promise}
use Rattle.syn_world.proofs.headline.run.Goals as goal

pub returns-in-Ok-go_by-clause-runs : goal.returns-in-Ok-go_by-clause-runs
returns-in-Ok-go_by-clause-runs g c pair before all =
    let opens = c.in-Ok.ensures.opened pair before all in
    let had = c.in-Ok-go_by.ensures opens.model opens.is in
    let running = had.is.running in
    let counts = counts_from opens.model had.new (failures_on g.D.Disk.failures c.args.disks)
    (failures_in opens.is.running) (failures_in running) (failures_in running) had.counts
    (c.in-Ok.ensures.failures opens.is.running opens.is.there) (λ machine. refl) in
    record {
      new = had.new;
      is = had.is;
      run = is_run g.D.Disk pair c.args.disks (disks_in running) before
          (map step_of c.args.steps.now) opens.model had.new c.disk_laws.ensures.recovered
          c.promise.ensures.kept opens.opened opens.stores_are had.runs counts
          (world_left running had.new had.is.is.machines);
    }

pub returns-in-Ok-go_by-clause-promised : goal.returns-in-Ok-go_by-clause-promised
returns-in-Ok-go_by-clause-promised g c pair before all =
    let opens = c.in-Ok.ensures.opened pair before all in
    let had = c.in-Ok-go_by.ensures opens.model opens.is in (
      told_by had.new,
      keeps_promise c.disk_laws.ensures.recovered c.promise.ensures.kept pair before _ opens.model
          had.new (map step_of c.args.steps.now) opens.opened opens.stores_are had.runs
          c.go_by.new.self had.is,
    )

-- memory was refused after a first part of the steps
cut_short : (g : _) (c : goal.After-into_disks g) (pair : ℕ) (before : Stores)
    → StandFor g.D.Disk.seen g.D.Disk.arms pair c.args.disks before
    → IsCutShort g.D.Disk pair c.args.disks before (map step_of c.args.steps.now)
    (code.Memory, c.into_disks.result)
cut_short g c pair before all =
    let opens = c.in-Ok.ensures.opened pair before all in
    let ended = c.in-Err-go_by.ensures opens.model opens.is in
    let stopped = c.into_disks.ensures.stopped (disks_in ended.has.running)
    (holds_in c.go_by.new.self ended.has.running ended.has.there) in
    let counts = counts_from opens.model ended.new (failures_on g.D.Disk.failures c.args.disks)
    (failures_in opens.is.running) (failures_in ended.has.running)
    (failures_on g.D.Disk.failures c.into_disks.result) ended.counts
    (c.in-Ok.ensures.failures opens.is.running opens.is.there) stopped.count in
    record {
      memory = refl;
      made = ended.made;
      rest = ended.rest;
      all = ended.all;
      new = ended.new;
      run = is_run g.D.Disk pair c.args.disks c.into_disks.result before ended.made opens.model
          ended.new c.disk_laws.ensures.recovered c.promise.ensures.kept opens.opened
          opens.stores_are ended.runs counts (c.into_disks.ensures.left ended.new ended.has);
    }

pub returns-in-Err-go_by-clause-runs : goal.returns-in-Err-go_by-clause-runs
returns-in-Err-go_by-clause-runs g c pair before all = inr (cut_short g c pair before all)

pub returns-in-Err-go_by-clause-promised : goal.returns-in-Err-go_by-clause-promised
returns-in-Err-go_by-clause-promised g c pair before all =
    let cut = cut_short g c pair before all in
    inr (record {
      made = cut.made;
      rest = cut.rest;
      all = cut.all;
      told = told_by cut.new;
      left = cut.run.promised;
    })

pub returns-in-Err-clause-runs : goal.returns-in-Err-clause-runs
returns-in-Err-clause-runs g c pair before all = inl (record {
  failures = c.in-Err.ensures.failures;
  back = c.in-Err.ensures.back;
})

pub returns-in-Err-clause-promised : goal.returns-in-Err-clause-promised
returns-in-Err-clause-promised g c pair before all = inl c.in-Err.ensures.back

pub returns-in-Err-go_by-clause-refused : goal.returns-in-Err-go_by-clause-refused
returns-in-Err-go_by-clause-refused g c pair before all = inr refl

pub returns-in-Err-clause-refused : goal.returns-in-Err-clause-refused
returns-in-Err-clause-refused g c = c.in-Err.ensures.refused

pub returns-in-Ok-go_by-clause-pair : goal.returns-in-Ok-go_by-clause-pair
returns-in-Ok-go_by-clause-pair g c = (_, c.in-Ok.ensures.pair)

pub returns-in-Err-go_by-clause-cause : goal.returns-in-Err-go_by-clause-cause
returns-in-Err-go_by-clause-cause g c = inl refl

pub returns-in-Err-clause-cause : goal.returns-in-Err-clause-cause
returns-in-Err-clause-cause g c = inr c.in-Err.ensures.cause

pub returns-in-Err-clause-failures : goal.returns-in-Err-clause-failures
returns-in-Err-clause-failures g c = c.in-Err.ensures.failures.grew

pub returns-in-Err-go_by-clause-back : goal.returns-in-Err-go_by-clause-back
returns-in-Err-go_by-clause-back g c = inr (_, c.in-Ok.ensures.pair)

pub returns-in-Err-clause-back : goal.returns-in-Err-clause-back
returns-in-Err-clause-back g c = inl c.in-Err.ensures.back

pub returns-in-Err-go_by-clause-opened : goal.returns-in-Err-go_by-clause-opened
returns-in-Err-go_by-clause-opened g c other = absurd (other refl)

pub returns-in-Err-clause-opened : goal.returns-in-Err-clause-opened
returns-in-Err-clause-opened g c other = c.in-Err.ensures.back
