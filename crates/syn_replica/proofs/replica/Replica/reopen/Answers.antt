use Rattle.std.proofs.Common.{◌≡◌, ◌⊎◌, ◌++◌, ◌∷◌, [], ap, inl, inr, refl, subst, sym, ◌∙◌}
use Rattle.syn_model.specs.Image.{Gives, StandsFor}
use Rattle.syn_model.specs.Refusal as why
use Rattle.syn_replica.specs.Disks.{DiskStands}
use Rattle.syn_journal.specs.Journaled as machine
use Rattle.syn_replica.specs.Replica.{KeepsReadings, SameMemory, ShowsDisk, disk_of, pair_of}
use Rattle.syn_replica.specs.declared.replica.Replica.{Replica}
use Rattle.syn_replica.proofs.GrowthLemmas.{reopened, unmoved}
use Rattle.syn_replica.proofs.MachineLemmas.{as_machine, reads_disk}
use Rattle.syn_replica.proofs.MeaningLemmas.{reopen_refusal}
use Rattle.syn_replica.proofs.ReopenLemmas.{kept_outside, stands_again, unopened_outside}
use Rattle.syn_replica.proofs.StandLemmas.{keeps_stands, opened_each}
use Rattle.syn_replica.proofs.replica.Replica.reopen.Goals as goal

-- ---- it was opened again

pub returns-in-Ok-clause-each : goal.returns-in-Ok-clause-each
returns-in-Ok-clause-each g c history d =
    (opened_each _ (g.D.Disk.seen (disk_of c.args.self.now)) _ history c.in-Ok.ensures.opened
    c.in-Ok.ensures.opened.fits d).1

pub returns-in-Ok-clause-before_or_after : goal.returns-in-Ok-clause-before_or_after
returns-in-Ok-clause-before_or_after g c history event (inl keeps) =
    inl (returns-in-Ok-clause-each g c history
    (subst (λ n. DiskStands n (g.D.Disk.seen (disk_of c.args.self.now)) history)
    (sym c.in-Ok.ensures.follows.pair) (keeps_stands keeps)))
returns-in-Ok-clause-before_or_after g c history event (inr keeps) =
    inr (returns-in-Ok-clause-each g c (history ++ event ∷ [])
    (subst (λ n. DiskStands n (g.D.Disk.seen (disk_of c.args.self.now)) (history ++ event ∷ []))
    (sym c.in-Ok.ensures.follows.pair) (keeps_stands keeps)))

pub returns-in-Ok-clause-keeps_up : goal.returns-in-Ok-clause-keeps_up
returns-in-Ok-clause-keeps_up g c history k =
    stands_again c.args.self.now _ history c.in-Ok.ensures.follows.pair
    (λ h d. returns-in-Ok-clause-each g c h d) k

pub returns-in-Ok-clause-machine : goal.returns-in-Ok-clause-machine
returns-in-Ok-clause-machine g c =
    let follows = c.in-Ok.ensures.follows in
    record {
      pair = follows.pair;
      forgets = refl;
      grown = reopened c.args.self.now _ follows.pair follows.position
          (λ h d. returns-in-Ok-clause-each g c h d);
      halted = tt;
      halts = tt;
      tried = tt;
      memory = tt;
      readings = tt;
      room = λ history stands. tt;
      remembers = λ h. tt;
      device = c.in-Ok.ensures.device;
    }

-- ---- it was refused

no_memory : why.Device ≡ why.Memory → ⊥
no_memory is = cc is

pub returns-in-Err-clause-refusals : goal.returns-in-Err-clause-refusals
returns-in-Err-clause-refusals g c =
    reopen_refusal c.in-Err.error c.args.self.now.journaled.state
    (g.D.Disk.seen (disk_of c.args.self.now)) c.in-Err.ensures.refused

pub returns-in-Err-clause-keeps_up : goal.returns-in-Err-clause-keeps_up
returns-in-Err-clause-keeps_up g c history k =
    kept_outside c.opening_laws.ensures.one c.args.self.now history k c.in-Err.error
    c.in-Err.ensures.refused

pub returns-in-Err-clause-lawful : goal.returns-in-Err-clause-lawful
returns-in-Err-clause-lawful g c history d early =
    unopened_outside c.opening_laws.ensures.one c.args.self.now.journaled.state
    (g.D.Disk.seen (disk_of c.args.self.now)) history d early c.in-Err.error
    c.in-Err.ensures.refused

pub returns-in-Err-clause-unchanged : goal.returns-in-Err-clause-unchanged
returns-in-Err-clause-unchanged g c history stands =
    let old = c.args.self.now in
    let same = c.in-Err.ensures.state in
    elim (c.in-Err.ensures.unchanged stands.value stands.runs (subst (Gives (pair_of old)
    stands.value.image stands.value.payloads) (sym stands.remembers.standing) stands.means.gives)) [
      | inl device ↦ inl device
      | inr runs ↦ inr (record {
        remembers = record {
          lawful = stands.remembers.lawful;
          standing = ap (λ m. m.standing) same ∙ stands.remembers.standing;
        };
        value = stands.value;
        runs = runs;
        means = subst (λ n. StandsFor n stands.value.image stands.value.payloads history)
            (sym (ap (λ m. m.pair) same)) stands.means;
      })
    ]

pub returns-in-Err-clause-machine : goal.returns-in-Err-clause-machine
returns-in-Err-clause-machine g c =
    let old = c.args.self.now in
    let new : Replica _ _ = record old { journaled = c.reopen.new.self } in
    let told = c.in-Err.ensures in
    let pair = ap (λ m. m.pair) told.state in
    let standing = ap (λ m. m.standing) told.state in
    let memory : SameMemory old new = record { pair = pair; standing = standing } in
    let kept : machine.KeepsReadings old.journaled new.journaled → KeepsReadings old new =
    λ keeps. record { memory = memory; left_is = keeps.left_is; generation = keeps.generation } in
    record {
      pair = pair;
      forgets = tt;
      grown = unmoved old new pair standing refl told.device.untouched.same told.halted
          (λ history stands. elim (returns-in-Err-clause-unchanged g c history stands) [
            | inl device ↦ inl (told.halts (λ memory. no_memory (sym device ∙ memory)))
            | inr runs ↦ inr runs
          ]);
      halted = told.halted;
      halts = told.halts;
      tried = refl;
      memory = memory;
      readings = elim told.readings as (λ _. KeepsReadings old new ⊎ ShowsDisk new) [
        | inl keeps ↦ inl (kept keeps)
        | inr shows ↦ inr (record {
          value = shows.value;
          journal = shows.journal;
          left_is = shows.left_is;
        })
      ];
      room = λ history stands. kept (told.room stands.value stands.runs);
      remembers = λ h. kept (told.remembers h);
      device = told.device;
    }

-- ---- what it is to the machine

pub returns-in-Ok-clause-world : goal.returns-in-Ok-clause-world
returns-in-Ok-clause-world g c number machine is =
    let old = c.args.self.now in
    reads_disk _ number machine (c.in-Ok.ensures.follows.pair ∙ is.pair_is) _
    (c.in-Ok.ensures.world number machine (as_machine old number machine is))

pub returns-in-Err-clause-world : goal.returns-in-Err-clause-world
returns-in-Err-clause-world g c number machine is =
    let old = c.args.self.now in
    let new : Replica _ _ = record old { journaled = c.reopen.new.self } in
    reads_disk new number machine (ap (λ m. m.pair) c.in-Err.ensures.state ∙ is.pair_is) _
    (c.in-Err.ensures.world number machine (as_machine old number machine is))
