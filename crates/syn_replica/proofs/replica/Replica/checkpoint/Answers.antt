use Rattle.std.proofs.Common.{◌≡◌, ◌≤◌, ◌+◌, []}
use Rattle.std.proofs.Common.{Some, length, ap, inl, inr, refl, subst, sym, ◌∙◌, arith}
use Rattle.std.proofs.lemmas.Option.{none-some}
use Rattle.syn_journal.specs.Layout.{IsBeforeOrAfter, image_alone, longest_image}
use Rattle.syn_journal.specs.declared.error.JournalError.TheVariants as by_journal
use Rattle.syn_journal.specs.Journal as journal
use Rattle.syn_journal.proofs.Results.{answered, if_err_of, ok_part, on_ok_of}
use Rattle.syn_model.specs.Image.{StandsFor, image_spelling}
use Rattle.syn_model.specs.Refusal as why
use Rattle.syn_replica.specs.ErrorRefusals.{refusal_of}
use Rattle.syn_replica.specs.declared.error.ReplicaError.TheVariants.{Journal}
use Rattle.syn_model.specs.History.{History}
use Rattle.syn_replica.specs.Replica.{KeepsOrCompacts, Stands, disk_of, generation_shown}
use Rattle.syn_replica.specs.Replica.{left_shown, pair_of, standing_shown}
use Rattle.syn_replica.specs.declared.replica.Replica.{Replica}
use Rattle.syn_journal.specs.Endings.{ended}
use Rattle.syn_replica.proofs.GrowthLemmas.{broken, kept, of_checkpoint, stands_still, unmoved}
use Rattle.syn_replica.specs.Growth.{IsGrown}
use Rattle.syn_replica.proofs.CallLemmas.{compacts}
use Rattle.syn_replica.proofs.MachineLemmas.{as_machine, runs_up, writes_image}
use Rattle.syn_replica.proofs.StandLemmas.{image_stands, left_behind}
use Rattle.syn_disk.proofs.LeftLemmas.{leaves_weaker, seen_is_left}
use Rattle.syn_replica.proofs.StandLemmas.{stop_compacts}
use Rattle.syn_replica.proofs.replica.Replica.checkpoint.Goals as goal

-- where it succeeds, the history stands by its image alone
pub returns-clause-acknowledged : goal.returns-clause-acknowledged
returns-clause-acknowledged g c history stands =
    let old = c.args.self.now in
    let image = image_spelling (pair_of old) (standing_shown old) in
    on_ok_of refusal_of c.checkpoint.result _ (λ none. record {
      remembers = record {
        lawful = stands.remembers.lawful;
        standing = ap (λ m. m.standing) c.checkpoint.ensures.state ∙ stands.remembers.standing;
      };
      value = image_alone image;
      runs = c.checkpoint.ensures.journal.acknowledged none;
      means = subst (λ n. StandsFor n image [] history)
          (sym (ap (λ m. m.pair) c.checkpoint.ensures.state))
          (image_stands c.history_laws.ensures.image (pair_of old) history (standing_shown old)
          image stands.remembers.lawful stands.remembers.standing refl);
    })

pub returns-clause-any_moment : goal.returns-clause-any_moment
returns-clause-any_moment g c history stands =
    let old = c.args.self.now in
    let image = image_spelling (pair_of old) (standing_shown old) in
    leaves_weaker g.D.Disk.moment g.D.Disk.left_since _ _
    (IsBeforeOrAfter stands.value (generation_shown old) (image_alone image)
    (generation_shown old + 1)) (KeepsOrCompacts old history)
    (stop_compacts c.history_laws.ensures.image (pair_of old) stands.value history
    (standing_shown old) image (left_shown old) (generation_shown old) stands.means
    stands.remembers.standing refl (left_behind old stands.value stands.runs))
    (c.checkpoint.ensures.journal.any_moment stands.value stands.runs)

pub returns-clause-cause : goal.returns-clause-cause
returns-clause-cause g c =
    if_err_of refusal_of c.checkpoint.result _
    (λ e some full. c.checkpoint.ensures.journal.full (some ∙ ap (λ w. Some w) full))

-- an image of what is kept of a history is never too long
pub returns-clause-full : goal.returns-clause-full
returns-clause-full g c history stands =
    let old = c.args.self.now in
    let fits : length (image_spelling (pair_of old) (standing_shown old)) ≤ longest_image =
    subst (λ s. length (image_spelling (pair_of old) s) ≤ longest_image)
    (sym stands.remembers.standing)
    (c.history_laws.ensures.image_fits (pair_of old) history stands.remembers.lawful) in
    if_err_of refusal_of c.checkpoint.result _ (λ e some full. elim
    (c.checkpoint.ensures.journal.full (some ∙ ap (λ w. Some w) full)) [
      | inl last ↦ last
      | inr long ↦ absurd (omega (arith, fits, long))
    ])

pub returns-clause-first : goal.returns-clause-first
returns-clause-first g c last running =
    answered refusal_of (λ by. Journal by) c.checkpoint.result by_journal.Full
    c.checkpoint.ensures.answer (c.checkpoint.ensures.journal.greatest running last)

device_is_no_halt : Some why.Device ≡ Some why.Halted → ⊥
device_is_no_halt is = cc is

pub returns-clause-machine : goal.returns-clause-machine
returns-clause-machine g c =
    let old = c.args.self.now in
    let new : Replica _ _ = record old { journaled = c.checkpoint.new.self } in
    let told = c.checkpoint.ensures.journal in
    let pair = ap (λ m. m.pair) c.checkpoint.ensures.state in
    let standing = ap (λ m. m.standing) c.checkpoint.ensures.state in
    let seen : (history : History) → Stands old history →
    KeepsOrCompacts old history (g.D.Disk.seen (disk_of new)) =
    λ history stands. seen_is_left g.D.Disk.seen g.D.Disk.may_leave g.D.Disk.moment
    g.D.Disk.left_since g.met.D.Disk.seen_may_stay g.met.D.Disk.counts_now _ _
    (KeepsOrCompacts old history) (returns-clause-any_moment g c history stands) in
    let grown : IsGrown old new = elim told.unchanged [
      | inl none ↦ kept old new pair standing
          (λ halted. none-some _ (sym none ∙ told.halted.1 halted))
          (λ history stands. ok_part refusal_of c.checkpoint.result _ _
          (returns-clause-acknowledged g c history stands) none)
      | inr (inl device) ↦ broken old new pair standing
          (λ halted. device_is_no_halt (sym device ∙ told.halted.1 halted))
          (inl (told.halts device))
          (λ _ history stands. of_checkpoint old history _ _ (seen history stands))
      | inr (inr same) ↦ unmoved old new pair standing refl
          (ap (λ j. g.D.Disk.seen (journal.disk_of j)) same)
          (λ halted. subst (λ j. journal.IsHalted j) (sym same) halted)
          (λ history stands. inr (stands_still old new pair standing same history stands))
    ] in
    compacts old new (ended refusal_of c.checkpoint.result) told
    (record { pair = pair; standing = standing }) refl grown seen

pub returns-clause-world : goal.returns-clause-world
returns-clause-world g c number machine is =
    let old = c.args.self.now in
    writes_image (record old { journaled = c.checkpoint.new.self }) number machine
    (ap (λ m. m.pair) c.checkpoint.ensures.state ∙ is.pair_is) _
    (λ other. runs_up old number machine is
    (λ halted. other (c.checkpoint.ensures.journal.halted.1 halted)))
    (c.checkpoint.ensures.world number machine (as_machine old number machine is))
