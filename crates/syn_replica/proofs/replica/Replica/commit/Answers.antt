use Rattle.std.proofs.Common.{◌≡◌, ◌≤◌, ◌+◌, ◌∷◌, ◌∙◌, [], None, Some, ap, inl, inr, refl, subst}
use Rattle.std.proofs.Common.{sym, true≢false}
use Rattle.std.proofs.lemmas.Option.{none-some, same_Some}
use Rattle.syn_journal.specs.Journal as journal
use Rattle.syn_model.specs.Refusal as why
use Rattle.syn_model.specs.Standing.{Standing}
use Rattle.syn_replica.specs.ErrorRefusals.{refusal_of}
use Rattle.syn_model.specs.History.{History}
use Rattle.syn_replica.specs.Growth.{IsGrown}
use Rattle.syn_replica.specs.Replica.{KeepsBeforeOrAfter, Stands, disk_of, position_shown}
use Rattle.syn_replica.specs.declared.replica.Replica.{Replica}
use Rattle.syn_replica.proofs.GrowthLemmas.{added, broken, kept, of_write, one_more, stands_still}
use Rattle.syn_disk.proofs.LeftLemmas.{seen_is_left}
use Rattle.syn_replica.proofs.MachineLemmas.{adds_to, as_machine, left_with, runs_up, stands_up}
use Rattle.syn_replica.proofs.MachineLemmas.{writes_record}
use Rattle.syn_replica.proofs.StandLemmas.{allowed_after}
use Rattle.syn_replica.proofs.WriteLemmas.{refused_call, written_call, written_moment}
use Rattle.syn_replica.proofs.WriteLemmas.{written_stands}
use Rattle.syn_replica.proofs.replica.Replica.commit.Goals as goal

-- ---- a device call failed

pub returns-then-is_halted-clause-any_moment : goal.returns-then-is_halted-clause-any_moment
returns-then-is_halted-clause-any_moment g c history event stands adds =
    written_moment c.args.self.now
    (record c.args.self.now { journaled = c.write.new.self; tried = Some c.args.payload })
    c.deref.result.now _ c.write.ensures.journal event (c.deref.ensures.value ∙ adds.spelled)
    c.history_laws.ensures.payload c.layout_laws.ensures.left history stands
    (allowed_after _ history event stands.remembers.standing adds.allowed)

pub returns-then-is_halted-clause-machine : goal.returns-then-is_halted-clause-machine
returns-then-is_halted-clause-machine g c event adds =
    let old = c.args.self.now in
    let new : Replica _ _ =
    record old { journaled = c.write.new.self; tried = Some c.args.payload } in
    let same = c.in-Err.ensures.state in
    let halted = c.is_halted.ensures.0 c.if-is_halted.true in
    let device : refusal_of c.in-Err.error ≡ why.Device =
    elim c.in-Err.ensures.journal.unchanged [
      | inl none ↦ absurd (none-some _ (sym none))
      | inr (inl device) ↦ same_Some _ _ device
      | inr (inr still) ↦ absurd (c.requires.running
          (subst (λ j. journal.IsHalted j) still halted))
    ] in
    let seen : (history : History) → Stands old history →
    KeepsBeforeOrAfter old history event (g.D.Disk.seen (disk_of new)) =
    λ history stands. seen_is_left g.D.Disk.seen g.D.Disk.may_leave g.D.Disk.moment
    g.D.Disk.left_since g.met.D.Disk.seen_may_stay g.met.D.Disk.counts_now _ _
    (KeepsBeforeOrAfter old history event) (returns-then-is_halted-clause-any_moment g c history
    event stands adds) in
    let grown : IsGrown old new = broken old new (ap (λ m. m.pair) same) (ap (λ m. m.standing) same)
    c.requires.running (inl halted)
    (λ _ history stands. of_write old history event _ _ (ap (λ x. Some x) adds.spelled)
    (seen history stands)) in
    refused_call old new c.deref.result.now event (c.deref.ensures.value ∙ adds.spelled) grown seen
    (refusal_of c.in-Err.error) c.in-Err.ensures.journal same
    (inl (device, ap (λ x. Some x) adds.spelled))

pub returns-then-is_halted-clause-world : goal.returns-then-is_halted-clause-world
returns-then-is_halted-clause-world g c number machine event is adds =
    let old = c.args.self.now in
    writes_record old number machine is event
    (record old { journaled = c.write.new.self; tried = Some c.args.payload })
    (ap (λ m. m.pair) c.in-Err.ensures.state ∙ is.pair_is)
    (runs_up old number machine is c.requires.running) (Some (refusal_of c.in-Err.error))
    (λ none. absurd (none-some _ (sym none)))
    (c.in-Err.ensures.world number machine event (as_machine old number machine is)
    (adds_to old number machine is event c.history_laws.ensures.goes_on
    c.history_laws.ensures.steps c.deref.result.now _ c.args.update c.requires.running adds
    c.deref.ensures.value))

-- ---- nothing was written

pub returns-else-is_halted-clause-any_moment : goal.returns-else-is_halted-clause-any_moment
returns-else-is_halted-clause-any_moment g c history event stands adds =
    written_moment c.args.self.now
    (record c.args.self.now { journaled = c.write.new.self }) c.deref.result.now _
    c.write.ensures.journal event (c.deref.ensures.value ∙ adds.spelled)
    c.history_laws.ensures.payload c.layout_laws.ensures.left history stands
    (allowed_after _ history event stands.remembers.standing adds.allowed)

pub returns-else-is_halted-clause-machine : goal.returns-else-is_halted-clause-machine
returns-else-is_halted-clause-machine g c event adds =
    let old = c.args.self.now in
    let new : Replica _ _ = record old { journaled = c.write.new.self } in
    let same = c.in-Err.ensures.state in
    let pair = ap (λ m. m.pair) same in
    let standing = ap (λ m. m.standing) same in
    let told = c.in-Err.ensures.journal in
    let not : refusal_of c.in-Err.error ≡ why.Device → ⊥ =
    λ device. true≢false (sym (c.is_halted.ensures.1 (told.halts (ap (λ w. Some w) device)))
    ∙ c.if-is_halted.false) in
    let seen : (history : History) → Stands old history →
    KeepsBeforeOrAfter old history event (g.D.Disk.seen (disk_of new)) =
    λ history stands. seen_is_left g.D.Disk.seen g.D.Disk.may_leave g.D.Disk.moment
    g.D.Disk.left_since g.met.D.Disk.seen_may_stay g.met.D.Disk.counts_now _ _
    (KeepsBeforeOrAfter old history event) (returns-else-is_halted-clause-any_moment g c history
    event stands adds) in
    let grown : IsGrown old new = elim told.unchanged [
      | inl none ↦ absurd (none-some _ (sym none))
      | inr (inl device) ↦ absurd (not (same_Some _ _ device))
      | inr (inr still) ↦ kept old new pair standing c.requires.running
          (stands_still old new pair standing still)
    ] in
    refused_call old new c.deref.result.now event (c.deref.ensures.value ∙ adds.spelled) grown seen
    (refusal_of c.in-Err.error) told same (inr (not, refl))

pub returns-else-is_halted-clause-world : goal.returns-else-is_halted-clause-world
returns-else-is_halted-clause-world g c number machine event is adds =
    let old = c.args.self.now in
    writes_record old number machine is event (record old { journaled = c.write.new.self })
    (ap (λ m. m.pair) c.in-Err.ensures.state ∙ is.pair_is)
    (runs_up old number machine is c.requires.running) (Some (refusal_of c.in-Err.error))
    (λ none. absurd (none-some _ (sym none)))
    (c.in-Err.ensures.world number machine event (as_machine old number machine is)
    (adds_to old number machine is event c.history_laws.ensures.goes_on
    c.history_laws.ensures.steps c.deref.result.now _ c.args.update c.requires.running adds
    c.deref.ensures.value))

-- ---- it was written

pub returns-clause-acknowledged : goal.returns-clause-acknowledged
returns-clause-acknowledged g c history event stands adds =
    let old = c.args.self.now in
    let written = c.in_default.ensures in (
      c.position.ensures ∙ (ap (λ s. s.position) (written.state.standing event adds.gives)
          ∙ ap (λ s. s.position + 1) stands.remembers.standing),
      written_stands old _ c.deref.result.now _ written.journal event
          (c.deref.ensures.value ∙ adds.spelled)
          c.history_laws.ensures.goes_on c.history_laws.ensures.steps c.history_laws.ensures.payload
          c.args.update refl written.state adds.gives history stands
          (allowed_after _ history event stands.remembers.standing adds.allowed),
    )

pub returns-clause-any_moment : goal.returns-clause-any_moment
returns-clause-any_moment g c history event stands adds =
    written_moment c.args.self.now
    (record c.args.self.now { journaled = c.write.new.self; tried = Some c.args.payload })
    c.deref.result.now _ c.write.ensures.journal event (c.deref.ensures.value ∙ adds.spelled)
    c.history_laws.ensures.payload c.layout_laws.ensures.left history stands
    (allowed_after _ history event stands.remembers.standing adds.allowed)

pub returns-clause-machine : goal.returns-clause-machine
returns-clause-machine g c event adds =
    let old = c.args.self.now in
    let new : Replica _ _ =
    record old { journaled = c.write.new.self; tried = Some c.args.payload } in
    let makes = c.in_default.ensures.state in
    let seen : (history : History) → Stands old history →
    KeepsBeforeOrAfter old history event (g.D.Disk.seen (disk_of new)) =
    λ history stands. seen_is_left g.D.Disk.seen g.D.Disk.may_leave g.D.Disk.moment
    g.D.Disk.left_since g.met.D.Disk.seen_may_stay g.met.D.Disk.counts_now _ _
    (KeepsBeforeOrAfter old history event) (returns-clause-any_moment g c history
    event stands adds) in
    let grown : IsGrown old new = added old new (event ∷ []) makes.pair
    (subst (λ (s : Standing). position_shown old ≤ s.position)
    (sym (makes.standing event adds.gives)) (one_more (position_shown old))) c.requires.running
    (λ history stands. (returns-clause-acknowledged g c history event stands adds).1) in
    written_call old new c.deref.result.now event (c.deref.ensures.value ∙ adds.spelled) grown seen
    c.in_default.ensures.journal makes.pair (ap (λ x. Some x) (sym c.deref.ensures.value))

pub returns-clause-world : goal.returns-clause-world
returns-clause-world g c number machine event is adds =
    let old = c.args.self.now in
    let new : Replica _ _ =
    record old { journaled = c.write.new.self; tried = Some c.args.payload } in
    let written = c.in_default.ensures in
    let stands = stands_up old number machine is c.requires.running in
    writes_record old number machine is event new (written.state.pair ∙ is.pair_is)
    (runs_up old number machine is c.requires.running) None
    (λ _. left_with old number machine is event new c.requires.running
    (returns-clause-machine g c event adds).written
    (returns-clause-acknowledged g c machine.value event stands adds).1
    (allowed_after _ machine.value event stands.remembers.standing adds.allowed))
    (written.world number machine event (as_machine old number machine is)
    (adds_to old number machine is event c.history_laws.ensures.goes_on
    c.history_laws.ensures.steps c.deref.result.now _ c.args.update c.requires.running adds
    c.deref.ensures.value))
