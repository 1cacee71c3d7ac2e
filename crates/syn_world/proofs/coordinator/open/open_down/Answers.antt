use Rattle.std.proofs.Common.{[], ◌∷◌, arith, subst, sym}
use Rattle.syn_archive.specs.Refusals.{refusal_of}
use Rattle.syn_machine.specs.Coordinator.{coordinator_kind, no_call}
use Rattle.syn_machine.specs.MachineSteps.{OpensDown}
use Rattle.syn_journal.proofs.Spent.{counted}
use Rattle.syn_world.proofs.CoordinatorOpenLemmas.{counts_by, never_less, not_nine, opening_counts}
use Rattle.syn_world.proofs.CoordinatorOpenLemmas.{which_nine}
use Rattle.syn_world.proofs.coordinator.open.open_down.Goals as goal

pub returns-in-Ok : goal.returns-in-Ok
returns-in-Ok g c machine rests =
    let made = c.in-Ok.ensures.opens machine rests in
    record {
      next = made.next;
      step = made.opens;
      is = made.stands;
      counts = counts_by machine.journal.failures made.next.journal.failures _ _ []
          (opening_counts c.args.pair machine made.next _ [] made.opens)
          (omega (arith, c.in-Ok.ensures.failures)) (λ nine. absurd (not_nine nine));
    }

pub returns-in-Err : goal.returns-in-Err
returns-in-Err g c machine rests =
    let still = c.in-Err.ensures.rests machine rests in
    let e = c.in-Err.error in
    record {
      next = still.next;
      step = subst (λ r. OpensDown (coordinator_kind c.args.pair) machine still.next no_call
          (r ∷ [])) (sym c.refusal.ensures) still.opens;
      is = still.rests;
      counts = counts_by machine.journal.failures still.next.journal.failures _ _
          (refusal_of e ∷ [])
          (opening_counts c.args.pair machine still.next no_call (refusal_of e ∷ []) still.opens)
          (never_less (refusal_of e) _ _ c.in-Err.ensures.failures)
          (λ nine. counted (refusal_of e) _ _ (which_nine (refusal_of e) nine)
          c.in-Err.ensures.failures);
    }
