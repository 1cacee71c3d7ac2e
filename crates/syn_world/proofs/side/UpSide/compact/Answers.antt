use Rattle.std.proofs.Common.{◌≡◌, ◌∙◌, ◌+◌, ◌<◌, ◌++◌, ◌∷◌, [], Some, ap, arith, inl, inr, refl}
use Rattle.std.proofs.Common.{subst, sym, true}
use Rattle.std.specs.Prelude.{◌^◌}
use Rattle.syn_machine.specs.MachineSteps.{causes_at, full_generation}
use Rattle.syn_model.specs.Refusal.{first_cause}
use Rattle.syn_model.specs.Refusal as why
use Rattle.syn_replica.specs.ErrorRefusals.{refusal_of}
use Rattle.syn_agent.proofs.CauseLemmas.{of_checkpoint}
use Rattle.syn_world.proofs.CauseLemmas.{causes_none, causes_some}
use Rattle.syn_world.proofs.CheckpointLemmas.{compact_not, compact_ok, is_less}
use Rattle.syn_world.proofs.SideLemmas.{position_is, when_up}
use Rattle.syn_world.proofs.side.UpSide.compact.Goals as goal

pub returns-in-Ok : goal.returns-in-Ok
returns-in-Ok g c pair machine runs =
    let up = (when_up pair c.args.self machine runs c.requires.running).0 in
    let less = subst (λ n. n + 1 < 2 ^ 64) (sym (runs.is.keeps.generation up)) c.requires.less in
    compact_ok pair c.args.self.replica c.checkpoint.new.self c.args.self.agent machine runs
    c.settle.result _ (c.position-position.ensures ∙ position_is pair c.args.self machine runs)
    (causes_none machine (full_generation machine.journal.generation) up
    (ap (λ b. first_cause ((b, why.Full) ∷ [])) (is_less machine.journal.generation less)))
    c.settle.ensures c.in-Ok.ensures.machine.device.failures
    (c.in-Ok.ensures.world pair machine.journal runs.is.keeps)

pub returns-in-Err : goal.returns-in-Err
returns-in-Err g c pair machine runs =
    let e = c.in-Err.error in
    let told = c.in-Err.ensures in
    let is_up = when_up pair c.args.self machine runs c.requires.running in
    let less = subst (λ n. n + 1 < 2 ^ 64) (sym (runs.is.keeps.generation is_up.0))
    c.requires.less in
    let causes = full_generation machine.journal.generation in
    compact_not pair c.args.self.replica c.checkpoint.new.self c.args.self.agent machine runs
    c.settle-in-Err.result _
    (c.position-position.ensures ∙ position_is pair c.args.self machine runs)
    (causes_none machine causes is_up.0
    (ap (λ b. first_cause ((b, why.Full) ∷ [])) (is_less machine.journal.generation less)))
    _ c.settle-in-Err.ensures (refusal_of e) (ap (λ r. r ∷ []) c.refusal.ensures) refl
    told.machine.device.failures told.machine.tried
    (λ other. elim (of_checkpoint e told.refusals)
    as (λ _. first_cause (causes_at machine.journal.status causes ++ (true, why.Memory) ∷ [])
    ≡ Some (refusal_of e)) [
      | inl halted ↦ absurd (c.requires.running
          (told.machine.halted.0 (ap (λ r. Some r) halted)))
      | inr (inl is_full) ↦
          let greatest = told.full machine.journal.value is_up.1 is_full in
          absurd (omega (arith, greatest, c.requires.less))
      | inr (inr (inl memory)) ↦ causes_some machine causes is_up.0 (refusal_of e)
          (ap (λ b. first_cause ((b, why.Full) ∷ (true, why.Memory) ∷ []))
          (is_less machine.journal.generation less) ∙ ap (λ r. Some r) (sym memory))
      | inr (inr (inr device)) ↦ absurd (other device)
    ])
    (told.world pair machine.journal runs.is.keeps)
