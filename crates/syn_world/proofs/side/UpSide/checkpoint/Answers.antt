use Rattle.std.proofs.Common.{◌≡◌, ◌∙◌, ◌-◌, ◌∷◌, [], ap, arith, sym, true, false}
use Rattle.std.proofs.lemmas.Bool.{false≢true}
use Rattle.std.specs.Prelude.{◌^◌}
use Rattle.syn_machine.specs.MachineSteps.{full_generation}
use Rattle.syn_model.specs.Refusal.{first_cause}
use Rattle.syn_model.specs.Refusal as why
use Rattle.syn_replica.specs.Replica.{generation_shown}
use Rattle.syn_world.proofs.CauseLemmas.{causes_halted, causes_some}
use Rattle.syn_world.proofs.CheckpointLemmas.{checkpoint_halted, is_greatest}
use Rattle.syn_world.proofs.SideLemmas.{when_halted, when_up}
use Rattle.syn_world.proofs.side.UpSide.checkpoint.Goals as goal

pub returns-then-is_halted : goal.returns-then-is_halted
returns-then-is_halted g c pair machine runs =
    let told : c.is_halted.result ≡ true = cc in
    let halted = when_halted pair c.args.self machine runs (c.is_halted.ensures.0 told) in
    checkpoint_halted pair c.args.self machine runs _ c.refused.result c.refused.ensures
    (causes_halted machine (full_generation machine.journal.generation)
    ((true, why.Memory) ∷ []) halted)

pub returns-then-generation : goal.returns-then-generation
returns-then-generation g c pair machine runs =
    let told : c.is_halted.result ≡ false = cc in
    let up = when_up pair c.args.self machine runs
    (λ halted. false≢true (sym told ∙ c.is_halted.ensures.1 halted)) in
    let is : generation_shown c.args.self.replica ≡ 2 ^ 64 - 1 = omega arith in
    let full = is_greatest machine.journal.generation (runs.is.keeps.generation up.0 ∙ is) in
    checkpoint_halted pair c.args.self machine runs _ c.refused-then-generation.result
    c.refused-then-generation.ensures
    (causes_some machine (full_generation machine.journal.generation) up.0 why.Full
    (ap (λ b. first_cause ((b, why.Full) ∷ (true, why.Memory) ∷ [])) full))
