use Rattle.std.proofs.Common.{◌≡◌, ◌∷◌, [], true}
use Rattle.syn_machine.specs.SideMachine.{causes_of}
use Rattle.syn_model.specs.Refusal as why
use Rattle.syn_replica.specs.Edits.{event_by}
use Rattle.syn_world.proofs.CauseLemmas.{causes_halted}
use Rattle.syn_world.proofs.EditLemmas.{edit_halted}
use Rattle.syn_world.proofs.SideLemmas.{when_halted}
use Rattle.syn_world.proofs.side.UpSide.edit.Goals as goal

pub returns-then-is_halted : goal.returns-then-is_halted
returns-then-is_halted g c pair machine runs =
    let event = event_by c.args.user c.args.edit in
    let told : c.is_halted.result ≡ true = cc in
    let halted = when_halted pair c.args.self machine runs (c.is_halted.ensures.0 told) in
    edit_halted pair c.args.self machine runs event _ c.refused.result c.refused.ensures
    (causes_halted machine (causes_of pair machine event) ((true, why.Memory) ∷ []) halted)
