use Rattle.std.proofs.Common.{refl, sym, subst}
use Rattle.syn_machine.specs.Coordinator.{CoordinatorTakes}
use Rattle.syn_world.specs.Coordinators.{IsCoordinator, archive_disk}
use Rattle.syn_world.specs.CoordinatorSteps.{CallIsStep, Unrefused}
use Rattle.syn_message.specs.Replies.{reply_of}
use Rattle.syn_path.specs.Sides.{which_of}
use Rattle.syn_world.proofs.CallLemmas.{refused_call}
use Rattle.syn_world.proofs.CountLemmas.{down_still}
use Rattle.syn_world.proofs.ReplyLemmas.{takes_none}
use Rattle.syn_world.proofs.coordinator.CoordinatorHost.hear.Goals as goal

pub returns-in-Up : goal.returns-in-Up
returns-in-Up g c pair machine is =
    subst (λ s. CallIsStep pair machine (g.D.Disk.failures (archive_disk s))
    (Unrefused (CoordinatorTakes pair machine (which_of c.args.from) c.args.session
    c.args.number (reply_of c.args.reply))) c.take.result) (sym c.in-Up.is)
    (c.take.ensures pair machine (subst (λ s. IsCoordinator pair s machine) c.in-Up.is is))

pub returns-in-Down : goal.returns-in-Down
returns-in-Down g c pair machine is =
    let rests = subst (λ s. IsCoordinator pair s machine) c.in-Down.is is in
    refused_call pair machine _ _ (down_still c.in-Down.is)
    c.refused.result _ _
    (Unrefused (CoordinatorTakes pair machine (which_of c.args.from) c.args.session c.args.number
    (reply_of c.args.reply))) rests c.refused.ensures.coordinator c.refused.ensures.outcome refl
    (record { step = takes_none pair machine _ _ _ _ rests.idle; none = refl })
