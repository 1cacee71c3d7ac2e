use Rattle.std.proofs.Common.{None, refl, subst, sym}
use Rattle.syn_message.specs.Requests.{request_of}
use Rattle.syn_world.specs.SideSteps.{Answers, no_side}
use Rattle.syn_world.specs.Sides.{AnswerIsStep, IsHost, side_disk}
use Rattle.syn_world.proofs.HostLemmas.{call_down, down}
use Rattle.syn_world.proofs.side.SideHost.answer.Goals as goal

pub returns-in-Down : goal.returns-in-Down
returns-in-Down g c pair machine is = (
  call_down pair c.args.self c.in-Down.side machine c.in-Down.is is c.unchanged.result
      c.unchanged.ensures.side c.unchanged.ensures.outcome
      (Answers pair machine c.args.session (request_of c.args.request) None)
      (no_side (down pair c.args.self c.in-Down.side machine c.in-Down.is is) refl),
  tt,
)

pub returns-in-Up : goal.returns-in-Up
returns-in-Up g c pair machine is =
    subst (λ self. IsHost pair self machine → AnswerIsStep pair machine
    (g.D.Disk.failures (side_disk self)) c.args.session (request_of c.args.request)
    c.answer.result) (sym c.in-Up.is) (λ runs. c.answer.ensures pair machine runs) is
