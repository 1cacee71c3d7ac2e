use Rattle.std.proofs.Common.{◌≡◌, [], Some, refl, subst}
use Rattle.std.specs.Prelude.{option_map, slice_get}
use Rattle.syn_machine.specs.Network.{Asks, Left, Right}
use Rattle.syn_runs.specs.World.{says}
use Rattle.syn_world.specs.Outcomes.{refused_in}
use Rattle.syn_world.specs.Sides.{side_disk}
use Rattle.syn_message.specs.Replies.{reply_of}
use Rattle.syn_message.specs.Requests.{request_of}
use Rattle.syn_path.specs.Sides.{which_of}
use Rattle.syn_world.specs.Failures.{disks_in, last_of}
use Rattle.syn_world.proofs.FailureLemmas.{left_counts, right_counts}
use Rattle.syn_world.proofs.StepLemmas.{lift_deliver, refuses_none, side_next}
use Rattle.syn_world.proofs.WorldLemmas.{hears_left, hears_right}
use Rattle.syn_world.proofs.running.Running.deliver_request.Goals as goal

pub returns-in-Left : goal.returns-in-Left
returns-in-Left g c model message is sent =
    let answer = c.answer-call.result in
    let so = c.answer-call.ensures model.pair model.left is.machines.left in
    let reply = option_map reply_of answer.reply in
    let messages = says Left c.args.session c.args.number reply in
    record {
      new = side_next model Left so.0.next messages so.0.events [];
      steps = lift_deliver model Left message c.args.session c.args.number
          (request_of c.args.request) so.0.next reply so.0.events (refused_in answer.call.outcome)
          (subst (λ s. slice_get model.sent message ≡ Some (Asks (which_of s) c.args.session
          c.args.number (request_of c.args.request))) c.in-Left.is sent) so.0.step;
      ends = hears_left c.args.self model is answer.call so.0.next messages so.0.events
          so.0.acknowledges (refuses_none model.pair model.left c.args.session
          (request_of c.args.request) reply so.0.next so.0.events _ so.0.step) so.0.is _ so.1
          c.heard.result c.heard.ensures.ends;
      counts = left_counts g.D.Disk model
          (side_next model Left so.0.next messages so.0.events [])
          (disks_in c.args.self) (disks_in (last_of c.heard.result))
          (side_disk answer.call.side) c.heard.ensures.disks so.0.counts refl refl;
    }

pub returns-in-Right : goal.returns-in-Right
returns-in-Right g c model message is sent =
    let answer = c.answer-call-in-Right.result in
    let so = c.answer-call-in-Right.ensures model.pair model.right is.machines.right in
    let reply = option_map reply_of answer.reply in
    let messages = says Right c.args.session c.args.number reply in
    record {
      new = side_next model Right so.0.next messages so.0.events [];
      steps = lift_deliver model Right message c.args.session c.args.number
          (request_of c.args.request) so.0.next reply so.0.events (refused_in answer.call.outcome)
          (subst (λ s. slice_get model.sent message ≡ Some (Asks (which_of s) c.args.session
          c.args.number (request_of c.args.request))) c.in-Right.is sent) so.0.step;
      ends = hears_right c.args.self model is answer.call so.0.next messages so.0.events
          so.0.acknowledges (refuses_none model.pair model.right c.args.session
          (request_of c.args.request) reply so.0.next so.0.events _ so.0.step) so.0.is _ so.1
          c.heard-in-Right.result c.heard-in-Right.ensures.ends;
      counts = right_counts g.D.Disk model
          (side_next model Right so.0.next messages so.0.events [])
          (disks_in c.args.self) (disks_in (last_of c.heard-in-Right.result))
          (side_disk answer.call.side) c.heard-in-Right.ensures.disks so.0.counts refl refl;
    }
