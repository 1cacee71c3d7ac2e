use Rattle.std.proofs.Common.{◌∙◌, ap, refl, subst, sym, None, Some}
use Rattle.std.specs.Prelude.{slice_get}
use Rattle.std.proofs.lemmas.Option.{slice_get_past, slice_get_read}
use Rattle.syn_machine.specs.Network.{Asks, Answers}
use Rattle.syn_runs.specs.World.{Delivers, no_message}
use Rattle.syn_message.specs.Requests.{request_of}
use Rattle.syn_message.specs.declared.request.RequestMessage.{RequestMessage}
use Rattle.syn_path.specs.Sides.{which_of}
use Rattle.syn_world.specs.Failures.{failures_in}
use Rattle.syn_world.proofs.FailureLemmas.{counts_still}
use Rattle.syn_world.specs.Runs.{no_memory, steps}
use Rattle.syn_world.specs.declared.lists.Message.TheVariants as messages
use Rattle.syn_world.proofs.RunLemmas.{sent_is}
use Rattle.syn_world.proofs.running.Running.deliver.Goals as goal

pub returns-in-None : goal.returns-in-None
returns-in-None g c model is = steps (record {
  new = model;
  steps = subst (λ o. Delivers model o model)
      (sym (sent_is c.args.self.lists.sent.items model.sent c.args.message None is.lists.sent
      (ap (λ l. slice_get l c.args.message) (sym c.deref.ensures.value)
      ∙ slice_get_past _ _ c.in-None.ensures.lookup.3))) no_message;
  ends = is;
  counts = counts_still model (failures_in c.args.self);
})

pub returns-in-Ok : goal.returns-in-Ok
returns-in-Ok g c model is =
    let sending = c.in-Some-Asks.sending in
    let message = sending.message.value in
    let to = which_of sending.to in
    let session = c.deref-in-Some-Asks.result.now.session in
    steps (c.deliver_request.ensures model c.args.message is
    (sent_is c.args.self.lists.sent.items model.sent c.args.message (Some (messages.Asks sending))
    is.lists.sent
    (ap (λ l. slice_get l c.args.message) (sym c.deref.ensures.value)
    ∙ (slice_get_read _ _ _ _ refl c.in-Some-Asks.ensures.lookup.3.0
    c.in-Some-Asks.ensures.lookup.1 ∙ ap (λ m. Some m) c.in-Some-Asks.field-0-is))
    ∙ (ap (λ (m : RequestMessage). Some (Asks to m.session message.number (request_of
    message.request)))
    (sym c.deref-in-Some-Asks.ensures)
    ∙ (ap (λ (m : RequestMessage). Some (Asks to session m.number (request_of message.request)))
    (sym c.deref-in-Some-Asks-2.ensures)
    ∙ ap (λ r. Some (Asks to session c.deref-in-Some-Asks-2.result.now.number r))
    (ap (λ (m : RequestMessage). request_of m.request) (sym c.deref-in-Some-Asks-3.ensures)
    ∙ sym c.in-Ok.ensures)))))

pub returns-in-Err : goal.returns-in-Err
returns-in-Err g c model is =
    no_memory c.args.self refl is.machines (counts_still model (failures_in c.args.self))

pub returns-in-Ok-copy : goal.returns-in-Ok-copy
returns-in-Ok-copy g c model is =
    let side = c.in-Some-Answers.side in
    let answered = c.in-Some-Answers.answered in
    steps (c.deliver_reply.ensures model c.args.message is
    (sent_is c.args.self.lists.sent.items model.sent c.args.message
    (Some (messages.Answers side answered)) is.lists.sent
    (ap (λ l. slice_get l c.args.message) (sym c.deref.ensures.value)
    ∙ (slice_get_read _ _ _ _ refl c.in-Some-Answers.ensures.lookup.3.0
    c.in-Some-Answers.ensures.lookup.1 ∙ ap (λ m. Some m) c.in-Some-Answers.field-0-is))
    ∙ ap (λ r. Some (Answers (which_of side) answered.session answered.number r))
    (sym c.in-Ok-copy.ensures)))

pub returns-in-Err-copy : goal.returns-in-Err-copy
returns-in-Err-copy g c model is =
    no_memory c.args.self refl is.machines (counts_still model (failures_in c.args.self))
