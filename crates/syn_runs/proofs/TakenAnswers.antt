-- A request whose answer was taken waits no more.
use Rattle.std.proofs.Common.{◌≡◌, ℕ}
use Rattle.std.proofs.Common.{refl, sym, ap, ◌∙◌, subst, Option, Some, None, slice_get}
use Rattle.std.specs.Prelude.{IfSome}
use Rattle.std.proofs.lemmas.Option.{same_Some}
use Rattle.syn_machine.specs.Side.{Request, Reply}
use Rattle.syn_machine.specs.Network.{Which, Message, Answers, Sent}
use Rattle.syn_runs.proofs.AskedLemmas.{taken, asked_no_more}
use Rattle.syn_machine.specs.Coordinator.{Running, asked_of}
use Rattle.syn_machine.specs.Coordinator.{hearing}
use Rattle.syn_machine.specs.Coordinator.{after_taking}
use Rattle.syn_machine.specs.Coordinator.{CoordinatorMachine, Call, CoordinatorTakes, Takes, takes}
use Rattle.syn_machine.specs.Coordinator.{ignores, ends_at_once, stops, ends, goes_on}
use Rattle.syn_runs.specs.World.{World, Delivers, to_coordinator}
use Rattle.syn_runs.specs.Delivered.{TakesExpected}
use Rattle.syn_machine.proofs.Heard.{sent_at}
use Rattle.syn_runs.proofs.FineRuns.{follows, start_view}
use Rattle.syn_runs.specs.Runs.{picture_of}
use Rattle.syn_runs.proofs.Invariant.{IsKept, Plans}
use Rattle.syn_runs.proofs.Remembers.{Remembers, hearing_remembers}
use Rattle.syn_runs.proofs.Sessions.{IsHeard}
use Rattle.syn_runs.proofs.WholeRuns.{no_plans, start_kept, run_kept}

-- so where an answer is taken
module _ (sent : Sent) (running : Running) (from : Which) (number : ℕ) (request : Request)
    (reply : Reply) (remembers : Remembers sent (hearing running (record {
      side = from;
      number = number;
      request = request;
      reply = reply;
    }))) where
  taken_so : (pair : ℕ) (machine new : CoordinatorMachine) (call : Call) →
      Takes pair machine running (taken sent running from number request reply remembers) new call →
      IfSome new.running
      (λ later. (later.session ≡ running.session) × (asked_of later from number ≡ None))
  taken_so pair machine _ _ (ends_at_once why fault) = tt
  taken_so pair machine _ _ (stops plan logged walk kept fault has advances down) = tt
  taken_so pair machine _ _ (ends plan logged walk kept why fault has advances so) = tt
  taken_so pair machine _ _
      (goes_on plan logged walk kept left right fault has advances rests stays past asks) = (
        refl,
        asked_no_more sent running from number request reply remembers from refl
            (after_taking running (taken sent running from number request reply remembers) plan
            walk kept) left right refl refl refl,
      )

pub take_expected : TakesExpected
take_expected start old new steps message from number reply running request s g runs asked at d =
    by (slice_get old.sent message) at d
  where
    kept : (plans : Plans) × IsKept plans (picture_of old)
    kept = run_kept no_plans (picture_of start) (picture_of old) (start_kept (picture_of start)
        (start_view start s)) (follows start old steps s g).follows

    heard : IsHeard old running
    heard = subst (λ o. IfSome o (IsHeard old)) runs (follows start old steps s g).heard

    by_call : (machine : CoordinatorMachine) (call : Call) →
        CoordinatorTakes old.pair old.coordinator from running.session number reply machine call →
        IfSome machine.running
        (λ later. (later.session ≡ running.session) × (asked_of later from number ≡ None))
    by_call _ _ (ignores none) =
        absurd (none running request (record { runs = runs; of_session = refl; asked = asked }))
    by_call machine call (takes other wanted _ _ expected t) =
        let same : other ≡ running = same_Some _ _ (sym expected.runs ∙ runs) in
        taken_so old.sent running from number wanted reply (hearing_remembers old.sent running
        kept.1.sound.numbers heard.remembers from number wanted reply
        (ap (λ r. asked_of r from number) (sym same) ∙ expected.asked)
        (sent_at old.sent message _ at)) old.pair old.coordinator machine call
        (subst (λ r. Takes old.pair old.coordinator r (record {
          side = from;
          number = number;
          request = wanted;
          reply = reply;
        }) machine call) same t)

    delivered : (new : World) →
        Delivers old (Some (Answers from running.session number reply)) new →
        IfSome new.coordinator.running
        (λ later. (later.session ≡ running.session) × (asked_of later from number ≡ None))
    delivered _ (to_coordinator _ _ _ _ machine call t) = by_call machine call t

    by : (o : Option Message) → o ≡ Some (Answers from running.session number reply) →
        Delivers old o new → IfSome new.coordinator.running
        (λ later. (later.session ≡ running.session) × (asked_of later from number ≡ None))
    by o is delivers = delivered new
        (subst (λ m. Delivers old m new) is delivers)
