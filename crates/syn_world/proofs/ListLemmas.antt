-- The lists of a world after a step are the model's.
use Rattle.std.proofs.Common.{◌≡◌, ◌∙◌, ◌++◌, ◌∷◌, [], ℕ, List, Option, Some, None, ap, ap₂, refl}
use Rattle.std.proofs.Common.{subst, sym, length, map}
use Rattle.std.proofs.lemmas.List.{append-nil, length-map, map-append}
use Rattle.std.proofs.lemmas.List.Elements.{All-append, All-cons, All-get_or, All-nil}
use Rattle.std.proofs.lemmas.Option.{get_or_from_slice_get, slice_get_within}
use Rattle.std.specs.Prelude.{All, IfSome, option_map, slice_get}
use Rattle.syn_runs.specs.Acknowledged.{Ack, Happened, Kept_by}
use Rattle.syn_machine.specs.Coordinator.{Call}
use Rattle.syn_machine.specs.Network.{Answers, Message, Which}
use Rattle.syn_machine.specs.Report.{Report}
use Rattle.syn_runs.specs.World.{World as ModelWorld, says}
use Rattle.syn_world.specs.Outcomes.{Acknowledges, Tells, refused_in}
use Rattle.syn_world.specs.declared.outcome.CoordinatorOutcome.{CoordinatorOutcome}
use Rattle.syn_world.specs.declared.outcome.SideOutcome.{SideOutcome}
use Rattle.syn_message.specs.Replies.{IsLawfulReply, reply_of}
use Rattle.syn_path.specs.Sides.{which_of}
use Rattle.syn_message.specs.declared.reply.Reply.{Reply}
use Rattle.syn_path.specs.declared.side.Side.{Side}
use Rattle.syn_model.specs.Event.{Event}
use Rattle.syn_model.specs.Refusal.{Refusal}
use Rattle.syn_refusal.specs.Refusals.{cause_of}
use Rattle.syn_coordinator.specs.Coordinators.{in_report}
use Rattle.syn_session.specs.Reports.{report_model}
use Rattle.syn_session.specs.Sendings.{messages_of}
use Rattle.syn_session.specs.declared.sending.Sending.{Sending}
use Rattle.syn_image.specs.Archives.{kept_of}
use Rattle.syn_image.specs.declared.kept.Kept.{Kept}
use Rattle.syn_world.specs.Worlds.{CanBeSent, Goes, GrowsBy, Hears, IsListed, Notes, Takes}
use Rattle.syn_world.specs.Worlds.{message_of, report_in, told_by, told_in, told_kept}
use Rattle.syn_world.specs.declared.lists.Lists.{Lists}

-- requests are no replies
requests_can : (sends : List Sending) → All CanBeSent (messages_of sends)
requests_can [] = All-nil CanBeSent
requests_can (one ∷ more) = All-cons CanBeSent _ _ tt (requests_can more)

-- what a side says is lawful, if it says anything
pub says_can : (side : Which) (session number : ℕ) (reply : Option Reply)
    → IfSome reply (λ said. IsLawfulReply (reply_of said))
    → All CanBeSent (says side session number (option_map reply_of reply))
says_can side session number None lawful = All-nil CanBeSent
says_can side session number (Some reply) lawful =
    All-cons CanBeSent (Answers side session number (reply_of reply)) [] lawful
    (All-nil CanBeSent)

-- what was kept, as the lists have it
kept_told : (kept : List Kept) → map told_kept kept ≡ map told_by (map Kept_by (map kept_of kept))
kept_told [] = refl
kept_told (one ∷ more) = ap (λ told. told_kept one ∷ told) (kept_told more)

abbrev with_count : ℕ → List Report → List (Report × ℕ)
with_count count reports = map (λ report. (report, count)) reports

-- after a step of the coordinator
pub is_listed : (old new : Lists) (was now : ModelWorld) (outcome : CoordinatorOutcome)
    (made : Call) (refusals : List Refusal) → Takes old new outcome → IsListed old was
    → Tells outcome made refusals → Goes was now made refusals → IsListed new now
is_listed old new was now outcome made refusals takes listed tells goes = record {
  sent = takes.sent ∙ (ap₂ (λ a b. a ++ b) listed.sent tells.sent ∙ sym goes.sent);
  acknowledged = acknowledged;
  refusals = takes.refusals ∙ (ap₂ (λ a b. a ++ b) listed.refusals tells.refusals_are
      ∙ sym goes.refusals_are);
  reports = takes.reports ∙ (ap₂ (λ a b. a ++ b) listed.reports counted ∙ sym goes.reports);
  lawful = subst (All CanBeSent) (sym goes.sent)
      (All-append CanBeSent was.sent made.messages listed.lawful
      (subst (All CanBeSent) tells.sent (requests_can outcome.sent.items)));
}
  where
    acknowledged : map told_in new.acknowledged.items ≡ map told_by now.acknowledged
    acknowledged = takes.acknowledged
        ∙ (ap₂ (λ a b. a ++ b) listed.acknowledged (kept_told outcome.kept.items
        ∙ ap (λ ks. map told_by (map Kept_by ks)) tells.kept)
        ∙ (sym (map-append told_by was.acknowledged (map Kept_by made.kept))
        ∙ ap (map told_by) (sym goes.acknowledged)))

    count : length new.acknowledged.items ≡ length now.acknowledged
    count = sym (length-map new.acknowledged.items told_in)
        ∙ (ap length acknowledged ∙ length-map now.acknowledged told_by)

    counted : with_count (length new.acknowledged.items)
        (in_report (option_map report_model outcome.ended))
        ≡ with_count (length now.acknowledged) made.reports
    counted = ap₂ with_count count tells.reports

-- events that a side acknowledged
events_told : (side : Which) (events : List Event)
    → map (λ event. told_by (Happened side event)) events
    ≡ map told_by (map (λ event. Happened side event) events)
events_told side [] = refl
events_told side (event ∷ more) =
    ap (λ told. told_by (Happened side event) ∷ told) (events_told side more)

-- after a side's answer
module _ (side : Side) (session number : ℕ) (reply : Option Reply) (events : List Event) where
  abbrev said : List Message
  said = says (which_of side) session number (option_map reply_of reply)

  abbrev happened : List Ack
  happened = map (λ event. Happened (which_of side) event) events

  pub is_heard : (old heard new : Lists) (was now : ModelWorld) (outcome : SideOutcome)
      → Hears old heard side session number reply → Notes heard new side outcome
      → IsListed old was → Acknowledges outcome events → refused_in outcome ≡ []
      → IfSome reply (λ one. IsLawfulReply (reply_of one))
      → GrowsBy was now (which_of side) said events → IsListed new now
  is_heard old heard new was now outcome hears notes listed told none lawful grows = record {
    sent = ap (λ sent. map message_of sent.items) notes.sent
        ∙ (hears.sent ∙ (ap (λ sent. sent ++ said) listed.sent ∙ sym grows.sent));
    acknowledged = notes.acknowledged events told
        ∙ (ap₂ (λ a b. a ++ b) (ap (λ acks. map told_in acks.items) hears.acknowledged
        ∙ listed.acknowledged) (events_told (which_of side) events)
        ∙ (sym (map-append told_by was.acknowledged happened)
        ∙ ap (map told_by) (sym grows.acknowledged)));
    refusals = notes.refusals
        ∙ (ap₂ (λ a b. a ++ b) (ap (λ whys. map cause_of whys.items) hears.refusals) none
        ∙ (append-nil (map cause_of old.refusals.items)
        ∙ (listed.refusals ∙ sym grows.refusals)));
    reports = ap (λ reports. map report_in reports.items) (notes.reports ∙ hears.reports)
        ∙ (listed.reports ∙ sym grows.reports);
    lawful = subst (All CanBeSent) (sym grows.sent)
        (All-append CanBeSent was.sent said listed.lawful
        (says_can (which_of side) session number reply lawful));
  }

-- what is in the list can be sent
pub sent_can : (sent : List Message) (message : ℕ) (one : Message) → All CanBeSent sent
    → slice_get sent message ≡ Some one → CanBeSent one
sent_can sent message one can is =
    subst CanBeSent (get_or_from_slice_get sent message one one is)
    (All-get_or CanBeSent sent message one (slice_get_within sent message one is) can)
