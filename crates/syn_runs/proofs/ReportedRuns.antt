-- What each report of a run tells goes on being so.
use Rattle.std.proofs.Common.{◌≡◌, ◌≤◌, ◌+◌, ℕ, List, [], ◌∷◌, ◌++◌, map, length, take, sym, ap}
use Rattle.std.proofs.Common.{◌∙◌, subst, Option, append-nil, arith, inl, inr, refl}
use Rattle.std.specs.Prelude.{All}
use Rattle.std.proofs.lemmas.List.{length-append, take-append-le}
use Rattle.std.proofs.lemmas.List.Elements.{All-push, All-weaker, Contains-append_left}
use Rattle.syn_runs.specs.World.{Step}
use Rattle.syn_machine.specs.Side.{Request}
use Rattle.syn_machine.specs.Network.{Which, Left, Right, Message, Sent}
use Rattle.syn_runs.specs.Acknowledged.{Ack, Kept_by, kept_in_session}
use Rattle.syn_machine.specs.Planning.{Log}
use Rattle.syn_machine.specs.Report.{Report}
use Rattle.syn_machine.specs.Coordinator.{Running, report_of}
use Rattle.syn_runs.specs.World as fine
use Rattle.syn_runs.specs.Reported.{EndsSo, IsReportOf, at_record, out_of_memory, through}
use Rattle.syn_runs.specs.Reported.{unanswered, with_answer}
use Rattle.syn_runs.specs.Picture.{Picture, SidePicture, set_side, Follows, same, edits, opens}
use Rattle.syn_runs.specs.Picture.{changes, serves, starts_session, ticks_once, takes_answer}
use Rattle.syn_runs.specs.Picture.{archive_changes, archive_opens, archive_recovers}
use Rattle.syn_runs.specs.Picture.{TakesRequest, answered, request_failed, request_cut}
use Rattle.syn_runs.specs.Picture.{CoordinatorGoes, CoordinatorPicture}
use Rattle.syn_runs.proofs.Tells.{Tells, more_logged}
use Rattle.syn_runs.specs.Runs.{picture_of}
use Rattle.syn_runs.specs.Picture as picture
use Rattle.syn_model.specs.Archive.{Kept}
use Rattle.syn_model.specs.Refusal.{Refusal}

-- Each step adds to what was sent, acknowledged and logged

pub record Grows (old new : Picture) : Type 0 where
  pub messages : List Message
  pub acks : List Ack
  pub plans : Log
  pub sent : new.sent ≡ old.sent ++ messages
  pub acknowledged : new.acknowledged ≡ old.acknowledged ++ acks
  pub logged : new.log ≡ old.log ++ plans

-- a side does, beside what it sends and acknowledges
side_stays : (old : Picture) (which : Which) (machine : SidePicture) →
    ((set_side old which machine).sent ≡ old.sent)
    × ((set_side old which machine).acknowledged ≡ old.acknowledged)
    × ((set_side old which machine).log ≡ old.log)
side_stays old Left machine = (refl, refl, refl)
side_stays old Right machine = (refl, refl, refl)

side_grows : (old : Picture) (which : Which) (machine : SidePicture) (messages : List Message)
    (acks : List Ack) → Grows old (record (set_side old which machine) {
      sent = old.sent ++ messages;
      acknowledged = old.acknowledged ++ acks;
    })
side_grows old which machine messages acks = record {
  messages = messages;
  acks = acks;
  plans = [];
  sent = refl;
  acknowledged = refl;
  logged = (side_stays old which machine).2 ∙ sym (append-nil old.log);
}

side_alone : (old : Picture) (which : Which) (machine : SidePicture) →
    Grows old (set_side old which machine)
side_alone old which machine =
    let stays = side_stays old which machine in
    record {
      messages = [];
      acks = [];
      plans = [];
      sent = stays.0 ∙ sym (append-nil old.sent);
      acknowledged = stays.1 ∙ sym (append-nil old.acknowledged);
      logged = stays.2 ∙ sym (append-nil old.log);
    }

side_fails : (old : Picture) (which : Which) (machine : SidePicture) (messages : List Message) →
    Grows old (record (set_side old which machine) { sent = old.sent ++ messages })
side_fails old which machine messages =
    let stays = side_stays old which machine in
    record {
      messages = messages;
      acks = [];
      plans = [];
      sent = refl;
      acknowledged = stays.1 ∙ sym (append-nil old.acknowledged);
      logged = stays.2 ∙ sym (append-nil old.log);
    }

archive_alone : (old : Picture) (machine : CoordinatorPicture) →
    Grows old (record old { coordinator = machine })
archive_alone old machine = record {
  messages = [];
  acks = [];
  plans = [];
  sent = sym (append-nil old.sent);
  acknowledged = sym (append-nil old.acknowledged);
  logged = sym (append-nil old.log);
}

coordinator_grows : (old new : Picture) (logged : Log) (D : Kept → Type 0)
    (R : Option picture.SessionPicture → Type 0) → CoordinatorGoes old logged D R new → Grows old
    new
coordinator_grows old new logged D R g = record {
  messages = g.messages;
  acks = map Kept_by g.kept;
  plans = logged;
  sent = ap (λ w. w.sent) g.result;
  acknowledged = ap (λ w. w.acknowledged) g.result;
  logged = ap (λ w. w.log) g.result;
}

takes_grows : (old : Picture) (which : Which) (session number : ℕ) (request : Request)
    (new : Picture) → TakesRequest old which session number request new → Grows old new
takes_grows old which session number request new (answered a) =
    subst (Grows old) (sym a.result) (side_grows old which _ _ _)
takes_grows old which session number request new (request_failed event would e) =
    subst (Grows old) (sym e) (side_fails old which _ _)
takes_grows old which session number request new (request_cut event would e) =
    subst (Grows old) (sym e) (side_alone old which _)

pub grows : (old new : Picture) {step : Step} {told : List Refusal} → Follows old new step told →
    Grows old new
grows old new (same step told idle e) =
    subst (Grows old) (sym e) (archive_alone old old.coordinator)
grows old new (edits which user edit machine events allowed up w e) =
    subst (Grows old) (sym e) (side_grows old which machine [] _)
grows old new (opens which step machine events by goes e) =
    subst (Grows old) (sym e) (side_grows old which machine [] _)
grows old new (changes which step status told settles e) =
    subst (Grows old) (sym e) (side_alone old which _)
grows old new (serves message which session number request at takes) =
    takes_grows old which session number request new takes
grows old new (starts_session preference up none g some reports) =
    coordinator_grows old new [] _ _ g
grows old new (ticks_once running is g reports status again) = coordinator_grows old new [] _ _ g
grows old new
    (takes_answer message from session number reply plan logged at expected has g reports heard) =
    coordinator_grows old new logged _ _ g
grows old new (archive_changes step status told settles e) =
    subst (Grows old) (sym e) (archive_alone old _)
grows old new (archive_opens step by e) = subst (Grows old) (sym e) (archive_alone old _)
grows old new (archive_recovers step kept by writing can e) =
    subst (Grows old) (sym e) (record {
      messages = [];
      acks = map Kept_by (kept ∷ []);
      plans = [];
      sent = sym (append-nil old.sent);
      acknowledged = refl;
      logged = sym (append-nil old.log);
    })

-- So a report stays what it was

ends_still : (sent more : Sent) (running : Running) (ended : Option Refusal) →
    EndsSo sent running ended → EndsSo (sent ++ more) running ended
ends_still sent more running _ (with_answer exchange why was fault) = with_answer exchange why (
  Contains-append_left sent more _ was.0,
  Contains-append_left sent more _ was.1,
) fault
ends_still sent more running _ (through some settled) = through some settled
ends_still sent more running _ (at_record planned exchange what why at was due is) =
    at_record planned exchange what why at was due is
ends_still sent more running _ (unanswered resent) = unanswered resent
ends_still sent more running _ out_of_memory = out_of_memory

report_still : (sent more : Sent) (log plans : Log) (kept : List Kept) (running : Running)
    (ended : Option Refusal) → IsReportOf sent log kept running ended →
    IsReportOf (sent ++ more) (log ++ plans) kept running ended
report_still sent more log plans kept running ended is = record {
  taken = λ exchange c. let was = is.taken exchange c in (
    Contains-append_left sent more _ was.0,
    Contains-append_left sent more _ was.1,
  );
  planned = more_logged log plans running running.plan is.planned;
  unplanned = is.unplanned;
  kept_is = is.kept_is;
  settled = is.settled;
  ends = ends_still sent more running ended is.ends;
}

-- it came no later than now, and tells what it did then
abbrev pub IsTold : fine.World → Report × ℕ → Type 0
IsTold world told = (told.1 ≤ length world.acknowledged)
    × ((running : Running) × (ended : Option Refusal) × (told.0 ≡ report_of running ended)
    × IsReportOf world.sent world.log (kept_in_session (take told.1 world.acknowledged)) running
    ended)

abbrev pub AllTold : fine.World → Type 0
AllTold world = All (IsTold world) world.reports

module _ (old new : fine.World) (g : Grows (picture_of old) (picture_of new)) where
  told_still : (told : Report × ℕ) → IsTold old told → IsTold new told
  told_still told is =
      let longer : length new.acknowledged ≡ length old.acknowledged + length g.acks =
      ap length g.acknowledged ∙ length-append old.acknowledged g.acks in
      let within = is.0 in
      let front : take told.1 new.acknowledged ≡ take told.1 old.acknowledged =
      ap (take told.1) g.acknowledged
      ∙ take-append-le told.1 old.acknowledged g.acks within in (
        omega (arith, within, longer),
        (
          is.1.0,
          is.1.1,
          is.1.2,
          subst (λ sent. IsReportOf sent new.log (kept_in_session (take told.1 new.acknowledged))
              is.1.0 is.1.1) (sym g.sent)
              (subst (λ log. IsReportOf (old.sent ++ g.messages) log
              (kept_in_session (take told.1 new.acknowledged)) is.1.0 is.1.1) (sym g.logged)
              (subst (λ acks. IsReportOf (old.sent ++ g.messages) (old.log ++ g.plans)
              (kept_in_session acks) is.1.0 is.1.1) (sym front)
              (report_still old.sent g.messages old.log g.plans _ is.1.0 is.1.1 is.1.3))),
        ),
      )

  -- each step keeps it
  pub step_told : Tells old new → AllTold old → AllTold new
  step_told tells told = by tells (All-weaker (IsTold old) (IsTold new) told_still old.reports told)
    where
      by : Tells old new → All (IsTold new) old.reports → AllTold new
      by (inl none) was = subst (All (IsTold new)) (sym none) was
      by (inr (running, ended, one, is)) was =
          subst (All (IsTold new)) (sym one) (All-push (IsTold new) old.reports
          (report_of running ended, length new.acknowledged) was
          (omega arith, (running, ended, refl, is)))
