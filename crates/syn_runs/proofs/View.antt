-- The picture of a world, and what each step of the sides and of the devices is in it.
use Rattle.std.proofs.Common.{◌≡◌, ◌≢◌, ◌⊎◌, ℕ, true, false, true≢false, List, [], ◌∷◌, ◌++◌, map}
use Rattle.std.proofs.Common.{refl, sym, ap, ap₂, ◌∙◌, subst, Option, Some, None, append-nil, inl}
use Rattle.std.proofs.Common.{inr, slice_get}
use Rattle.std.proofs.lemmas.List.{append_cancel_left}
use Rattle.syn_model.specs.Refusal.{Refusal, Device, first_cause}
use Rattle.syn_model.specs.Refusal as why
use Rattle.syn_model.specs.Event.{Edit, Event, Edited}
use Rattle.syn_model.specs.History.{History, IsAllowed, event_causes}
use Rattle.syn_model.proofs.HistoryLemmas.{first_cause-none, none-append}
use Rattle.syn_machine.specs.Machine.{Status, Up, Halted, Down, Arms, Journaled, after_device}
use Rattle.syn_machine.specs.Machine.{with_image, with_record, Writes, idle, written, unwritten}
use Rattle.syn_machine.specs.Machine.{Compacts, compacted, not_compacted, Opens, opened, recovered}
use Rattle.syn_machine.specs.Side.{Side, Served, Staging, Request, Reply, Refused, IsLawfulRequest}
use Rattle.syn_machine.specs.Side.{room_causes, Serves}
use Rattle.syn_machine.specs.SideMachine.{ServesAs, SideMachine, side_layout, side_now}
use Rattle.syn_machine.specs.SideMachine.{staging_after, with_journal, has_room_for, causes_of}
use Rattle.syn_machine.specs.SideMachine.{said, SideTakes, answers, adds, EditsSide, edits}
use Rattle.syn_machine.specs.Network.{Which, Left, Right, Sent, Message, Asks, Answers}
use Rattle.syn_runs.specs.Acknowledged.{Ack, Happened}
use Rattle.syn_runs.specs.World as fine_world
use Rattle.syn_machine.specs.MachineSteps.{causes_at, is_halted, refused_by}
use Rattle.syn_runs.specs.World.{says, At, Step, Edits, Deliver, Checkpoint}
use Rattle.syn_runs.specs.Runs.{picture_of, side_picture}
use Rattle.syn_runs.specs.Picture.{Picture, side_of, set_side, Follows, Settles, IsOpening}
use Rattle.syn_runs.specs.Picture as picture
use Rattle.syn_runs.proofs.OutcomeLemmas.{Outcome, refuses, begins_again, begins, lists}
use Rattle.syn_runs.proofs.OutcomeLemmas.{lists_none, fetches, stages_first, stages_more}
use Rattle.syn_runs.proofs.OutcomeLemmas.{stages_again, done_again, replaces, outcome}

pub view_of : (world : fine_world.World) (side : Which) →
    side_of (picture_of world) side ≡ side_picture (fine_world.side_of world side)
view_of world Left = refl
view_of world Right = refl

pub view_goes : (old : fine_world.World) (side : Which) (machine : SideMachine)
    (messages : List Message) (events : List Event) →
    picture_of (fine_world.side_goes old side machine messages events)
    ≡ record (set_side (picture_of old) side (side_picture machine)) {
      sent = old.sent ++ messages;
      acknowledged = old.acknowledged ++ map (λ event. Happened side event) events;
    }
view_goes old Left machine messages events = refl
view_goes old Right machine messages events = refl

pub staged_up : (status : Status) (staging : Option Staging) → status ≡ Up →
    staging_after status staging ≡ staging
staged_up Up staging e = refl
staged_up Halted staging e = refl
staged_up Down staging e = absurd (let x : Down ≡ Up = e in cc)

pub staged_or_none : (status : Status) (staging : Option Staging) →
    (staging_after status staging ≡ staging) ⊎ (staging_after status staging ≡ None)
staged_or_none Up staging = inl refl
staged_or_none Halted staging = inl refl
staged_or_none Down staging = inr refl

pub halted_not_up : Halted ≢ Up
halted_not_up e = cc

pub down_not_up : Down ≢ Up
down_not_up e = cc

pub up_not_halted : Up ≢ Halted
up_not_halted e = cc

pub up_not_down : Up ≢ Down
up_not_down e = cc

pub halted_not_down : Halted ≢ Down
halted_not_down e = cc

pub not_up : (status : Status) → (status ≡ Halted) ⊎ (status ≡ Down) → status ≢ Up
not_up status (inl e) up = halted_not_up (sym e ∙ up)
not_up status (inr e) up = down_not_up (sym e ∙ up)

-- A side writes an event
view_writes : (pair : ℕ) (machine : SideMachine) (event : Event) (journal : Journaled History Event)
    (events : List Event) → machine.journal.status ≡ Up →
    Writes (side_layout pair) machine.journal event journal events →
    picture.Writes (side_picture machine) event (side_picture (with_journal machine journal)) events
view_writes pair machine event _ _ up (idle is) = absurd (true≢false (sym is))
view_writes pair machine event _ _ up (written arms is meets) =
    subst (λ staging. picture.Writes (side_picture machine) event
    (record {
      status = machine.journal.status;
      side = record {
        history = machine.journal.value
            ++ event ∷ [];
        staging = staging;
      };
      writing = machine.journal.writing;
    }) (event ∷ []))
    (sym (staged_up machine.journal.status machine.staging up)) picture.written
view_writes pair machine event _ _ up (unwritten Up arms failed is (inl e) meets) =
    absurd (up_not_halted e)
view_writes pair machine event _ _ up (unwritten Up arms failed is (inr e) meets) =
    absurd (up_not_down e)
view_writes pair machine event _ _ up (unwritten Halted arms failed is down meets) = picture.failed
view_writes pair machine event _ _ up (unwritten Down arms failed is down meets) = picture.cut

view_opens : (pair : ℕ) (machine : SideMachine) (calls : ℕ)
    (journal : Journaled History Event) (events : List Event) →
    Opens (side_layout pair) IsAllowed machine.journal calls journal events →
    picture.Opens (side_picture machine) (side_picture (with_journal machine journal)) events
view_opens pair machine calls _ _ (opened room generation arms meets left) = picture.opened
view_opens pair machine calls _ _ (recovered arms event meets is allowed) =
    picture.recovered event is allowed

-- what is seen of a world where one side's machine is replaced by this
on_side : (old : fine_world.World) (side : Which) (P : picture.SidePicture → Type 0) →
    P (side_picture (fine_world.side_of old side)) → P (side_of (picture_of old) side)
on_side old side P h = subst P (sym (view_of old side)) h

-- a side's journal has another status, and what it stands for and was writing stay
pub side_changes : (old new : fine_world.World) (side : Which) (journal : Journaled History Event)
    (step : Step) (told : List Refusal) →
    journal.value ≡ (fine_world.side_of old side).journal.value →
    journal.writing ≡ (fine_world.side_of old side).journal.writing →
    Settles (At side) (fine_world.side_of old side).journal.status step journal.status told →
    picture_of new ≡ set_side (picture_of old) side (side_picture (with_journal
    (fine_world.side_of old side) journal)) →
    Follows (picture_of old) (picture_of new) step told
side_changes old new side journal step told value writing settles e =
    let machine = fine_world.side_of old side in
    let staging = staging_after journal.status machine.staging in
    let build : History → Option Event → picture.SidePicture = λ history writing. record {
      status =
          journal.status;
      side = record { history = history; staging = staging };
      writing = writing;
    } in
    let with_status : picture.SidePicture → picture.SidePicture = λ m. record m {
      status = journal.status;
      side = record {
        history = m.side.history;
        staging = staging_after journal.status m.side.staging;
      };
    } in
    picture.changes side step journal.status told
    (on_side old side (λ m. Settles (At side) m.status step journal.status told) settles)
    (e ∙ ap (set_side (picture_of old) side)
    (ap₂ build value writing ∙ sym (ap with_status (view_of old side))))

-- a side's journal is left so, and it acknowledges these
abbrev pub side_writes : fine_world.World → Which → Journaled History Event → List Event →
    fine_world.World
side_writes old side journal events =
    fine_world.side_goes old side (with_journal (fine_world.side_of old side) journal) [] events

-- Events that are acknowledged by a side, with nothing said
pub side_acknowledges : (old : fine_world.World) (side : Which) (journal : Journaled History Event)
    (events : List Event) → picture_of (side_writes old side journal events) ≡ record
    (set_side (picture_of old)
    side (side_picture (with_journal (fine_world.side_of old side) journal))) {
      sent = (picture_of old).sent
          ++ [];
      acknowledged = (picture_of old).acknowledged ++ map (λ event. Happened side event) events;
    }
side_acknowledges old side journal events =
    view_goes old side (with_journal (fine_world.side_of old side) journal) [] events

-- with none it is as if its machine were set
pub side_settled : (old : fine_world.World) (side : Which) (journal : Journaled History Event) →
    picture_of (side_writes old side journal [])
    ≡ set_side (picture_of old) side (side_picture (with_journal (fine_world.side_of old side)
    journal))
side_settled old side journal = side_acknowledges old side journal [] ∙ settled side
  where
    settled : (which : Which) → record (set_side (picture_of old) which
        (side_picture (with_journal (fine_world.side_of old side) journal)))
        { sent = old.sent ++ []; acknowledged = old.acknowledged ++ [] }
        ≡ set_side (picture_of old) which (side_picture
        (with_journal (fine_world.side_of old side) journal))
    settled Left =
        ap₂ (λ s a. record (set_side (picture_of old) Left (side_picture
        (with_journal (fine_world.side_of old side) journal))) { sent = s; acknowledged = a })
        (append-nil old.sent) (append-nil old.acknowledged)
    settled Right =
        ap₂ (λ s a. record (set_side (picture_of old) Right (side_picture
        (with_journal (fine_world.side_of old side) journal))) { sent = s; acknowledged = a })
        (append-nil old.sent) (append-nil old.acknowledged)

-- a machine that is neither halted nor down is up
pub neither : (status : Status) → is_halted status ≡ false → status ≢ Down → status ≡ Up
neither Up h k = refl
neither Halted h k = absurd (true≢false h)
neither Down h k = absurd (k refl)

pub edits_follow : (old : fine_world.World) (side : Which) (user : ℕ) (edit : Edit)
    (next : SideMachine) (events : List Event) →
    first_cause (causes_at (fine_world.side_of old side).journal.status
    (causes_of old.pair (fine_world.side_of old side) (Edited user edit))) ≡ None →
    (fine_world.side_of old side).journal.status ≢ Down →
    EditsSide old.pair (fine_world.side_of old side) (Edited user edit) next events →
    Follows (picture_of old) (picture_of (fine_world.side_goes old side next [] events))
    (Edits side user edit) (refused_by next.journal.status)
edits_follow old side user edit _ _ none down (edits journal events lawful writes) =
    let machine = fine_world.side_of old side in
    let event = Edited user edit in
    let first = first_cause-none (is_halted machine.journal.status, why.Halted)
    (causes_of old.pair machine event) none in
    let up = neither machine.journal.status first.0 down in
    let allowed : IsAllowed machine.journal.value event = record {
      lawful = lawful;
      not_refused = (none-append (event_causes machine.journal.value event)
          (room_causes (has_room_for old.pair machine) event) first.1).0;
    } in
    picture.edits side user edit (side_picture (with_journal machine journal)) events
    (on_side old side (λ m. IsAllowed m.side.history event) allowed)
    (on_side old side (λ m. m.status ≡ Up) up)
    (on_side old side (λ m. picture.Writes m event (side_picture (with_journal machine journal))
    events)
    (view_writes old.pair machine event journal events up writes))
    (side_acknowledges old side journal events)

pub opens_follow : (old : fine_world.World) (side : Which) (step : Step) (calls : ℕ)
    (journal : Journaled History Event) (events : List Event) →
    IsOpening (At side) (fine_world.side_of old side).journal.status step → Opens
    (side_layout old.pair) IsAllowed (fine_world.side_of old side).journal calls journal events →
    Follows (picture_of old) (picture_of (side_writes old side journal events)) step []
opens_follow old side step calls journal events by opens =
    let machine = fine_world.side_of old side in
    picture.opens side step (side_picture (with_journal machine journal)) events
    (on_side old side (λ m. IsOpening (At side) m.status step) by)
    (on_side old side (λ m. picture.Opens m (side_picture (with_journal machine journal)) events)
    (view_opens old.pair machine calls journal events opens))
    (side_acknowledges old side journal events)

pub compacts_follow : (old : fine_world.World) (side : Which) (journal : Journaled History Event) →
    (fine_world.side_of old side).journal.status ≡ Up →
    Compacts (side_layout old.pair) (fine_world.side_of old side).journal journal →
    Follows (picture_of old) (picture_of (side_writes old side journal []))
    (Checkpoint (At side)) (refused_by journal.status)
compacts_follow old side _ up (compacted arms meets) =
    let journal = with_image (side_layout old.pair) (fine_world.side_of old side).journal arms in
    side_changes old (side_writes old side journal []) side journal (Checkpoint (At side))
    (refused_by journal.status) refl refl (picture.compacts journal.status up)
    (side_settled old side journal)
compacts_follow old side _ up (not_compacted status arms failed down meets) =
    let journal = after_device
    (record (fine_world.side_of old side).journal { compacting = true }) status arms failed in
    side_changes old (side_writes old side journal []) side journal (Checkpoint (At side))
    (refused_by status) refl refl (picture.compacts status up) (side_settled old side journal)

-- A side takes a request

pub longer : (h : History) (event : Event) → h ≡ h ++ event ∷ [] → ⊥
longer h event e =
    let x : [] ≡ event ∷ [] = append_cancel_left h [] (event ∷ []) (append-nil h ∙ e) in
    cc

said_up : (reply : Reply) (status : Status) → status ≡ Up → said status reply ≡ Some reply
said_up reply Up e = refl
said_up reply Halted e = absurd (halted_not_up e)
said_up reply Down e = absurd (down_not_up e)

-- an answer with which an event is added leaves the staging
adding_keeps : (side : Side) (session : ℕ) (request : Request) (served : Served) (event : Event) →
    Outcome side session request served → served.side.history ≡ side.history ++ event ∷ [] →
    served.side.staging ≡ side.staging
adding_keeps side session request _ event (refuses _ reason known) e = refl
adding_keeps side session request _ event (begins_again pair last) e = refl
adding_keeps side session request _ event (begins pair allowed) e = refl
adding_keeps side session request _ event (lists path there) e = refl
adding_keeps side session request _ event (lists_none path none) e = refl
adding_keeps side session request _ event (fetches path since offset within quiet) e = refl
adding_keeps side session request _ event (stages_first item offset bytes zero) e =
    absurd (longer side.history event e)
adding_keeps side session request _ event (stages_more item offset bytes staging is same at) e =
    absurd (longer side.history event e)
adding_keeps side session request _ event (stages_again item offset bytes) e = refl
adding_keeps side session request _ event (done_again item path since size is) e = refl
adding_keeps side session request _ event
    (replaces item path since size new reads staged long within quiet allowed) e =
    refl

-- a side that answers so, and adds these events
answered_so : (old : fine_world.World) (message : ℕ) (side : Which) (session number : ℕ)
    (request : Request) (machine : SideMachine) (served : Served) (events : List Event) →
    slice_get old.sent message ≡ Some (Asks side session number request) →
    ServesAs (fine_world.side_of old side).journal.status old.pair (has_room_for old.pair
    (fine_world.side_of old side)) (side_now (fine_world.side_of old side)) session request served →
    served.side.history ≡ (fine_world.side_of old side).journal.value ++ events →
    side_picture machine ≡ record (side_picture (fine_world.side_of old side))
    { side = served.side } →
    Follows (picture_of old) (picture_of
    (fine_world.side_goes old side machine (Answers side session number served.reply ∷ []) events))
    (Deliver message) []
answered_so old message side session number request machine served events asked serves added is =
    let was = fine_world.side_of old side in
    let with_side : picture.SidePicture →
    picture.SidePicture = λ m. record m { side = served.side } in
    let after : picture.SidePicture → Picture = λ m. record (set_side (picture_of old) side m) {
      sent = old.sent ++ Answers side session number served.reply ∷ [];
      acknowledged = old.acknowledged ++ map (λ event. Happened side event) events;
    } in
    picture.serves message side session number request asked (picture.answered (record {
      served = served;
      has_room = has_room_for old.pair was;
      events = events;
      serves =
          on_side old side (λ m. ServesAs m.status old.pair
          (has_room_for old.pair was) m.side session request served) serves;
      added = on_side old side (λ m. served.side.history ≡ m.side.history ++ events) added;
      result =
          view_goes old side machine (Answers side session number served.reply ∷ []) events
          ∙ ap after (is ∙ sym (ap with_side (view_of old side)));
    }))

-- what would be added to a side
would : (old : fine_world.World) (side : Which) (session : ℕ) (request : Request) (served : Served)
    (event : Event) → (fine_world.side_of old side).journal.status ≡ Up →
    Serves old.pair (has_room_for old.pair (fine_world.side_of old side))
    (side_now (fine_world.side_of old side)) session request served →
    served.side.history ≡ (fine_world.side_of old side).journal.value ++ event ∷ [] →
    picture.WouldAdd old.pair (side_of (picture_of old) side) session request event
would old side session request served event up serves more =
    on_side old side (λ m. picture.WouldAdd old.pair m session request event)
    (record {
      served = served;
      has_room = has_room_for old.pair (fine_world.side_of old side);
      up = up;
      serves = serves;
      adds = more;
    })

nothing_added : (old : fine_world.World) (side : Which) (m : picture.SidePicture)
    (messages : List Message) →
    record (set_side (picture_of old) side m) {
      sent = old.sent ++ messages;
      acknowledged =
          old.acknowledged ++ [];
    } ≡ record (set_side (picture_of old) side m) { sent = old.sent ++ messages }
nothing_added old Left m messages =
    let with_acks : List Ack → Picture = λ a. record (set_side (picture_of old) Left m)
    { sent = old.sent ++ messages; acknowledged = a } in
    ap with_acks (append-nil old.acknowledged)
nothing_added old Right m messages =
    let with_acks : List Ack → Picture = λ a. record (set_side (picture_of old) Right m)
    { sent = old.sent ++ messages; acknowledged = a } in
    ap with_acks (append-nil old.acknowledged)

nothing_said : (old : fine_world.World) (side : Which) (m : picture.SidePicture) →
    record (set_side (picture_of old) side m) { sent = old.sent ++ [] } ≡ set_side (picture_of old)
    side m
nothing_said old Left m =
    let with_sent : Sent → Picture = λ sent. record (set_side (picture_of old) Left m)
    { sent = sent } in
    ap with_sent (append-nil old.sent)
nothing_said old Right m =
    let with_sent : Sent → Picture = λ sent. record (set_side (picture_of old) Right m)
    { sent = sent } in
    ap with_sent (append-nil old.sent)

-- a side takes a request
pub request_follows : (old : fine_world.World) (message : ℕ) (side : Which) (session number : ℕ)
    (request : Request) (machine : SideMachine) (reply : Option Reply) (events : List Event) →
    slice_get old.sent message ≡ Some (Asks side session number request) →
    IsLawfulRequest session request →
    SideTakes old.pair (fine_world.side_of old side) session request machine reply events →
    Follows (picture_of old)
    (picture_of (fine_world.side_goes old side machine (says side session number reply) events))
    (Deliver message) []
request_follows old message side session number request _ _ _ asked lawful
    (answers served serves same) =
    let was = fine_world.side_of old side in
    let with_history : History → picture.SidePicture = λ history. record {
      status =
          was.journal.status;
      side = record { history = history; staging = served.side.staging };
      writing = was.journal.writing;
    } in
    answered_so old message side session number request
    (record was { staging = served.side.staging }) served
    [] asked serves (same ∙ sym (append-nil was.journal.value)) (ap with_history (sym same))
request_follows old message side session number request _ _ _ asked lawful
    (adds served event _ _ up serves more (idle is)) =
    absurd (true≢false (sym is))
request_follows old message side session number request _ _ _ asked lawful
    (adds served event _ _ up serves more (written arms is meets)) =
    let was = fine_world.side_of old side in
    let keeps = adding_keeps (side_now was) session request served event (outcome old.pair
    (has_room_for old.pair was) (side_now was) session request served lawful serves) more in
    let build : History → Option Staging →
    picture.SidePicture = λ history staging. record {
      status = was.journal.status;
      side = record { history = history; staging = staging };
      writing = was.journal.writing;
    } in
    let as_up : (status : Status) → status ≡ Up →
    said status served.reply ≡ Some served.reply = said_up served.reply in
    subst (λ reply. Follows (picture_of old) (picture_of (fine_world.side_goes old side
    (with_journal was (with_record (side_layout old.pair) was.journal event arms))
    (says side session number reply) (event ∷ []))) (Deliver message) [])
    (sym (as_up was.journal.status up))
    (answered_so old message side session number request (with_journal was
    (with_record (side_layout old.pair) was.journal event arms)) served (event ∷ []) asked
    (subst (λ status. ServesAs status old.pair (has_room_for old.pair was)
    (side_now was) session request served) (sym up) serves) more
    (ap₂ build (sym more) (staged_up was.journal.status was.staging up ∙ sym keeps)))
request_follows old message side session number request _ _ _ asked lawful
    (adds served event _ _ up serves more (unwritten Up arms failed is (inl e) meets)) =
    absurd (up_not_halted e)
request_follows old message side session number request _ _ _ asked lawful
    (adds served event _ _ up serves more (unwritten Up arms failed is (inr e) meets)) =
    absurd (up_not_down e)
request_follows old message side session number request _ _ _ asked lawful
    (adds served event _ _ up serves more (unwritten Halted arms failed is down meets)) =
    let was = fine_world.side_of old side in
    let journal = after_device (record was.journal { writing = Some event }) Halted arms failed in
    let halting : picture.SidePicture → Picture =
    λ m. record (set_side (picture_of old) side (record m
    { status = Halted; writing = Some event }))
    { sent = old.sent ++ Answers side session number (Refused Device) ∷ [] } in
    picture.serves message side session number request asked
    (picture.request_failed event (would old side session request served event up serves more)
    (view_goes old side (with_journal was journal)
    (Answers side session number (Refused Device) ∷ []) [] ∙ (nothing_added old side
    (side_picture (with_journal was journal)) (Answers side session number (Refused Device) ∷ [])
    ∙ sym (ap halting (view_of old side)))))
request_follows old message side session number request _ _ _ asked lawful
    (adds served event _ _ up serves more (unwritten Down arms failed is down meets)) =
    let was = fine_world.side_of old side in
    let journal = after_device (record was.journal { writing = Some event }) Down arms failed in
    let stopping : picture.SidePicture →
    Picture = λ m. set_side (picture_of old) side (picture.stopped m (Some event)) in
    picture.serves message side session number request asked
    (picture.request_cut event (would old side session request served event up serves more)
    (view_goes old side (with_journal was journal) [] [] ∙ (nothing_added old side (side_picture
    (with_journal was journal)) [] ∙ (nothing_said old side
    (side_picture (with_journal was journal))
    ∙ sym (ap stopping (view_of old side))))))

-- The devices

-- a device is left so, and what the side stands for stays
pub device_follows : (old : fine_world.World) (side : Which) (status : Status) (arms : Arms)
    (failed : ℕ) (step : Step) (told : List Refusal) →
    Settles (At side) (fine_world.side_of old side).journal.status step status told →
    Follows (picture_of old) (picture_of (side_writes old side
    (after_device (fine_world.side_of old side).journal status arms failed) [])) step told
device_follows old side status arms failed step told settles =
    let journal = after_device (fine_world.side_of old side).journal status arms failed in
    side_changes old (side_writes old side journal []) side journal step told refl refl settles
    (side_settled old side journal)
