-- Each step of the world is one of the picture, and a session that runs remembers what it
-- should.
use Rattle.std.proofs.Common.{◌≡◌, ℕ, Bool, true, false, true≢false, append_assoc, List, map}
use Rattle.std.proofs.Common.{refl, sym, ap, ◌∙◌, subst, Option, Some}
use Rattle.std.proofs.Common.{None, append-nil, inl, ◌≢◌, ◌∷◌, ◌++◌, ap₂, option_map}
use Rattle.std.proofs.Common.{is_some, nat_le, not, ◌+◌, slice_get, []}
use Rattle.std.specs.Prelude.{IfSome, IsSome}
use Rattle.std.proofs.lemmas.Option.{none-some}
use Rattle.syn_model.specs.Event.{Edit, Event, Edited}
use Rattle.syn_machine.specs.Machine.{Status, Up, Halted, Down, Arms, has_room, Journaled}
use Rattle.syn_machine.specs.Machine.{after_device, with_image, with_record, reopened, Compacts}
use Rattle.syn_machine.specs.Machine.{compacted, not_compacted, Opens, opened, recovered}
use Rattle.syn_model.specs.Limits.{greatest}
use Rattle.syn_machine.specs.Side.{Request, Reply}
use Rattle.syn_machine.specs.MachineSteps.{MachineCall, Does, causes_at, is_halted, refused_by}
use Rattle.syn_machine.specs.MachineSteps.{full_generation}
use Rattle.syn_machine.specs.MachineSteps as one
use Rattle.syn_machine.specs.SideMachine.{SideMachine, with_journal, side_kind, causes_of}
use Rattle.syn_machine.specs.SideMachine.{EditsSide, UserEdits, has_room_for}
use Rattle.syn_machine.specs.Network.{Which, Left, Right, Message, Asks, Answers, Sent}
use Rattle.syn_runs.specs.Acknowledged.{Ack, Kept_by}
use Rattle.syn_machine.specs.Coordinator.{Running, running_after, CoordinatorMachine}
use Rattle.syn_machine.specs.Coordinator.{archive_layout, with_archive, Call, start_causes, takes}
use Rattle.syn_machine.specs.Coordinator.{ignores, CoordinatorTakes, CoordinatorStarts, no_call}
use Rattle.syn_machine.specs.Coordinator.{coordinator_kind, Starts, asked_of}
use Rattle.syn_runs.specs.World.{World, Machine, At, Coordinator, side_of, says, side_goes}
use Rattle.syn_runs.specs.World.{status_of}
use Rattle.syn_runs.specs.World.{Step, Edits, Start, Deliver, Tick, Checkpoint, Fail, Stop}
use Rattle.syn_runs.specs.World.{Open, Reopen, coordinator_goes, refuses_with, side_does}
use Rattle.syn_runs.specs.World.{coordinator_does, MachineDoes, Delivers, no_message}
use Rattle.syn_runs.specs.World.{to_no_side, to_side, to_coordinator, Ticks, ticks, Steps, Runs}
use Rattle.syn_runs.specs.Picture.{Follows, FollowsAll, nothing_more, one_more}
use Rattle.syn_runs.specs.Picture.{SessionPicture, Settles, IsOpening, IsIdle, MayRefuse}
use Rattle.syn_runs.specs.Picture.{lost_on, session_after}
use Rattle.syn_runs.proofs.Invariant.{Plans, histories_of, IsKept, IsHarmless}
use Rattle.syn_runs.specs.Runs.{picture_of, session_picture, coordinator_picture}
use Rattle.syn_runs.proofs.MachineLemmas.{calls_tell, does_tell, LeavesDevice, armed_to_fail}
use Rattle.syn_runs.proofs.MachineLemmas.{armed_to_stop, stopped, unopened, halted, cut, stays}
use Rattle.syn_runs.proofs.MachineLemmas.{IsStill, lost, refused, open_still, down_still}
use Rattle.syn_runs.proofs.MachineLemmas.{IsOpenedBy, by_open, by_reopen}
use Rattle.syn_runs.proofs.Walks.{compacts_left}
use Rattle.syn_runs.proofs.View.{neither, edits_follow, opens_follow, compacts_follow}
use Rattle.syn_runs.proofs.View.{request_follows, device_follows}
use Rattle.syn_machine.proofs.Heard.{sent_at}
use Rattle.syn_runs.proofs.Sessions.{IsHeard, GoesBeside}
use Rattle.syn_model.specs.Refusal.{Refusal, Memory, Cause, first_cause}
use Rattle.syn_model.specs.Refusal as why
use Rattle.syn_model.specs.Archive.{Archive, Kept, Session, CanKeep}
use Rattle.syn_model.proofs.HistoryLemmas.{first_cause-none}
use Rattle.syn_machine.specs.Planning.{Log}
use Rattle.syn_machine.specs.Report.{Report}
use Rattle.syn_runs.specs.Picture as picture
use Rattle.syn_runs.proofs.AdvanceLemmas.{step_advances}
use Rattle.syn_runs.proofs.CallLemmas.{takes_follow}
use Rattle.syn_runs.proofs.StartLemmas.{starts_follow}
use Rattle.syn_runs.proofs.TickLemmas.{ticks_follow}
use Rattle.syn_runs.proofs.StillHeard.{IsFollowed, beside_heard, same_beside, side_heard}
use Rattle.syn_runs.proofs.StillHeard.{nothing_asked, nothing_said, says_after, says_no_request}
use Rattle.syn_runs.proofs.StillHeard.{after_running}
use Rattle.syn_runs.proofs.ReportedRuns.{AllTold, grows, step_told}

-- The archive's journal

-- it is left so, and the coordinator acknowledges these
abbrev archive_writes : World → Journaled Archive Kept → List Kept → World
archive_writes old journal kept = coordinator_goes old (with_archive old.coordinator journal)
    (record no_call { kept = kept })

view_archive : (old : World) (journal : Journaled Archive Kept) (kept : List Kept) →
    picture_of (archive_writes old journal kept) ≡ record (picture_of old) {
      coordinator = coordinator_picture
          (with_archive old.coordinator journal);
      acknowledged = old.acknowledged ++ map Kept_by kept;
    }
view_archive old journal kept =
    let with_kept : picture.Picture =
    record (picture_of old) {
      coordinator = coordinator_picture (with_archive old.coordinator journal);
      acknowledged = old.acknowledged ++ map Kept_by kept;
    } in
    let one : Sent → List (Report × ℕ) → picture.Picture =
    λ sent reports. record with_kept { sent = sent; reports = reports; log = old.log ++ [] } in
    let two : Log → picture.Picture = λ log. record with_kept { log = log } in
    ap₂ one (append-nil old.sent) (append-nil old.reports) ∙ ap two (append-nil old.log)

view_archive_alone : (old : World) (journal : Journaled Archive Kept) →
    picture_of (archive_writes old journal [])
    ≡ record (picture_of old) {
      coordinator = coordinator_picture
          (with_archive old.coordinator journal);
    }
view_archive_alone old journal =
    let with_acks : List Ack → picture.Picture = λ acks. record (picture_of old) {
      coordinator =
          coordinator_picture (with_archive old.coordinator journal);
      acknowledged = acks;
    } in
    view_archive old journal [] ∙ ap with_acks (append-nil old.acknowledged)

archive_beside : (old : World) (journal : Journaled Archive Kept) →
    journal.value ≡ old.coordinator.journal.value →
    GoesBeside old (archive_writes old journal [])
archive_beside old journal same =
    same_beside old (archive_writes old journal []) (append-nil old.sent) (append-nil old.log)
    (append-nil old.acknowledged) same

-- an archive's journal has another status, and its archive and what was being written stay
archive_settles : (old : World) (journal : Journaled Archive Kept) (step : Step)
    (told : List Refusal) → journal.value ≡ old.coordinator.journal.value →
    journal.writing ≡ old.coordinator.journal.writing →
    Settles Coordinator old.coordinator.journal.status step journal.status told →
    Follows (picture_of old) (picture_of (archive_writes old journal [])) step told
archive_settles old journal step told value writing settles =
    picture.archive_changes step journal.status told settles
    (view_archive_alone old journal ∙ ap₂ with_archive_of value writing
    ∙ ap with_running (still_seen journal.status old.coordinator.running))
  where
    with_archive_of : Archive → Option Kept → picture.Picture
    with_archive_of archive writing = record (picture_of old) {
      coordinator = record {
        status = journal.status;
        archive = archive;
        writing = writing;
        running = option_map session_picture (running_after journal.status
            old.coordinator.running);
      };
    }

    with_running : Option SessionPicture → picture.Picture
    with_running running = record (picture_of old) {
      coordinator = record {
        status = journal.status;
        archive = old.coordinator.journal.value;
        writing = old.coordinator.journal.writing;
        running = running;
      };
    }

    still_seen : (status : Status) (running : Option Running) →
        option_map session_picture (running_after status running)
        ≡ session_after status (option_map session_picture running)
    still_seen Up running = refl
    still_seen Halted running = refl
    still_seen Down running = refl

compacts_archive_follow : (old : World) (journal : Journaled Archive Kept) →
    old.coordinator.journal.status ≡ Up →
    Compacts (archive_layout old.pair) old.coordinator.journal journal →
    Follows (picture_of old) (picture_of (archive_writes old journal [])) (Checkpoint Coordinator)
    (refused_by journal.status)
compacts_archive_follow old _ up (compacted arms meets) =
    archive_settles old (with_image (archive_layout old.pair) old.coordinator.journal arms)
    (Checkpoint Coordinator) (refused_by old.coordinator.journal.status) refl refl
    (picture.compacts old.coordinator.journal.status up)
compacts_archive_follow old _ up (not_compacted status arms failed down meets) =
    archive_settles old
    (after_device (record old.coordinator.journal { compacting = true }) status arms failed)
    (Checkpoint Coordinator) (refused_by status) refl refl (picture.compacts status up)

none_runs : (plans : Plans) (old : World) → IsKept plans (picture_of old) → (kept : Kept) →
    old.coordinator.journal.writing ≡ Some kept → (running : Option Running) →
    old.coordinator.running ≡ running → running ≡ None
none_runs plans old k kept is None at = refl
none_runs plans old k kept is (Some r) at =
    let pending = subst (λ o. IfSome o (λ kept. (old.coordinator.journal.status ≢ Up)
    × ((picture_of old).coordinator.running ≡ None) × CanKeep old.coordinator.journal.value kept
    × IsHarmless plans (histories_of (picture_of old)) kept)) is k.coordinator.writing in
    absurd (none-some _ (sym (sym (ap (option_map session_picture) at) ∙ pending.1)))

none_heard : (running : Option Running) (w : World) → running ≡ None → IfSome running (IsHeard w)
none_heard None w at = tt
none_heard (Some r) w at = absurd (none-some _ (sym at))

opens_archive_follow : (plans : Plans) (old : World) → IsKept plans (picture_of old) →
    IfSome old.coordinator.running (IsHeard old) → (step : Step) →
    IsOpening Coordinator old.coordinator.journal.status step → (calls : ℕ)
    (journal : Journaled Archive Kept) (kept : List Kept) →
    Opens (archive_layout old.pair) CanKeep old.coordinator.journal calls journal kept →
    IsFollowed old step [] (archive_writes old journal kept)
opens_archive_follow plans old k h step by calls _ _ (opened room generation arms meets left) =
    let journal = reopened old.coordinator.journal room generation arms in (
      picture.archive_opens step by (view_archive_alone old journal),
      beside_heard old
          (archive_writes old journal []) (archive_beside old journal refl)
          old.coordinator.running h,
      inl (append-nil old.reports),
    )
opens_archive_follow plans old k h step by calls _ _ (recovered arms kept meets is can) =
    let journal = with_record (archive_layout old.pair) (reopened old.coordinator.journal
    old.coordinator.journal.room old.coordinator.journal.generation arms) kept arms in (
      picture.archive_recovers step kept by is can (view_archive old journal (kept ∷ [])),
      none_heard old.coordinator.running (archive_writes old journal (kept ∷ []))
          (none_runs plans old k kept is old.coordinator.running refl),
      inl (append-nil old.reports),
    )

-- a side reports nothing
side_reports : (old : World) (side : Which) (machine : SideMachine) (messages : List Message)
    (events : List Event) → (side_goes old side machine messages events).reports ≡ old.reports
side_reports old Left machine messages events = refl
side_reports old Right machine messages events = refl

-- nothing is done
same_side : (old : World) (side : Which) → side_goes old side (side_of old side) [] [] ≡ old
same_side old Left = ap₂ (λ s a. record old { sent = s; acknowledged = a })
    (append-nil old.sent) (append-nil old.acknowledged)
same_side old Right = ap₂ (λ s a. record old { sent = s; acknowledged = a })
    (append-nil old.sent) (append-nil old.acknowledged)

same_coordinator : (old : World) → coordinator_goes old old.coordinator no_call ≡ old
same_coordinator old =
    ap₂ (λ s a. record (coordinator_goes old old.coordinator no_call)
    { sent = s; acknowledged = a }) (append-nil old.sent) (append-nil old.acknowledged)
    ∙ ap₂ (λ r l. record old { reports = r; log = l }) (append-nil old.reports)
    (append-nil old.log)

-- What a machine does by itself

-- the step by which a machine is called so
abbrev asked : Machine → MachineCall → Step
asked machine one.Checkpoint = Checkpoint machine
asked machine (one.Fail call) = Fail machine call
asked machine (one.Stop calls) = Stop machine calls
asked machine one.Open = Open machine
asked machine one.Reopen = Reopen machine

-- the picture shows the status of each machine
status_shown : (old : World) (machine : Machine) →
    picture.status_of (picture_of old) machine ≡ status_of old machine
status_shown old (At Left) = refl
status_shown old (At Right) = refl
status_shown old Coordinator = refl

settles_so : {V W : Type 0} (machine : Machine) (was : Journaled V W) (call : MachineCall)
    (status : Status) (arms : Arms) (failed : ℕ) (told : List Refusal) →
    LeavesDevice was call status arms failed told →
    Settles machine was.status (asked machine call) status told
settles_so machine was _ _ _ _ _ (armed_to_fail call) = picture.arms_failure call
settles_so machine was _ _ _ _ _ (armed_to_stop calls) = picture.arms_stop calls
settles_so machine was _ _ _ _ _ (stopped up) = picture.stops up
settles_so machine was _ _ _ _ _ (unopened calls arms failed down meets) =
    picture.not_opened down
settles_so machine was _ _ _ _ _ (halted calls arms failed up meets) = picture.not_reopened up
settles_so machine was _ _ _ _ _ (cut calls arms failed up meets) = picture.reopening_cut up
settles_so machine was _ _ _ _ _ (stays calls arms failed up meets) =
    picture.no_memory_to_reopen up

opening_so : (machine : Machine) (was : Status) (call : MachineCall) → IsOpenedBy was call →
    IsOpening machine was (asked machine call)
opening_so machine was _ (by_open down) = picture.opening down
opening_so machine was _ (by_reopen up) = picture.reopening up

-- a machine that is neither halted nor down is up
up_to_checkpoint : {V W : Type 0} (was : Journaled V W) →
    first_cause (causes_at was.status (full_generation was.generation)) ≡ None →
    was.status ≢ Down → was.status ≡ Up
up_to_checkpoint was none up =
    neither was.status (first_cause-none (is_halted was.status, why.Halted)
    (full_generation was.generation) none).0 up

lost_there : (machine : Machine) (call : MachineCall) → call ≢ one.Open →
    lost_on (asked machine call) ≡ Some machine
lost_there machine one.Checkpoint other = refl
lost_there machine (one.Fail call) other = refl
lost_there machine (one.Stop calls) other = refl
lost_there machine one.Open other = absurd (other refl)
lost_there machine one.Reopen other = refl

-- The steps

module _ (plans : Plans) (old : World) (k : IsKept plans (picture_of old))
    (h : IfSome old.coordinator.running (IsHeard old)) where
  stays_so : (new : World) (step : Step) (told : List Refusal) → IsIdle (picture_of old) step told →
      new ≡ old → IsFollowed old step told new
  stays_so new step told idle e =
      subst (IsFollowed old step told) (sym e) (picture.same step told idle refl, h, inl refl)

  -- a machine that is down, or that is not
  is_down_there : (machine : Machine) → status_of old machine ≡ Down →
      picture.status_of (picture_of old) machine ≡ Down
  is_down_there machine down = status_shown old machine ∙ down

  is_up_there : (machine : Machine) → status_of old machine ≢ Down →
      picture.status_of (picture_of old) machine ≢ Down
  is_up_there machine up down = up (sym (status_shown old machine) ∙ down)

  -- a step that is lost
  is_lost : (step : Step) (machine : Machine) → lost_on step ≡ Some machine →
      status_of old machine ≡ Down → IsIdle (picture_of old) step []
  is_lost step machine there down = picture.lost step machine there (is_down_there machine down)

  -- or refused
  is_refused : (step : Step) (machine : Machine) (causes : List Cause) (reason : Refusal) →
      MayRefuse (picture_of old) step machine causes → status_of old machine ≢ Down →
      first_cause (causes_at (status_of old machine) causes ++ (true, Memory) ∷ []) ≡ Some reason →
      IsIdle (picture_of old) step (reason ∷ [])
  is_refused step machine causes reason may up some = picture.refused step reason (record {
    machine = machine;
    causes = causes;
    may = may;
    not_down = is_up_there machine up;
    first = ap (λ status. first_cause (causes_at status causes ++ (true, Memory) ∷ []))
        (status_shown old machine) ∙ some;
  })

  is_still : {V W : Type 0} (machine : Machine) (was : Journaled V W) (call : MachineCall)
      (told : List Refusal) → status_of old machine ≡ was.status → IsStill was call told →
      IsIdle (picture_of old) (asked machine call) told
  is_still machine was _ _ is (lost call other down) =
      is_lost (asked machine call) machine (lost_there machine call other) (is ∙ down)
  is_still machine was _ _ is (refused reason up some) =
      is_refused (Checkpoint machine) machine (full_generation was.generation) reason
      (picture.a_checkpoint machine (nat_le greatest was.generation)) (λ down. up (sym is ∙ down))
      (ap (λ status. first_cause (causes_at status (full_generation was.generation)
      ++ (true, Memory) ∷ [])) is ∙ some)
  is_still machine was _ _ is (open_still up) =
      picture.is_open machine (is_up_there machine (λ down. up (sym is ∙ down)))
  is_still machine was _ _ is (down_still down) =
      picture.no_memory_to_open machine (is_down_there machine (is ∙ down))

  -- what a call was refused with is told, and seen nowhere else
  told_so : (made : World) (step : Step) (reasons : List Refusal) →
      IsFollowed old step reasons made → IsFollowed old step reasons (refuses_with made reasons)
  told_so made step reasons f = (
    f.0,
    beside_heard made (refuses_with made reasons)
        (same_beside made (refuses_with made reasons) refl refl refl refl)
        made.coordinator.running f.1,
    f.2,
  )

  -- What a side does by itself
  abbrev SideLeft : Which → Step → SideMachine → List Event → List Refusal → Type 0
  SideLeft side step next events told =
      IsFollowed old step told (side_goes old side next [] events)

  side_so : (side : Which) (step : Step) (next : SideMachine) (events : List Event)
      (told : List Refusal) →
      Follows (picture_of old) (picture_of (side_goes old side next [] events)) step told →
      SideLeft side step next events told
  side_so side step next events told follows = (
    follows,
    side_heard old side next [] events nothing_asked (nothing_said old.sent) h,
    inl (side_reports old side next [] events),
  )

  side_stays : (side : Which) (step : Step) (told : List Refusal) →
      IsIdle (picture_of old) step told → SideLeft side step (side_of old side) [] told
  side_stays side step told idle =
      stays_so (side_goes old side (side_of old side) [] []) step told idle (same_side old side)

  edits_so : (side : Which) (user : ℕ) (edit : Edit) (next : SideMachine) (events : List Event)
      (refusals : List Refusal) →
      UserEdits old.pair (side_of old side) (Edited user edit) next events refusals →
      SideLeft side (Edits side user edit) next events refusals
  edits_so side user edit next events refusals so =
      let step = Edits side user edit in
      let causes = causes_of old.pair (side_of old side) (Edited user edit) in
      calls_tell (side_kind old.pair) (side_of old side) (SideLeft side step)
      causes (EditsSide old.pair (side_of old side) (Edited user edit))
      (λ down. side_stays side step [] (is_lost step (At side) refl down))
      (λ reason up some. side_stays side step (reason ∷ [])
      (is_refused step (At side) causes reason (an_edit_there side user edit) up some))
      (λ next events none up made. side_so side step next events (refused_by next.journal.status)
      (edits_follow old side user edit next events none up made)) next events refusals so
    where
      an_edit_there : (side : Which) (user : ℕ) (edit : Edit) →
          MayRefuse (picture_of old) (Edits side user edit) (At side)
          (causes_of old.pair (side_of old side) (Edited user edit))
      an_edit_there Left user edit =
          picture.an_edit Left user edit (has_room_for old.pair old.left)
      an_edit_there Right user edit =
          picture.an_edit Right user edit (has_room_for old.pair old.right)

  side_does_so : (side : Which) (call : MachineCall) (next : SideMachine) (events : List Event)
      (refusals : List Refusal) →
      Does (side_kind old.pair) (side_of old side) call next events refusals →
      SideLeft side (asked (At side) call) next events refusals
  side_does_so side call next events refusals so =
      let was = (side_of old side).journal in
      does_tell (side_kind old.pair) (side_of old side) (SideLeft side (asked (At side) call)) call
      (λ told still. side_stays side (asked (At side) call) told
      (is_still (At side) was call told refl still))
      (λ journal is none up compacts. subst (λ c. SideLeft side (asked (At side) c)
      (with_journal (side_of old side) journal) [] (refused_by journal.status)) (sym is)
      (side_so side (Checkpoint (At side)) (with_journal (side_of old side) journal) []
      (refused_by journal.status)
      (compacts_follow old side journal (up_to_checkpoint was none up) compacts)))
      (λ calls journal events by opens.
      side_so side (asked (At side) call) (with_journal (side_of old side) journal) events []
      (opens_follow old side (asked (At side) call) calls journal events
      (opening_so (At side) was.status call by) opens))
      (λ status arms failed told left. side_so side (asked (At side) call)
      (with_journal (side_of old side) (after_device was status arms failed)) [] told
      (device_follows old side status arms failed (asked (At side) call) told
      (settles_so (At side) was call status arms failed told left)))
      next events refusals so

  -- What the coordinator does by itself
  abbrev CoordinatorLeft : Step → CoordinatorMachine → Call → List Refusal → Type 0
  CoordinatorLeft step next call told = IsFollowed old step told (coordinator_goes old next call)

  coordinator_stays : (step : Step) (told : List Refusal) → IsIdle (picture_of old) step told →
      CoordinatorLeft step old.coordinator no_call told
  coordinator_stays step told idle = stays_so (coordinator_goes old old.coordinator no_call) step
      told idle (same_coordinator old)

  archive_so : (step : Step) (told : List Refusal) (journal : Journaled Archive Kept) →
      journal.value ≡ old.coordinator.journal.value →
      Follows (picture_of old) (picture_of (archive_writes old journal [])) step told →
      IsFollowed old step told (archive_writes old journal [])
  archive_so step told journal same follows = (
    follows,
    after_running old (archive_writes old journal [])
        journal.status old.coordinator.running (archive_beside old journal same) h,
    inl (append-nil old.reports),
  )

  coordinator_does_so : (call : MachineCall) (next : CoordinatorMachine) (given : Call)
      (refusals : List Refusal) →
      Does (coordinator_kind old.pair) old.coordinator call next given refusals →
      CoordinatorLeft (asked Coordinator call) next given refusals
  coordinator_does_so call next given refusals so =
      let was = old.coordinator.journal in
      let step = asked Coordinator call in
      does_tell (coordinator_kind old.pair) old.coordinator (CoordinatorLeft step) call
      (λ told still. coordinator_stays step told (is_still Coordinator was call told refl still))
      (λ journal is none up compacts. subst (λ c. CoordinatorLeft (asked Coordinator c)
      (with_archive old.coordinator journal) no_call (refused_by journal.status)) (sym is)
      (archive_so (Checkpoint Coordinator) (refused_by journal.status) journal
      (compacts_left old.pair was journal compacts).0
      (compacts_archive_follow old journal (up_to_checkpoint was none up) compacts)))
      (λ calls journal kept by opens. opens_archive_follow plans old k h step
      (opening_so Coordinator was.status call by) calls journal kept opens)
      (λ status arms failed told left. archive_so step told (after_device was status arms failed)
      refl (archive_settles old (after_device was status arms failed) step told refl refl
      (settles_so Coordinator was call status arms failed told left)))
      next given refusals so

  starts_so : (preference : Option Which) (next : CoordinatorMachine) (call : Call) →
      first_cause (causes_at old.coordinator.journal.status
      (start_causes old.pair old.coordinator)) ≡ None →
      old.coordinator.journal.status ≢ Down →
      CoordinatorStarts old.pair preference old.coordinator next call →
      CoordinatorLeft (Start preference) next call (refused_by next.journal.status)
  starts_so preference machine call none up g =
      let first = first_cause-none (is_halted old.coordinator.journal.status, why.Halted)
      (start_causes old.pair old.coordinator) none in
      let last = old.coordinator.journal.value.last_session in
      let room : List Cause = (
        not (has_room (archive_layout old.pair) old.coordinator.journal (Session (last + 1))),
        why.JournalFull,
      ) ∷ [] in
      let busy = first_cause-none (is_some old.coordinator.running, why.Busy)
      ((nat_le greatest last, why.Full) ∷ room) first.1 in
      let full = first_cause-none (nat_le greatest last, why.Full) room busy.1 in
      starts_follow preference plans old k
      (neither old.coordinator.journal.status first.0 up)
      (idle old.coordinator.running busy.0) full.0 machine call g
    where
      idle : (running : Option Running) → is_some running ≡ false → running ≡ None
      idle None none = refl
      idle (Some r) none = absurd (true≢false none)

  asks_so : (preference : Option Which) (next : CoordinatorMachine) (call : Call)
      (refusals : List Refusal) →
      Starts old.pair preference old.coordinator next call refusals →
      CoordinatorLeft (Start preference) next call refusals
  asks_so preference next call refusals so =
      let step = Start preference in
      let causes = start_causes old.pair old.coordinator in
      calls_tell (coordinator_kind old.pair) old.coordinator (CoordinatorLeft step) causes
      (CoordinatorStarts old.pair preference old.coordinator)
      (λ down. coordinator_stays step [] (is_lost step Coordinator refl down))
      (λ reason up some. coordinator_stays step (reason ∷ [])
      (is_refused step Coordinator causes reason
      a_start_there up some))
      (starts_so preference) next call refusals so
    where
      room : Bool
      room = has_room (archive_layout old.pair) old.coordinator.journal
          (Session (old.coordinator.journal.value.last_session + 1))

      seen : (running : Option Running) →
          is_some (option_map session_picture running) ≡ is_some running
      seen None = refl
      seen (Some r) = refl

      a_start_there : MayRefuse (picture_of old) (Start preference) Coordinator
          (start_causes old.pair old.coordinator)
      a_start_there = subst (λ busy. MayRefuse (picture_of old) (Start preference)
          Coordinator ((busy, why.Busy)
          ∷ (nat_le greatest old.coordinator.journal.value.last_session, why.Full)
          ∷ (not room, why.JournalFull) ∷ [])) (seen old.coordinator.running)
          (picture.a_start preference room)

  answer_so : (message : ℕ) (from : Which) (session number : ℕ) (reply : Reply) →
      slice_get old.sent message ≡ Some (Answers from session number reply) →
      (machine : CoordinatorMachine) (call : Call) →
      CoordinatorTakes old.pair old.coordinator from session number reply machine call →
      IsFollowed old (Deliver message) [] (coordinator_goes old machine call)
  answer_so message from session number reply at _ _ (ignores none) =
      coordinator_stays (Deliver message) []
      (picture.not_expected message from session number reply at
      (λ expected. unexpected old.coordinator.running refl expected))
    where
      unexpected : (running : Option Running) → old.coordinator.running ≡ running →
          picture.IsExpected (option_map session_picture running) from session number → ⊥
      unexpected None is expected = expected
      unexpected (Some r) is (same, some) =
          by (asked_of r from number) refl (subst IsSome (same_asked r from) some)
        where
          same_asked : (r : Running) (side : Which) →
              picture.asked_of (session_picture r) side number ≡ asked_of r side number
          same_asked r Left = refl
          same_asked r Right = refl

          by : (o : Option Request) → asked_of r from number ≡ o → IsSome o → ⊥
          by None at some = absurd (true≢false (sym some))
          by (Some request) at some =
              none r request (record { runs = is; of_session = same; asked = at })
  answer_so message from session number reply at _ _ (takes r request new call expected t) =
      takes_follow plans old k r expected.runs
      (subst (λ o. IfSome o (IsHeard old)) expected.runs h) message from number reply
      (subst (λ s. slice_get old.sent message ≡ Some (Answers from s number reply))
      expected.of_session at) request expected.asked new call t

  delivers_so : (message : ℕ) (o : Option Message) → slice_get old.sent message ≡ o →
      (new : World) → Delivers old o new → IsFollowed old (Deliver message) [] new
  delivers_so message _ at _ no_message =
      stays_so old (Deliver message) [] (picture.no_message message at) refl
  delivers_so message _ at _ (to_no_side side session number request down) =
      stays_so old (Deliver message) [] (picture.to_no_side message side session number request at
      (is_down_there (At side) down)) refl
  delivers_so message _ at _ (to_side side session number request machine reply events t) =
      let asked = sent_at old.sent message (Asks side session number request) at in (
        request_follows old message side session number request machine reply events at
            (k.sound.asked side session number request asked).lawful t,
        side_heard old side machine
            (says side session number reply) events (says_no_request side session number reply)
            (says_after plans old k side session number request machine reply events asked t) h,
        inl (side_reports old side machine (says side session number reply) events),
      )
  delivers_so message _ at _ (to_coordinator side session number reply machine call t) =
      answer_so message side session number reply at machine call t

  -- each step, with what its user is refused
  pub record IsStep (step : Step) (new : World) : Type 0 where
    pub told : List Refusal
    pub refusals : new.refusals ≡ old.refusals ++ told
    pub followed : IsFollowed old step told new

  tells_nothing : (step : Step) (new : World) → new.refusals ≡ old.refusals →
      IsFollowed old step [] new → IsStep step new
  tells_nothing step new same f = record {
    told = [];
    refusals = same ∙ sym (append-nil old.refusals);
    followed = f;
  }

  side_tells : (side : Which) (step : Step) (next : SideMachine) (events : List Event)
      (refusals : List Refusal) → SideLeft side step next events refusals →
      IsStep step (refuses_with (side_goes old side next [] events) refusals)
  side_tells side step next events refusals f = record {
    told = refusals;
    refusals = ap (λ before. before ++ refusals) (same_refusals side);
    followed = told_so (side_goes old side next [] events) step refusals f;
  }
    where
      same_refusals : (side : Which) → (side_goes old side next [] events).refusals ≡ old.refusals
      same_refusals Left = refl
      same_refusals Right = refl

  coordinator_tells : (step : Step) (next : CoordinatorMachine) (call : Call)
      (refusals : List Refusal) → CoordinatorLeft step next call refusals →
      IsStep step (refuses_with (coordinator_goes old next call) refusals)
  coordinator_tells step next call refusals f = record {
    told = refusals;
    refusals = refl;
    followed = told_so (coordinator_goes old next call) step refusals f;
  }

  machine_so : (machine : Machine) (call : MachineCall) (new : World) →
      MachineDoes old machine call new → IsStep (asked machine call) new
  machine_so (At side) call _ (side_does next events refusals so) =
      side_tells side (asked (At side) call) next events refusals
      (side_does_so side call next events refusals so)
  machine_so Coordinator call _ (coordinator_does next given refusals so) =
      coordinator_tells (asked Coordinator call) next given refusals
      (coordinator_does_so call next given refusals so)

  delivery_refuses : (o : Option Message) (new : World) → Delivers old o new →
      new.refusals ≡ old.refusals
  delivery_refuses _ _ no_message = refl
  delivery_refuses _ _ (to_no_side side session number request down) = refl
  delivery_refuses _ _ (to_side Left session number request machine reply events t) = refl
  delivery_refuses _ _ (to_side Right session number request machine reply events t) = refl
  delivery_refuses _ _ (to_coordinator side session number reply machine call t) = refl

  ticks_so : (new : World) → Ticks old new → IsStep Tick new
  ticks_so _ (ticks machine call g) = tells_nothing Tick (coordinator_goes old machine call) refl
      (ticks_follow plans old k h machine call g)

  pub step_follows : (step : Step) (new : World) → Steps old step new → IsStep step new
  step_follows (Edits side user edit) _ (side_does next events refusals so) =
      side_tells side (Edits side user edit) next events refusals
      (edits_so side user edit next events refusals so)
  step_follows (Start preference) _ (coordinator_does next call refusals so) =
      coordinator_tells (Start preference) next call refusals
      (asks_so preference next call refusals so)
  step_follows (Deliver message) new g =
      tells_nothing (Deliver message) new
      (delivery_refuses (slice_get old.sent message) new g)
      (delivers_so message (slice_get old.sent message) refl new g)
  step_follows Tick new g = ticks_so new g
  step_follows (Checkpoint machine) new g = machine_so machine one.Checkpoint new g
  step_follows (Fail machine call) new g = machine_so machine (one.Fail call) new g
  step_follows (Stop machine calls) new g = machine_so machine (one.Stop calls) new g
  step_follows (Open machine) new g = machine_so machine one.Open new g
  step_follows (Reopen machine) new g = machine_so machine one.Reopen new g

-- a whole run, with what its users are refused in it
pub record RunFollows (old : World) (steps : List Step) (new : World) : Type 0 where
  pub told : List Refusal
  pub refusals : new.refusals ≡ old.refusals ++ told
  pub follows : FollowsAll (picture_of old) steps told (picture_of new)
  pub heard : IfSome new.coordinator.running (IsHeard new)
  pub tells : AllTold old → AllTold new

pub runs_follow : (steps : List Step) (plans : Plans) (old new : World) → IsKept plans
    (picture_of old) →
    IfSome old.coordinator.running (IsHeard old) → Runs old steps new → RunFollows old steps new
runs_follow [] plans old new k h e = subst (RunFollows old []) (sym e) (record {
  told = [];
  refusals = sym (append-nil old.refusals);
  follows = nothing_more (picture_of old);
  heard = h;
  tells = λ told. told;
})
runs_follow (step ∷ steps) plans old new k h g =
    let s = step_follows plans old k h step g.0 g.1 in
    let f = s.followed in
    let a = step_advances plans (picture_of old) k (picture_of g.0) f.0 in
    let more = runs_follow steps a.later g.0 new a.kept f.1 g.2 in
    record {
      told = s.told ++ more.told;
      refusals = more.refusals ∙ (ap (λ told. told ++ more.told) s.refusals
          ∙ append_assoc old.refusals s.told more.told);
      follows = one_more (picture_of old) (picture_of g.0) (picture_of new) step steps s.told
          more.told f.0 more.follows;
      heard = more.heard;
      tells = λ told. more.tells
          (step_told old g.0 (grows (picture_of old) (picture_of g.0) f.0) f.2 told);
    }
