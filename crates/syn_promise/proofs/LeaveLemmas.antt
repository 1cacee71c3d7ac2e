-- What a machine was making after a step of the picture.
use Rattle.std.proofs.Common.{◌≡◌, ◌≢◌, ◌⊎◌, ◌∙◌, ◌+◌, ◌≤◌, ℕ, List, [], ◌∷◌, ◌++◌, map, Option}
use Rattle.std.proofs.Common.{Some}
use Rattle.std.proofs.Common.{None, refl, sym, ap, subst, inl, inr, append-nil, option_map, arith}
use Rattle.std.proofs.Common.{slice_get}
use Rattle.std.specs.Prelude.{All, Contains, IfSome}
use Rattle.std.proofs.lemmas.List.{append_cancel_left, map-append}
use Rattle.std.proofs.lemmas.List.Elements.{All-nil, All-cons, All-head, All-map, All-append}
use Rattle.std.proofs.lemmas.List.Elements.{All-weaker}
use Rattle.syn_model.specs.Refusal.{Refusal}
use Rattle.syn_model.specs.Event.{Edit, Event, Edited, Began}
use Rattle.syn_model.specs.History.{History, IsAllowed, event_refusal}
use Rattle.syn_model.specs.Archive.{Archive, Kept, Session, CanKeep, after_kept, archive_of}
use Rattle.syn_machine.specs.Machine.{Status, Up, Halted, Down}
use Rattle.syn_machine.specs.MachineSteps.{refused_by}
use Rattle.syn_machine.specs.Side.{Side, Served, Request, Reply}
use Rattle.syn_machine.specs.Network.{Which, Left, Right, Asks, Answers, Sent}
use Rattle.syn_runs.specs.World.{Machine, At, Coordinator, Step, Edits, Start, Deliver, Tick}
use Rattle.syn_runs.specs.Acknowledged.{Ack, Happened, Kept_by, history_of}
use Rattle.syn_machine.specs.Planning.{Planned, Log}
use Rattle.syn_runs.specs.Picture.{Picture, SidePicture, SessionPicture, CoordinatorPicture}
use Rattle.syn_runs.specs.Picture.{Follows, CoordinatorGoes, TakesRequest, side_of, set_side}
use Rattle.syn_runs.specs.Picture.{stores_of, IsNext, AllCanKeep, WouldAdd, IsDueAfter}
use Rattle.syn_runs.specs.Picture as picture
use Rattle.syn_runs.proofs.OutcomeLemmas.{Outcome, refuses, begins_again, begins, lists}
use Rattle.syn_runs.proofs.OutcomeLemmas.{lists_none, fetches, stages_first, stages_more}
use Rattle.syn_runs.proofs.OutcomeLemmas.{stages_again, done_again, replaces, outcome}
use Rattle.syn_runs.proofs.Invariant.{Plans, IsKept}
use Rattle.syn_machine.proofs.Heard.{sent_at}
use Rattle.syn_runs.proofs.KeptLemmas.{session_next, sessions_grow}
use Rattle.syn_promise.specs.Steps.{Condition, Started, IsAble, IsOfSession, Makes, AreOf, Leaves}
use Rattle.syn_promise.specs.Steps.{IsCut, stays, forgets, cut_off}
use Rattle.syn_promise.specs.Power.{Off}
use Rattle.std.proofs.Common.{zero, suc}
use Rattle.std.proofs.lemmas.Option.{none-some}
use Rattle.syn_runs.specs.World.{Open, Reopen}
use Rattle.syn_runs.proofs.Invariant.{IsHarmless, histories_of}
use Rattle.syn_promise.proofs.NumberLemmas.{AllStarted}

-- what a machine of the picture was making
abbrev pub making_of : Picture → Machine → Option Ack
making_of world (At side) =
    option_map (λ event. Happened side event) (side_of world side).writing
making_of world Coordinator = option_map (λ kept. Kept_by kept) world.coordinator.writing

-- What a session changes on a side

no_event : (started : List Started) (which : Which) (history events : History) →
    history ≡ history ++ events →
    All (IsOfSession started) (map (λ event. Happened which event) events)
no_event started which history events e =
    subst (λ es. All (IsOfSession started) (map (λ event. Happened which event) es))
    (append_cancel_left history [] events (append-nil history ∙ e)) (All-nil (IsOfSession started))

one_event : (started : List Started) (which : Which) (history events : History) (event : Event) →
    IsOfSession started (Happened which event) → history ++ event ∷ [] ≡ history ++ events →
    All (IsOfSession started) (map (λ event. Happened which event) events)
one_event started which history events event is e =
    subst (λ es. All (IsOfSession started) (map (λ event. Happened which event) es))
    (append_cancel_left history (event ∷ []) events e)
    (All-cons (IsOfSession started) (Happened which event) [] is (All-nil (IsOfSession started)))

pub served_so : (started : List Started) (which : Which) (side : Side) (session : ℕ)
    (request : Request) (served : Served) (events : History) →
    (preference : Option Which) × Contains started (session, preference) →
    Outcome side session request served → served.side.history ≡ side.history ++ events →
    All (IsOfSession started) (map (λ event. Happened which event) events)
served_so started which side session request _ events known (refuses _ reason _) e =
    no_event started which side.history events e
served_so started which side session request _ events known (begins_again pair last) e =
    no_event started which side.history events e
served_so started which side session request _ events known (begins pair allowed) e =
    one_event started which side.history events (Began session) known e
served_so started which side session request _ events known (lists path there) e =
    no_event started which side.history events e
served_so started which side session request _ events known (lists_none path none) e =
    no_event started which side.history events e
served_so started which side session request _ events known
    (fetches path since offset within quiet) e =
    no_event started which side.history events e
served_so started which side session request _ events known
    (stages_first item offset bytes at_first) e =
    no_event started which side.history events e
served_so started which side session request _ events known
    (stages_more item offset bytes staging is same at) e =
    no_event started which side.history events e
served_so started which side session request _ events known (stages_again item offset bytes) e =
    no_event started which side.history events e
served_so started which side session request _ events known (done_again item path since size is) e =
    no_event started which side.history events e
served_so started which side session request _ events known
    (replaces item path since size new reads staged long within quiet allowed) e =
    one_event started which side.history events _ tt e

-- and in the archive
pub due_so : (started : List Started) (running : Option SessionPicture) (plan : List Planned)
    (from : Which) (number : ℕ) (reply : Reply) (kept : Kept) →
    IsDueAfter running plan from number reply kept → IsOfSession started (Kept_by kept)
due_so started None plan from number reply kept due = absurd due
due_so started (Some running) plan from number reply _
    (picture.done item path since size planned is asked at onto) = tt
due_so started (Some running) plan from number reply _
    (picture.same item path planned at is agree) = tt
due_so started (Some running) plan from number reply _
    (picture.directory item path planned at is) = tt

pub all_due_so : (started : List Started) (running : Option SessionPicture) (plan : List Planned)
    (from : Which) (number : ℕ) (reply : Reply) (kept : List Kept) →
    All (IsDueAfter running plan from number reply) kept →
    All (IsOfSession started) (map Kept_by kept)
all_due_so started running plan from number reply kept due =
    All-map (IsOfSession started) Kept_by kept (All-weaker
    (IsDueAfter running plan from number reply) (λ kept. IsOfSession started (Kept_by kept))
    (due_so started running plan from number reply) kept due)

pub history_in : (world : Picture) (side : Which) →
    history_of (stores_of world) side ≡ (side_of world side).side.history
history_in world Left = refl
history_in world Right = refl

-- nothing was acknowledged
nothing_more : (acks more : List Ack) → acks ≡ acks ++ more → more ≡ []
nothing_more acks more e = sym (append_cancel_left acks [] more (append-nil acks ∙ e))

-- a start that was cut off kept nothing
start_cut : (old now : Archive) (kept : List Kept) (one : Kept) → All (IsNext old) kept →
    AllCanKeep old kept → now ≡ archive_of old kept → IsNext old one → CanKeep now one → kept ≡ []
start_cut old now [] one next can is last keep = refl
start_cut old now (first ∷ kept) one next can is last keep =
    let first_is : first ≡ Session (old.last_session + 1) =
    All-head (IsNext old) first kept next in
    let above : old.last_session + 1 ≡ now.last_session + 1 =
    session_next now (old.last_session + 1) (subst (CanKeep now) last keep) in
    let grown : (after_kept old first).last_session ≤ (archive_of old (first ∷ kept)).last_session =
    sessions_grow (after_kept old first) kept can.1 in
    let at : (after_kept old first).last_session ≡ old.last_session + 1 =
    ap (λ one. (after_kept old one).last_session) first_is in
    let now_is : now.last_session ≡ (archive_of old (first ∷ kept)).last_session =
    ap (λ a. a.last_session) is in
    absurd (omega (arith, above, grown, at, now_is))

-- a side's machine is set, and it sends and acknowledges
abbrev next : Picture → Which → SidePicture → Sent → List Ack → Picture
next old which machine sent acks =
    record (set_side old which machine) { sent = sent; acknowledged = acks }

next_here : (old : Picture) (which : Which) (machine : SidePicture) (sent : Sent)
    (acks : List Ack) → side_of (next old which machine sent acks) which ≡ machine
next_here old Left machine sent acks = refl
next_here old Right machine sent acks = refl

next_there : (old : Picture) (which : Which) (machine : SidePicture) (sent : Sent)
    (acks : List Ack) (other : Which) → which ≢ other →
    side_of (next old which machine sent acks) other ≡ side_of old other
next_there old Left machine sent acks Left apart = absurd (apart refl)
next_there old Left machine sent acks Right apart = refl
next_there old Right machine sent acks Left apart = refl
next_there old Right machine sent acks Right apart = absurd (apart refl)

next_archive : (old : Picture) (which : Which) (machine : SidePicture) (sent : Sent)
    (acks : List Ack) → (next old which machine sent acks).coordinator ≡ old.coordinator
next_archive old Left machine sent acks = refl
next_archive old Right machine sent acks = refl

next_sent : (old : Picture) (which : Which) (machine : SidePicture) (sent : Sent) →
    record (set_side old which machine) { sent = sent }
    ≡ next old which machine sent old.acknowledged
next_sent old Left machine sent = refl
next_sent old Right machine sent = refl

next_same : (old : Picture) (which : Which) (machine : SidePicture) →
    set_side old which machine ≡ next old which machine old.sent old.acknowledged
next_same old Left machine = refl
next_same old Right machine = refl

-- a coordinator that is not up makes nothing as it takes an answer
abbrev pub RecordsIfUp : Picture → Picture → Type 0
RecordsIfUp old new = (old.coordinator.status ≡ Up)
    ⊎ ((new.acknowledged ≡ old.acknowledged)
    × (new.coordinator.writing ≡ old.coordinator.writing))

abbrev pub StepRecordsIfUp : Picture → Picture → Step → Type 0
StepRecordsIfUp old new step = (message : ℕ) → step ≡ Deliver message → (from : Which)
    (session number : ℕ) (reply : Reply) →
    slice_get old.sent message ≡ Some (Answers from session number reply) → RecordsIfUp old new

left_right : Left ≢ Right
left_right e = cc

right_left : Right ≢ Left
right_left e = cc

module _ (plans : Plans) (old : Picture) (k : IsKept plans old) (started : List Started)
    (numbers : AllStarted started old) (was now : Machine → Condition)
    (was_is : (machine : Machine) → (was machine).making ≡ making_of old machine)
    (able : (machine : Machine) → picture.status_of old machine ≡ Up → IsAble (was machine))
    (new : Picture) (more : List Ack) (added : new.acknowledged ≡ old.acknowledged ++ more)
    (now_is : (machine : Machine) → (now machine).making ≡ making_of new machine)
    (off : (machine : Machine) → picture.status_of new machine ≡ Down →
    (now machine).power ≡ Off) where
  abbrev LeavesAt : Step → List Refusal → Machine → Type 0
  LeavesAt step told machine =
      Leaves (stores_of old) started machine step more told (was machine) (now machine)

  abbrev AllLeave : Step → List Refusal → Type 0
  AllLeave step told = (machine : Machine) → LeavesAt step told machine

  abbrev MakesMore : Step → Ack → Type 0
  MakesMore step ack = Makes (stores_of old) started step (more ++ ack ∷ [])

  still : (step : Step) (told : List Refusal) (machine : Machine) →
      making_of new machine ≡ making_of old machine → LeavesAt step told machine
  still step told machine same = stays (now_is machine ∙ (same ∙ sym (was_is machine)))

  gone : (step : Step) (told : List Refusal) (machine : Machine) →
      Contains (Open machine ∷ Reopen machine ∷ []) step → making_of new machine ≡ None →
      LeavesAt step told machine
  gone step told machine opens none = forgets opens (now_is machine ∙ none)

  -- a machine that is up was making nothing
  none_still : (step : Step) (told : List Refusal) (machine : Machine) →
      picture.status_of old machine ≡ Up → making_of new machine ≡ None →
      LeavesAt step told machine
  none_still step told machine up none =
      stays (now_is machine ∙ (none ∙ sym (able machine up).1))

  is_cut : (step : Step) (told : List Refusal) (machine : Machine) (ack : Ack) →
      picture.status_of old machine ≡ Up → making_of new machine ≡ Some ack →
      AreOf machine (more ++ ack ∷ []) → MakesMore step ack → IsCut step told (now machine).power →
      LeavesAt step told machine
  is_cut step told machine ack up is of makes why =
      cut_off ack (now_is machine ∙ is) (able machine up) of makes why

  opens_at : (step : Step) (machine : Machine) (status : Status) →
      picture.IsOpening machine status step → Contains (Open machine ∷ Reopen machine ∷ []) step
  opens_at _ machine status (picture.opening down) = (zero, omega arith, refl)
  opens_at _ machine status (picture.reopening up) = (suc zero, omega arith, refl)

  -- The sides

  -- they are making what they were making
  sides_still : (step : Step) (told : List Refusal) → new.left ≡ old.left →
      new.right ≡ old.right → LeavesAt step told Coordinator → AllLeave step told
  sides_still step told left right archive (At Left) = still step told (At Left)
      (ap (λ m. option_map (λ event. Happened Left event) m.writing) left)
  sides_still step told left right archive (At Right) = still step told (At Right)
      (ap (λ m. option_map (λ event. Happened Right event) m.writing) right)
  sides_still step told left right archive Coordinator = archive

  archive_still : (step : Step) (told : List Refusal) →
      new.coordinator.writing ≡ old.coordinator.writing → LeavesAt step told Coordinator
  archive_still step told same =
      still step told Coordinator (ap (option_map (λ kept. Kept_by kept)) same)

  side_set : (step : Step) (told : List Refusal) (which : Which) (machine : SidePicture)
      (sent : Sent) (acks : List Ack) → new ≡ next old which machine sent acks →
      LeavesAt step told (At which) → AllLeave step told
  side_set step told Left machine sent acks e at (At Left) = at
  side_set step told Left machine sent acks e at (At Right) =
      still step told (At Right) (ap (λ m. option_map (λ event. Happened Right event) m.writing)
      (ap (λ w. side_of w Right) e ∙ next_there old Left machine sent acks Right left_right))
  side_set step told Left machine sent acks e at Coordinator =
      archive_still step told (ap (λ w. w.coordinator.writing) e)
  side_set step told Right machine sent acks e at (At Left) =
      still step told (At Left) (ap (λ m. option_map (λ event. Happened Left event) m.writing)
      (ap (λ w. side_of w Left) e ∙ next_there old Right machine sent acks Left right_left))
  side_set step told Right machine sent acks e at (At Right) = at
  side_set step told Right machine sent acks e at Coordinator =
      archive_still step told (ap (λ w. w.coordinator.writing) e)

  writing_is : (which : Which) (machine : SidePicture) (sent : Sent) (acks : List Ack) →
      new ≡ next old which machine sent acks → making_of new (At which)
      ≡ option_map (λ event. Happened which event) machine.writing
  writing_is which machine sent acks e =
      ap (λ m. option_map (λ event. Happened which event) m.writing)
      (ap (λ w. side_of w which) e ∙ next_here old which machine sent acks)

  -- a side is making what it was
  side_still : (step : Step) (told : List Refusal) (which : Which) (machine : SidePicture)
      (sent : Sent) (acks : List Ack) → new ≡ next old which machine sent acks →
      machine.writing ≡ (side_of old which).writing → AllLeave step told
  side_still step told which machine sent acks e same =
      side_set step told which machine sent acks e (still step told (At which)
      (writing_is which machine sent acks e
      ∙ ap (option_map (λ event. Happened which event)) same))

  side_gone : (step : Step) (told : List Refusal) (which : Which) (machine : SidePicture)
      (sent : Sent) (acks : List Ack) → new ≡ next old which machine sent acks →
      Contains (Open (At which) ∷ Reopen (At which) ∷ []) step →
      machine.writing ≡ None → AllLeave step told
  side_gone step told which machine sent acks e opens none =
      side_set step told which machine sent acks e (gone step told (At which) opens
      (writing_is which machine sent acks e
      ∙ ap (option_map (λ event. Happened which event)) none))

  -- it was cut off, or its device failed
  side_cut : (step : Step) (told : List Refusal) (which : Which) (machine : SidePicture)
      (sent : Sent) (acks : List Ack) (event : Event) → new ≡ next old which machine sent acks →
      machine.writing ≡ Some event → more ≡ [] → (side_of old which).status ≡ Up →
      Makes (stores_of old) started step (Happened which event ∷ []) →
      IsCut step told (now (At which)).power → AllLeave step told
  side_cut step told which machine sent acks event e is none up makes why =
      side_set step told which machine sent acks e
      (is_cut step told (At which) (Happened which event) up
      (writing_is which machine sent acks e
      ∙ ap (option_map (λ event. Happened which event)) is)
      (event, ap (λ acks. acks ++ Happened which event ∷ []) none)
      (subst (λ acks. Makes (stores_of old) started step (acks ++ Happened which event ∷ []))
      (sym none) makes) why)

  -- a side that stops is off
  side_off : (which : Which) (machine : SidePicture) (sent : Sent) (acks : List Ack) →
      new ≡ next old which machine sent acks → machine.status ≡ Down →
      (now (At which)).power ≡ Off
  side_off which machine sent acks e down = off (At which)
      (ap (λ w. (side_of w which).status) e
      ∙ (ap (λ m. m.status) (next_here old which machine sent acks) ∙ down))

  none_added : new.acknowledged ≡ old.acknowledged → more ≡ []
  none_added same = nothing_more old.acknowledged more (sym same ∙ added)

  none_next : (which : Which) (machine : SidePicture) (sent : Sent) →
      new ≡ next old which machine sent old.acknowledged → more ≡ []
  none_next which machine sent e = none_added (ap (λ w. w.acknowledged) e)

  edit_made : (which : Which) (user : ℕ) (edit : Edit) →
      IsAllowed (side_of old which).side.history (Edited user edit) →
      Makes (stores_of old) started (Edits which user edit) (Happened which (Edited user edit) ∷ [])
  edit_made which user edit allowed = (
    refl,
    subst (λ h. event_refusal h (Edited user edit) ≡ None) (sym (history_in old which))
        allowed.not_refused,
  )

  edit_leaves : (which : Which) (user : ℕ) (edit : Edit) (machine : SidePicture)
      (events : List Event) → IsAllowed (side_of old which).side.history (Edited user edit) →
      (side_of old which).status ≡ Up →
      picture.Writes (side_of old which) (Edited user edit) machine events →
      new ≡ next old which machine (old.sent ++ [])
      (old.acknowledged ++ map (λ event. Happened which event) events) →
      AllLeave (Edits which user edit) (refused_by machine.status)
  edit_leaves which user edit _ _ allowed up picture.written e =
      side_still (Edits which user edit) _ which _ _ _ e refl
  edit_leaves which user edit _ _ allowed up picture.failed e =
      side_cut (Edits which user edit) (refused_by Halted) which _ _ _ (Edited user edit) e refl
      (none_added (ap (λ w. w.acknowledged) e ∙ append-nil old.acknowledged)) up
      (edit_made which user edit allowed) (inr refl)
  edit_leaves which user edit _ _ allowed up picture.cut e =
      side_cut (Edits which user edit) (refused_by Down) which _ _ _ (Edited user edit) e refl
      (none_added (ap (λ w. w.acknowledged) e ∙ append-nil old.acknowledged)) up
      (edit_made which user edit allowed)
      (inl (side_off which _ _ _ e refl, refl))

  opens_leave : (step : Step) (which : Which) (machine : SidePicture) (events : List Event) →
      Contains (Open (At which) ∷ Reopen (At which) ∷ []) step →
      picture.Opens (side_of old which) machine events →
      new ≡ next old which machine (old.sent ++ [])
      (old.acknowledged ++ map (λ event. Happened which event) events) → AllLeave step []
  opens_leave step which _ _ by picture.opened e = side_gone step [] which _ _ _ e by refl
  opens_leave step which _ _ by (picture.recovered event writing allowed) e =
      side_gone step [] which _ _ _ e by refl

  -- what a side would add for a request is of its session
  would_make : (message : ℕ) (which : Which) (session number : ℕ) (request : Request)
      (event : Event) → Contains old.sent (Asks which session number request) →
      WouldAdd old.pair (side_of old which) session request event →
      Makes (stores_of old) started (Deliver message) (Happened which event ∷ [])
  would_make message which session number request event asked would =
      served_so started which (side_of old which).side session request would.served (event ∷ [])
      (numbers.asked which session number request asked)
      (outcome old.pair would.has_room (side_of old which).side session request would.served
      (k.sound.asked which session number request asked).lawful would.serves) would.adds

  request_leaves : (message : ℕ) (which : Which) (session number : ℕ) (request : Request) →
      Contains old.sent (Asks which session number request) →
      TakesRequest old which session number request new → AllLeave (Deliver message) []
  request_leaves message which session number request asked (picture.answered a) =
      side_still (Deliver message) [] which _ _ _ a.result refl
  request_leaves message which session number request asked
      (picture.request_failed event would e) =
      let is = e ∙ next_sent old which _ _ in
      side_cut (Deliver message) [] which _ _ _ event is refl (none_next which _ _ is) would.up
      (would_make message which session number request event asked would) refl
  request_leaves message which session number request asked (picture.request_cut event would e) =
      let is = e ∙ next_same old which _ in
      side_cut (Deliver message) [] which _ _ _ event is refl (none_next which _ _ is) would.up
      (would_make message which session number request event asked would) refl

  -- The coordinator

  kept_are : {logged : Log} {D : Kept → Type 0} {R : Option SessionPicture → Type 0}
      (g : CoordinatorGoes old logged D R new) → map Kept_by g.kept ≡ more
  kept_are g = append_cancel_left old.acknowledged (map Kept_by g.kept) more
      (sym (ap (λ w. w.acknowledged) g.result) ∙ added)

  start_is_cut : (preference : Option Which) (status : Status) →
      new.coordinator.status ≡ status → (status ≢ Up) →
      IsCut (Start preference) (refused_by status) (now Coordinator).power
  start_is_cut preference Up is broken = absurd (broken refl)
  start_is_cut preference Halted is broken = inr refl
  start_is_cut preference Down is broken = inl (off Coordinator is, refl)

  starts_leave : (preference : Option Which) (R : Option SessionPicture → Type 0) →
      old.coordinator.status ≡ Up → (g : CoordinatorGoes old [] (IsNext old.coordinator.archive)
      R new) → (writing : Option Kept) → g.machine.writing ≡ writing →
      IfSome writing (λ one. IsNext old.coordinator.archive one × CanKeep g.machine.archive one) →
      LeavesAt (Start preference) (refused_by new.coordinator.status) Coordinator
  starts_leave preference R up g None is next =
      none_still (Start preference) _ Coordinator up (ap (λ w. making_of w Coordinator) g.result
      ∙ ap (option_map (λ kept. Kept_by kept)) is)
  starts_leave preference R up g (Some one) is next =
      let none : more ≡ [] = sym (kept_are g) ∙ ap (map Kept_by) (start_cut old.coordinator.archive
      g.machine.archive g.kept one g.keeps.due g.keeps.can g.keeps.archive next.0 next.1) in
      is_cut (Start preference) _ Coordinator (Kept_by one) up
      (ap (λ w. making_of w Coordinator) g.result ∙ ap (option_map (λ kept. Kept_by kept)) is)
      (one ∷ [], ap (λ acks. acks ++ Kept_by one ∷ []) none)
      (ap (λ acks. acks ++ Kept_by one ∷ []) none ∙ ap (λ kept. Kept_by kept ∷ []) next.0)
      (start_is_cut preference new.coordinator.status refl (λ up. none-some one
      (sym (g.unless_up (sym (ap (λ w. w.coordinator.status) g.result) ∙ up)) ∙ is)))

  -- nothing is being recorded while a session runs
  none_runs : (running : SessionPicture) → old.coordinator.running ≡ Some running →
      old.coordinator.writing ≡ None
  none_runs running is = by old.coordinator.writing k.coordinator.writing
    where
      by : (writing : Option Kept) → IfSome writing (λ kept. (old.coordinator.status ≢ Up)
          × (old.coordinator.running ≡ None) × CanKeep old.coordinator.archive kept
          × IsHarmless plans (histories_of old) kept) → writing ≡ None
      by None none = refl
      by (Some kept) some = absurd (none-some _ (sym some.1 ∙ is))

  ticks_leave : old.coordinator.writing ≡ None → (R : Option SessionPicture → Type 0)
      (g : CoordinatorGoes old [] picture.IsNothing R new) → (writing : Option Kept) →
      g.machine.writing ≡ writing →
      IfSome writing (λ one. picture.IsNothing one × CanKeep g.machine.archive one) →
      LeavesAt Tick [] Coordinator
  ticks_leave nothing R g None is none =
      archive_still Tick [] (ap (λ w. w.coordinator.writing) g.result ∙ (is ∙ sym nothing))
  ticks_leave nothing R g (Some one) is none = absurd none.0

  answer_leaves : (message : ℕ) (from : Which) (number : ℕ) (reply : Reply) (plan : List Planned)
      (logged : Log) (R : Option SessionPicture → Type 0) →
      (g : CoordinatorGoes old logged (IsDueAfter old.coordinator.running plan from number reply)
      R new) → RecordsIfUp old new →
      (writing : Option Kept) → g.machine.writing ≡ writing → IfSome writing
      (λ one. IsDueAfter old.coordinator.running plan from number reply one
      × CanKeep g.machine.archive one) → LeavesAt (Deliver message) [] Coordinator
  answer_leaves message from number reply plan logged R g (inr (acks, same)) writing is due =
      archive_still (Deliver message) [] same
  answer_leaves message from number reply plan logged R g (inl up) None is due =
      none_still (Deliver message) [] Coordinator up (ap (λ w. making_of w Coordinator) g.result
      ∙ ap (option_map (λ kept. Kept_by kept)) is)
  answer_leaves message from number reply plan logged R g (inl up) (Some one) is due =
      let all = All-append (IsOfSession started) (map Kept_by g.kept) (Kept_by one ∷ [])
      (all_due_so started old.coordinator.running plan from number reply g.kept g.keeps.due)
      (All-cons (IsOfSession started) (Kept_by one) []
      (due_so started old.coordinator.running plan from number reply one due.0)
      (All-nil (IsOfSession started))) in
      is_cut (Deliver message) [] Coordinator (Kept_by one) up
      (ap (λ w. making_of w Coordinator) g.result ∙ ap (option_map (λ kept. Kept_by kept)) is) (
        g.kept ++ one ∷ [],
        ap (λ acks. acks ++ Kept_by one ∷ []) (sym (kept_are g))
            ∙ sym (map-append Kept_by g.kept (one ∷ [])),
      )
      (subst (λ acks. All (IsOfSession started) (acks ++ Kept_by one ∷ [])) (kept_are g) all) refl

  goes_left : {logged : Log} {D : Kept → Type 0} {R : Option SessionPicture → Type 0} →
      CoordinatorGoes old logged D R new → new.left ≡ old.left
  goes_left g = ap (λ w. w.left) g.result

  goes_right : {logged : Log} {D : Kept → Type 0} {R : Option SessionPicture → Type 0} →
      CoordinatorGoes old logged D R new → new.right ≡ old.right
  goes_right g = ap (λ w. w.right) g.result

  pub leaves : {step : Step} {told : List Refusal} → StepRecordsIfUp old new step →
      Follows old new step told → AllLeave step told
  leaves if_up (picture.same step told idle e) =
      sides_still step told (ap (λ w. w.left) e) (ap (λ w. w.right) e)
      (archive_still step told (ap (λ w. w.coordinator.writing) e))
  leaves if_up (picture.edits which user edit machine events allowed up w e) =
      edit_leaves which user edit machine events allowed up w e
  leaves if_up (picture.opens which step machine events by opens e) =
      opens_leave step which machine events
      (opens_at step (At which) (side_of old which).status by) opens e
  leaves if_up (picture.changes which step status told settles e) =
      side_still step told which _ _ _ (e ∙ next_same old which _) refl
  leaves if_up (picture.serves message which session number request at takes) =
      request_leaves message which session number request (sent_at old.sent message _ at) takes
  leaves if_up (picture.starts_session preference up none g some reports) =
      sides_still (Start preference) _ (goes_left g) (goes_right g)
      (starts_leave preference _ up g g.machine.writing refl g.keeps.writing)
  leaves if_up (picture.ticks_once running is g reports status again) =
      sides_still Tick [] (goes_left g) (goes_right g)
      (ticks_leave (none_runs running is) _ g g.machine.writing refl g.keeps.writing)
  leaves if_up
      (picture.takes_answer message from session number reply plan logged at expected made g reports
      heard) =
      sides_still (Deliver message) [] (goes_left g) (goes_right g)
      (answer_leaves message from number reply plan logged _ g
      (if_up message refl from session number reply at) g.machine.writing refl g.keeps.writing)
  leaves if_up (picture.archive_changes step status told settles e) =
      sides_still step told (ap (λ w. w.left) e) (ap (λ w. w.right) e)
      (archive_still step told (ap (λ w. w.coordinator.writing) e))
  leaves if_up (picture.archive_opens step by e) =
      sides_still step [] (ap (λ w. w.left) e) (ap (λ w. w.right) e)
      (gone step [] Coordinator (opens_at step Coordinator old.coordinator.status by)
      (ap (λ w. making_of w Coordinator) e))
  leaves if_up (picture.archive_recovers step kept by writing can e) =
      sides_still step [] (ap (λ w. w.left) e) (ap (λ w. w.right) e)
      (gone step [] Coordinator (opens_at step Coordinator old.coordinator.status by)
      (ap (λ w. making_of w Coordinator) e))
