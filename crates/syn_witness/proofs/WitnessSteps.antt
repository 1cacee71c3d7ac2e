-- Steps of a witness run, built from what each is about: where no device fails and no machine
-- stops.
use Rattle.std.specs.List.{AllByRecursion}
use Rattle.std.specs.FinMap.{get, len}
use Rattle.std.proofs.Common.{fold, filter_map, ◌≤◌, ◌^◌, ◌||◌, not, nat_le, true≢false, ◌-◌, ◌≡◌}
use Rattle.std.proofs.Common.{◌≢◌, ℕ, true, List, [], ◌∷◌, ◌++◌, take, length, if◌then◌else◌, refl}
use Rattle.std.proofs.Common.{sym, ap, ◌∙◌, subst, Option, Some, None, arith, inl, ◌+◌, false}
use Rattle.std.proofs.Common.{slice_get, append-nil}
use Rattle.std.proofs.lemmas.List.Elements.{All-from_recursion}
use Rattle.syn_model.specs.Path.{Path, root}
use Rattle.syn_model.specs.Tree.{Tree, Content, Directory, File, is_directory}
use Rattle.syn_model.specs.Limits.{children}
use Rattle.syn_model.specs.Mark.{mark}
use Rattle.syn_model.specs.Event.{Edit, Event, Edited}
use Rattle.syn_model.specs.History.{History, tree_of, IsAllowed, event_causes}
use Rattle.syn_model.specs.Archive.{Archive, Kept, Session, CanKeep}
use Rattle.syn_model.specs.Spelling.{content_spelling, spelling_within, event_spelling}
use Rattle.syn_model.specs.MarkSpelling.{kept_spelling}
use Rattle.syn_model.specs.Refusal.{first_cause, JournalFull}
use Rattle.syn_model.specs.Contents.{Contents, contents_spelling}
use Rattle.syn_model.proofs.HistoryLemmas.{append-none}
use Rattle.syn_machine.specs.Machine.{Up, Journaled, unarmed, after_calls, Meets, all_made}
use Rattle.syn_machine.specs.Machine.{record_size, with_record, Writes, written}
use Rattle.syn_machine.specs.Side.{room_causes, Side, Request, Begin, Reply, Listed, NotDir, Reads}
use Rattle.syn_machine.specs.Side.{answer, serve, list_at, staged_bytes, IsLawfulRequest}
use Rattle.syn_machine.specs.SideMachine.{SideMachine, side_layout, side_now, with_journal}
use Rattle.syn_machine.specs.SideMachine.{has_room_for, causes_of, said, ServesAs, answers, adds}
use Rattle.syn_machine.specs.SideMachine.{edits}
use Rattle.syn_machine.specs.MachineSteps.{causes_at, refused_by, is_done, makes}
use Rattle.syn_machine.specs.Network.{Which, Left, Right, Asks, Answers, Sent}
use Rattle.syn_runs.specs.Acknowledged.{Ack, kept_in}
use Rattle.syn_machine.specs.Planning.{Planned, Log}
use Rattle.syn_machine.specs.Coordinator.{Exchange, Outstanding, Running, CoordinatorMachine, Call}
use Rattle.syn_machine.specs.Coordinator.{no_call, Walk, MayAsk, AsksNext, HasPlan, IsDue, Keeps}
use Rattle.syn_machine.specs.Coordinator.{writes, Advances, stands, keeps, past, settled}
use Rattle.syn_machine.specs.Coordinator.{is_recorded, archive_layout, asked_of, asked_count}
use Rattle.syn_machine.specs.Coordinator.{asking, hearing, advanced, start_of, sent_now, fault_of}
use Rattle.syn_machine.specs.Coordinator.{is_last, report_of, new_session, begins, start_causes}
use Rattle.syn_machine.specs.Coordinator.{takes, ends, goes_on, starts as session_starts}
use Rattle.syn_runs.specs.World.{World, Step, Edits, Start, Steps, Runs, side_of, side_goes}
use Rattle.syn_runs.specs.World.{side_does, coordinator_goes, coordinator_does, says}
use Rattle.syn_runs.specs.World.{refuses_with, Delivers, to_side, to_coordinator}
use Rattle.syn_runs.proofs.View.{up_not_down}
use Rattle.syn_witness.specs.Witness.{new_room, new_journal}
use Rattle.syn_witness.proofs.WitnessMessages.{AreNumbered, asks_once}

-- Machines that are up, with nothing armed

abbrev pub room_after : ℕ → List Event → ℕ
room_after room events = fold (λ room event. room - record_size (event_spelling event)) room events

-- what is left of a formatted journal after these events
abbrev pub room_of : History → ℕ
room_of history = room_after new_room history

-- what is left of an archive's room after these records
abbrev pub archive_left : ℕ → List Kept → ℕ
archive_left room kept = fold (λ room kept. room - record_size (kept_spelling kept)) room kept

abbrev pub machine_of : Side → SideMachine
machine_of side =
    record { journal = new_journal side.history (room_of side.history); staging = side.staging }

pub meets_unarmed : (calls : ℕ) → Meets unarmed calls Up (after_calls calls unarmed) 0
meets_unarmed calls = all_made (inl refl) (inl refl)

-- no spelling is empty
not_nil : {X : Type 0} (x : X) (xs : List X) → x ∷ xs ≢ []
not_nil x xs e = let h = ap length e in omega (arith, h)

some_spelling : (file : Contents → List ℕ) (spell : Tree → List ℕ) (tree : Tree)
    (content : Option Content) → content_spelling file spell tree content ≢ []
some_spelling file spell tree None = not_nil 0 []
some_spelling file spell tree (Some (File contents)) = not_nil 1 _
some_spelling file spell tree (Some Directory) = not_nil 2 _

pub reads_nothing : Reads [] None
unfolding spelling_within
reads_nothing tree part fits paths =
    some_spelling contents_spelling (spelling_within contents_spelling (len tree)) tree
    (get tree root)

-- Steps of a side

-- a side answers, and adds nothing
pub says_so : (old : World) (which : Which) (session number : ℕ) (request : Request)
    (read : Option Tree) (side : Side) (reply : Reply) → (side_of old which).journal.status ≡ Up →
    Reads (staged_bytes (side_of old which).staging) read →
    answer side reply ≡ serve old.pair (has_room_for old.pair (side_of old which)) read
    (side_now (side_of old which)) session request →
    side.history ≡ (side_of old which).journal.value →
    Delivers old (Some (Asks which session number request)) (side_goes old which (record
    (side_of old which) { staging = side.staging }) (Answers which session number reply ∷ []) [])
says_so old which session number request read side reply up reads is same =
    to_side which session number request (record (side_of old which) { staging = side.staging })
    (Some reply) []
    (answers (answer side reply) (subst (λ status. ServesAs status old.pair (has_room_for old.pair
    (side_of old which)) (side_now (side_of old which)) session request (answer side reply))
    (sym up) (inl (read, inl reads, is))) same)

-- a side that is up answers, and adds an event
abbrev pub with_event : World → Which → Event → SideMachine
with_event old which event =
    with_journal (side_of old which)
    (with_record (side_layout old.pair) (side_of old which).journal event unarmed)

pub adds_so : (old : World) (which : Which) (session number : ℕ) (request : Request)
    (read : Option Tree) (side : Side) (reply : Reply) (event : Event) →
    (side_of old which).journal.status ≡ Up → (side_of old which).journal.arms ≡ unarmed →
    Reads (staged_bytes (side_of old which).staging) read →
    answer side reply ≡ serve old.pair (has_room_for old.pair (side_of old which)) read
    (side_now (side_of old which)) session request →
    side.history ≡ (side_of old which).journal.value ++ event ∷ [] → Delivers old
    (Some (Asks which session number request)) (side_goes old which (with_event old which event)
    (says which session number (said (side_of old which).journal.status reply)) (event ∷ []))
adds_so old which session number request read side reply event up arms reads is more =
    to_side which session number request (with_event old which event)
    (said (side_of old which).journal.status reply) (event ∷ [])
    (adds (answer side reply) event (with_record (side_layout old.pair)
    (side_of old which).journal event unarmed) (event ∷ []) up (inl (read, inl reads, is)) more
    (written unarmed refl (subst (λ arms. Meets arms 4 Up unarmed 0) (sym arms) (meets_unarmed 4))))

-- a listing of a directory
pub lists : (side : Side) (path : Path) → is_directory (tree_of side.history) path ≡ true →
    answer side (Listed (length side.history) (children (mark (tree_of side.history)) path))
    ≡ list_at side path
lists side path h =
    sym (ap (λ b. answer side (if b then Listed (length side.history)
    (children (mark (tree_of side.history)) path) else NotDir (length side.history))) h)

-- an edit that is allowed on a side that is up and has room for it
pub edits_so : (old : World) (which : Which) (user : ℕ) (edit : Edit)
    (journal : Journaled History Event) (events : List Event) (new : World) →
    (side_of old which).journal.status ≡ Up →
    has_room_for old.pair (side_of old which) (Edited user edit) ≡ true →
    IsAllowed (side_of old which).journal.value (Edited user edit) →
    Writes (side_layout old.pair) (side_of old which).journal (Edited user edit) journal events →
    new ≡ refuses_with (side_goes old which (with_journal (side_of old which) journal) [] events)
    (refused_by journal.status) →
    Steps old (Edits which user edit) new
edits_so old which user edit journal events new up room allowed written_so says =
    let here = side_of old which in
    let event = Edited user edit in
    let fits : first_cause (room_causes (has_room_for old.pair here) event) ≡ None =
    ap (λ b. first_cause ((not b, JournalFull) ∷ [])) room in
    let none : first_cause (causes_of old.pair here event) ≡ None =
    append-none (event_causes here.journal.value event)
    (room_causes (has_room_for old.pair here) event) allowed.not_refused fits in
    let next = with_journal here journal in
    let refusals = refused_by journal.status in
    subst (Steps old (Edits which user edit)) (sym says)
    (side_does next events refusals (is_done next events refusals (λ e. up_not_down (sym up ∙ e))
    (makes next events
    (ap (λ status. first_cause (causes_at status (causes_of old.pair here event))) up ∙ none)
    (edits journal events allowed.lawful written_so))))

-- Steps of the coordinator

-- a request that waits
abbrev pub waits : ℕ → Request → List Outstanding
waits number request = record { number = number; request = request; resent = 0 } ∷ []

abbrev pub took : Which → ℕ → Request → Reply → Exchange
took side number request reply =
    record { side = side; number = number; request = request; reply = reply }

-- the first session, before it has settled an item
abbrev pub runs_with : Option Which → List Exchange → List Outstanding → List Outstanding →
    Option (List Planned) → Running
runs_with preference taken left right plan = record {
  session = 1;
  preference = preference;
  taken = taken;
  left = left;
  right = right;
  plan = plan;
  cursor = 0;
  kept = [];
  refused = [];
}

-- a world without failures, whose archive began with this room, where so many of the messages have
-- been sent, so much of the rest acknowledged, and a plan logged after so many messages
abbrev pub world_of : ℕ → Sent → List Ack → Log → ℕ → Side → Side → Archive → Option Running → ℕ →
    ℕ → World
world_of room messages acks log made_at left right archive running said acknowledged = record {
  pair = 7;
  left = machine_of left;
  right = machine_of right;
  coordinator =
      record {
        journal = new_journal archive (archive_left room
            (filter_map kept_in (take acknowledged acks)));
        running = running;
      };
  sent = take said messages;
  acknowledged = take acknowledged acks;
  refusals = [];
  reports = [];
  log = take (said - made_at) log;
}

-- the start of a session
pub starts_so : (old : World) (preference : Option Which) (session : ℕ) →
    old.coordinator.journal.status ≡ Up → old.coordinator.journal.arms ≡ unarmed →
    first_cause (start_causes old.pair old.coordinator) ≡ None →
    session ≡ old.coordinator.journal.value.last_session + 1 →
    IsLawfulRequest session (Begin old.pair) → (new : World) → new ≡ coordinator_goes old (record {
      journal = with_record (archive_layout old.pair) old.coordinator.journal (Session session)
          unarmed;
      running = Some (asking (new_session preference session) (begins old.pair) (begins old.pair));
    })
    (record no_call {
      kept = Session session ∷ [];
      messages =
          sent_now (new_session preference session) (begins old.pair) (begins old.pair);
    }) → Steps old (Start preference) new
starts_so old preference session up arms none next lawful new is =
    let journal = with_record (archive_layout old.pair) old.coordinator.journal
    (Session session) unarmed in
    let machine : CoordinatorMachine = record {
      journal = journal;
      running = Some (asking (new_session preference session) (begins old.pair) (begins old.pair));
    } in
    let call : Call = record no_call {
      kept = Session session ∷ [];
      messages = sent_now (new_session preference session) (begins old.pair) (begins old.pair);
    } in
    let keeps : Keeps old.pair old.coordinator.journal (Session session) journal
    (Session session ∷ []) =
    writes journal (Session session ∷ []) (written unarmed refl
    (subst (λ arms. Meets arms 4 Up unarmed 0) (sym arms) (meets_unarmed 4))) in
    let refusals = refused_by old.coordinator.journal.status in
    let same : refuses_with (coordinator_goes old machine call) refusals
    ≡ coordinator_goes old machine call =
    ap (λ refusals. record (coordinator_goes old machine call) { refusals = refusals })
    (ap (λ status. old.refusals ++ refused_by status) up ∙ append-nil old.refusals) in
    subst (Steps old (Start preference)) (same ∙ sym is)
    (coordinator_does machine call refusals (is_done machine call refusals
    (λ e. up_not_down (sym up ∙ e)) (makes machine call
    (ap (λ status. first_cause (causes_at status (start_causes old.pair old.coordinator))) up
    ∙ none) (session_starts session journal next lawful keeps up))))

-- what is asked for next, where one request waits on a side at most
pub asks_so : (archive : Archive) (running : Running)
    (left right : List Request) → AllByRecursion (MayAsk archive running Left) left →
    AllByRecursion (MayAsk archive running Right) right →
    AllByRecursion (IsLawfulRequest running.session) (left ++ right) →
    (asked_count (asking running left right) Left ≤ 2 ^ 32) →
    (asked_count (asking running left right) Right ≤ 2 ^ 32) →
    AreNumbered (asking running left right) →
    (1 ≤ length (asking running left right).left + length (asking running left right).right)
    × (length (asking running left right).left ≤ 1)
    × (length (asking running left right).right ≤ 1) → AsksNext archive running left right
asks_so archive running left right may_left may_right lawful few few' numbered waits =
    record {
      may_left = All-from_recursion (MayAsk archive running Left) left may_left;
      may_right = All-from_recursion (MayAsk archive running Right) right may_right;
      lawful = All-from_recursion (IsLawfulRequest running.session) (left ++ right) lawful;
      numbers =
          λ side. elim side as (λ side. asked_count (asking running left right) side ≤ 2 ^ 32)
          [ Left ↦ few | Right ↦ few' ];
      once = asks_once (asking running left right) numbered;
      waits = (waits.0, inl waits.1, inl waits.2);
    }

-- the session goes on as an answer is taken that settles no item
pub asks_on_so : (old : World) (running : Running) (from : Which) (number : ℕ) (request : Request)
    (reply : Reply) (plan : Option (List Planned)) (logged : Log) (left right : List Request) →
    old.coordinator.running ≡ Some running →
    asked_of running from number ≡ Some request → fault_of running.taken from request reply ≡ None →
    HasPlan old.coordinator.journal.value (hearing running (took from number request reply)) plan
    logged → is_last reply ≡ false → let walk = start_of old.coordinator running in
    let next = advanced (hearing running (took from number request reply)) plan walk [] in
    AsksNext old.coordinator.journal.value next left right →
    Delivers old (Some (Answers from running.session number reply))
    (coordinator_goes old (record {
      journal = old.coordinator.journal;
      running = Some (asking next left right);
    })
    (record {
      kept = [];
      messages = sent_now next left right;
      reports = [];
      logged = logged;
    }))
asks_on_so old running from number request reply plan logged left right runs asked fault has
    not_last asks =
    let walk = start_of old.coordinator running in
    to_coordinator from running.session number reply _ _
    (takes running request _ _ (record { runs = runs; of_session = refl; asked = asked })
    (goes_on plan logged walk [] left right fault has (stands walk) refl refl
    (λ last. absurd (true≢false (sym last ∙ not_last))) asks))

-- or it ends, with each item settled
pub ends_so : (old : World) (running : Running) (from : Which) (number : ℕ) (request : Request)
    (reply : Reply) (plan : List Planned) (logged : Log) (walk : Walk) (kept : List Kept) →
    old.coordinator.running ≡ Some running → asked_of running from number ≡ Some request →
    fault_of running.taken from request reply ≡ None → HasPlan old.coordinator.journal.value
    (hearing running (took from number request reply)) (Some plan) logged → Advances old.pair plan
    (took from number request reply) (start_of old.coordinator running) kept walk →
    slice_get plan walk.cursor ≡ None → walk.journal.status ≡ old.coordinator.journal.status →
    Delivers old (Some (Answers from running.session number reply))
    (coordinator_goes old (record { journal = walk.journal; running = None })
    (record {
      kept = kept;
      messages = [];
      reports = report_of (advanced (hearing running
          (took from number request reply)) (Some plan) walk kept) None ∷ [];
      logged = logged;
    }))
ends_so old running from number request reply plan logged walk kept runs asked fault has advances
    over stays =
    to_coordinator from running.session number reply _ _
    (takes running request _ _ (record { runs = runs; of_session = refl; asked = asked })
    (ends (Some plan) logged walk kept None fault has advances (settled refl over stays)))

-- a record that is due is kept, where the archive is up and has room for it
abbrev pub recorded : ℕ → Walk → Kept → Walk
recorded pair walk what = past walk (with_record (archive_layout pair) walk.journal what unarmed)

pub keeps_so : (pair : ℕ) (plan : List Planned) (taken : Exchange) (walk : Walk) (what : Kept)
    (planned : Planned) → slice_get plan walk.cursor ≡ Some planned →
    IsDue walk.cursor planned taken what → CanKeep walk.journal.value what →
    walk.journal.status ≡ Up → walk.journal.arms ≡ unarmed →
    is_recorded walk.journal.value what ≡ false →
    nat_le (record_size (kept_spelling what)) walk.journal.room ≡ true →
    Advances pair plan taken walk (what ∷ []) (recorded pair walk what)
keeps_so pair plan taken walk what planned at due can up arms new room =
    keeps walk (recorded pair walk what) what
    [] (with_record (archive_layout pair) walk.journal what unarmed)
    (record { planned = planned; at = at; due = due; can = can; up = up })
    (ap (λ b. b || nat_le (record_size (kept_spelling what)) walk.journal.room) new ∙ room)
    (writes (with_record (archive_layout pair) walk.journal what unarmed) (what ∷ []) (written
    unarmed new (subst (λ arms. Meets arms 4 Up unarmed 0) (sym arms) (meets_unarmed 4)))) up
    (stands (recorded pair walk what))

-- one run after another
pub runs_on_from : (old between new : World) (steps more : List Step) → Runs old steps between →
    Runs between more new → Runs old (steps ++ more) new
runs_on_from old between new [] more h k = subst (λ w. Runs w more new) h k
runs_on_from old between new (step ∷ steps) more h k =
    (h.0, h.1, runs_on_from h.0 between new steps more h.2 k)
