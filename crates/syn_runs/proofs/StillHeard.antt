-- What a session has heard it has heard still, whichever machine goes on.
use Rattle.std.proofs.Common.{◌≡◌, ℕ, zero, suc, Bool, true, false, if◌then◌else◌, List, map, refl}
use Rattle.std.proofs.Common.{sym, ap, ◌∙◌, subst, Option, Some, None, append-nil, arith, inl, inr}
use Rattle.std.proofs.Common.{[]}
use Rattle.std.specs.Prelude.{Contains, IfSome, length, ◌≤◌}
use Rattle.std.proofs.lemmas.Option.{none-some, same_Some}
use Rattle.syn_model.specs.Event.{Event}
use Rattle.syn_model.specs.Refusal.{Refusal}
use Rattle.syn_runs.specs.World.{Step}
use Rattle.syn_machine.specs.Machine.{Status, Up, Halted, Down, has_room}
use Rattle.syn_model.specs.Path.{Path}
use Rattle.syn_model.specs.Tree.{is_directory}
use Rattle.syn_model.specs.Limits.{children}
use Rattle.syn_model.specs.Mark.{mark}
use Rattle.syn_model.specs.History.{tree_of}
use Rattle.syn_machine.specs.Side.{Request, ListAt, Reply, Listed, NotDir, Side, Served, Serves}
use Rattle.syn_machine.specs.SideMachine.{SideMachine, side_now, has_room_for, ServesAs, SideTakes}
use Rattle.syn_machine.specs.SideMachine.{answers, adds, said}
use Rattle.syn_machine.specs.Network.{Which, Left, Right, Message, Asks, Answers, Sent}
use Rattle.syn_runs.specs.Acknowledged.{Happened}
use Rattle.syn_machine.specs.Coordinator.{Running, running_after}
use Rattle.syn_runs.specs.World.{World, side_of, side_goes, says}
use Rattle.syn_runs.specs.Picture.{Follows}
use Rattle.syn_runs.proofs.Invariant.{Plans, histories_of, IsTrueListing, IsKept}
use Rattle.syn_runs.proofs.SideSteps.{if_some}
use Rattle.syn_runs.proofs.WorldLemmas.{kept_events}
use Rattle.syn_runs.specs.Runs.{picture_of}
use Rattle.syn_runs.proofs.InOrder.{SaysAfter, position_of}
use Rattle.syn_runs.proofs.Sessions.{IsHeard, GoesBeside, heard_beside, no_asks}
use Rattle.syn_runs.proofs.Tells.{Tells}

-- what a step leaves
abbrev pub IsFollowed : World → Step → List Refusal → World → Type 0
IsFollowed old step told new = Follows (picture_of old) (picture_of new) step told
    × IfSome new.coordinator.running (IsHeard new)
    × Tells old new

-- The session is heard still where the coordinator does nothing

pub beside_heard : (old new : World) → GoesBeside old new → (running : Option Running) →
    IfSome running (IsHeard old) → IfSome running (IsHeard new)
beside_heard old new g running h =
    if_some running (IsHeard old) (IsHeard new) h (λ r _ h. heard_beside old new r g h)

pub same_beside : (old new : World) → new.sent ≡ old.sent → new.log ≡ old.log →
    new.acknowledged ≡ old.acknowledged →
    new.coordinator.journal.value ≡ old.coordinator.journal.value → GoesBeside old new
same_beside old new sent log acks archive = record {
  more = [];
  acks = [];
  sent = sent ∙ sym (append-nil old.sent);
  no_request = λ side session n q c. absurd (omega (arith, c.1));
  says = λ side session n reply path later above position entries c. absurd (omega (arith, c.1));
  log = log;
  archive = archive;
  acknowledged = acks ∙ sym (append-nil old.acknowledged);
  nothing_kept = refl;
}

goes_beside : (old : World) (side : Which) (machine : SideMachine)
    (messages : List Message) (events : List Event) →
    ((at : Which) (session n : ℕ) (q : Request) → Contains messages (Asks at session n q) → ⊥) →
    SaysAfter old.sent messages → GoesBeside old (side_goes old side machine messages events)
goes_beside old Left machine messages events none says =
    record {
      more = messages;
      acks = map (λ event. Happened Left event) events;
      sent = refl;
      no_request = none;
      says = says;
      log = refl;
      archive = refl;
      acknowledged = refl;
      nothing_kept = kept_events Left events;
    }
goes_beside old Right machine messages events none says =
    record {
      more = messages;
      acks = map (λ event. Happened Right event) events;
      sent = refl;
      no_request = none;
      says = says;
      log = refl;
      archive = refl;
      acknowledged = refl;
      nothing_kept = kept_events Right events;
    }

coordinator_stays : (old : World) (side : Which) (machine : SideMachine)
    (messages : List Message) (events : List Event) →
    (side_goes old side machine messages events).coordinator ≡ old.coordinator
coordinator_stays old Left machine messages events = refl
coordinator_stays old Right machine messages events = refl

-- a side goes on
pub side_heard : (old : World) (side : Which) (machine : SideMachine)
    (messages : List Message) (events : List Event) →
    ((at : Which) (session n : ℕ) (q : Request) → Contains messages (Asks at session n q) → ⊥) →
    SaysAfter old.sent messages → IfSome old.coordinator.running (IsHeard old) →
    IfSome (side_goes old side machine messages events).coordinator.running
    (IsHeard (side_goes old side machine messages events))
side_heard old side machine messages events none says h =
    subst (λ c. IfSome c.running (IsHeard (side_goes old side machine messages events)))
    (sym (coordinator_stays old side machine messages events))
    (beside_heard old (side_goes old side machine messages events)
    (goes_beside old side machine messages events none says) old.coordinator.running h)

pub nothing_asked : (at : Which) (session n : ℕ) (q : Request) → Contains [] (Asks at session n q) →
    ⊥
nothing_asked at session n q c = omega (arith, c.1)

pub nothing_said : (sent : Sent) → SaysAfter sent []
nothing_said sent side session n reply path later above position entries c =
    absurd (omega (arith, c.1))

-- what a side answers to a listing is at its position
abbrev IsListing : ℕ → Option Reply → Type 0
IsListing here said =
    (reply : Reply) (later : ℕ) → said ≡ Some reply → position_of reply ≡ Some later → later ≡ here

served_listing : (pair : ℕ) (has_room : Event → Bool) (side : Side) (session : ℕ) (path : Path)
    (served : Served) → Serves pair has_room side session (ListAt path) served → (later : ℕ) →
    position_of served.reply ≡ Some later → later ≡ length side.history
served_listing pair has_room side session path served (inl (read, reads, is)) later at =
    by (is_directory (tree_of side.history) path) (sym (ap (λ s. position_of s.reply) is) ∙ at)
  where
    by : (b : Bool) → position_of
        (if b then Listed (length side.history) (children (mark (tree_of side.history)) path)
        else NotDir (length side.history)) ≡ Some later → later ≡ length side.history
    by true e = sym (same_Some _ _ e)
    by false e = sym (same_Some _ _ e)
served_listing pair has_room side session path served (inr none) later at =
    absurd (none-some _ (sym (ap (λ s. position_of s.reply) none.1) ∙ at))

says_listing : (pair : ℕ) (machine : SideMachine) (session : ℕ) (path : Path) (new : SideMachine)
    (said : Option Reply) (events : List Event) →
    SideTakes pair machine session (ListAt path) new said events →
    IsListing (length machine.journal.value) said
says_listing pair machine session path _ _ _ (answers served serves same) reply later is at =
    by machine.journal.status serves
  where
    now : position_of served.reply ≡ Some later
    now = ap position_of (same_Some _ _ is) ∙ at

    by : (status : Status) → ServesAs status pair (has_room_for pair machine)
        (side_now machine) session (ListAt path) served → later ≡ length machine.journal.value
    by Up s =
        served_listing pair (has_room_for pair machine)
        (side_now machine) session path served s later now
    by Halted (inl s) = absurd (none-some _ (sym (ap (λ x. position_of x.reply) s) ∙ now))
    by Halted (inr s) = absurd s
    by Down s = absurd s
says_listing pair machine session path _ _ _
    (adds served event journal events up serves same writes) reply later is at =
    by journal.status is
  where
    by : (status : Status) → said status served.reply ≡ Some reply →
        later ≡ length machine.journal.value
    by Up e =
        served_listing pair (has_room_for pair machine) (side_now machine) session path served
        serves later (ap position_of (same_Some _ _ e) ∙ at)
    by Halted e = absurd (none-some _ (ap position_of (same_Some _ _ e) ∙ at))
    by Down e = absurd (none-some _ e)

value_of : (world : World) (side : Which) →
    histories_of (picture_of world) side ≡ (side_of world side).journal.value
value_of world Left = refl
value_of world Right = refl

-- so it comes after each listing that the side answered before
pub says_after : (plans : Plans) (old : World) → IsKept plans (picture_of old) → (side : Which)
    (session number : ℕ) (request : Request) (machine : SideMachine) (reply : Option Reply)
    (events : List Event) → Contains old.sent (Asks side session number request) →
    SideTakes old.pair (side_of old side) session request machine reply events →
    SaysAfter old.sent (says side session number reply)
says_after plans old k side session number request machine None events asked t at s n said path
    later above position entries c =
    absurd (omega (arith, c.1))
says_after plans old k side session number request machine
    (Some reply) events asked t at s n said path later above position entries (suc i, h, e) =
    absurd (omega (arith, h))
says_after plans old k side session number request machine
    (Some reply) events asked t at s n said path later above position entries (zero, h, e) =
    λ asked_at is was.
    let same : Answers side session number reply ≡ Answers at s n said = e in
    let is_side : side ≡ at = cc in
    let is_session : session ≡ s = cc in
    let is_number : number ≡ n = cc in
    let is_reply : reply ≡ said = cc in
    let request_is : request ≡ ListAt path =
    k.sound.numbers side session number request (ListAt path) asked
    (subst (λ a. Contains old.sent (Asks a session number (ListAt path))) (sym is_side)
    (subst (λ x. Contains old.sent (Asks at x number (ListAt path))) (sym is_session)
    (subst (λ x. Contains old.sent (Asks at s x (ListAt path))) (sym is_number) asked_at))) in
    let here : later ≡ length (side_of old side).journal.value =
    says_listing old.pair (side_of old side) session path machine (Some reply) events
    (subst (λ q. SideTakes old.pair (side_of old side) session q machine (Some reply) events)
    request_is t) reply later refl (ap position_of is_reply ∙ is) in
    let listing : IsTrueListing (histories_of (picture_of old) at) s above position entries =
    k.sound.answered at s was.number (Listed position entries)
    (ListAt above) was.answered was.asked in
    let reached : position ≤ length (side_of old side).journal.value =
    subst (λ h. position ≤ length h) (value_of old side)
    (subst (λ a. position ≤ length (histories_of (picture_of old) a)) (sym is_side) listing.reached)
    in
    subst (λ x. position ≤ x) (sym here) reached

pub says_no_request : (side : Which) (session n : ℕ) (reply : Option Reply) (at : Which) (s m : ℕ)
    (q : Request) → Contains (says side session n reply) (Asks at s m q) → ⊥
says_no_request side session n None at s m q c = omega (arith, c.1)
says_no_request side session n (Some reply) at s m q c = no_asks at side session n reply s m q c

pub after_running : (old new : World) (status : Status) (running : Option Running) →
    GoesBeside old new → IfSome running (IsHeard old) →
    IfSome (running_after status running) (IsHeard new)
after_running old new Up running g h = beside_heard old new g running h
after_running old new Halted running g h = beside_heard old new g running h
after_running old new Down running g h = tt
