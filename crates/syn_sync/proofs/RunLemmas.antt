-- Acts of a coordinator, one after another, with what is heard and what is written.
use Rattle.std.proofs.Common.{◌≡◌, ℕ, Bool, true, false, List, [], ◌∷◌, ◌++◌, refl, sym, ap, subst}
use Rattle.std.proofs.Common.{◌∙◌, ◌⊎◌, ◌≢◌, inl, inr, append-nil, Option, None}
use Rattle.std.proofs.lemmas.Grind.{flat_map-append}
use Rattle.std.specs.Prelude.{◌&&◌, not}
use Rattle.syn_disk.specs.Arms.{is_stopped}
use Rattle.syn_disk.specs.declared.disk.Disk.{Ghosts}
use Rattle.syn_machine.specs.Acts.{Act, Acts, ActsAll, Done}
use Rattle.syn_machine.specs.Acts as acts
use Rattle.syn_machine.specs.Coordinator.{Call, CoordinatorMachine, CoordinatorStarts}
use Rattle.syn_machine.specs.Coordinator.{CoordinatorTakes, CoordinatorTicks, coordinator_kind}
use Rattle.syn_machine.specs.Machine.{Status}
use Rattle.syn_machine.specs.Machine as status
use Rattle.syn_machine.specs.MachineSteps.{Checkpoint, Checkpoints, is_done, makes, refused_by}
use Rattle.syn_machine.specs.Network.{Message, Which}
use Rattle.syn_message.specs.Replies.{ReplyMessage}
use Rattle.syn_model.specs.Archive.{Kept}
use Rattle.syn_model.specs.Refusal.{first_cause}
use Rattle.syn_coordinator.proofs.RefusedLemmas.{not_down}
use Rattle.syn_coordinator.specs.Coordinators.{Does, Stands, device_of, goes_down, goes_on}
use Rattle.syn_coordinator.specs.Coordinators.{archive_of, checkpoint_refusals, refusals_of}
use Rattle.syn_coordinator.specs.declared.coordinator.Coordinator.{Coordinator}
use Rattle.syn_sync.proofs.WriteLemmas.{calm_writes, sends_twice, stopped_none, writes_calm}
use Rattle.syn_sync.proofs.WriteLemmas.{writes_nothing, writes_twice}
use Rattle.syn_sync.specs.Drivers.{ConnectionStates, Outlets}
use Rattle.syn_sync.specs.States.{HearsAll, ConnectionState}
use Rattle.syn_link.specs.Frames.{Bytes}
use Rattle.syn_sync.specs.Outlets.{Outlet, Writes}
use Rattle.syn_sync.specs.Runs.{Begins, Down, Drives, answer_in, answers_in, at_once, taking}
use Rattle.syn_sync.specs.Runs.{frame_to, frames_in, frames_of, frames_to, with_room}
use Rattle.syn_sync.specs.inner.Calling.{Calls, Starting}

leads_twice : (pair : ℕ) (a b c : CoordinatorMachine) (first second : List Done)
    → ActsAll pair a first b → ActsAll pair b second c → ActsAll pair a (first ++ second) c
leads_twice pair a b c [] second one two = subst (λ m. ActsAll pair m second c) one two
leads_twice pair a b c (done ∷ onward) second (between, step, one) two =
    (between, step, leads_twice pair between b c onward second one two)

pub hears_twice : (a b c : ConnectionState) (first second : List ReplyMessage) → HearsAll a first b
    → HearsAll b second c → HearsAll a (first ++ second) c
hears_twice a b c [] second one two = subst (λ l. HearsAll l second c) one two
hears_twice a b c (answering ∷ onward) second (between, hears, one) two =
    (between, hears, hears_twice between b c onward second one two)

answers_twice : (side : Which) (first second : List Done)
    → answers_in side (first ++ second) ≡ answers_in side first ++ answers_in side second
answers_twice side first second =
    flat_map-append (λ (done : Done). answer_in side done.act) first second

frames_twice : (side : Which) (first second : List Done)
    → frames_in side (first ++ second) ≡ frames_in side first ++ frames_in side second
frames_twice side first second =
    flat_map-append (λ (done : Done). frames_of side done.act done.call.messages) first second

messages_twice : (side : Which) (first second : List Message)
    → frames_to side (first ++ second) ≡ frames_to side first ++ frames_to side second
messages_twice side first second = flat_map-append (frame_to side) first second

false_is : (b : Bool) → b ≡ true → b ≡ false → ⊥
false_is true is not_is = cc
false_is false is not_is = cc

begins_more : {preference : Option Which} (first second : List Done) → Begins preference first →
    Begins preference (first ++ second)
begins_more first second (at_once call left onward) = at_once call left (onward ++ second)
begins_more first second (with_room one two between left onward) =
    with_room one two between left (onward ++ second)

-- each such step of the coordinator's machine is this act, made
abbrev pub IsActBy : ℕ → CoordinatorMachine → Act → (CoordinatorMachine → Call → Type 0) → Type 0
IsActBy pair machine act Step = (next : CoordinatorMachine) (call : Call) → Step next call
    → (left : Status) × Acts pair machine act next call (refused_by left)

pub tick_act : (pair : ℕ) (machine : CoordinatorMachine)
    → IsActBy pair machine acts.Ticking (CoordinatorTicks machine)
tick_act pair machine next call step = (status.Up, (step, refl))

abbrev pub TakesReply : ℕ → CoordinatorMachine → Which → ReplyMessage → CoordinatorMachine → Call
    → Type 0
TakesReply pair machine from answering =
    CoordinatorTakes pair machine from answering.session answering.number answering.reply

module _ {D : Type 0} {disk : Ghosts D} where
  -- its machine was stopped
  abbrev pub stops : Coordinator D disk → Bool
  stops coordinator = is_stopped (disk.arms (device_of coordinator))

  pub stands_of : (new : Coordinator D disk) (pair : ℕ) (machine : CoordinatorMachine)
      → Stands new pair machine ⊎ Down new pair machine → stops new ≡ false
      → Stands new pair machine
  stands_of new pair machine (inl stands) calm = stands
  stands_of new pair machine (inr down) calm = absurd (false_is (stops new) down.stopped calm)

  pub calls_none : (new : Coordinator D disk) (pair : ℕ) (machine : CoordinatorMachine)
      → Stands new pair machine → Calls new pair machine []
  calls_none new pair machine stands = record {
    acts = [];
    reached = machine;
    leads = refl;
    ends = inl stands;
    silent = λ side. refl;
    sends = λ calm side. refl;
  }

  -- one call that hears nothing
  pub calls_once : (old new : Coordinator D disk) (pair : ℕ) (machine : CoordinatorMachine)
      (act : Act) (Step : CoordinatorMachine → Call → Type 0) → IsActBy pair machine act Step
      → (kept : List Kept) (messages sends : List Message) → Does old new pair Step kept messages
      → ((side : Which) → answer_in side act ≡ [])
      → ((call : Call) (side : Which) → call.messages ≡ messages
      → frames_of side act call.messages ≡ frames_to side sends)
      → Calls new pair machine sends
  calls_once old new pair machine act Step is_act kept messages sends
      (goes_on reached call step stands is_kept is_sent is_reported) silent frames = record {
        acts = record {
          act = act;
          call = call;
          refusals = refused_by (is_act reached call step).0;
        } ∷ [];
        reached = reached;
        leads = (reached, (is_act reached call step).1, refl);
        ends = inl stands;
        silent = λ side. append-nil (answer_in side act) ∙ silent side;
        sends = λ calm side. append-nil (frames_of side act call.messages)
            ∙ frames call side is_sent;
      }
  calls_once old new pair machine act Step is_act kept messages sends
      (goes_down reached call step stopped down leaves is_kept tries) silent frames = record {
        acts = record {
          act = act;
          call = call;
          refusals = refused_by (is_act reached call step).0;
        } ∷ [];
        reached = reached;
        leads = (reached, (is_act reached call step).1, refl);
        ends = inr (record { stopped = stopped; down = down; leaves = leaves; tries = tries });
        silent = λ side. append-nil (answer_in side act) ∙ silent side;
        sends = λ calm. absurd (false_is (stops new) stopped calm);
      }

  -- a call that is refused 9, or for another cause and then changes nothing
  pub calls_refused : {E : Type 0} (old new : Coordinator D disk) (pair : ℕ)
      (machine : CoordinatorMachine) (act : Act) (Step : CoordinatorMachine → Call → Type 0)
      (device e : E) → (e ≡ device → IsActBy pair machine act Step)
      → (e ≡ device) ⊎ (e ≢ device) → (e ≡ device → Does old new pair Step [] [])
      → (e ≢ device → Stands new pair machine)
      → ((side : Which) → answer_in side act ≡ [])
      → ((call : Call) (side : Which) → call.messages ≡ []
      → frames_of side act call.messages ≡ [])
      → Calls new pair machine []
  calls_refused old new pair machine act Step device e is_act (inl is) does stands silent frames =
      calls_once old new pair machine act Step (is_act is) [] [] [] (does is) silent frames
  calls_refused old new pair machine act Step device e is_act (inr is) does stands silent frames =
      calls_none new pair machine (stands is)

  -- calls after calls
  pub calls_twice : (middle new : Coordinator D disk) (pair : ℕ) (machine : CoordinatorMachine)
      (first second : List Message) (calls : Calls middle pair machine first)
      → stops middle ≡ false → Calls new pair calls.reached second
      → Calls new pair machine (first ++ second)
  calls_twice middle new pair machine first second calls calm onward = record {
    acts = calls.acts ++ onward.acts;
    reached = onward.reached;
    leads = leads_twice pair machine calls.reached onward.reached calls.acts onward.acts
        calls.leads onward.leads;
    ends = onward.ends;
    silent = λ side. answers_twice side calls.acts onward.acts
        ∙ ap (λ x. x ++ answers_in side onward.acts) (calls.silent side) ∙ onward.silent side;
    sends = λ still side. frames_twice side calls.acts onward.acts
        ∙ ap (λ x. x ++ frames_in side onward.acts) (calls.sends calm side)
        ∙ ap (λ x. frames_to side first ++ x) (onward.sends still side)
        ∙ sym (messages_twice side first second);
  }

  -- whole where the connection goes on and no machine was stopped
  calm_is : (new : Coordinator D disk) (a b : Outlet) (bytes : Bytes) → stops new ≡ false
      → Writes a b bytes b.goes → Writes a b bytes (b.goes && not (stops new))
  calm_is new a b bytes calm writes =
      subst (λ s. Writes a b bytes (b.goes && not s)) (sym calm) (calm_writes a b bytes writes)

  is_calm : (new : Coordinator D disk) (a b : Outlet) (bytes : Bytes) → stops new ≡ false
      → Writes a b bytes (b.goes && not (stops new)) → Writes a b bytes b.goes
  is_calm new a b bytes calm writes =
      writes_calm a b bytes (subst (λ s. Writes a b bytes (b.goes && not s)) calm writes)

  stopped_is : (new : Coordinator D disk) (a : Outlet) (bytes : Bytes) → stops new ≡ true
      → Writes a a bytes (a.goes && not (stops new))
  stopped_is new a bytes stopped =
      subst (λ s. Writes a a bytes (a.goes && not s)) (sym stopped) (stopped_none a bytes)

  -- no act, though a link may close
  pub drives_none : (new : Coordinator D disk) (pair : ℕ) (machine : CoordinatorMachine)
      (states : ConnectionStates) (from to : Outlets) → Stands new pair machine → stops new ≡ false
      → ((side : Which) → Writes (from side) (to side) [] (to side).goes)
      → Drives new pair machine states states from to
  drives_none new pair machine states from to stands calm writes = record {
    acts = [];
    reached = machine;
    leads = refl;
    ends = inl stands;
    hears = λ side. refl;
    writes = λ side. calm_is new (from side) (to side) [] calm (writes side);
  }

  -- calls that hear nothing, and what they sent is written
  pub drives_calls : (new : Coordinator D disk) (pair : ℕ) (machine : CoordinatorMachine)
      (messages : List Message) (states heard : ConnectionStates) (from to : Outlets)
      → Calls new pair machine messages → stops new ≡ false
      → ((side : Which) → heard side ≡ states side)
      → ((side : Which) → Writes (from side) (to side) (frames_to side messages) (to side).goes)
      → Drives new pair machine states heard from to
  drives_calls new pair machine messages states heard from to calls calm same writes = record {
    acts = calls.acts;
    reached = calls.reached;
    leads = calls.leads;
    ends = calls.ends;
    hears = λ side. subst (λ all. HearsAll (states side) all (heard side))
        (sym (calls.silent side)) (same side);
    writes = λ side. subst (λ bytes. Writes (from side) (to side) bytes
        ((to side).goes && not (stops new))) (sym (calls.sends calm side))
        (calm_is new (from side) (to side) (frames_to side messages) calm (writes side));
  }

  -- or the machine was stopped in them
  pub drives_down : (new : Coordinator D disk) (pair : ℕ) (machine : CoordinatorMachine)
      (messages : List Message) (states : ConnectionStates) (from : Outlets)
      → Calls new pair machine messages → stops new ≡ true
      → Drives new pair machine states states from from
  drives_down new pair machine messages states from calls stopped = record {
    acts = calls.acts;
    reached = calls.reached;
    leads = calls.leads;
    ends = calls.ends;
    hears = λ side. subst (λ all. HearsAll (states side) all (states side))
        (sym (calls.silent side)) refl;
    writes = λ side. stopped_is new (from side) (frames_in side calls.acts) stopped;
  }

  silent_at : (stopped : Bool) (new : Coordinator D disk) (pair : ℕ)
      (machine : CoordinatorMachine) (states : ConnectionStates) (from : Outlets)
      → Calls new pair machine [] → stops new ≡ stopped
      → Drives new pair machine states states from from
  silent_at true new pair machine states from calls is =
      drives_down new pair machine [] states from calls is
  silent_at false new pair machine states from calls is =
      drives_calls new pair machine [] states states from from calls is (λ side. refl)
      (λ side. writes_nothing (from side) (from side).goes)

  -- they send nothing
  pub drives_silent : (new : Coordinator D disk) (pair : ℕ) (machine : CoordinatorMachine)
      (states : ConnectionStates) (from : Outlets) → Calls new pair machine []
      → Drives new pair machine states states from from
  drives_silent new pair machine states from calls =
      silent_at (stops new) new pair machine states from calls refl

  -- one after the other
  pub drives_twice : (middle new : Coordinator D disk) (pair : ℕ) (machine : CoordinatorMachine)
      (states heard later : ConnectionStates) (from via to : Outlets)
      (first : Drives middle pair machine states heard from via) → stops middle ≡ false
      → Drives new pair first.reached heard later via to
      → Drives new pair machine states later from to
  drives_twice middle new pair machine states heard later from via to first calm second = record {
    acts = first.acts ++ second.acts;
    reached = second.reached;
    leads = leads_twice pair machine first.reached second.reached first.acts second.acts
        first.leads second.leads;
    ends = second.ends;
    hears = λ side. subst (λ all. HearsAll (states side) all (later side))
        (sym (answers_twice side first.acts second.acts))
        (hears_twice (states side) (heard side) (later side) (answers_in side first.acts)
        (answers_in side second.acts) (first.hears side) (second.hears side));
    writes = λ side. subst (λ bytes. Writes (from side) (to side) bytes
        ((to side).goes && not (stops new))) (sym (frames_twice side first.acts second.acts))
        (writes_twice (from side) (via side) (to side) (frames_in side first.acts)
        (frames_in side second.acts) (not (stops new))
        (is_calm middle (from side) (via side) (frames_in side first.acts) calm
        (first.writes side)) (second.writes side));
  }

  -- a reply is taken that was heard, and what that sends is written, where no machine was stopped
  pub drives_take : (old new : Coordinator D disk) (pair : ℕ) (machine : CoordinatorMachine)
      (from : Which) (answering : ReplyMessage) (kept : List Kept) (messages : List Message)
      (states heard later : ConnectionStates) (begin via to : Outlets)
      → Does old new pair (TakesReply pair machine from answering) kept messages
      → ((side : Which) → HearsAll (states side) (answer_in side (taking from answering))
      (heard side))
      → ((side : Which) → Writes (begin side) (via side) [] (via side).goes)
      → stops new ≡ false → ((side : Which) → later side ≡ heard side)
      → ((side : Which) → Writes (via side) (to side) (frames_to side messages) (to side).goes)
      → Drives new pair machine states later begin to
  drives_take old new pair machine from answering kept messages states heard later begin via to
      (goes_on reached call step stands is_kept is_sent is_reported) hears reads calm same writes =
      record {
        acts = record { act = taking from answering; call = call; refusals = [] } ∷ [];
        reached = reached;
        leads = (reached, (step, refl), refl);
        ends = inl stands;
        hears = λ side. subst (λ l. HearsAll (states side)
            (answer_in side (taking from answering) ++ []) l) (sym (same side))
            (subst (λ all. HearsAll (states side) all (heard side))
            (sym (append-nil (answer_in side (taking from answering)))) (hears side));
        writes = λ side. calm_is new (begin side) (to side) (frames_to side call.messages ++ [])
            calm (subst (λ bytes. Writes (begin side) (to side) bytes (to side).goes)
            (sym (append-nil (frames_to side call.messages)
            ∙ ap (λ m. frames_to side m) is_sent))
            (sends_twice (begin side) (via side) (to side) [] (frames_to side messages)
            (reads side) (writes side)));
      }
  drives_take old new pair machine from answering kept messages states heard later begin via to
      (goes_down reached call step stopped down leaves is_kept tries) hears reads calm same
      writes = absurd (false_is (stops new) stopped calm)

  taken_down : (old new : Coordinator D disk) (pair : ℕ) (machine : CoordinatorMachine)
      (from : Which) (answering : ReplyMessage) (call : Call) (reached : CoordinatorMachine)
      (states heard : ConnectionStates) (begin via : Outlets)
      → TakesReply pair machine from answering reached call
      → Stands new pair reached ⊎ Down new pair reached
      → ((side : Which) → HearsAll (states side) (answer_in side (taking from answering))
      (heard side))
      → ((side : Which) → Writes (begin side) (via side) [] (via side).goes)
      → stops new ≡ true → Drives new pair machine states heard begin via
  taken_down old new pair machine from answering call reached states heard begin via step ends
      hears reads stopped = record {
        acts = record { act = taking from answering; call = call; refusals = [] } ∷ [];
        reached = reached;
        leads = (reached, (step, refl), refl);
        ends = ends;
        hears = λ side. subst (λ all. HearsAll (states side) all (heard side))
            (sym (append-nil (answer_in side (taking from answering)))) (hears side);
        writes = λ side. writes_twice (begin side) (via side) (via side) []
            (frames_to side call.messages ++ []) (not (stops new)) (reads side)
            (stopped_is new (via side) (frames_to side call.messages ++ []) stopped);
      }

  -- or it was, and nothing is
  pub drives_taken : (old new : Coordinator D disk) (pair : ℕ) (machine : CoordinatorMachine)
      (from : Which) (answering : ReplyMessage) (kept : List Kept) (messages : List Message)
      (states heard : ConnectionStates) (begin via : Outlets)
      → Does old new pair (TakesReply pair machine from answering) kept messages
      → ((side : Which) → HearsAll (states side) (answer_in side (taking from answering))
      (heard side))
      → ((side : Which) → Writes (begin side) (via side) [] (via side).goes)
      → stops new ≡ true → Drives new pair machine states heard begin via
  drives_taken old new pair machine from answering kept messages states heard begin via
      (goes_on reached call step stands is_kept is_sent is_reported) hears reads stopped =
      taken_down old new pair machine from answering call reached states heard begin via step
      (inl stands) hears reads stopped
  drives_taken old new pair machine from answering kept messages states heard begin via
      (goes_down reached call step cut down leaves is_kept tries) hears reads stopped =
      taken_down old new pair machine from answering call reached states heard begin via step
      (inr (record { stopped = cut; down = down; leaves = leaves; tries = tries })) hears reads
      stopped

  -- one call, with its step
  pub calls_one : (old new : Coordinator D disk) (pair : ℕ) (machine : CoordinatorMachine)
      (act : Act) (Step : CoordinatorMachine → Call → Type 0) → IsActBy pair machine act Step
      → (kept : List Kept) (messages : List Message) → Does old new pair Step kept messages
      → ((side : Which) → answer_in side act ≡ [])
      → ((call : Call) (side : Which) → call.messages ≡ messages
      → frames_of side act call.messages ≡ frames_to side messages)
      → (calls : Calls new pair machine messages) × (call : Call) × (left : Status)
      × (calls.acts ≡ record { act = act; call = call; refusals = refused_by left } ∷ [])
      × Step calls.reached call
  unfolding calls_once
  calls_one old new pair machine act Step is_act kept messages
      (goes_on reached call step stands is_kept is_sent is_reported) silent frames = (
        calls_once old new pair machine act Step is_act kept messages messages
            (goes_on reached call step stands is_kept is_sent is_reported) silent frames,
        call,
        (is_act reached call step).0,
        refl,
        step,
      )
  calls_one old new pair machine act Step is_act kept messages
      (goes_down reached call step stopped down leaves is_kept tries) silent frames = (
        calls_once old new pair machine act Step is_act kept messages messages
            (goes_down reached call step stopped down leaves is_kept tries) silent frames,
        call,
        (is_act reached call step).0,
        refl,
        step,
      )

  -- a start of a machine that this coordinator is, and a checkpoint, where no cause stands
  is_not_down : (coordinator : Coordinator D disk) (pair : ℕ) (machine : CoordinatorMachine)
      → Stands coordinator pair machine → machine.journal.status ≢ status.Down
  is_not_down coordinator pair machine stands =
      not_down (archive_of coordinator) machine.journal stands.journal.state

  pub start_act : (coordinator : Coordinator D disk) (pair : ℕ) (machine : CoordinatorMachine)
      (preference : Option Which) → Stands coordinator pair machine
      → first_cause (refusals_of pair machine) ≡ None
      → IsActBy pair machine (acts.Starting preference) (CoordinatorStarts pair preference machine)
  start_act coordinator pair machine preference stands none next call step = (
    next.journal.status,
    is_done next call _ (is_not_down coordinator pair machine stands) (makes next call none step),
  )

  pub checkpoint_act : (coordinator : Coordinator D disk) (pair : ℕ)
      (machine : CoordinatorMachine) → Stands coordinator pair machine
      → first_cause (checkpoint_refusals machine) ≡ None
      → IsActBy pair machine (acts.Calling Checkpoint)
      (Checkpoints (coordinator_kind pair) machine)
  checkpoint_act coordinator pair machine stands none next call step = (
    next.journal.status,
    is_done next call _ (is_not_down coordinator pair machine stands) (makes next call none step),
  )

  -- a start begins a session
  pub starts_once : (preference : Option Which) (old new : Coordinator D disk) (pair : ℕ)
      (machine : CoordinatorMachine) → Stands old pair machine
      → first_cause (refusals_of pair machine) ≡ None → (kept : List Kept)
      (messages : List Message)
      → Does old new pair (CoordinatorStarts pair preference machine) kept messages
      → Starting preference new pair machine messages
  starts_once preference old new pair machine stands none kept messages does =
      let one = calls_one old new pair machine (acts.Starting preference)
      (CoordinatorStarts pair preference machine)
      (start_act old pair machine preference stands none) kept messages does (λ side. refl)
      (λ call side is. ap (λ m. frames_to side m) is) in
      (one.0, subst (Begins preference) (sym one.3) (at_once one.1 one.2 []))

  -- so does one after a checkpoint
  pub starts_after : (preference : Option Which) (old middle new : Coordinator D disk) (pair : ℕ)
      (machine : CoordinatorMachine) (messages : List Message)
      (made : Calls middle pair machine []) (first : Call) (between : Status)
      → made.acts ≡ record {
        act = acts.Calling Checkpoint;
        call = first;
        refusals = refused_by between;
      } ∷ [] → stops middle ≡ false → Stands middle pair made.reached
      → first_cause (refusals_of pair made.reached) ≡ None → (kept : List Kept)
      → Does middle new pair (CoordinatorStarts pair preference made.reached) kept messages
      → Starting preference new pair machine messages
  unfolding calls_twice
  starts_after preference old middle new pair machine messages made first between is_made calm
      stands none kept does =
      let one = calls_one middle new pair made.reached (acts.Starting preference)
      (CoordinatorStarts pair preference made.reached)
      (start_act middle pair made.reached preference stands none) kept messages does
      (λ side. refl)
      (λ call side is. ap (λ m. frames_to side m) is) in (
        calls_twice middle new pair machine [] messages made calm one.0,
        subst (λ a. Begins preference (a ++ one.0.acts)) (sym is_made)
            (subst (λ b. Begins preference (record {
              act = acts.Calling Checkpoint;
              call = first;
              refusals = refused_by between;
            } ∷ [] ++ b)) (sym one.3) (with_room first one.1 between one.2 [])),
      )

  ends_at : (preference : Option Which) (stopped : Bool) (middle new : Coordinator D disk)
      (pair : ℕ)
      (machine : CoordinatorMachine) (states heard : ConnectionStates) (from to : Outlets)
      (drives : Drives middle pair machine states heard from to) → Begins preference drives.acts
      → (stops middle ≡ true → new ≡ middle)
      → ((now : CoordinatorMachine) → Stands middle pair now → Calls new pair now [])
      → stops middle ≡ stopped
      → (whole : Drives new pair machine states heard from to) × Begins preference whole.acts
  unfolding drives_twice
  ends_at preference true middle new pair machine states heard from to drives begins same calls is =
      subst
      (λ m. (whole : Drives m pair machine states heard from to) × Begins preference whole.acts)
      (sym (same is)) (drives, begins)
  ends_at preference false middle new pair machine states heard from to drives begins same calls is
      =
      let onward = drives_silent new pair drives.reached heard to
      (calls drives.reached (stands_of middle pair drives.reached drives.ends is)) in (
        drives_twice middle new pair machine states heard heard from to to drives is onward,
        begins_more drives.acts onward.acts begins,
      )

  -- A whole session: it begins, goes on, and is given up where its machine goes on
  pub drives_whole : (preference : Option Which) (began middle new : Coordinator D disk) (pair : ℕ)
      (machine : CoordinatorMachine) (messages : List Message)
      (states sent later : ConnectionStates)
      (from via to : Outlets) (begun : Starting preference began pair machine messages)
      → stops began ≡ false → ((side : Which) → sent side ≡ states side)
      → ((side : Which) → Writes (from side) (via side) (frames_to side messages)
      (via side).goes) → Drives middle pair (begun.0).reached sent later via to
      → (stops middle ≡ true → new ≡ middle)
      → ((now : CoordinatorMachine) → Stands middle pair now → Calls new pair now [])
      → (whole : Drives new pair machine states later from to) × Begins preference whole.acts
  unfolding drives_twice drives_calls
  drives_whole preference began middle new pair machine messages states sent later from via to begun
      calm same writes went left calls =
      let first = drives_calls began pair machine messages states sent from via begun.0 calm same
      writes in
      ends_at preference (stops middle) middle new pair machine states later from to
      (drives_twice began middle pair machine states sent later from via to first calm went)
      (begins_more (begun.0).acts went.acts begun.1) left calls refl
