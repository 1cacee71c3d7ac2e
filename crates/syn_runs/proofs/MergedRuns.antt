-- What is merged in order is a run of the world.
use Rattle.std.proofs.Common.{◌≡◌, ◌<◌, ◌≤◌, ◌⊎◌, inl, inr, ℕ, Bool, false, not}
use Rattle.std.proofs.Common.{List, [], ◌∷◌, ◌++◌, length, filter, flat_map, fold, refl, sym, ap}
use Rattle.std.proofs.Common.{ap₂, ◌∙◌, subst, Option, Some, None, arith, append-nil, append_assoc}
use Rattle.std.proofs.Common.{if◌then◌else◌}
use Rattle.std.specs.Prelude.{Contains}
use Rattle.std.proofs.lemmas.Grind.{flat_map-append}
use Rattle.std.proofs.lemmas.List.Elements.{Contains-append_left, Contains-append_right}
use Rattle.std.proofs.lemmas.List.Elements.{Contains-append_cases, filter-append}
use Rattle.std.proofs.lemmas.Option.{slice_get_read}
use Rattle.syn_model.specs.Refusal.{Refusal}
use Rattle.syn_model.specs.Event.{Edited}
use Rattle.syn_model.specs.History.{last_session}
use Rattle.syn_machine.specs.MachineSteps.{MachineCall, Does}
use Rattle.syn_machine.specs.MachineSteps as one
use Rattle.syn_machine.specs.Side.{Staging, Request, Reply}
use Rattle.syn_machine.specs.SideMachine.{SideMachine, UserEdits, side_kind}
use Rattle.syn_machine.specs.Server.{Server, Held, Hold, ByUser, ByRequest, ByClose, ByMachine}
use Rattle.syn_machine.specs.Server.{Holds, HoldsAll, edited, answered, closed, called}
use Rattle.syn_machine.specs.Server.{without_connection}
use Rattle.syn_machine.specs.Network.{Which, Left, Right, other, Message, Asks, Answers}
use Rattle.syn_machine.proofs.NetworkLemmas.{on_both}
use Rattle.syn_machine.proofs.Heard.{split_at}
use Rattle.syn_machine.specs.Coordinator.{CoordinatorMachine, Call, CoordinatorTakes, takes}
use Rattle.syn_machine.specs.Coordinator.{ignores, no_call}
use Rattle.syn_machine.specs.Acts.{Act, Acts, ActsAll, Done, Starting, Taking, Ticking, Calling}
use Rattle.syn_runs.specs.World.{World, Machine, At, Coordinator, Step, Edits, Start, Deliver, Tick}
use Rattle.syn_runs.specs.World.{Runs, Steps, side_of, coordinator_goes, refuses_with}
use Rattle.syn_runs.specs.World.{side_does, coordinator_does, MachineDoes, Delivers}
use Rattle.syn_runs.specs.World.{to_coordinator, ticks}
use Rattle.syn_runs.specs.Acknowledged.{Stores}
use Rattle.syn_runs.specs.Runs.{IsStart, OfEachRun}
use Rattle.syn_runs.specs.Picture.{Picture}
use Rattle.syn_runs.specs.Merged.{Moment, OnSide, OnCoordinator, holds_of, acts_of, messages_in}
use Rattle.syn_runs.specs.Merged.{messages_of, said_by, Connections, WasSent, WasWritten, MayCome}
use Rattle.syn_runs.specs.Merged.{AreInOrder, server_of, Told, nothing_told, told_after}
use Rattle.syn_runs.specs.Merged.{told_in, step_by, act_steps, steps_in, is_delivery}
use Rattle.syn_runs.specs.Merged.{MergesAreRuns, OfEachMerge}
use Rattle.syn_runs.proofs.SameSteps.{machine_with}
use Rattle.syn_runs.proofs.ServerSteps.{Leaves, does_so, edits_so, leaves, stays}
use Rattle.syn_runs.proofs.ShownServers.{Shows, last_of, shows_after, shows_closed}
use Rattle.syn_runs.proofs.BegunSessions.{BeginsInOrder, begin_in_order, last_on}
use Rattle.syn_runs.proofs.MergedSides.{SideMoves, idle, own, at}
use Rattle.syn_runs.proofs.MergedRequests.{request_moves}
use Rattle.syn_runs.proofs.StillHeard.{says_no_request}

abbrev keeps_step : Step → Bool
keeps_step step = not (is_delivery step)

own_step : (machine : Machine) (call : MachineCall) → is_delivery (step_by machine call) ≡ false
own_step machine one.Checkpoint = refl
own_step machine (one.Fail number) = refl
own_step machine (one.Stop calls) = refl
own_step machine one.Open = refl
own_step machine one.Reopen = refl

makes_step : (old : World) (machine : Machine) (call : MachineCall) (new : World) →
    MachineDoes old machine call new → Steps old (step_by machine call) new
makes_step old machine one.Checkpoint new does = does
makes_step old machine (one.Fail number) new does = does
makes_step old machine (one.Stop calls) new does = does
makes_step old machine one.Open new does = does
makes_step old machine one.Reopen new does = does

-- A hold

module _ (connections : Connections) (earlier : List Moment) (side : Which) (server : Server)
    (old : World) (journal_is : (side_of old side).journal ≡ server.journal)
    (shows : Shows (connections side) server (side_of old side).staging)
    (in_order : BeginsInOrder old)
    (asked : (session number : ℕ) (request : Request) →
    Contains (messages_of earlier) (Asks side session number request) →
    Contains old.sent (Asks side session number request)) where
  abbrev over : ℕ → ℕ
  over = connections side

  abbrev here : Option Staging
  here = (side_of old side).staging

  side_is : machine_with server.journal here ≡ side_of old side
  side_is = at over side server old journal_is shows

  journal_left : (new : Server) (machine : SideMachine) → Leaves old.pair server here new machine →
      machine.journal ≡ new.journal
  journal_left _ _ stays = refl
  journal_left _ _ (leaves journal grows) = refl

  shown_left : (new : Server) (machine : SideMachine) → Leaves old.pair server here new machine →
      Shows over new machine.staging
  shown_left _ _ stays = shows
  shown_left _ _ (leaves journal grows) =
      shows_after over server here shows journal grows _ (λ connection. refl)

  grown_left : (new : Server) (machine : SideMachine) → Leaves old.pair server here new machine →
      last_of server ≤ last_of new
  grown_left _ _ stays = omega arith
  grown_left _ _ (leaves journal grows) = grows

  hold_moves : (held : Held) (new : Server) → Holds old.pair server held new →
      WasSent connections earlier side held.hold → SideMoves over side server new held old
  hold_moves _ _ (edited user edit new events refusals edits) sent =
      let so = edits_so old.pair server here (Edited user edit) new events refusals edits in
      own over side server old journal_is shows new (ByUser user edit) (Edits side user edit)
      so.side events refusals refl refl
      (λ connection session number request is. let x : ByUser user edit
      ≡ ByRequest connection session number request = is in cc)
      (side_does so.side events refusals
      (subst (λ m. UserEdits old.pair m (Edited user edit) so.side events refusals) side_is
      so.edits))
      (journal_left new so.side so.left) (shown_left new so.side so.left)
      (grown_left new so.side so.left)
  hold_moves _ _ (answered connection session number request a machine reply events live taken)
      sent =
      request_moves over side server old journal_is shows in_order connection session number a live
      request machine reply events taken sent.0
      (λ same. asked session number request (sent.1 same))
  hold_moves _ _ (closed connection) sent =
      idle over side server old journal_is shows (without_connection server connection)
      (ByClose connection) None refl refl (shows_closed over server here shows connection)
      (λ session number request is. absurd (let x : ByClose connection
      ≡ ByRequest (over session) session number request = is in cc))
  hold_moves _ _ (called call new events refusals does) sent =
      let so = does_so old.pair server here call new events refusals does in
      own over side server old journal_is shows new (ByMachine call) (step_by (At side) call)
      so.side events refusals refl (own_step (At side) call)
      (λ connection session number request is. let x : ByMachine call
      ≡ ByRequest connection session number request = is in cc)
      (makes_step old (At side) call _ (side_does so.side events refusals
      (subst (λ m. Does (side_kind old.pair) m call so.side events refusals) side_is so.does)))
      (journal_left new so.side so.left) (shown_left new so.side so.left)
      (grown_left new so.side so.left)

-- An act of the coordinator

pub record CoordinatorMoves (done : Done) (new : CoordinatorMachine) (old : World) : Type 0 where
  pub steps : List Step
  pub now : World
  pub runs : Runs old steps now
  pub same_steps : filter keeps_step steps ≡ act_steps done.act
  pub pair_is : now.pair ≡ old.pair
  pub coordinator_is : now.coordinator ≡ new
  pub sides_are : (side : Which) → side_of now side ≡ side_of old side
  pub tells : told_in now ≡ told_after (told_in old) (OnCoordinator done)
  pub sent : now.sent ≡ old.sent ++ done.call.messages

module _ (old : World) where
  sides_stay : (new : CoordinatorMachine) (call : Call) (refusals : List Refusal) (side : Which) →
      side_of (refuses_with (coordinator_goes old new call) refusals) side ≡ side_of old side
  sides_stay new call refusals Left = refl
  sides_stay new call refusals Right = refl

  sides_still : (new : CoordinatorMachine) (call : Call) (side : Which) →
      side_of (coordinator_goes old new call) side ≡ side_of old side
  sides_still new call Left = refl
  sides_still new call Right = refl

  -- one that may be refused
  asks : (act : Act) (step : Step) (new : CoordinatorMachine) (call : Call)
      (refusals : List Refusal) → act_steps act ≡ step ∷ [] → is_delivery step ≡ false →
      Steps old step (refuses_with (coordinator_goes old new call) refusals) →
      CoordinatorMoves (record { act = act; call = call; refusals = refusals }) new old
  asks act step new call refusals one_step no_delivery made = record {
    steps = step ∷ [];
    now = refuses_with (coordinator_goes old new call) refusals;
    runs = (refuses_with (coordinator_goes old new call) refusals, made, refl);
    same_steps =
        subst (λ b. (if not b then step ∷ [] else []) ≡ act_steps act) (sym no_delivery)
        (sym one_step);
    pair_is = refl;
    coordinator_is = refl;
    sides_are = sides_stay new call refusals;
    tells = refl;
    sent = refl;
  }

  -- one that refuses nothing
  goes : (act : Act) (step : Step) (new : CoordinatorMachine) (call : Call) →
      filter keeps_step (step ∷ []) ≡ act_steps act →
      Steps old step (coordinator_goes old new call) →
      CoordinatorMoves (record { act = act; call = call; refusals = [] }) new old
  goes act step new call same made = record {
    steps = step ∷ [];
    now = coordinator_goes old new call;
    runs = (coordinator_goes old new call, made, refl);
    same_steps = same;
    pair_is = refl;
    coordinator_is = refl;
    sides_are = sides_still new call;
    tells = ap {B = Told} (λ refusals. record (told_in (coordinator_goes old new call)) {
      refusals = refusals;
    }) (sym (append-nil old.refusals));
    sent = refl;
  }

  -- an answer that nobody waits for
  ignored : (act : Act) → act_steps act ≡ [] →
      CoordinatorMoves (record { act = act; call = no_call; refusals = [] }) old.coordinator old
  ignored act no_steps = record {
    steps = [];
    now = old;
    runs = refl;
    same_steps = sym no_steps;
    pair_is = refl;
    coordinator_is = refl;
    sides_are = λ side. refl;
    tells = ap₂ {C = Told} (λ acknowledged refusals. record (told_in old) {
      acknowledged = acknowledged;
      refusals = refusals;
    }) (sym (append-nil old.acknowledged)) (sym (append-nil old.refusals))
        ∙ ap₂ {C = Told} (λ reports log. record {
          acknowledged = old.acknowledged ++ [];
          refusals = old.refusals ++ [];
          reports = reports;
          log = log;
        }) (sym (append-nil old.reports)) (sym (append-nil old.log));
    sent = sym (append-nil old.sent);
  }

  -- an answer that the session waits for is there
  module _ (in_order : BeginsInOrder old) (from : Which) (session number : ℕ) (reply : Reply)
      (there : Contains old.sent (Answers from session number reply)
      ⊎ (session < last_on old from)) where
    taken : (new : CoordinatorMachine) (call : Call) →
        CoordinatorTakes old.pair old.coordinator from session number reply new call →
        CoordinatorMoves (record {
          act = Taking from session number reply;
          call = call;
          refusals = [];
        }) new old
    taken _ _ (ignores none) = ignored (Taking from session number reply) refl
    taken _ _ (takes running request new call expected so) = by there
      where
        by : Contains old.sent (Answers from session number reply)
            ⊎ (session < last_on old from) → CoordinatorMoves (record {
              act = Taking from session number reply;
              call = call;
              refusals = [];
            }) new old
        by (inl sent) =
            goes (Taking from session number reply) (Deliver sent.0) new call refl
            (subst (λ message. Delivers old message (coordinator_goes old new call))
            (sym (slice_get_read old.sent (length old.sent) sent.0 _ refl sent.1 (sym sent.2)))
            (to_coordinator from session number reply new call
            (takes running request new call expected so)))
        by (inr earlier) =
            let begun = in_order.begun from in
            let runs = in_order.running running expected.runs in
            let of = expected.of_session in
            absurd (omega (arith, earlier, begun, runs, of))

  act_moves : BeginsInOrder old → (done : Done) (new : CoordinatorMachine) →
      ((from : Which) (session number : ℕ) (reply : Reply) →
      done.act ≡ Taking from session number reply →
      Contains old.sent (Answers from session number reply) ⊎ (session < last_on old from)) →
      Acts old.pair old.coordinator done.act new done.call done.refusals →
      CoordinatorMoves done new old
  act_moves in_order done new there acts = by done.act refl acts
    where
      by : (act : Act) → done.act ≡ act →
          Acts old.pair old.coordinator act new done.call done.refusals →
          CoordinatorMoves (record {
            act = act;
            call = done.call;
            refusals = done.refusals;
          }) new old
      by (Starting preference) is so =
          asks (Starting preference) (Start preference) new done.call done.refusals refl refl
          (coordinator_does new done.call done.refusals so)
      by (Taking from session number reply) is so =
          subst (λ refusals. CoordinatorMoves (record {
            act = Taking from session number reply;
            call = done.call;
            refusals = refusals;
          }) new old) (sym so.1)
          (taken in_order from session number reply (there from session number reply is) new
          done.call so.0)
      by Ticking is so =
          subst (λ refusals. CoordinatorMoves (record {
            act = Ticking;
            call = done.call;
            refusals = refusals;
          }) new old) (sym so.1)
          (goes Ticking Tick new done.call refl (ticks new done.call so.0))
      by (Calling call) is so =
          asks (Calling call) (step_by Coordinator call) new done.call done.refusals refl
          (own_step Coordinator call)
          (makes_step old Coordinator call _
          (coordinator_does new done.call done.refusals so))

-- The list so far

runs_more : (steps more : List Step) (old between new : World) → Runs old steps between →
    Runs between more new → Runs old (steps ++ more) new
runs_more [] more old between new same runs = subst (λ world. Runs world more new) same runs
runs_more (step ∷ steps) more old between new first runs =
    (first.0, first.1, runs_more steps more first.0 between new first.2 runs)

one_more : {X Y : Type 0} (f : X → List Y) (xs : List X) (x : X) →
    flat_map f (xs ++ x ∷ []) ≡ flat_map f xs ++ f x
one_more f xs x =
    flat_map-append f xs (x ∷ []) ∙ ap (λ ys. flat_map f xs ++ ys) (append-nil (f x))

last_only : {X : Type 0} (x y : X) (rest later : List X) → x ∷ [] ≡ rest ++ y ∷ later → x ≡ y
last_only x y [] later e = cc
last_only x y (first ∷ rest) later e =
    absurd (no_more rest (let f : [] ≡ rest ++ y ∷ later = cc in f))
  where
    no_more : (rest : List _) → [] ≡ rest ++ y ∷ later → ⊥
    no_more [] f = cc
    no_more (z ∷ zs) f = cc

said_no_request : (at : Which) (hold : Hold) (reply : Option Reply) (side : Which)
    (session number : ℕ) (request : Request) →
    Contains (said_by at hold reply) (Asks side session number request) → ⊥
said_no_request at (ByUser user edit) reply side session number request c = omega (arith, c.1)
said_no_request at (ByRequest connection s n q) reply side session number request c =
    says_no_request at s n reply side session number request c
said_no_request at (ByClose connection) reply side session number request c = omega (arith, c.1)
said_no_request at (ByMachine call) reply side session number request c = omega (arith, c.1)

-- The world after the first moments of a merged list, when the machines are so
pub record IsAfter (connections : Connections) (first : World) (past : List Moment)
    (servers : Which → Server) (coordinator : CoordinatorMachine) (told : Told)
    (steps : List Step) (world : World) : Type 0 where
  pub runs : Runs first steps world
  pub pair_is : world.pair ≡ first.pair
  pub journal_is : (side : Which) → (side_of world side).journal ≡ (servers side).journal
  pub shows : (side : Which) →
      Shows (connections side) (servers side) (side_of world side).staging
  pub coordinator_is : world.coordinator ≡ coordinator
  pub tells : told_in world ≡ told
  pub sent : (message : Message) → Contains world.sent message →
      Contains (messages_of past) message
  pub asked : (side : Which) (session number : ℕ) (request : Request) →
      Contains (messages_of past) (Asks side session number request) →
      Contains world.sent (Asks side session number request)
  pub written : (from : Which) (session number : ℕ) (reply : Reply) →
      WasWritten connections past from session number reply →
      Contains world.sent (Answers from session number reply)
      ⊎ (session < last_of (servers from))
  pub same_steps : filter keeps_step steps ≡ flat_map steps_in past

module _ (connections : Connections) (first : World) (start : IsStart first) (past : List Moment)
    (servers : Which → Server) (coordinator : CoordinatorMachine) (told : Told)
    (steps : List Step) (world : World)
    (after : IsAfter connections first past servers coordinator told steps world) where
  in_order : BeginsInOrder world
  in_order = begin_in_order first world steps start after.runs

  more_messages : (moment : Moment) (message : Message) →
      Contains (messages_of past ++ messages_in moment) message →
      Contains (messages_of (past ++ moment ∷ [])) message
  more_messages moment message =
      subst (λ messages. Contains messages message) (sym (one_more messages_in past moment))

  -- a message of the longer list
  sent_after : (moment : Moment) (now : World) (more : List Message) →
      now.sent ≡ world.sent ++ more →
      ((message : Message) → Contains more message → Contains (messages_in moment) message) →
      (message : Message) → Contains now.sent message →
      Contains (messages_of (past ++ moment ∷ [])) message
  sent_after moment now more is said message c =
      more_messages moment message
      (by (Contains-append_cases world.sent more message
      (subst (λ messages. Contains messages message) is c)))
    where
      by : Contains world.sent message ⊎ Contains more message →
          Contains (messages_of past ++ messages_in moment) message
      by (inl was) = Contains-append_left (messages_of past) (messages_in moment) message
          (after.sent message was)
      by (inr new) = Contains-append_right (messages_of past) (messages_in moment) message
          (said message new)

  asked_after : (moment : Moment) (now : World) (more : List Message) →
      now.sent ≡ world.sent ++ more → (side : Which) (session number : ℕ) (request : Request) →
      (Contains (messages_in moment) (Asks side session number request) →
      Contains more (Asks side session number request)) →
      Contains (messages_of (past ++ moment ∷ [])) (Asks side session number request) →
      Contains now.sent (Asks side session number request)
  asked_after moment now more is side session number request said c =
      subst (λ messages. Contains messages (Asks side session number request)) (sym is)
      (by (Contains-append_cases (messages_of past) (messages_in moment)
      (Asks side session number request)
      (subst (λ messages. Contains messages (Asks side session number request))
      (one_more messages_in past moment) c)))
    where
      by : Contains (messages_of past) (Asks side session number request)
          ⊎ Contains (messages_in moment) (Asks side session number request) →
          Contains (world.sent ++ more) (Asks side session number request)
      by (inl was) = Contains-append_left world.sent more (Asks side session number request)
          (after.asked side session number request was)
      by (inr new) = Contains-append_right world.sent more (Asks side session number request)
          (said new)

  -- a reply that was written before, or just now
  abbrev IsNow : Moment → Which → ℕ → ℕ → Reply → Type 0
  IsNow moment from session number reply =
      (held : Held) × (request : Request) × (moment ≡ OnSide from held)
      × (held.hold ≡ ByRequest (connections from session) session number request)
      × (held.reply ≡ Some reply)

  written_when : (moment : Moment) (from : Which) (session number : ℕ) (reply : Reply) →
      WasWritten connections (past ++ moment ∷ []) from session number reply →
      WasWritten connections past from session number reply
      ⊎ IsNow moment from session number reply
  written_when moment from session number reply was =
      by (split_at past (moment ∷ []) was.before (OnSide from was.held) was.later was.written)
    where
      by : ((rest : List Moment) × (past ≡ was.before ++ OnSide from was.held ∷ rest))
          ⊎ ((rest : List Moment) × (was.before ≡ past ++ rest)
          × (moment ∷ [] ≡ rest ++ OnSide from was.held ∷ was.later)) →
          WasWritten connections past from session number reply
          ⊎ IsNow moment from session number reply
      by (inl earlier) = inl (record {
        before = was.before;
        later = earlier.0;
        held = was.held;
        request = was.request;
        over = was.over;
        says_so = was.says_so;
        written = earlier.1;
      })
      by (inr now) = inr (
        was.held,
        was.request,
        last_only moment (OnSide from was.held) now.0 was.later now.2,
        was.over,
        was.says_so,
      )

  same_after : (moment : Moment) (more : List Step) →
      filter keeps_step more ≡ steps_in moment →
      filter keeps_step (steps ++ more) ≡ flat_map steps_in (past ++ moment ∷ [])
  same_after moment more same =
      filter-append keeps_step steps more
      ∙ ap₂ (λ xs ys. xs ++ ys) after.same_steps same ∙ sym (one_more steps_in past moment)

  -- a side goes on
  module _ (side : Which) (held : Held) (new : Server) (servers_now : Which → Server)
      (here : servers_now side ≡ new) (there : servers_now (other side) ≡ servers (other side))
      (holds : Holds first.pair (servers side) held new)
      (sent : WasSent connections past side held.hold) where
    abbrev moment : Moment
    moment = OnSide side held

    moves : SideMoves (connections side) side (servers side) new held world
    moves =
        hold_moves connections past side (servers side) world (after.journal_is side)
        (after.shows side) in_order (after.asked side) held new
        (subst (λ pair. Holds pair (servers side) held new) (sym after.pair_is) holds) sent

    held_written : (from : Which) (session number : ℕ) (reply : Reply) →
        WasWritten connections past from session number reply
        ⊎ IsNow moment from session number reply →
        Contains moves.now.sent (Answers from session number reply)
        ⊎ (session < last_of (servers_now from))
    held_written from session number reply (inl was) =
        by (after.written from session number reply was)
      where
        grows : (one : Which) → last_of (servers one) ≤ last_of (servers_now one)
        grows = on_both (λ one. last_of (servers one) ≤ last_of (servers_now one)) side
            (subst (λ server. last_of (servers side) ≤ last_of server) (sym here) moves.grows)
            (subst (λ server. last_of (servers (other side)) ≤ last_of server) (sym there)
            (omega arith))

        by : Contains world.sent (Answers from session number reply)
            ⊎ (session < last_of (servers from)) →
            Contains moves.now.sent (Answers from session number reply)
            ⊎ (session < last_of (servers_now from))
        by (inl sent) = inl (subst (λ messages. Contains messages
            (Answers from session number reply)) (sym moves.sent)
            (Contains-append_left world.sent moves.more (Answers from session number reply) sent))
        by (inr earlier) = let grown = grows from in inr (omega (arith, earlier, grown))
    held_written from session number reply (inr (other_held, request, is, over, says_so)) =
        let at : side ≡ from = cc in
        let the_held : held ≡ other_held = cc in
        subst (λ one. Contains moves.now.sent (Answers one session number reply)
        ⊎ (session < last_of (servers_now one))) at
        (subst (λ server. Contains moves.now.sent (Answers side session number reply)
        ⊎ (session < last_of server)) (sym here)
        (moves.written session number request reply
        (ap (λ h. h.hold) the_held ∙ (over ∙ ap (λ one. ByRequest (connections one session) session
        number request) (sym at))) (ap (λ h. h.reply) the_held ∙ says_so)))

    side_after : IsAfter connections first (past ++ OnSide side held ∷ []) servers_now
        coordinator (told_after told (OnSide side held)) (steps ++ moves.steps) moves.now
    side_after = record {
      runs = runs_more steps moves.steps first world moves.now after.runs moves.runs;
      pair_is = moves.pair_is ∙ after.pair_is;
      journal_is = on_both (λ one. (side_of moves.now one).journal ≡ (servers_now one).journal) side
          (moves.journal_is ∙ ap (λ server. server.journal) (sym here))
          (ap (λ machine. machine.journal) moves.other_is
          ∙ (after.journal_is (other side) ∙ ap (λ server. server.journal) (sym there)));
      shows = on_both
          (λ one. Shows (connections one) (servers_now one) (side_of moves.now one).staging) side
          (subst (λ server. Shows (connections side) server (side_of moves.now side).staging)
          (sym here) moves.shows)
          (subst (λ server. Shows (connections (other side)) server
          (side_of moves.now (other side)).staging) (sym there)
          (subst (λ machine. Shows (connections (other side)) (servers (other side))
          machine.staging) (sym moves.other_is) (after.shows (other side))));
      coordinator_is = moves.coordinator_is ∙ after.coordinator_is;
      tells = moves.tells ∙ ap (λ t. told_after t (OnSide side held)) after.tells;
      sent = sent_after (OnSide side held) moves.now moves.more moves.sent moves.said;
      asked = λ one session number request.
          asked_after (OnSide side held) moves.now moves.more moves.sent one session number request
          (λ c. absurd (said_no_request side held.hold held.reply one session number request c));
      written = λ from session number reply was.
          held_written from session number reply
          (written_when (OnSide side held) from session number reply was);
      same_steps = same_after (OnSide side held) moves.steps moves.same_steps;
    }

  -- the coordinator goes on
  module _ (done : Done) (new : CoordinatorMachine)
      (acts : Acts first.pair coordinator done.act new done.call done.refusals)
      (heard : MayCome connections past (OnCoordinator done)) where
    heard_there : (act : Act) → MayCome connections past (OnCoordinator (record {
      act = act;
      call = done.call;
      refusals = done.refusals;
    })) → (from : Which) (session number : ℕ) (reply : Reply) →
        act ≡ Taking from session number reply →
        Contains world.sent (Answers from session number reply) ⊎ (session < last_on world from)
    heard_there (Taking at s n said) was from session number reply is =
        let same_side : at ≡ from = cc in
        let same_session : s ≡ session = cc in
        let same_number : n ≡ number = cc in
        let same_reply : said ≡ reply = cc in
        let there = after.written at s n said was in
        subst (λ x. Contains world.sent (Answers x session number reply)
        ⊎ (session < last_on world x)) same_side
        (subst (λ x. Contains world.sent (Answers at x number reply)
        ⊎ (x < last_on world at)) same_session
        (subst (λ x. Contains world.sent (Answers at s x reply)
        ⊎ (s < last_on world at)) same_number
        (subst (λ x. Contains world.sent (Answers at s n x)
        ⊎ (s < last_on world at)) same_reply
        (subst (λ journal. Contains world.sent (Answers at s n said)
        ⊎ (s < last_session journal.value)) (sym (after.journal_is at)) there))))
    heard_there (Starting preference) was from session number reply is =
        absurd (let x : Starting preference ≡ Taking from session number reply = is in cc)
    heard_there Ticking was from session number reply is =
        absurd (let x : Ticking ≡ Taking from session number reply = is in cc)
    heard_there (Calling call) was from session number reply is =
        absurd (let x : Calling call ≡ Taking from session number reply = is in cc)

    goes_on : CoordinatorMoves done new world
    goes_on =
        act_moves world in_order done new (heard_there done.act heard)
        (subst (λ pair. Acts pair world.coordinator done.act new done.call done.refusals)
        (sym after.pair_is)
        (subst (λ machine. Acts first.pair machine done.act new done.call done.refusals)
        (sym after.coordinator_is) acts))

    done_written : (from : Which) (session number : ℕ) (reply : Reply) →
        WasWritten connections past from session number reply
        ⊎ IsNow (OnCoordinator done) from session number reply →
        Contains goes_on.now.sent (Answers from session number reply)
        ⊎ (session < last_of (servers from))
    done_written from session number reply (inl was) =
        by (after.written from session number reply was)
      where
        by : Contains world.sent (Answers from session number reply)
            ⊎ (session < last_of (servers from)) →
            Contains goes_on.now.sent (Answers from session number reply)
            ⊎ (session < last_of (servers from))
        by (inl sent) = inl (subst (λ messages. Contains messages
            (Answers from session number reply)) (sym goes_on.sent)
            (Contains-append_left world.sent done.call.messages
            (Answers from session number reply) sent))
        by (inr earlier) = inr earlier
    done_written from session number reply (inr (held, request, is, over, says_so)) =
        absurd (let x : OnCoordinator done ≡ OnSide from held = is in cc)

    coordinator_after : IsAfter connections first (past ++ OnCoordinator done ∷ []) servers
        new (told_after told (OnCoordinator done)) (steps ++ goes_on.steps) goes_on.now
    coordinator_after = record {
      runs = runs_more steps goes_on.steps first world goes_on.now after.runs goes_on.runs;
      pair_is = goes_on.pair_is ∙ after.pair_is;
      journal_is = λ side. ap (λ machine. machine.journal) (goes_on.sides_are side)
          ∙ after.journal_is side;
      shows = λ side. subst (λ machine. Shows (connections side) (servers side) machine.staging)
          (sym (goes_on.sides_are side)) (after.shows side);
      coordinator_is = goes_on.coordinator_is;
      tells = goes_on.tells ∙ ap (λ t. told_after t (OnCoordinator done)) after.tells;
      sent = sent_after (OnCoordinator done) goes_on.now done.call.messages goes_on.sent
          (λ message c. c);
      asked = λ one session number request.
          asked_after (OnCoordinator done) goes_on.now done.call.messages goes_on.sent one session
          number request (λ c. c);
      written = λ from session number reply was.
          done_written from session number reply
          (written_when (OnCoordinator done) from session number reply was);
      same_steps = same_after (OnCoordinator done) goes_on.steps goes_on.same_steps;
    }

-- The whole list

abbrev both : Server → Server → Which → Server
both left right Left = left
both left right Right = right

record Ends (connections : Connections) (first : World) (merged : List Moment)
    (left right : Server) (coordinator : CoordinatorMachine) (told : Told) : Type 0 where
  steps : List Step
  world : World
  after : IsAfter connections first merged (both left right) coordinator told steps world

goes_through : (connections : Connections) (first : World) → IsStart first →
    (left right : Server) (coordinator : CoordinatorMachine) (later past : List Moment)
    (l r : Server) (c : CoordinatorMachine) (told : Told) (steps : List Step) (world : World) →
    IsAfter connections first past (both l r) c told steps world →
    AreInOrder connections past later → HoldsAll first.pair l (holds_of Left later) left →
    HoldsAll first.pair r (holds_of Right later) right →
    ActsAll first.pair c (acts_of later) coordinator →
    Ends connections first (past ++ later) left right coordinator (fold told_after told later)
goes_through connections first start left right coordinator [] past l r c told steps world after
    ordered on_left on_right acts = record {
      steps = steps;
      world = world;
      after = subst (λ moments. IsAfter connections first moments (both left right) coordinator told
          steps world) (sym (append-nil past))
          (subst (λ server. IsAfter connections first past (both server right) coordinator told
          steps world) (sym on_left)
          (subst (λ server. IsAfter connections first past (both l server) coordinator told steps
          world) (sym on_right)
          (subst (λ machine. IsAfter connections first past (both l r) machine told steps world)
          (sym acts) after)));
    }
goes_through connections first start left right coordinator (OnSide Left held ∷ later) past l r c
    told steps world after ordered on_left on_right acts =
    subst (λ moments. Ends connections first moments left right coordinator
    (fold told_after told (OnSide Left held ∷ later)))
    (append_assoc past (OnSide Left held ∷ []) later)
    (goes_through connections first start left right coordinator later
    (past ++ OnSide Left held ∷ []) on_left.0 r c (told_after told (OnSide Left held)) _ _
    (side_after connections first start past (both l r) c told steps world after Left held
    on_left.0 (both on_left.0 r) refl refl on_left.1 ordered.0) ordered.1 on_left.2 on_right acts)
goes_through connections first start left right coordinator (OnSide Right held ∷ later) past l r c
    told steps world after ordered on_left on_right acts =
    subst (λ moments. Ends connections first moments left right coordinator
    (fold told_after told (OnSide Right held ∷ later)))
    (append_assoc past (OnSide Right held ∷ []) later)
    (goes_through connections first start left right coordinator later
    (past ++ OnSide Right held ∷ []) l on_right.0 c (told_after told (OnSide Right held)) _ _
    (side_after connections first start past (both l r) c told steps world after Right held
    on_right.0 (both l on_right.0) refl refl on_right.1 ordered.0) ordered.1 on_left on_right.2
    acts)
goes_through connections first start left right coordinator (OnCoordinator done ∷ later) past l r
    c told steps world after ordered on_left on_right acts =
    subst (λ moments. Ends connections first moments left right coordinator
    (fold told_after told (OnCoordinator done ∷ later)))
    (append_assoc past (OnCoordinator done ∷ []) later)
    (goes_through connections first start left right coordinator later
    (past ++ OnCoordinator done ∷ []) l r acts.0 (told_after told (OnCoordinator done)) _ _
    (coordinator_after connections first start past (both l r) c told steps world after done
    acts.0 acts.1 ordered.0) ordered.1 on_left on_right acts.2)

-- nothing is staged in the beginning
starts_shown : (connections : Connections) (first : World) → IsStart first → (side : Which) →
    Shows (connections side) (both (server_of first.left) (server_of first.right) side)
    (side_of first side).staging
starts_shown connections first start Left =
    subst (Shows (connections Left) (server_of first.left)) (sym start.left.1) (record {
      here = tt;
      there = λ connection. tt;
      alike = inl refl;
    })
starts_shown connections first start Right =
    subst (Shows (connections Right) (server_of first.right)) (sym start.right.1) (record {
      here = tt;
      there = λ connection. tt;
      alike = inl refl;
    })

starts_after : (connections : Connections) (first : World) → IsStart first →
    IsAfter connections first [] (both (server_of first.left) (server_of first.right))
    first.coordinator nothing_told [] first
starts_after connections first start = record {
  runs = refl;
  pair_is = refl;
  journal_is = journal_is;
  shows = starts_shown connections first start;
  coordinator_is = refl;
  tells = ap₂ {C = Told} (λ acknowledged refusals. record (told_in first) {
    acknowledged = acknowledged;
    refusals = refusals;
  }) start.nothing_yet.1 start.nothing_yet.4
      ∙ ap₂ {C = Told} (λ reports log. record {
        acknowledged = [];
        refusals = [];
        reports = reports;
        log = log;
      }) start.nothing_yet.2 start.nothing_yet.3;
  sent = λ message c. subst (λ messages. Contains messages message) start.nothing_yet.0 c;
  asked = λ side session number request c. absurd (omega (arith, c.1));
  written = λ from session number reply was. absurd (nothing was.before was.held was.later from
      was.written);
  same_steps = refl;
}
  where
    journal_is : (side : Which) → (side_of first side).journal
        ≡ (both (server_of first.left) (server_of first.right) side).journal
    journal_is Left = refl
    journal_is Right = refl

    nothing : (before : List Moment) (held : Held) (later : List Moment) (from : Which) →
        [] ≡ before ++ OnSide from held ∷ later → ⊥
    nothing [] held later from e = let x : [] ≡ OnSide from held ∷ later = e in cc
    nothing (one ∷ before) held later from e =
        let x : [] ≡ one ∷ (before ++ OnSide from held ∷ later) = e in cc

pub merges_run : MergesAreRuns
merges_run connections old merged left right coordinator m =
    let ends = goes_through connections old m.opened left right coordinator merged []
    (server_of old.left) (server_of old.right) old.coordinator nothing_told [] old
    (starts_after connections old m.opened) m.ordered m.on_left m.on_right m.acts in
    record {
      steps = ends.steps;
      new = ends.world;
      runs = ends.after.runs;
      same_steps = ends.after.same_steps;
      left_is = ends.after.journal_is Left;
      right_is = ends.after.journal_is Right;
      coordinator_is = ends.after.coordinator_is;
      tells = ends.after.tells;
      sent = ends.after.sent;
      asked = ends.after.asked;
      answered = λ from session number reply was.
          subst (λ journal. Contains ends.world.sent (Answers from session number reply)
          ⊎ (session < last_session journal.value)) (sym (ends.after.journal_is from))
          (ends.after.written from session number reply was);
    }

-- so what holds of runs holds of merges
pub of_each_merge : (Holds : Stores → Picture → Type 0) → OfEachRun Holds → OfEachMerge Holds
of_each_merge Holds each connections old merged left right coordinator m =
    let run = merges_run connections old merged left right coordinator m in
    (run, each old run.new run.steps m.opened run.runs)
