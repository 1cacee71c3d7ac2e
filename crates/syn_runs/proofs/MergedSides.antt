-- A hold of a side that is served over connections is a step of the world, or changes nothing
-- there.
use Rattle.std.proofs.Common.{◌≡◌, ◌≢◌, ◌<◌, ◌≤◌, ◌⊎◌, inl, inr, ℕ, false, not}
use Rattle.std.proofs.Common.{List, [], ◌∷◌, ◌++◌, map, length, filter, refl, sym}
use Rattle.std.proofs.Common.{ap, ap₂, ◌∙◌, subst, Option, Some, None, arith, append-nil, slice_get}
use Rattle.std.proofs.Common.{if◌then◌else◌}
use Rattle.std.specs.Prelude.{Contains}
use Rattle.std.proofs.lemmas.Option.{slice_get_read}
use Rattle.std.proofs.lemmas.List.Elements.{Contains-append_right}
use Rattle.syn_model.specs.Refusal.{Refusal}
use Rattle.syn_model.specs.Event.{Event}
use Rattle.syn_model.specs.History.{last_session}
use Rattle.syn_machine.specs.Side.{Staging, Request, Reply}
use Rattle.syn_machine.specs.SideMachine.{SideMachine, SideTakes}
use Rattle.syn_machine.specs.Server.{Server, Held, Hold, ByRequest}
use Rattle.syn_machine.specs.Network.{Which, Left, Right, other, Message, Asks, Answers, Sent}
use Rattle.syn_runs.specs.Acknowledged.{Happened}
use Rattle.syn_runs.specs.World.{World, Step, Deliver, Runs, Steps, side_of}
use Rattle.syn_runs.specs.World.{side_goes, refuses_with, says}
use Rattle.syn_runs.specs.World.{Delivers, to_side}
use Rattle.syn_runs.specs.Merged.{Told, told_in, told_after, OnSide, said_by, hold_steps}
use Rattle.syn_runs.specs.Merged.{is_delivery}
use Rattle.syn_runs.proofs.SameSteps.{machine_with}
use Rattle.syn_runs.proofs.ShownServers.{Shows, last_of}

-- A side of the world goes on

module _ (old : World) (machine : SideMachine) (messages : List Message) (events : List Event) where
  abbrev next : Which → World
  next side = side_goes old side machine messages events

  goes_here : (side : Which) → side_of (next side) side ≡ machine
  goes_here Left = refl
  goes_here Right = refl

  goes_there : (side : Which) → side_of (next side) (other side) ≡ side_of old (other side)
  goes_there Left = refl
  goes_there Right = refl

  goes_pair : (side : Which) → (next side).pair ≡ old.pair
  goes_pair Left = refl
  goes_pair Right = refl

  goes_coordinator : (side : Which) → (next side).coordinator ≡ old.coordinator
  goes_coordinator Left = refl
  goes_coordinator Right = refl

  goes_told : (side : Which) → told_in (next side) ≡ record (told_in old) {
    acknowledged = old.acknowledged ++ map (λ event. Happened side event) events;
  }
  goes_told Left = refl
  goes_told Right = refl

refused_here : (side : Which) (world : World) (refusals : List Refusal) →
    side_of (refuses_with world refusals) side ≡ side_of world side
refused_here Left world refusals = refl
refused_here Right world refusals = refl

-- What a hold is in the world: no step, or one, with the same journal, events and refusals. What is
-- sent by it is its reply. A reply over the connection of a session is sent, unless a later session
-- was begun there
pub record SideMoves (over : ℕ → ℕ) (side : Which) (server new : Server) (held : Held)
    (old : World) : Type 0 where
  pub steps : List Step
  pub now : World
  pub runs : Runs old steps now
  pub same_steps : filter (λ step. not (is_delivery step)) steps ≡ hold_steps side held.hold
  pub pair_is : now.pair ≡ old.pair
  pub coordinator_is : now.coordinator ≡ old.coordinator
  pub other_is : side_of now (other side) ≡ side_of old (other side)
  pub journal_is : (side_of now side).journal ≡ new.journal
  pub shows : Shows over new (side_of now side).staging
  pub tells : told_in now ≡ told_after (told_in old) (OnSide side held)
  pub more : List Message
  pub sent : now.sent ≡ old.sent ++ more
  pub said : (message : Message) → Contains more message →
      Contains (said_by side held.hold held.reply) message
  pub written : (session number : ℕ) (request : Request) (reply : Reply) →
      held.hold ≡ ByRequest (over session) session number request → held.reply ≡ Some reply →
      Contains now.sent (Answers side session number reply) ⊎ (session < last_of new)
  pub grows : last_of server ≤ last_of new

pub told_more : (side : Which) (hold : Hold) (reply : Option Reply) (told : Told) →
    told ≡ told_after told (OnSide side (record {
      hold = hold;
      reply = reply;
      events = [];
      refusals = [];
    }))
told_more side hold reply told =
    ap₂ (λ acknowledged refusals. record told {
      acknowledged = acknowledged;
      refusals = refusals;
    }) (sym (append-nil told.acknowledged)) (sym (append-nil told.refusals))

-- nothing is among nothing
pub none_in : (message : Message) → Contains [] message → ⊥
none_in message c = omega (arith, c.1)

pub last_in : (sent : Sent) (message : Message) → Contains (sent ++ message ∷ []) message
last_in sent message = Contains-append_right sent (message ∷ []) message (0, omega arith, refl)

module _ (over : ℕ → ℕ) (side : Which) (server : Server) (old : World)
    (journal_is : (side_of old side).journal ≡ server.journal)
    (shows : Shows over server (side_of old side).staging) where
  abbrev pub staging : Option Staging
  staging = (side_of old side).staging

  pub at : machine_with server.journal staging ≡ side_of old side
  at = ap (λ journal. machine_with journal staging) (sym journal_is)

  -- no step of the world
  pub idle : (new : Server) (hold : Hold) (reply : Option Reply) → hold_steps side hold ≡ [] →
      new.journal ≡ server.journal → Shows over new staging →
      ((session number : ℕ) (request : Request) → hold ≡ ByRequest (over session) session number
      request → session < last_of server) →
      SideMoves over side server new (record {
        hold = hold;
        reply = reply;
        events = [];
        refusals = [];
      }) old
  idle new hold reply no_steps same shown earlier = record {
    steps = [];
    now = old;
    runs = refl;
    same_steps = sym no_steps;
    pair_is = refl;
    coordinator_is = refl;
    other_is = refl;
    journal_is = journal_is ∙ sym same;
    shows = shown;
    tells = told_more side hold reply (told_in old);
    more = [];
    sent = sym (append-nil old.sent);
    said = λ message c. absurd (none_in message c);
    written = λ session number request reply is says_so.
        inr (subst (λ journal. session < last_session journal.value) (sym same)
        (earlier session number request is));
    grows = subst (λ journal. last_of server ≤ last_session journal.value) (sym same)
        (omega arith);
  }

  -- a step of the side itself
  pub own : (new : Server) (hold : Hold) (step : Step) (machine : SideMachine) (events : List Event)
      (refusals : List Refusal) → hold_steps side hold ≡ step ∷ [] → is_delivery step ≡ false →
      ((connection session number : ℕ) (request : Request) →
      hold ≢ ByRequest connection session number request) →
      Steps old step (refuses_with (side_goes old side machine [] events) refusals) →
      machine.journal ≡ new.journal → Shows over new machine.staging →
      last_of server ≤ last_of new →
      SideMoves over side server new (record {
        hold = hold;
        reply = None;
        events = events;
        refusals = refusals;
      }) old
  own new hold step machine events refusals one_step no_delivery no_request made same shown grown =
      record {
        steps = step ∷ [];
        now = now;
        runs = (now, made, refl);
        same_steps =
            subst (λ b. (if not b then step ∷ [] else []) ≡ hold_steps side hold)
            (sym no_delivery) (sym one_step);
        pair_is = goes_pair old machine [] events side;
        coordinator_is = goes_coordinator old machine [] events side;
        other_is = refused_here (other side) (side_goes old side machine [] events) refusals
            ∙ goes_there old machine [] events side;
        journal_is = ap (λ m. m.journal) here ∙ same;
        shows = subst (Shows over new) (sym (ap (λ m. m.staging) here)) shown;
        tells = ap (λ (told : Told). record told { refusals = told.refusals ++ refusals })
            (goes_told old machine [] events side);
        more = [];
        sent = refl;
        said = λ message c. absurd (none_in message c);
        written = λ session number request reply is says_so.
            absurd (no_request (over session) session number request is);
        grows = grown;
      }
    where
      now : World
      now = refuses_with (side_goes old side machine [] events) refusals

      here : side_of (refuses_with (side_goes old side machine [] events) refusals) side ≡ machine
      here = refused_here side (side_goes old side machine [] events) refusals
          ∙ goes_here old machine [] events side

  -- a request is delivered
  pub delivered : (new : Server) (connection session number : ℕ) (request : Request)
      (machine : SideMachine) (reply : Option Reply) (events : List Event) →
      Contains old.sent (Asks side session number request) →
      SideTakes old.pair (machine_with server.journal staging) session request machine reply
      events → machine.journal ≡ new.journal → Shows over new machine.staging →
      last_of server ≤ last_of new →
      SideMoves over side server new (record {
        hold = ByRequest connection session number request;
        reply = reply;
        events = events;
        refusals = [];
      }) old
  delivered new connection session number request machine reply events asked takes same shown
      grown = record {
        steps = Deliver asked.0 ∷ [];
        now = now;
        runs = (
          now,
          subst (λ message. Delivers old message now) (sym found)
              (to_side side session number request machine reply events
              (subst (λ m. SideTakes old.pair m session request machine reply events) at takes)),
          refl,
        );
        same_steps = refl;
        pair_is = goes_pair old machine (says side session number reply) events side;
        coordinator_is =
            goes_coordinator old machine (says side session number reply) events side;
        other_is = goes_there old machine (says side session number reply) events side;
        journal_is = ap (λ m. m.journal) here ∙ same;
        shows = subst (Shows over new) (sym (ap (λ m. m.staging) here)) shown;
        tells = goes_told old machine (says side session number reply) events side
            ∙ ap {B = Told} (λ refusals. record (told_in old) {
              acknowledged = old.acknowledged ++ map (λ event. Happened side event) events;
              refusals = refusals;
            }) (sym (append-nil old.refusals));
        more = says side session number reply;
        sent = refl;
        said = λ message c. c;
        written = λ session number request reply is says_so.
            inl (in_sent session number request reply is says_so);
        grows = grown;
      }
    where
      now : World
      now = side_goes old side machine (says side session number reply) events

      found : slice_get old.sent asked.0 ≡ Some (Asks side session number request)
      found = slice_get_read old.sent (length old.sent) asked.0 _ refl asked.1 (sym asked.2)

      here : side_of (side_goes old side machine (says side session number reply) events) side
          ≡ machine
      here = goes_here old machine (says side session number reply) events side

      in_sent : (s n : ℕ) (q : Request) (r : Reply) →
          ByRequest connection session number request ≡ ByRequest (over s) s n q →
          reply ≡ Some r →
          Contains (old.sent ++ says side session number reply) (Answers side s n r)
      in_sent s n q r is says_so =
          let same_session : session ≡ s = cc in
          let same_number : number ≡ n = cc in
          subst (λ reply. Contains (old.sent ++ says side session number reply)
          (Answers side s n r)) (sym says_so)
          (subst (λ x. Contains (old.sent ++ Answers side x number r ∷ []) (Answers side s n r))
          (sym same_session)
          (subst (λ x. Contains (old.sent ++ Answers side s x r ∷ []) (Answers side s n r))
          (sym same_number) (last_in old.sent (Answers side s n r))))
