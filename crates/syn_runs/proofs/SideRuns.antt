-- What a step does at a side keeps the invariant, and its replacements are legal.
use Rattle.std.proofs.Common.{◌≡◌, ℕ, List, ◌∷◌, ◌++◌, refl, sym, ap, ap₂, ◌∙◌, subst, Some}
use Rattle.std.proofs.Common.{append-nil, inl, inr, ◌⊎◌, ◌≢◌, map, []}
use Rattle.std.specs.Prelude.{Contains, IfSome}
use Rattle.std.proofs.lemmas.List.{append_cancel_left}
use Rattle.syn_model.specs.Path.{Path}
use Rattle.syn_model.specs.Tree.{Tree}
use Rattle.syn_model.specs.Refusal.{Device}
use Rattle.syn_model.specs.Event.{Token, Event, Edited, Began, Replaced}
use Rattle.syn_model.specs.History.{History, IsAllowed}
use Rattle.syn_model.specs.Archive.{Kept}
use Rattle.syn_machine.specs.Side.{Side, Served, Request, Refused, IsLawfulRequest}
use Rattle.syn_machine.specs.Network.{Which, Left, Right, other, Sent, Asks, Answers}
use Rattle.syn_machine.specs.Planning.{Log}
use Rattle.syn_runs.specs.Acknowledged.{Ack, Happened, Kept_by, history_of, IsLegal}
use Rattle.syn_runs.specs.Picture.{Picture, SidePicture, side_of, set_side, stopped, Writes}
use Rattle.syn_runs.specs.Picture.{written, failed, cut, Opens, opened, recovered, WouldAdd}
use Rattle.syn_runs.specs.Picture.{TakesRequest, answered, request_failed, request_cut}
use Rattle.syn_runs.specs.Picture.{stores_of}
use Rattle.syn_machine.specs.Machine.{Status, Up, Halted, Down}
use Rattle.syn_runs.proofs.Invariant.{Plans, plan_in, histories_of, IsSoundStaging}
use Rattle.syn_runs.proofs.Invariant.{IsSoundEvent, IsKept}
use Rattle.syn_runs.proofs.OutcomeLemmas.{any_outcome, outcome, unless_up_same}
use Rattle.syn_runs.proofs.StagedLemmas.{Moves}
use Rattle.syn_runs.proofs.MoveLemmas.{refused_borne, outcome_moves, outcome_true}
use Rattle.syn_runs.proofs.MoveLemmas.{outcome_borne, outcome_staging, legal, refused_true}
use Rattle.syn_runs.proofs.SideSteps.{if_some, Says, nothing, reply, SideStep, step_moves}
use Rattle.syn_runs.proofs.SideSteps.{side_keeps}
use Rattle.syn_runs.proofs.View.{longer}

-- each acknowledged replacement of a step is the first of its events, and legal
abbrev pub IsLegalStep : Picture → List Ack → Type 0
IsLegalStep old acks =
    (earlier later : List Ack) (side : Which) (token : Token) (path : Path) (since : ℕ) (u : Tree) →
    acks ≡ earlier ++ Happened side (Replaced token path since u) ∷ later →
    (earlier ≡ []) × IsLegal old.sent old.log side (stores_of old) token path since u

pub record Advances (plans : Plans) (old new : Picture) : Type 0 where
  pub later : Plans
  pub kept : IsKept later new
  pub which : Which
  pub moves : Moves plans old.coordinator.archive (histories_of old) (histories_of new) which
  pub messages : Sent
  pub sends : new.sent ≡ old.sent ++ messages
  pub logged : Log
  pub logs : new.log ≡ old.log ++ logged
  pub acks : List Ack
  pub acknowledges : new.acknowledged ≡ old.acknowledged ++ acks
  pub legal_step : IsLegalStep old acks

pub not_nothing : (earlier later : List Ack) (a : Ack) → [] ≡ earlier ++ a ∷ later → ⊥
not_nothing [] later a e = cc
not_nothing (b ∷ earlier) later a e = cc

none_legal : (old : Picture) → IsLegalStep old []
none_legal old earlier later side token path since u e = absurd (not_nothing earlier later _ e)

kept_only : (ks : List Kept) (earlier later : List Ack) (side : Which) (event : Event) →
    map (λ k. Kept_by k) ks ≡ earlier ++ Happened side event ∷ later → ⊥
kept_only [] earlier later side event e = not_nothing earlier later _ e
kept_only (k ∷ ks) [] later side event e = cc
kept_only (k ∷ ks) (b ∷ earlier) later side event e =
    kept_only ks earlier later side event
    (let t : map (λ k. Kept_by k) ks ≡ earlier ++ Happened side event ∷ later = cc in t)

pub kept_legal : (old : Picture) (ks : List Kept) → IsLegalStep old (map (λ k. Kept_by k) ks)
kept_legal old ks earlier later side token path since u e =
    absurd (kept_only ks earlier later side _ e)

-- neither side goes on
pub stay_moves : (plans : Plans) (old new : Picture) → histories_of new Left ≡ histories_of old
    Left →
    histories_of new Right ≡ histories_of old Right →
    Moves plans old.coordinator.archive (histories_of old) (histories_of new) Left
stay_moves plans old new left right = record { here = inl left; there = right }

pub stays : (plans : Plans) (old new : Picture) → IsKept plans old → new ≡ old →
    Advances plans old new
stays plans old new k e = record {
  later = plans;
  kept = subst (IsKept plans) (sym e) k;
  which = Left;
  moves =
      stay_moves plans old new (ap (λ w. histories_of w Left) e) (ap (λ w. histories_of w Right) e);
  messages = [];
  sends = ap (λ w. w.sent) e ∙ sym (append-nil old.sent);
  logged = [];
  logs = ap (λ w. w.log) e ∙ sym (append-nil old.log);
  acks = [];
  acknowledges = ap (λ w. w.acknowledged) e ∙ sym (append-nil old.acknowledged);
  legal_step = none_legal old;
}

-- A side

-- the events that a side adds: none, or one that is allowed and that its session's plan asks for
pub data Adds (plans : Plans) (old : Picture) (which : Which) (history : History) : List Event →
    Type 0 where
  no_event : history ≡ histories_of old which → Adds plans old which history []
  one_event : (event : Event) → IsAllowed (histories_of old which) event →
      IsSoundEvent plans (histories_of old) old.coordinator.archive which event →
      history ≡ histories_of old which ++ event ∷ [] → Adds plans old which history (event ∷ [])

moves_of : (plans : Plans) (old : Picture) (which : Which) (history : History)
    (events : List Event) →
    Adds plans old which history events →
    (history ≡ histories_of old which) ⊎ ((event : Event) × IsAllowed (histories_of old which) event
    × IsSoundEvent plans (histories_of old) old.coordinator.archive which event
    × (history ≡ histories_of old which ++ event ∷ []))
moves_of plans old which history _ (no_event e) = inl e
moves_of plans old which history _ (one_event event a s e) = inr (event, a, s, e)

stores_history : (w : Picture) (s : Which) → history_of (stores_of w) s ≡ histories_of w s
stores_history w Left = refl
stores_history w Right = refl

event_legal : (plans : Plans) (old : Picture) → IsKept plans old → (which : Which) (event : Event) →
    IsAllowed (histories_of old which) event →
    IsSoundEvent plans (histories_of old) old.coordinator.archive which event → (side : Which)
    (token : Token) (path : Path) (since : ℕ) (u : Tree) →
    Happened which event ≡ Happened side (Replaced token path since u) →
    IsLegal old.sent old.log side (stores_of old) token path since u
event_legal plans old k which (Edited user edit) a s side token path since u e =
    absurd (let x : Edited user edit ≡ Replaced token path since u = cc in cc)
event_legal plans old k which (Began session) a s side token path since u e =
    absurd (let x : Began session ≡ Replaced token path since u = cc in cc)
event_legal plans old k which (Replaced token' path' since' u') a s side token path since u e =
    let e0 : which ≡ side = cc in
    let e1 : token' ≡ token = cc in
    let e2 : path' ≡ path = cc in
    let e3 : since' ≡ since = cc in
    let e4 : u' ≡ u = cc in
    subst (λ v. IsLegal old.sent old.log side (stores_of old) token path since v) e4
    (subst (λ v. IsLegal old.sent old.log side (stores_of old) token path v u') e3
    (subst (λ v. IsLegal old.sent old.log side (stores_of old) token v since' u') e2
    (subst (λ v. IsLegal old.sent old.log side (stores_of old) v path' since' u') e1
    (subst (λ v. IsLegal old.sent old.log v (stores_of old) token' path' since' u') e0
    (subst (λ log. IsLegal old.sent log which (stores_of old) token' path' since' u') (sym k.logged)
    (legal plans (histories_of old) old.coordinator.archive old.sent k.sound which token' path'
    since' u' a s (stores_of old) (stores_history old) refl))))))

adds_legal : (plans : Plans) (old : Picture) → IsKept plans old → (which : Which)
    (history : History)
    (events : List Event) → Adds plans old which history events →
    IsLegalStep old (map (λ event. Happened which event) events)
adds_legal plans old k which history _ (no_event e) earlier later side token path since u same =
    none_legal old earlier later side token path since u same
adds_legal plans old k which history _ (one_event event a s e)
    [] later side token path since u same = (
      refl,
      event_legal plans old k which event a s side token path since u
          (let x : Happened which event ≡ Happened side (Replaced token path since u) = cc in x),
    )
adds_legal plans old k which history _ (one_event event a s e)
    (b ∷ earlier) later side token path since u same =
    absurd (not_nothing earlier later (Happened side (Replaced token path since u))
    (let x : [] ≡ earlier ++ Happened side (Replaced token path since u) ∷ later = cc in x))

abbrev next : Picture → Which → SidePicture → Sent → List Ack → Picture
next old which machine sent acks =
    record (set_side old which machine) { sent = sent; acknowledged = acks }

next_here : (old : Picture) (which : Which) (machine : SidePicture) (sent : Sent)
    (acks : List Ack) →
    side_of (next old which machine sent acks) which ≡ machine
next_here old Left machine sent acks = refl
next_here old Right machine sent acks = refl

next_there : (old : Picture) (which : Which) (machine : SidePicture) (sent : Sent)
    (acks : List Ack) →
    side_of (next old which machine sent acks) (other which) ≡ side_of old (other which)
next_there old Left machine sent acks = refl
next_there old Right machine sent acks = refl

next_coordinator : (old : Picture) (which : Which) (machine : SidePicture) (sent : Sent)
    (acks : List Ack) → (next old which machine sent acks).coordinator ≡ old.coordinator
next_coordinator old Left machine sent acks = refl
next_coordinator old Right machine sent acks = refl

next_log : (old : Picture) (which : Which) (machine : SidePicture) (sent : Sent) (acks : List Ack) →
    (next old which machine sent acks).log ≡ old.log
next_log old Left machine sent acks = refl
next_log old Right machine sent acks = refl

next_sent : (old : Picture) (which : Which) (machine : SidePicture) (sent : Sent) →
    record (set_side old which machine) { sent = sent }
    ≡ next old which machine sent old.acknowledged
next_sent old Left machine sent = refl
next_sent old Right machine sent = refl

pub next_same : (old : Picture) (which : Which) (machine : SidePicture) →
    set_side old which machine ≡ next old which machine old.sent old.acknowledged
next_same old Left machine = refl
next_same old Right machine = refl

abbrev IsWritten : Plans → Picture → Which → SidePicture → Type 0
IsWritten plans old which machine =
    IfSome machine.writing (λ event. (machine.status ≢ Up) × IsSoundEvent plans (histories_of old)
    old.coordinator.archive which event × (machine.side.history ≡ histories_of old which))

side_advances : (plans : Plans) (old : Picture) → IsKept plans old → (which : Which)
    (machine : SidePicture) (messages : Sent) (events : List Event) (new : Picture) →
    Adds plans old which machine.side.history events →
    IfSome machine.side.staging (IsSoundStaging plans (histories_of old) which) →
    IsWritten plans old which machine → Says plans old.sent which machine.side.history messages →
    new ≡ next old which machine (old.sent ++ messages)
    (old.acknowledged ++ map (λ event. Happened which event) events) → Advances plans old new
side_advances plans old k which machine messages events new adds staged writing says e =
    let says_now = old.sent ++ messages in
    let acks_now = old.acknowledged ++ map (λ event. Happened which event) events in
    let n = next old which machine says_now acks_now in
    let step : SideStep plans old n which machine messages = record {
      here = next_here old which machine says_now acks_now;
      there = next_there old which machine says_now acks_now;
      coordinator = next_coordinator old which machine says_now acks_now;
      sent = refl;
      log = next_log old which machine says_now acks_now;
      moves = moves_of plans old which machine.side.history events adds;
      staged = staged;
      writing = writing;
      says = says;
    } in
    record {
      later = plans;
      kept = subst (IsKept plans) (sym e) (side_keeps plans old n k which machine messages step);
      which = which;
      moves =
          subst (λ w. Moves plans old.coordinator.archive (histories_of old) (histories_of w) which)
          (sym e) (step_moves plans old n k which machine messages step);
      messages = messages;
      sends = ap (λ w. w.sent) e;
      logged = [];
      logs =
          ap (λ w. w.log) e
          ∙ (next_log old which machine says_now acks_now ∙ sym (append-nil old.log));
      acks = map (λ event. Happened which event) events;
      acknowledges = ap (λ w. w.acknowledged) e;
      legal_step = adds_legal plans old k which machine.side.history events adds;
    }

-- with no event and nothing said
pub side_settles : (plans : Plans) (old : Picture) → IsKept plans old → (which : Which)
    (machine : SidePicture) (new : Picture) → machine.side.history ≡ histories_of old which →
    IfSome machine.side.staging (IsSoundStaging plans (histories_of old) which) →
    IsWritten plans old which machine → new ≡ next old which machine old.sent old.acknowledged →
    Advances plans old new
side_settles plans old k which machine new h staged writing e =
    side_advances plans old k which machine []
    [] new (no_event h) staged writing nothing (e ∙ ap₂ (λ s a. next old which machine s a)
    (sym (append-nil old.sent)) (sym (append-nil old.acknowledged)))

pub was_written : (plans : Plans) (old : Picture) → IsKept plans old → (which : Which)
    (status : Status) → (((side_of old which).status ≢ Up) → status ≢ Up) → (side : Side) →
    side.history ≡ histories_of old which →
    IsWritten plans old which (record (side_of old which) { status = status; side = side })
was_written plans old k which status keeps side h =
    if_some (side_of old which).writing (λ event. ((side_of old which).status ≢ Up)
    × IsSoundEvent plans (histories_of old) old.coordinator.archive which event)
    (λ event. (status ≢ Up) × IsSoundEvent plans (histories_of old) old.coordinator.archive which
    event × (side.history ≡ histories_of old which)) (k.sides which).writing
    (λ event _ x. (keeps x.0, x.1, h))

down_not_up : Down ≢ Up
down_not_up e = cc

pub halted_not_up : Halted ≢ Up
halted_not_up e = cc

pub writes_advances : (plans : Plans) (old : Picture) →
    IsKept plans old → (which : Which) (event : Event) → IsAllowed (histories_of old which) event →
    IsSoundEvent plans (histories_of old) old.coordinator.archive which event →
    (machine : SidePicture) (events : List Event) (new : Picture) → (side_of old which).status ≡
    Up →
    Writes (side_of old which) event machine events → new ≡ next old which machine (old.sent ++ [])
    (old.acknowledged ++ map (λ event. Happened which event) events) → Advances plans old new
writes_advances plans old k which event a s _ _ new up written e =
    side_advances plans old k which _
    [] (event ∷ []) new (one_event event a s refl) (k.sides which).staged
    (if_some (side_of old which).writing (λ event. ((side_of old which).status ≢ Up)
    × IsSoundEvent plans (histories_of old) old.coordinator.archive which event) _
    (k.sides which).writing (λ other_event _ x. absurd (x.0 up))) nothing e
writes_advances plans old k which event a s _ _ new up failed e =
    side_advances plans old k which _ []
    [] new (no_event refl) (k.sides which).staged (halted_not_up, s, refl) nothing e
writes_advances plans old k which event a s _ _ new up cut e =
    side_advances plans old k which _ [] [] new (no_event refl) tt (down_not_up, s, refl) nothing e

pub opens_advances : (plans : Plans) (old : Picture) →
    IsKept plans old → (which : Which) (machine : SidePicture) (events : List Event)
    (new : Picture) →
    Opens (side_of old which) machine events → new ≡ next old which machine (old.sent ++ [])
    (old.acknowledged ++ map (λ event. Happened which event) events) → Advances plans old new
opens_advances plans old k which _ _ new opened e =
    side_advances plans old k which _ [] [] new (no_event refl) (k.sides which).staged tt nothing e
opens_advances plans old k which _ _ new (recovered event w a) e =
    let s : ((side_of old which).status ≢ Up)
    × IsSoundEvent plans (histories_of old) old.coordinator.archive which event =
    subst (λ o. IfSome o (λ event. ((side_of old which).status ≢ Up) × IsSoundEvent plans
    (histories_of old) old.coordinator.archive which event)) w (k.sides which).writing in
    side_advances plans old k which _
    [] (event ∷ []) new (one_event event a s.1 refl) (k.sides which).staged tt nothing e

module _ (plans : Plans) (old : Picture) (k : IsKept plans old) (which : Which) (session number : ℕ)
    (request : Request) (asked : Contains old.sent (Asks which session number request)) where
  lawful : IsLawfulRequest session request
  lawful = (k.sound.asked which session number request asked).lawful

  events_are : (served : Served) (events : List Event) →
      served.side.history ≡ histories_of old which ++ events →
      (served.side.history ≡ histories_of old which) ⊎ ((event : Event) × IsAllowed
      (histories_of old which) event × IsSoundEvent plans (histories_of old) old.coordinator.archive
      which event × (served.side.history ≡ histories_of old which ++ event ∷ [])) →
      Adds plans old which served.side.history events
  events_are served events added (inl e) =
      let none : [] ≡ events = append_cancel_left (histories_of old which)
      [] events (append-nil (histories_of old which) ∙ (sym e ∙ added)) in
      subst (Adds plans old which served.side.history) none (no_event e)
  events_are served events added (inr a) =
      let one : a.0 ∷ [] ≡ events =
      append_cancel_left (histories_of old which) (a.0 ∷ []) events (sym a.3 ∙ added) in
      subst (Adds plans old which served.side.history) one (one_event a.0 a.1 a.2 a.3)

  would_sound : (event : Event) → WouldAdd old.pair (side_of old which) session request event →
      IsSoundEvent plans (histories_of old) old.coordinator.archive which event
  would_sound event w =
      let o = outcome old.pair w.has_room
      (side_of old which).side session request w.served lawful w.serves in
      elim (outcome_moves plans old.coordinator.archive old.sent (histories_of old) k.sound which
      (side_of old which).side refl (k.sides which).staged session number request w.served asked
      o) as (λ _. IsSoundEvent plans (histories_of old) old.coordinator.archive which event) [
        | inl e ↦ absurd (longer (histories_of old which) event (sym e ∙ w.adds))
        | inr a ↦
            let one : a.0 ∷ [] ≡ event ∷ [] = append_cancel_left (histories_of old which) (a.0 ∷ [])
            (event ∷ []) (sym a.3 ∙ w.adds) in
            let same : a.0 ≡ event = cc in
            subst (IsSoundEvent plans (histories_of old) old.coordinator.archive which) same a.2
      ]

  pub request_advances : (new : Picture) → TakesRequest old which session number request new →
      Advances plans old new
  request_advances new (answered a) =
      let o = any_outcome (side_of old which).status old.pair a.has_room
      (side_of old which).side session request a.served lawful a.serves in
      let moves = outcome_moves plans old.coordinator.archive old.sent
      (histories_of old) k.sound which (side_of old which).side refl
      (k.sides which).staged session number request a.served asked o in
      side_advances plans old k which (record (side_of old which) { side = a.served.side })
      (Answers which session number a.served.reply ∷ []) a.events new
      (events_are a.served a.events a.added moves)
      (outcome_staging plans old.coordinator.archive old.sent (histories_of old) k.sound which
      (side_of old which).side refl
      (k.sides which).staged session number request a.served asked o)
      (if_some (side_of old which).writing (λ event. ((side_of old which).status ≢ Up)
      × IsSoundEvent plans (histories_of old) old.coordinator.archive which event)
      (λ event. ((side_of old which).status ≢ Up)
      × IsSoundEvent plans (histories_of old) old.coordinator.archive which event
      × (a.served.side.history ≡ histories_of old which)) (k.sides which).writing
      (λ event _ x. (
        x.0,
        x.1,
        unless_up_same (side_of old which).status x.0 old.pair a.has_room
            (side_of old which).side session request a.served a.serves,
      )))
      (reply session number request a.served.reply asked (outcome_true plans old.coordinator.archive
      old.sent (histories_of old) k.sound which (side_of old which).side refl
      (k.sides which).staged session number request a.served asked o)
      (outcome_borne plans old.coordinator.archive old.sent (histories_of old) k.sound which
      (side_of old which).side refl
      (k.sides which).staged session number request a.served asked o))
      a.result
  request_advances new (request_failed event would e) =
      side_advances plans old k which
      (record (side_of old which) { status = Halted; writing = Some event })
      (Answers which session number (Refused Device) ∷ [])
      [] new (no_event refl) (k.sides which).staged
      (halted_not_up, would_sound event would, refl)
      (reply session number request (Refused Device) asked
      (refused_true (histories_of old which) session request Device refl)
      (refused_borne (plan_in plans session) (histories_of old which) which request Device))
      (e ∙ (next_sent old which _ _ ∙ ap (λ a. next old which
      (record (side_of old which) { status = Halted; writing = Some event }) (old.sent ++ Answers
      which session number (Refused Device) ∷ []) a) (sym (append-nil old.acknowledged))))
  request_advances new (request_cut event would e) =
      side_settles plans old k which (stopped (side_of old which) (Some event)) new refl tt
      (down_not_up, would_sound event would, refl) (e ∙ next_same old which _)
