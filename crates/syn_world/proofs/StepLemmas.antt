-- A step of a side's machine is a step of the world.
use Rattle.std.proofs.Common.{◌≡◌, ◌∙◌, ◌++◌, [], ℕ, List, Some, ap, ap₂, refl, subst, sym}
use Rattle.std.proofs.lemmas.List.{append-nil}
use Rattle.std.specs.Prelude.{Option, slice_get}
use Rattle.syn_machine.specs.Network.{Which, Left, Right, Message, Asks}
use Rattle.syn_machine.specs.Side.{Reply, Request}
use Rattle.syn_machine.specs.SideMachine.{SideMachine}
use Rattle.syn_runs.specs.World.{World, Steps, Delivers, Deliver, SideDoes, says, set_side}
use Rattle.syn_runs.specs.World.{side_does, side_goes, side_of, to_no_side, to_side}
use Rattle.syn_world.specs.SideSteps.{Answers, SideStep, no_side, takes}
use Rattle.syn_model.specs.Event.{Event}
use Rattle.syn_model.specs.Refusal.{Refusal}

-- the world after a side's step
abbrev pub side_next : World → Which → SideMachine → List Message → List Event → List Refusal →
    World
side_next old side machine messages events refusals =
    record (side_goes old side machine messages events) { refusals = old.refusals ++ refusals }

-- with these lists
abbrev listed : World → List Message → List Refusal → World
listed old sent refusals = record old { sent = sent; refusals = refusals }

same_lists : (old : World) → listed old (old.sent ++ []) (old.refusals ++ []) ≡ old
same_lists old = ap₂ (listed old) (append-nil old.sent) (append-nil old.refusals)

-- a step that nothing came of
same_but : (old : World) → record (listed old (old.sent ++ []) (old.refusals ++ []))
    { acknowledged = old.acknowledged ++ [] } ≡ old
same_but old = ap (λ a. record (listed old (old.sent ++ []) (old.refusals ++ []))
    { acknowledged = a }) (append-nil old.acknowledged) ∙ same_lists old

-- leaves the side so
eq_stays : (old : World) (side : Which) (next : SideMachine)
    → side_next old side next [] [] [] ≡ set_side old side next
eq_stays old Left next = same_but (set_side old Left next)
eq_stays old Right next = same_but (set_side old Right next)

eq_same : (old : World) (side : Which) → side_next old side (side_of old side) [] [] [] ≡ old
eq_same old Left = same_but old
eq_same old Right = same_but old

-- and nobody was refused
eq_heard : (old : World) (side : Which) (next : SideMachine) (messages : List Message)
    (events : List Event)
    → side_next old side next messages events [] ≡ side_goes old side next messages events
eq_heard old Left next messages events =
    ap (λ r. record (side_goes old Left next messages events) { refusals = r })
    (append-nil old.refusals)
eq_heard old Right next messages events =
    ap (λ r. record (side_goes old Right next messages events) { refusals = r })
    (append-nil old.refusals)

pub lift_side : (old : World) (side : Which) (Step : SideStep) (next : SideMachine)
    (events : List Event) (refusals : List Refusal) → Step next events refusals
    → SideDoes old side Step (side_next old side next [] events refusals)
lift_side old Left Step next events refusals step = side_does next events refusals step
lift_side old Right Step next events refusals step = side_does next events refusals step

-- one that changes no list
pub lift_device : (old : World) (side : Which) (Step : SideStep) (next : SideMachine)
    (events : List Event) → events ≡ [] → Step next events []
    → SideDoes old side Step (set_side old side next)
lift_device old side Step next events none step =
    subst (SideDoes old side Step) (eq_stays old side next)
    (lift_side old side Step next [] [] (subst (λ es. Step next es []) none step))

-- a request that was sent is taken, and refuses nobody
pub refuses_none : (pair : ℕ) (machine : SideMachine) (session : ℕ) (request : Request)
    (reply : Option Reply) (next : SideMachine) (events : List Event) (refusals : List Refusal)
    → Answers pair machine session request reply next events refusals → refusals ≡ []
refuses_none pair machine session request reply _ _ _ (no_side down none) = refl
refuses_none pair machine session request reply _ _ _ (takes next events taken) = refl

pub lift_deliver : (old : World) (side : Which) (message session number : ℕ)
    (request : Request) (next : SideMachine) (reply : Option Reply) (events : List Event)
    (refusals : List Refusal)
    → slice_get old.sent message ≡ Some (Asks side session number request)
    → Answers old.pair (side_of old side) session request reply next events refusals
    → Steps old (Deliver message)
    (side_next old side next (says side session number reply) events [])
lift_deliver old side message session number request _ reply _ _ is (no_side down none) =
    subst (λ o. Delivers old o
    (side_next old side (side_of old side) (says side session number reply) [] [])) (sym is)
    (subst (λ r. Delivers old (Some (Asks side session number request))
    (side_next old side (side_of old side) (says side session number r) [] [])) (sym none)
    (subst (λ w. Delivers old (Some (Asks side session number request)) w)
    (sym (eq_same old side)) (to_no_side side session number request down)))
lift_deliver old side message session number request _ reply _ _ is (takes next events taken) =
    let messages = says side session number reply in
    subst (λ o. Delivers old o (side_next old side next messages events [])) (sym is)
    (subst (λ w. Delivers old (Some (Asks side session number request)) w)
    (sym (eq_heard old side next messages events))
    (to_side side session number request next reply events taken))
