-- Without a stop among the steps no machine goes down, and a device call that is armed comes.
use Rattle.std.specs.Prelude.{Contains}
use Rattle.std.proofs.Common.{◌≡◌, ◌≢◌, ◌≤◌, ◌-◌, ℕ, suc, true≢false, List, [], ◌∷◌, ◌++◌}
use Rattle.std.proofs.Common.{append-nil, map, refl, sym, ap, ◌∙◌, subst, arith}
use Rattle.std.proofs.lemmas.List.Elements.{Contains-append_right}
use Rattle.syn_model.specs.Refusal.{Refusal}
use Rattle.syn_model.specs.Event.{Event, Edited}
use Rattle.syn_model.specs.History.{History}
use Rattle.syn_machine.specs.Machine.{Status, Up, Halted, Down, Arms, IsBefore, Journaled, Meets}
use Rattle.syn_machine.specs.Machine.{all_made, one_fails, one_stops, Writes, idle, written}
use Rattle.syn_machine.specs.Machine.{unwritten}
use Rattle.syn_machine.specs.SideMachine.{SideMachine, side_layout, causes_of, side_kind}
use Rattle.syn_machine.specs.SideMachine.{EditsSide, edits}
use Rattle.syn_machine.specs.Network.{Which, Left, Right}
use Rattle.syn_runs.specs.Acknowledged.{Happened}
use Rattle.syn_runs.specs.World.{World, Machine, At, Coordinator, Step, Stop, side_of}
use Rattle.syn_runs.specs.World.{side_goes, status_of, refuses_with, side_does, Runs}
use Rattle.syn_runs.specs.Runs.{IsStart}
use Rattle.syn_runs.proofs.MachineLemmas.{calls_leave}
use Rattle.syn_runs.proofs.View.{halted_not_down, up_not_down}
use Rattle.syn_witness.specs.Forbidden.{StaysWithoutStop, StopsAsArmed, ArmedCallsCome}
use Rattle.syn_witness.proofs.KeptLemmas.{Property, IsKept, AllOf, step_kept}

-- a machine that is not down and has no stop to come
abbrev IsSafe : Property
IsSafe status arms failures = (status ≢ Down) × (arms.stop ≡ 0)

abbrev AllSafe : World → Type 0
AllSafe = AllOf (λ machine. IsSafe)

none_left : (stop calls : ℕ) → stop ≡ 0 → stop - calls ≡ 0
none_left stop calls e = omega (arith, e)

-- calls that meet no stop
meets_safe : (arms : Arms) (calls : ℕ) (status : Status) (after : Arms) (failed : ℕ) →
    arms.stop ≡ 0 → Meets arms calls status after failed → (status ≢ Down) × (after.stop ≡ 0)
meets_safe arms calls _ _ _ none (all_made fail stop) =
    (up_not_down, none_left arms.stop calls none)
meets_safe arms calls _ _ _ none (one_fails made few fail stop) =
    (halted_not_down, none_left arms.stop (suc made) none)
meets_safe arms calls _ _ _ none (one_stops made few fail stop) =
    absurd (omega (arith, none, stop))

is_safe : IsKept IsSafe
is_safe = record {
  stays = λ was arms after calls failures h meets.
      (h.0, (meets_safe arms calls Up after 0 h.1 meets).1);
  meets = λ was status arms after calls failures failed h meets.
      meets_safe arms calls status after failed h.1 meets;
  unopened = λ arms after calls failures failed h meets. absurd (h.0 refl);
  cut_last = λ was arms failures h stop. let none = h.1 in absurd (omega (arith, none, stop));
  armed = λ was arms failures call h. h;
}

abbrev HasNoStop : List Step → Type 0
HasNoStop steps = (machine : Machine) (call : ℕ) → Contains steps (Stop machine call) → ⊥

run_safe : (steps : List Step) (old new : World) → AllSafe old → HasNoStop steps →
    Runs old steps new → AllSafe new
run_safe [] old new h none e = subst AllSafe (sym e) h
run_safe (step ∷ steps) old new h none (between, g, more) =
    run_safe steps between new
    (step_kept (λ machine. IsSafe) (λ machine. is_safe) old h step
    (λ machine calls e. absurd (none machine calls
    (subst (Contains (step ∷ steps)) e (0, omega arith, refl)))) between g)
    (λ machine call c. none machine call (Contains-append_right (step ∷ []) steps _ c)) more

opened_safe : (world : World) → IsStart world → AllSafe world
opened_safe world s (At Left) =
    (λ down. up_not_down (sym s.left.0.0 ∙ down), ap (λ a. a.stop) s.left.0.3)
opened_safe world s (At Right) =
    (λ down. up_not_down (sym s.right.0.0 ∙ down), ap (λ a. a.stop) s.right.0.3)
opened_safe world s Coordinator =
    (λ down. up_not_down (sym s.coordinator.0.0 ∙ down), ap (λ a. a.stop) s.coordinator.0.3)

pub stay_without_stop : StaysWithoutStop
stay_without_stop old new steps s g none machine =
    (run_safe steps old new (opened_safe old s) none g machine).0

-- What is armed within the calls of an edit

passed : (arms : Arms) (status : Status) (after : Arms) (failed : ℕ) →
    Meets arms 4 status after failed → status ≡ Up → IsBefore 4 arms.fail × IsBefore 4 arms.stop
passed arms _ _ _ (all_made fail stop) e = (fail, stop)
passed arms _ _ _ (one_fails made few fail stop) e = absurd (let x : Halted ≡ Up = e in cc)
passed arms _ _ _ (one_stops made few fail stop) e =
    absurd (let x : Down ≡ Up = e in cc)

unwritten_then : (pair : ℕ) (old new : Journaled History Event) (event : Event)
    (events : List Event) → (IsBefore 4 old.arms.fail × IsBefore 4 old.arms.stop → ⊥) →
    Writes (side_layout pair) old event new events → events ≡ []
unwritten_then pair old _ event _ armed (idle is) = absurd (true≢false (sym is))
unwritten_then pair old _ event _ armed (written arms is meets) =
    absurd (armed (passed old.arms Up arms 0 meets refl))
unwritten_then pair old _ event _ armed (unwritten status arms failed is broken meets) = refl

made_acknowledges : (pair : ℕ) (machine : SideMachine) (event : Event) (next : SideMachine)
    (events : List Event) →
    (IsBefore 4 machine.journal.arms.fail × IsBefore 4 machine.journal.arms.stop → ⊥) →
    EditsSide pair machine event next events → events ≡ []
made_acknowledges pair machine event _ _ armed (edits journal events lawful w) =
    unwritten_then pair machine.journal journal event events armed w

side_acknowledged : (old : World) (side : Which) (next : SideMachine) (events : List Event) →
    (side_goes old side next [] events).acknowledged
    ≡ old.acknowledged ++ map (λ event. Happened side event) events
side_acknowledged old Left next events = refl
side_acknowledged old Right next events = refl

pub armed_calls_come : ArmedCallsCome
armed_calls_come old _ side user edit armed (side_does next events refusals so) =
    side_acknowledged old side next events
    ∙ (ap (λ es. old.acknowledged ++ map (λ event. Happened side event) es)
    (calls_leave (side_kind old.pair) (side_of old side) (λ next events. events ≡ []) refl
    (causes_of old.pair (side_of old side) (Edited user edit))
    (EditsSide old.pair (side_of old side) (Edited user edit))
    (λ next events none up made.
    made_acknowledges old.pair (side_of old side) (Edited user edit) next events armed made)
    next events refusals so) ∙ append-nil old.acknowledged)

-- A stop within the calls of an edit

IsWithin : ℕ → Type 0
IsWithin stop = (1 ≤ stop) × (stop ≤ 4)

stopped_within : (arms : Arms) (status : Status) (after : Arms) (failed : ℕ) →
    Meets arms 4 status after failed → status ≡ Down → IsWithin arms.stop
unfolding IsWithin
stopped_within arms _ _ _ (all_made fail stop) e = absurd (up_not_down e)
stopped_within arms _ _ _ (one_fails made few fail stop) e = absurd (halted_not_down e)
stopped_within arms _ _ _ (one_stops made few fail stop) e =
    (omega (arith, stop), omega (arith, few, stop))

written_within : (pair : ℕ) (old new : Journaled History Event) (event : Event)
    (events : List Event) → old.status ≢ Down → Writes (side_layout pair) old event new events →
    new.status ≡ Down → IsWithin old.arms.stop
written_within pair old _ event _ up (idle is) e = absurd (up e)
written_within pair old _ event _ up (written arms is meets) e = absurd (up e)
written_within pair old _ event _ up (unwritten status arms failed is broken meets) e =
    stopped_within old.arms status arms failed meets e

edited_within : (pair : ℕ) (machine : SideMachine) (event : Event) (next : SideMachine)
    (events : List Event) → machine.journal.status ≢ Down →
    EditsSide pair machine event next events → next.journal.status ≡ Down →
    IsWithin machine.journal.arms.stop
edited_within pair machine event _ _ up (edits journal events lawful w) e =
    written_within pair machine.journal journal event events up w e

side_status : (old : World) (side : Which) (next : SideMachine) (events : List Event)
    (refusals : List Refusal) →
    status_of (refuses_with (side_goes old side next [] events) refusals) (At side)
    ≡ next.journal.status
side_status old Left next events refusals = refl
side_status old Right next events refusals = refl

pub stops_as_armed : StopsAsArmed
unfolding IsWithin
stops_as_armed old _ side user edit (side_does next events refusals so) up stops =
    calls_leave (side_kind old.pair) (side_of old side)
    (λ next events. next.journal.status ≡ Down → IsWithin (side_of old side).journal.arms.stop)
    (λ down. absurd (up down)) (causes_of old.pair (side_of old side) (Edited user edit))
    (EditsSide old.pair (side_of old side) (Edited user edit))
    (λ next events none other made e.
    edited_within old.pair (side_of old side) (Edited user edit) next events up made e)
    next events refusals so (sym (side_status old side next events refusals) ∙ stops)
