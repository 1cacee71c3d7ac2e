-- Whether the machines of a world are on.
use Rattle.std.proofs.Common.{◌≡◌, ◌≢◌, ◌⊎◌, ◌∙◌, ◌-◌, ℕ, zero, suc, true, false, List, []}
use Rattle.std.proofs.Common.{◌∷◌, ◌++◌, refl, sym, ap, subst, inl, inr, arith, Option, slice_get}
use Rattle.std.proofs.Common.{append-nil, if◌then◌else◌}
use Rattle.syn_model.specs.Refusal.{Refusal, Full, Cause}
use Rattle.syn_model.specs.Event.{Event, Edited}
use Rattle.syn_model.specs.Archive.{Archive, Kept, Session}
use Rattle.syn_machine.specs.Machine.{Status, Up, Halted, Down, Arms, IsBefore, Journaled, Layout}
use Rattle.syn_machine.specs.Machine.{Meets, all_made, one_fails, one_stops, Writes, idle, written}
use Rattle.syn_machine.specs.Machine.{unwritten, Compacts, compacted, not_compacted, Opens}
use Rattle.syn_machine.specs.Machine as machine
use Rattle.syn_machine.specs.MachineSteps.{Kind, MachineCall, Does, Calls, UnlessDown, is_down}
use Rattle.syn_machine.specs.MachineSteps.{is_done, Arming, arming, full_generation, Checkpoints}
use Rattle.syn_machine.specs.MachineSteps.{checkpoints}
use Rattle.syn_machine.specs.MachineSteps as one
use Rattle.syn_machine.specs.Side.{Request, Reply}
use Rattle.syn_machine.specs.SideMachine.{SideMachine, side_layout, SideTakes, answers, adds}
use Rattle.syn_machine.specs.SideMachine.{causes_of, side_kind, EditsSide, edits}
use Rattle.syn_machine.specs.Network.{Which, Left, Right, Message}
use Rattle.syn_machine.specs.Planning.{Planned}
use Rattle.syn_machine.specs.Coordinator.{CoordinatorMachine, Call, Walk, Exchange, Running}
use Rattle.syn_machine.specs.Coordinator.{archive_layout, past, refusing, making_room, start_of}
use Rattle.syn_machine.specs.Coordinator.{Keeps, writes, cut_after, Takes, CoordinatorTakes}
use Rattle.syn_machine.specs.Coordinator.{CoordinatorStarts, CoordinatorTicks, Advances}
use Rattle.syn_machine.specs.Coordinator.{start_causes, coordinator_kind}
use Rattle.syn_machine.specs.Coordinator as coordinator
use Rattle.syn_runs.specs.World.{World, Machine, At, Coordinator, says, Step, Edits, Start}
use Rattle.syn_runs.specs.World.{Deliver, Tick, Checkpoint, Fail, Stop, Open, Reopen, side_of}
use Rattle.syn_runs.specs.World.{side_goes, coordinator_goes, status_of, refuses_with}
use Rattle.syn_runs.specs.World.{side_does, coordinator_does, MachineDoes, Delivers, no_message}
use Rattle.syn_runs.specs.World.{to_no_side, to_side, to_coordinator, Ticks, ticks, Steps}
use Rattle.syn_runs.specs.Runs.{IsStart}
use Rattle.syn_runs.proofs.MachineLemmas.{calls_tell}
use Rattle.syn_promise.specs.Power.{Power, On, Stopping, Off, armed, opened, power_after, Turns}
use Rattle.syn_promise.specs.Power.{is_machine}

-- A machine, by its status and the stop that is armed at it

abbrev pub awake : ℕ → Power
awake zero = On
awake (suc calls) = Stopping

abbrev pub power_at : Status → ℕ → Power
power_at Up stop = awake stop
power_at Halted stop = awake stop
power_at Down stop = Off

-- a machine that is down has no stop to come
abbrev pub IsTidy : Status → ℕ → Type 0
IsTidy status stop = status ≡ Down → stop ≡ 0

abbrev Turned : Power → Power → Power → Type 0
Turned made was now = (now ≡ made) ⊎ ((was ≡ Stopping) × (now ≡ Off))

-- a call that is no stop and opens no machine that is down
record Goes (was : Status) (stop : ℕ) (now : Status) (left : ℕ) : Type 0 where
  turned : Turned (power_at was stop) (power_at was stop) (power_at now left)
  tidy : IsTidy now left

abbrev JournalGoes : {V W : Type 0} → Journaled V W → Journaled V W → Type 0
JournalGoes old new = Goes old.status old.arms.stop new.status new.arms.stop

stays : (status : Status) (stop : ℕ) → IsTidy status stop → Goes status stop status stop
stays status stop tidy = record { turned = inl refl; tidy = tidy }

turned_on : (a b c : Power) → Turned a a b → Turned b b c → Turned a a c
turned_on a b c (inl e) (inl f) = inl (f ∙ e)
turned_on a b c (inl e) (inr (f, g)) = inr (sym e ∙ f, g)
turned_on a b c (inr (e, f)) (inl g) = inr (e, g ∙ f)
turned_on a b c (inr (e, f)) (inr (g, h)) = inr (e, h)

goes_on : (a : Status) (k : ℕ) (b : Status) (l : ℕ) (c : Status) (m : ℕ) → Goes a k b l →
    Goes b l c m → Goes a k c m
goes_on a k b l c m g h = record {
  turned = turned_on (power_at a k) (power_at b l) (power_at c m) g.turned h.turned;
  tidy = h.tidy;
}

awake_is : (status : Status) (stop : ℕ) → status ≢ Down → power_at status stop ≡ awake stop
awake_is Up stop up = refl
awake_is Halted stop up = refl
awake_is Down stop up = absurd (up refl)

up_not_down : Up ≢ Down
up_not_down e = cc

halted_not_down : Halted ≢ Down
halted_not_down e = cc

goes_awake : (was now : Status) (stop left : ℕ) → was ≢ Down → now ≢ Down →
    awake left ≡ awake stop → Goes was stop now left
goes_awake was now stop left up still same = record {
  turned = inl (awake_is now left still ∙ (same ∙ sym (awake_is was stop up)));
  tidy = λ down. absurd (still down);
}

goes_down : (was : Status) (stop left : ℕ) → was ≢ Down → awake stop ≡ Stopping → left ≡ 0 →
    Goes was stop Down left
goes_down was stop left up armed none = record {
  turned = inr (awake_is was stop up ∙ armed, refl);
  tidy = λ down. none;
}

-- calls that came before the stop
before_stop : (stop calls : ℕ) → IsBefore calls stop → awake (stop - calls) ≡ awake stop
before_stop zero calls before = let none : zero - calls ≡ 0 = omega arith in ap awake none
before_stop (suc stop) calls (inl none) = absurd (omega (arith, none))
before_stop (suc stop) calls (inr few) =
    let more : suc stop - calls ≡ suc (stop - calls) = omega (arith, few) in ap awake more

meets_awake : (arms : Arms) (calls : ℕ) (status : Status) (after : Arms) (failed : ℕ) →
    status ≢ Down → Meets arms calls status after failed → awake after.stop ≡ awake arms.stop
meets_awake arms calls _ _ _ up (all_made fail stop) = before_stop arms.stop calls stop
meets_awake arms calls _ _ _ up (one_fails made few fail stop) =
    before_stop arms.stop (suc made) stop
meets_awake arms calls _ _ _ up (one_stops made few fail stop) = absurd (up refl)

meets_down : (arms : Arms) (calls : ℕ) (status : Status) (after : Arms) (failed : ℕ) →
    status ≡ Down → Meets arms calls status after failed →
    (awake arms.stop ≡ Stopping) × (after.stop ≡ 0)
meets_down arms calls _ _ _ down (all_made fail stop) = absurd (up_not_down down)
meets_down arms calls _ _ _ down (one_fails made few fail stop) = absurd (halted_not_down down)
meets_down arms calls _ _ _ down (one_stops made few fail stop) = (ap awake stop, refl)

-- the machine is left so by calls that were not all made
broken_goes : (was : Status) (arms : Arms) (calls : ℕ) (status : Status) (after : Arms)
    (failed : ℕ) → was ≢ Down → (status ≡ Halted) ⊎ (status ≡ Down) →
    Meets arms calls status after failed → Goes was arms.stop status after.stop
broken_goes was arms calls status after failed up (inl halted) meets =
    let awake_still : status ≢ Down = λ down. halted_not_down (sym halted ∙ down) in
    goes_awake was status arms.stop after.stop up awake_still
    (meets_awake arms calls status after failed awake_still meets)
broken_goes was arms calls status after failed up (inr down) meets =
    let is = meets_down arms calls status after failed down meets in
    subst (λ s. Goes was arms.stop s after.stop) (sym down)
    (goes_down was arms.stop after.stop up is.0 is.1)

-- What a journal's calls leave

module _ {V W : Type 0} (layout : Layout V W) (old : Journaled V W) (up : old.status ≢ Down) where
  writes_goes : (what : W) (new : Journaled V W) (kept : List W) →
      Writes layout old what new kept → JournalGoes old new
  writes_goes what _ _ (idle is) = stays old.status old.arms.stop (λ down. absurd (up down))
  writes_goes what _ _ (written arms is meets) =
      goes_awake old.status old.status old.arms.stop arms.stop up up
      (meets_awake old.arms 4 Up arms 0 up_not_down meets)
  writes_goes what _ _ (unwritten status arms failed is broken meets) =
      broken_goes old.status old.arms 4 status arms failed up broken meets

  compacts_goes : (new : Journaled V W) → Compacts layout old new → JournalGoes old new
  compacts_goes _ (compacted arms meets) =
      goes_awake old.status old.status old.arms.stop arms.stop up up
      (meets_awake old.arms 6 Up arms 0 up_not_down meets)
  compacts_goes _ (not_compacted status arms failed broken meets) =
      broken_goes old.status old.arms 6 status arms failed up broken meets

-- an opening leaves the stop that was armed
opens_awake : {V W : Type 0} (layout : Layout V W) (CanKeep : V → W → Type 0) (old : Journaled V W)
    (calls : ℕ) (new : Journaled V W) (kept : List W) → Opens layout CanKeep old calls new kept →
    (new.status ≡ Up) × (awake new.arms.stop ≡ awake old.arms.stop)
opens_awake layout CanKeep old calls _ _ (machine.opened room generation arms meets left) =
    (refl, meets_awake old.arms calls Up arms 0 up_not_down meets)
opens_awake layout CanKeep old calls _ _ (machine.recovered arms kept meets is can) =
    (refl, meets_awake old.arms calls Up arms 0 up_not_down meets)

keeps_goes : (pair : ℕ) (old new : Journaled Archive Kept) (what : Kept) (kept : List Kept) →
    old.status ≢ Down → Keeps pair old what new kept → JournalGoes old new
keeps_goes pair old _ what _ up (writes new kept w) =
    writes_goes (archive_layout pair) old up what new kept w
keeps_goes pair old _ what _ up (cut_after is fail stop) =
    goes_down old.status old.arms.stop 0 up (ap awake stop) refl

not_down : (status : Status) → status ≡ Up → status ≢ Down
not_down status up down = up_not_down (sym up ∙ down)

abbrev IsTidyJournal : {V W : Type 0} → Journaled V W → Type 0
IsTidyJournal journal = IsTidy journal.status journal.arms.stop

module _ (pair : ℕ) (plan : List Planned) (taken : Exchange) where
  advances_goes : (walk later : Walk) (kept : List Kept) → IsTidyJournal walk.journal →
      Advances pair plan taken walk kept later → JournalGoes walk.journal later.journal
  advances_goes walk _ _ h (coordinator.stands _) =
      stays walk.journal.status walk.journal.arms.stop h
  advances_goes walk later kept h (coordinator.conflicts _ _ _ planned path first at is more) =
      advances_goes (past walk walk.journal) later kept h more
  advances_goes walk later kept h
      (coordinator.side_refuses _ _ _ planned why first at is for more) =
      advances_goes (refusing walk why planned) later kept h more
  advances_goes walk later kept h
      (coordinator.archive_refuses _ _ _ planned what why first at is may refused more) =
      advances_goes (refusing walk why planned) later kept h more
  advances_goes walk later kept h (coordinator.no_checkpoint _ _ _ what first full greatest more) =
      advances_goes (refusing walk Full full.to_keep.planned) later kept h more
  advances_goes walk later kept h
      (coordinator.checkpoints _ _ _ what journal first full smaller compacts up more) =
      let first_goes = compacts_goes (archive_layout pair) walk.journal
      (not_down walk.journal.status full.to_keep.up) journal compacts in
      goes_on _ _ journal.status journal.arms.stop _ _ first_goes
      (advances_goes (making_room walk journal) later kept first_goes.tidy more)
  advances_goes walk _ _ h
      (coordinator.checkpoint_breaks _ what journal first full smaller compacts broken) =
      compacts_goes (archive_layout pair) walk.journal
      (not_down walk.journal.status full.to_keep.up) journal compacts
  advances_goes walk later _ h
      (coordinator.keeps _ _ what kept journal to_keep room kept_so up more) =
      let first_goes = keeps_goes pair walk.journal journal what (what ∷ [])
      (not_down walk.journal.status to_keep.up) kept_so in
      goes_on _ _ journal.status journal.arms.stop _ _ first_goes
      (advances_goes (past walk journal) later kept first_goes.tidy more)
  advances_goes walk _ kept h
      (coordinator.record_breaks _ what _ journal to_keep room kept_so broken) =
      keeps_goes pair walk.journal journal what kept (not_down walk.journal.status to_keep.up)
      kept_so

takes_goes : (pair : ℕ) (old : CoordinatorMachine) (r : Running) (taken : Exchange)
    (new : CoordinatorMachine) (call : Call) → IsTidyJournal old.journal →
    Takes pair old r taken new call → JournalGoes old.journal new.journal
takes_goes pair old r taken _ _ h (coordinator.ends_at_once why fault) =
    stays old.journal.status old.journal.arms.stop h
takes_goes pair old r taken _ _ h
    (coordinator.stops plan logged walk kept fault has advances down) =
    advances_goes pair _ taken (start_of old r) walk kept h advances
takes_goes pair old r taken _ _ h
    (coordinator.ends plan logged walk kept why fault has advances ends) =
    advances_goes pair _ taken (start_of old r) walk kept h advances
takes_goes pair old r taken _ _ h (coordinator.goes_on plan logged walk kept left right fault has
    advances rests unmoved moves asks) =
    advances_goes pair _ taken (start_of old r) walk kept h advances

answer_goes : (pair : ℕ) (old : CoordinatorMachine) (from : Which) (session number : ℕ)
    (reply : Reply) (new : CoordinatorMachine) (call : Call) → IsTidyJournal old.journal →
    CoordinatorTakes pair old from session number reply new call →
    JournalGoes old.journal new.journal
answer_goes pair old from session number reply _ _ h
    (coordinator.takes r request new call expected t) =
    takes_goes pair old r _ new call h t
answer_goes pair old from session number reply _ _ h (coordinator.ignores none) =
    stays old.journal.status old.journal.arms.stop h

starts_goes : {preference : Option Which} (pair : ℕ) (old new : CoordinatorMachine) (call : Call) →
    old.journal.status ≢ Down → CoordinatorStarts pair preference old new call →
    JournalGoes old.journal new.journal
starts_goes pair old _ _ up (coordinator.starts session journal next lawful kept_so up_still) =
    keeps_goes pair old.journal journal (Session session) (Session session ∷ []) up kept_so
starts_goes pair old _ _ up (coordinator.start_breaks session journal kept next kept_so broken) =
    keeps_goes pair old.journal journal (Session session) kept up kept_so

ticks_goes : (old new : CoordinatorMachine) (call : Call) → IsTidyJournal old.journal →
    CoordinatorTicks old new call → JournalGoes old.journal new.journal
ticks_goes old _ _ h (coordinator.no_session none) =
    stays old.journal.status old.journal.arms.stop h
ticks_goes old _ _ h (coordinator.resends r is few) =
    stays old.journal.status old.journal.arms.stop h
ticks_goes old _ _ h (coordinator.gives_up r why is because) =
    stays old.journal.status old.journal.arms.stop h

request_goes : (pair : ℕ) (old : SideMachine) (session : ℕ) (request : Request) (new : SideMachine)
    (reply : Option Reply) (events : List Event) → IsTidyJournal old.journal →
    SideTakes pair old session request new reply events → JournalGoes old.journal new.journal
request_goes pair old session request _ _ _ h (answers served serves same) =
    stays old.journal.status old.journal.arms.stop h
request_goes pair old session request _ _ _ h (adds served event journal events up serves more w) =
    writes_goes (side_layout pair) old.journal (not_down old.journal.status up) event journal events
    w

-- A machine by itself, whichever kind it is of

abbrev made_by : MachineCall → List Refusal → Power → Power
made_by (one.Stop zero) told power = Off
made_by (one.Stop (suc calls)) told power = armed power
made_by one.Open [] power = opened power
made_by call told power = power

armed_awake : (stop : ℕ) → armed (awake stop) ≡ Stopping
armed_awake zero = refl
armed_awake (suc stop) = refl

opened_awake : (stop : ℕ) → opened (awake stop) ≡ awake stop
opened_awake zero = refl
opened_awake (suc stop) = refl

-- a call leaves the machine so
record CallGoes (call : MachineCall) (told : List Refusal) (was : Status) (stop : ℕ) (now : Status)
    (left : ℕ) : Type 0 where
  turned : Turned (made_by call told (power_at was stop)) (power_at was stop) (power_at now left)
  tidy : IsTidy now left

module _ {M A V W : Type 0} (kind : Kind M A V W) (back : (machine : M) (journal : Journaled V W) →
    kind.journal_of (kind.with_journal machine journal) ≡ journal) (machine : M)
    (h : IsTidyJournal (kind.journal_of machine)) where
  abbrev was : Journaled V W
  was = kind.journal_of machine

  -- one that may be refused
  asked_goes : (causes : List Cause) (Made : M → A → Type 0) →
      ((next : M) (given : A) → was.status ≢ Down → Made next given →
      JournalGoes was (kind.journal_of next)) → (next : M) (given : A) (refusals : List Refusal) →
      Calls kind machine causes Made next given refusals → JournalGoes was (kind.journal_of next)
  asked_goes causes Made made next given refusals so =
      calls_tell kind machine (λ next given told. JournalGoes was (kind.journal_of next)) causes
      Made (λ down. stays was.status was.arms.stop h)
      (λ reason up some. stays was.status was.arms.stop h)
      (λ next given none up so. made next given up so) next given refusals so

  checkpoint_goes : (next : M) (given : A) → was.status ≢ Down →
      Checkpoints kind machine next given → JournalGoes was (kind.journal_of next)
  checkpoint_goes _ _ up (checkpoints new so) =
      subst (JournalGoes was) (sym (back machine new)) (compacts_goes kind.layout was up new so)

  abbrev Leaves : MachineCall → M → List Refusal → Type 0
  Leaves call next told = CallGoes call told was.status was.arms.stop (kind.journal_of next).status
      (kind.journal_of next).arms.stop

  left_so : (call : MachineCall) (told : List Refusal) (new : Journaled V W) →
      CallGoes call told was.status was.arms.stop new.status new.arms.stop →
      Leaves call (kind.with_journal machine new) told
  left_so call told new goes = subst (λ journal. CallGoes call told was.status was.arms.stop
      journal.status journal.arms.stop) (sym (back machine new)) goes

  still_so : (call : MachineCall) (told : List Refusal) →
      made_by call told (power_at was.status was.arms.stop) ≡ power_at was.status was.arms.stop →
      Leaves call machine told
  still_so call told same = record { turned = inl (sym same); tidy = h }

  off_is : was.status ≡ Down → power_at was.status was.arms.stop ≡ Off
  off_is down = ap (λ s. power_at s was.arms.stop) down

  on_is : was.status ≢ Down → power_at was.status was.arms.stop ≡ awake was.arms.stop
  on_is up = awake_is was.status was.arms.stop up

  opened_still : was.status ≢ Down →
      opened (power_at was.status was.arms.stop) ≡ power_at was.status was.arms.stop
  opened_still up = ap opened (on_is up) ∙ (opened_awake was.arms.stop ∙ sym (on_is up))

  -- an opening of a machine that is down brings it up, with no stop to come
  open_so : (calls : ℕ) (new : Journaled V W) (kept : List W) → was.status ≡ Down →
      Opens kind.layout kind.CanKeep was calls new kept →
      CallGoes one.Open [] was.status was.arms.stop new.status new.arms.stop
  open_so calls new kept down so =
      let is = opens_awake kind.layout kind.CanKeep was calls new kept so in
      record {
        turned = inl (ap (λ s. power_at s new.arms.stop) is.0
            ∙ (is.1 ∙ (ap awake (h down) ∙ ap opened (sym (off_is down)))));
        tidy = λ is_now_down. absurd (up_not_down (sym is.0 ∙ is_now_down));
      }

  reopen_so : (told : List Refusal) (now : Status) (left : ℕ) →
      Goes was.status was.arms.stop now left →
      CallGoes one.Reopen told was.status was.arms.stop now left
  reopen_so told now left goes = record { turned = goes.turned; tidy = goes.tidy }

  does_goes : (call : MachineCall) (next : M) (given : A) (refusals : List Refusal) →
      Does kind machine call next given refusals → Leaves call next refusals
  does_goes one.Checkpoint next given refusals so =
      let goes = asked_goes (full_generation was.generation) (Checkpoints kind machine)
      checkpoint_goes next given refusals so in
      record { turned = goes.turned; tidy = goes.tidy }
  does_goes (one.Fail call) _ _ _ (is_down down) = still_so (one.Fail call) [] refl
  does_goes (one.Fail call) _ _ _ (is_done _ _ _ up arming) =
      left_so (one.Fail call) [] _ (record { turned = inl refl; tidy = h })
  does_goes (one.Stop zero) _ _ _ (is_down down) =
      still_so (one.Stop zero) [] (sym (off_is down))
  does_goes (one.Stop zero) _ _ _ (is_done _ _ _ up arming) =
      left_so (one.Stop zero) [] _ (record { turned = inl refl; tidy = λ down. refl })
  does_goes (one.Stop (suc calls)) _ _ _ (is_down down) =
      still_so (one.Stop (suc calls)) [] (ap armed (off_is down) ∙ sym (off_is down))
  does_goes (one.Stop (suc calls)) _ _ _ (is_done _ _ _ up arming) =
      left_so (one.Stop (suc calls)) [] _ (record {
        turned = inl (awake_is was.status (suc calls) up
            ∙ sym (ap armed (on_is up) ∙ armed_awake was.arms.stop));
        tidy = λ down. absurd (up down);
      })
  does_goes one.Open _ _ _ (one.is_open up) = still_so one.Open [] (opened_still up)
  does_goes one.Open _ _ _ (one.opens calls new kept down so) =
      left_so one.Open [] new (open_so calls new kept down so)
  does_goes one.Open _ _ _ (one.open_fails calls arms failed down meets) =
      left_so one.Open _ _ (record {
        turned = inl (sym (off_is down));
        tidy = λ still. none_left arms.stop (meets_awake was.arms calls Halted arms failed
            halted_not_down meets ∙ ap awake (h down));
      })
    where
      none_left : (stop : ℕ) → awake stop ≡ On → stop ≡ 0
      none_left zero e = refl
      none_left (suc stop) e = cc
  does_goes one.Open _ _ _ (one.no_memory_to_open down) = still_so one.Open _ refl
  does_goes one.Reopen _ _ _ (is_down down) = still_so one.Reopen [] refl
  does_goes one.Reopen _ _ _ (is_done _ _ _ up (one.reopens calls new kept some so)) =
      let is = opens_awake kind.layout kind.CanKeep was calls new kept so in
      left_so one.Reopen [] new (reopen_so [] new.status new.arms.stop
      (goes_awake was.status new.status was.arms.stop
      new.arms.stop up (not_down new.status is.0) is.1))
  does_goes one.Reopen _ _ _ (is_done _ _ _ up (one.reopen_fails calls arms failed meets)) =
      left_so one.Reopen _ _ (reopen_so _ Halted arms.stop
      (broken_goes was.status was.arms calls Halted arms failed up
      (inl refl) meets))
  does_goes one.Reopen _ _ _ (is_done _ _ _ up (one.reopen_is_cut calls arms failed meets)) =
      left_so one.Reopen _ _ (reopen_so _ Down arms.stop
      (broken_goes was.status was.arms calls Down arms failed up
      (inr refl) meets))
  does_goes one.Reopen _ _ _
      (is_done _ _ _ up (one.no_memory_to_reopen calls arms failed meets)) =
      left_so one.Reopen _ _ (reopen_so _ was.status arms.stop
      (goes_awake was.status was.status was.arms.stop arms.stop up
      up (meets_awake was.arms calls Up arms failed up_not_down meets)))

-- The world

abbrev stop_of : World → Machine → ℕ
stop_of world (At side) = (side_of world side).journal.arms.stop
stop_of world Coordinator = world.coordinator.journal.arms.stop

abbrev pub power_of : World → Machine → Power
power_of world machine = power_at (status_of world machine) (stop_of world machine)

abbrev pub AllTidy : World → Type 0
AllTidy world = (machine : Machine) → IsTidy (status_of world machine) (stop_of world machine)

-- a step leaves each machine so
pub record MachinesTurn (old new : World) (step : Step) (told : List Refusal) : Type 0 where
  pub turns : (machine : Machine) →
      Turns machine step told (power_of old machine) (power_of new machine)
  pub tidy : AllTidy new

-- a step that is no stop and opens nothing
abbrev IsPlain : Step → Type 0
IsPlain step = (machine : Machine) (told : List Refusal) (power : Power) →
    power_after machine step told power ≡ power

as_turns : (machine : Machine) (step : Step) (told : List Refusal) (a b made : Power) →
    power_after machine step told a ≡ made → Turned made a b → Turns machine step told a b
as_turns machine step told a b made same (inl e) = inl (e ∙ sym same)
as_turns machine step told a b made same (inr e) = inr e

module _ (old : World) (tidy : AllTidy old) where
  refused_turn : (made : World) (step : Step) (told reasons : List Refusal) →
      MachinesTurn old made step told → MachinesTurn old (refuses_with made reasons) step told
  refused_turn made step told reasons turn = record {
    turns = λ machine. elim machine as (λ m. Turns m step told (power_of old m)
        (power_of (refuses_with made reasons) m)) [
          | At side ↦ elim side as (λ side. Turns (At side) step told (power_of old (At side))
              (power_of (refuses_with made reasons) (At side))) [
                | Left ↦ turn.turns (At Left)
                | Right ↦ turn.turns (At Right)
              ]
          | Coordinator ↦ turn.turns Coordinator
        ];
    tidy = λ machine. elim machine as (λ m. IsTidy (status_of (refuses_with made reasons) m)
        (stop_of (refuses_with made reasons) m)) [
          | At side ↦ elim side as (λ side. IsTidy (status_of (refuses_with made reasons) (At side))
              (stop_of (refuses_with made reasons) (At side))) [
                | Left ↦ turn.tidy (At Left)
                | Right ↦ turn.tidy (At Right)
              ]
          | Coordinator ↦ turn.tidy Coordinator
        ];
  }

  -- a side goes on so, and the other machines are as they were
  module _ (step : Step) (told : List Refusal) (side : Which) (next : SideMachine)
      (messages : List Message) (events : List Event)
      (at : Turns (At side) step told (power_of old (At side))
      (power_at next.journal.status next.journal.arms.stop))
      (tidy_there : IsTidy next.journal.status next.journal.arms.stop)
      (others : (machine : Machine) → is_machine machine (At side) ≡ false → (power : Power) →
      power_after machine step told power ≡ power) where
    side_turns : (side' : Which) → side' ≡ side → (machine : Machine) →
        Turns machine step told (power_of old machine)
        (power_of (side_goes old side' next messages events) machine)
    side_turns Left is (At Left) =
        subst (λ s. Turns (At s) step told (power_of old (At s))
        (power_at next.journal.status next.journal.arms.stop)) (sym is) at
    side_turns Left is (At Right) =
        inl (sym (others (At Right) (ap (λ s. is_machine (At Right) (At s)) (sym is))
        (power_of old (At Right))))
    side_turns Left is Coordinator =
        inl (sym (others Coordinator refl (power_of old Coordinator)))
    side_turns Right is (At Left) =
        inl (sym (others (At Left) (ap (λ s. is_machine (At Left) (At s)) (sym is))
        (power_of old (At Left))))
    side_turns Right is (At Right) =
        subst (λ s. Turns (At s) step told (power_of old (At s))
        (power_at next.journal.status next.journal.arms.stop)) (sym is) at
    side_turns Right is Coordinator =
        inl (sym (others Coordinator refl (power_of old Coordinator)))

    side_tidy : (side' : Which) → (machine : Machine) →
        IsTidy (status_of (side_goes old side' next messages events) machine)
        (stop_of (side_goes old side' next messages events) machine)
    side_tidy Left (At Left) = tidy_there
    side_tidy Left (At Right) = tidy (At Right)
    side_tidy Left Coordinator = tidy Coordinator
    side_tidy Right (At Left) = tidy (At Left)
    side_tidy Right (At Right) = tidy_there
    side_tidy Right Coordinator = tidy Coordinator

    side_turn : MachinesTurn old (side_goes old side next messages events) step told
    side_turn = record { turns = side_turns side refl; tidy = side_tidy side }

  module _ (step : Step) (told : List Refusal) (next : CoordinatorMachine) (call : Call)
      (at : Turns Coordinator step told (power_of old Coordinator)
      (power_at next.journal.status next.journal.arms.stop))
      (tidy_there : IsTidy next.journal.status next.journal.arms.stop)
      (others : (machine : Machine) → is_machine machine Coordinator ≡ false → (power : Power) →
      power_after machine step told power ≡ power) where
    coordinator_turns : (machine : Machine) → Turns machine step told (power_of old machine)
        (power_of (coordinator_goes old next call) machine)
    coordinator_turns (At Left) = inl (sym (others (At Left) refl (power_of old (At Left))))
    coordinator_turns (At Right) = inl (sym (others (At Right) refl (power_of old (At Right))))
    coordinator_turns Coordinator = at

    coordinator_tidy : (machine : Machine) →
        IsTidy (status_of (coordinator_goes old next call) machine)
        (stop_of (coordinator_goes old next call) machine)
    coordinator_tidy (At Left) = tidy (At Left)
    coordinator_tidy (At Right) = tidy (At Right)
    coordinator_tidy Coordinator = tidy_there

    coordinator_turn : MachinesTurn old (coordinator_goes old next call) step told
    coordinator_turn = record { turns = coordinator_turns; tidy = coordinator_tidy }

-- the step that is this call of the machine
abbrev asked_by : Machine → MachineCall → Step
asked_by machine one.Checkpoint = Checkpoint machine
asked_by machine (one.Fail call) = Fail machine call
asked_by machine (one.Stop calls) = Stop machine calls
asked_by machine one.Open = Open machine
asked_by machine one.Reopen = Reopen machine

itself : (machine : Machine) → is_machine machine machine ≡ true
itself (At Left) = refl
itself (At Right) = refl
itself Coordinator = refl

made_is : (machine : Machine) (call : MachineCall) (told : List Refusal) (power : Power) →
    power_after machine (asked_by machine call) told power ≡ made_by call told power
made_is machine one.Checkpoint told power = refl
made_is machine (one.Fail call) told power = refl
made_is machine (one.Stop zero) told power =
    ap (λ b. if b then Off else power) (itself machine)
made_is machine (one.Stop (suc calls)) told power =
    ap (λ b. if b then armed power else power) (itself machine)
made_is machine one.Open [] power = ap (λ b. if b then opened power else power) (itself machine)
made_is machine one.Open (reason ∷ told) power = refl
made_is machine one.Reopen told power = refl

others_are : (machine : Machine) (call : MachineCall) (told : List Refusal) (other : Machine) →
    is_machine other machine ≡ false → (power : Power) →
    power_after other (asked_by machine call) told power ≡ power
others_are machine one.Checkpoint told other apart power = refl
others_are machine (one.Fail call) told other apart power = refl
others_are machine (one.Stop zero) told other apart power =
    ap (λ b. if b then Off else power) apart
others_are machine (one.Stop (suc calls)) told other apart power =
    ap (λ b. if b then armed power else power) apart
others_are machine one.Open [] other apart power =
    ap (λ b. if b then opened power else power) apart
others_are machine one.Open (reason ∷ told) other apart power = refl
others_are machine one.Reopen told other apart power = refl

-- a step as it turns the machines, with what its user is refused in it
pub record StepTurns (old new : World) (step : Step) : Type 0 where
  pub told : List Refusal
  pub refusals : new.refusals ≡ old.refusals ++ told
  pub turn : MachinesTurn old new step told

side_refusals : (old : World) (side : Which) (next : SideMachine) (messages : List Message)
    (events : List Event) → (side_goes old side next messages events).refusals ≡ old.refusals
side_refusals old Left next messages events = refl
side_refusals old Right next messages events = refl

module _ (old : World) (tidy : AllTidy old) where
  side_journal : (side : Which) → IsTidyJournal (side_of old side).journal
  side_journal Left = tidy (At Left)
  side_journal Right = tidy (At Right)

  call_turns : (machine : Machine) (call : MachineCall) (new : World) →
      MachineDoes old machine call new → StepTurns old new (asked_by machine call)
  call_turns (At side) call _ (side_does next events told so) =
      let step = asked_by (At side) call in
      let goes = does_goes (side_kind old.pair) (λ machine journal. refl) (side_of old side)
      (side_journal side) call next events told so in
      record {
        told = told;
        refusals = ap (λ had. had ++ told) (side_refusals old side next [] events);
        turn = refused_turn old tidy (side_goes old side next [] events) step told told
            (side_turn old tidy step told side next [] events
            (as_turns (At side) step told (power_of old (At side)) _ _
            (made_is (At side) call told (power_of old (At side))) goes.turned) goes.tidy
            (others_are (At side) call told));
      }
  call_turns Coordinator call _ (coordinator_does next given told so) =
      let step = asked_by Coordinator call in
      let goes = does_goes (coordinator_kind old.pair) (λ machine journal. refl) old.coordinator
      (tidy Coordinator) call next given told so in
      record {
        told = told;
        refusals = refl;
        turn = refused_turn old tidy (coordinator_goes old next given) step told told
            (coordinator_turn old tidy step told next given
            (as_turns Coordinator step told (power_of old Coordinator) _ _
            (made_is Coordinator call told (power_of old Coordinator)) goes.turned) goes.tidy
            (others_are Coordinator call told));
      }

  none_turn : (step : Step) → IsPlain step → StepTurns old old step
  none_turn step plain = record {
    told = [];
    refusals = sym (append-nil old.refusals);
    turn = record {
      turns = λ machine. inl (sym (plain machine [] (power_of old machine)));
      tidy = tidy;
    };
  }

  delivers_turns : (message : ℕ) (o : Option Message) (new : World) → Delivers old o new →
      StepTurns old new (Deliver message)
  delivers_turns message _ _ no_message = none_turn (Deliver message) (λ machine told power. refl)
  delivers_turns message _ _ (to_no_side side session number request down) =
      none_turn (Deliver message) (λ machine told power. refl)
  delivers_turns message _ _ (to_side side session number request machine reply events t) =
      let messages = says side session number reply in
      let goes = request_goes old.pair (side_of old side) session request machine reply events
      (side_journal side) t in
      record {
        told = [];
        refusals = side_refusals old side machine messages events ∙ sym (append-nil old.refusals);
        turn = side_turn old tidy (Deliver message) [] side machine messages events goes.turned
            goes.tidy (λ other apart power. refl);
      }
  delivers_turns message _ _ (to_coordinator side session number reply machine call t) =
      let goes = answer_goes old.pair old.coordinator side session number reply machine call
      (tidy Coordinator) t in
      record {
        told = [];
        refusals = sym (append-nil old.refusals);
        turn = coordinator_turn old tidy (Deliver message) [] machine call goes.turned goes.tidy
            (λ other apart power. refl);
      }

  tick_turns : (new : World) → Ticks old new → StepTurns old new Tick
  tick_turns _ (ticks machine call g) =
      let goes = ticks_goes old.coordinator machine call (tidy Coordinator) g in
      record {
        told = [];
        refusals = sym (append-nil old.refusals);
        turn = coordinator_turn old tidy Tick [] machine call goes.turned goes.tidy
            (λ other apart power. refl);
      }

  edited_goes : (side : Which) (event : Event) (next : SideMachine) (events : List Event) →
      (side_of old side).journal.status ≢ Down →
      EditsSide old.pair (side_of old side) event next events →
      JournalGoes (side_of old side).journal next.journal
  edited_goes side event _ _ up (edits journal events lawful w) =
      writes_goes (side_layout old.pair) (side_of old side).journal up event journal events w

  pub step_turns : (step : Step) (new : World) → Steps old step new → StepTurns old new step
  step_turns (Edits side user edit) _ (side_does next events told so) =
      let step = Edits side user edit in
      let goes = asked_goes (side_kind old.pair) (λ machine journal. refl) (side_of old side)
      (side_journal side) (causes_of old.pair (side_of old side) (Edited user edit))
      (EditsSide old.pair (side_of old side) (Edited user edit))
      (λ next given up so. edited_goes side (Edited user edit) next given up so) next events told
      so in
      record {
        told = told;
        refusals = ap (λ had. had ++ told) (side_refusals old side next [] events);
        turn = refused_turn old tidy (side_goes old side next [] events) step told told
            (side_turn old tidy step told side next [] events goes.turned goes.tidy
            (λ other apart power. refl));
      }
  step_turns (Start preference) _ (coordinator_does next call told so) =
      let step = Start preference in
      let goes = asked_goes (coordinator_kind old.pair) (λ machine journal. refl) old.coordinator
      (tidy Coordinator) (start_causes old.pair old.coordinator)
      (CoordinatorStarts old.pair preference old.coordinator)
      (λ next call up g. starts_goes old.pair old.coordinator next call up g) next call told so in
      record {
        told = told;
        refusals = refl;
        turn = refused_turn old tidy (coordinator_goes old next call) step told told
            (coordinator_turn old tidy step told next call goes.turned goes.tidy
            (λ other apart power. refl));
      }
  step_turns (Deliver message) new g = delivers_turns message (slice_get old.sent message) new g
  step_turns Tick new g = tick_turns new g
  step_turns (Checkpoint machine) new g = call_turns machine one.Checkpoint new g
  step_turns (Fail machine call) new g = call_turns machine (one.Fail call) new g
  step_turns (Stop machine calls) new g = call_turns machine (one.Stop calls) new g
  step_turns (Open machine) new g = call_turns machine one.Open new g
  step_turns (Reopen machine) new g = call_turns machine one.Reopen new g

-- a world that was just opened is on

opened_on : (status : Status) (stop : ℕ) → status ≡ Up → stop ≡ 0 → power_at status stop ≡ On
opened_on status stop up none = awake_is status stop (not_down status up) ∙ ap awake none

awake_not_off : (status : Status) (stop : ℕ) → status ≢ Down → power_at status stop ≢ Off
awake_not_off status stop up off = apart stop (sym (awake_is status stop up) ∙ off)
  where
    apart : (stop : ℕ) → awake stop ≢ Off
    apart zero e = cc
    apart (suc stop) e = cc

pub start_on : (world : World) → IsStart world → (machine : Machine) → power_of world machine ≡ On
start_on world s (At Left) = opened_on _ _ s.left.0.0 (ap (λ a. a.stop) s.left.0.3)
start_on world s (At Right) = opened_on _ _ s.right.0.0 (ap (λ a. a.stop) s.right.0.3)
start_on world s Coordinator =
    opened_on _ _ s.coordinator.0.0 (ap (λ a. a.stop) s.coordinator.0.3)

pub start_tidy : (world : World) → IsStart world → AllTidy world
start_tidy world s (At Left) down = ap (λ a. a.stop) s.left.0.3
start_tidy world s (At Right) down = ap (λ a. a.stop) s.right.0.3
start_tidy world s Coordinator down = ap (λ a. a.stop) s.coordinator.0.3

-- and one that is down is off
pub down_off : (world : World) (machine : Machine) → status_of world machine ≡ Down →
    power_of world machine ≡ Off
down_off world machine down = ap (λ s. power_at s (stop_of world machine)) down

pub up_not_off : (world : World) (machine : Machine) → status_of world machine ≢ Down →
    power_of world machine ≢ Off
up_not_off world machine up = awake_not_off (status_of world machine) (stop_of world machine) up
