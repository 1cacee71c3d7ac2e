-- What a hold's call answers and leaves, as a step of the machine that the replica is.
use Rattle.std.proofs.Common.{◌≡◌, ◌≢◌, ◌⊎◌, ◌+◌, ◌-◌, ℕ, ◌∷◌, ◌++◌, List, length, refl, sym}
use Rattle.std.proofs.Common.{ap, ◌∙◌, subst, inl, inr, true, false, Bool, if◌then◌else◌, Option}
use Rattle.std.proofs.Common.{None, Some, Result, Ok, Err, arith, []}
use Rattle.std.specs.Prelude.{IfOk, IfErr, IsErrAnd}
use Rattle.std.specs.Result.{MatchResult}
use Rattle.std.proofs.lemmas.List.{length-append}
use Rattle.syn_agent.specs.Machines.{IsOf}
use Rattle.syn_agent.specs.declared.agent.Agent.{Agent}
use Rattle.syn_journal.specs.Endings.{ended}
use Rattle.syn_disk.specs.declared.disk.Disk.{Ghosts}
use Rattle.syn_machine.specs.Machine.{Status, Up, Halted, Down}
use Rattle.syn_machine.specs.SideMachine.{SideMachine, causes_of}
use Rattle.syn_machine.specs.MachineSteps.{is_halted}
use Rattle.syn_journal.specs.declared.error.JournalError.TheVariants as journal_error
use Rattle.syn_model.specs.Event.{Edit, Event, Edited, Replaced, Token}
use Rattle.syn_model.specs.History.{History, standing_of}
use Rattle.syn_model.specs.Path.{Path}
use Rattle.syn_model.specs.Refusal.{Refusal, Cause, first_cause}
use Rattle.syn_model.specs.Refusal as why
use Rattle.syn_replica.specs.ErrorRefusals.{refusal_of}
use Rattle.syn_replica.specs.Calls.{Writes, unless}
use Rattle.syn_replica.specs.Refusals.{IsOneOf, outside_refusals}
use Rattle.syn_replica.specs.Machines.{StandsAs, WritesRecord, WritesUnlessDone}
use Rattle.syn_replica.specs.Replica.{Stands, left_shown, room_shown, standing_shown}
use Rattle.syn_replica.specs.Steps.{add_refusal, replace_refusal, replaced, is_done, is_done_at}
use Rattle.syn_shared.proofs.AnswerLemmas.{halted_answer}
use Rattle.syn_replica.specs.declared.error.ReplicaError.{ReplicaError}
use Rattle.syn_replica.specs.declared.error.ReplicaError.TheVariants.{Journal}
use Rattle.syn_replica.specs.declared.replica.Replica.{Replica}
use Rattle.syn_shared.proofs.CauseLemmas.{memory_last, replace_never, same_causes}
use Rattle.syn_shared.proofs.EventLemmas.{event_refused, event_written}
use Rattle.syn_shared.specs.Machines.{EditsSide, IsMade, IsRefused, IsRefusedEarly, WritesEvent}
use Rattle.syn_agent.proofs.CauseLemmas.{edit_never, outside as memory_or_device}
use Rattle.syn_model.proofs.HistoryLemmas.{first_stays}
use Rattle.syn_model.specs.Tree.{Tree as Model}

-- where no history causes the answer there is no cause
no_cause : (answer : Result ℕ ReplicaError) (found : Option Refusal) →
    ((other : Refusal) → found ≡ Some other → other ≢ why.Device) →
    ((other : Refusal) → found ≡ Some other →
    IsErrAnd answer (λ e. (refusal_of e ≡ other) ⊎ (refusal_of e ≡ why.Memory))) →
    MatchResult answer (λ _. found ≡ None) (λ e. refusal_of e ≡ why.Device → found ≡ None)
no_cause (Ok n) None never refused = refl
no_cause (Ok n) (Some other) never refused = absurd (refused other refl)
no_cause (Err e) None never refused = λ d. refl
no_cause (Err e) (Some other) never refused = λ d. absurd (elim (refused other refl) [
  | inl same ↦ never other refl (sym same ∙ d)
  | inr memory ↦ (let k : why.Memory ≡ why.Device = sym memory ∙ d in cc)
])

or_memory : (answer : Result ℕ ReplicaError) (other : Refusal) →
    IsErrAnd answer (λ e. refusal_of e ≡ other) →
    IsErrAnd answer (λ e. (refusal_of e ≡ other) ⊎ (refusal_of e ≡ why.Memory))
or_memory (Ok n) other is = is
or_memory (Err e) other is = inl is

match_map : {X : Type 0} (answer : Result X ReplicaError) (P Q : Type 0) → (P → Q) →
    MatchResult answer (λ _. P) (λ e. refusal_of e ≡ why.Device → P) →
    MatchResult answer (λ _. Q) (λ e. refusal_of e ≡ why.Device → Q)
match_map (Ok x) P Q f p = f p
match_map (Err e) P Q f p = λ d. f (p d)

-- a refusal is the first cause, or memory is wanting
refused_so : (e : ReplicaError) (causes : List Cause) (found : Option Refusal) →
    first_cause causes ≡ found → refusal_of e ≢ why.Device →
    IsOneOf outside_refusals e ⊎ (found ≡ Some (refusal_of e)) →
    ((other : Refusal) → found ≡ Some other → refusal_of e ≡ other) →
    first_cause (causes ++ (true, why.Memory) ∷ []) ≡ Some (refusal_of e)
refused_so e causes found is not (inr some) refused =
    first_stays causes _ (refusal_of e) (is ∙ some)
refused_so e causes None is not (inl outside) refused =
    elim (memory_or_device e outside)
    as (λ _. first_cause (causes ++ (true, why.Memory) ∷ []) ≡ Some (refusal_of e)) [
      | inl memory ↦ memory_last causes is ∙ ap (λ r. Some r) (sym memory)
      | inr device ↦ absurd (not device)
    ]
refused_so e causes (Some other) is not (inl outside) refused =
    first_stays causes _ (refusal_of e) (is ∙ ap (λ r. Some r) (sym (refused other refl)))

-- a halted replica writes nothing
halted : {D : Type 0} {disk : Ghosts D} (pair : ℕ) (found left : Replica D disk) (agent : Agent)
    (machine : SideMachine) → IsOf pair found agent machine → (event : Event) (Allowed : Type 0)
    (Refused : ReplicaError → Type 0) (answer : Result ℕ ReplicaError) →
    ended refusal_of answer ≡ Some why.Halted → Refused (Journal journal_error.Halted) →
    WritesRecord left pair machine.journal event (ended refusal_of answer) →
    WritesEvent pair left agent machine event Allowed Refused answer
halted pair found left agent machine is event Allowed Refused answer same caused told =
    subst (λ a. WritesEvent pair left agent machine event Allowed Refused a)
    (sym (halted_answer answer same))
    (event_refused pair found left agent machine is event Allowed Refused
    (Journal journal_error.Halted) why.Halted refl (λ e. cc) (λ _. caused)
    (subst (λ w. WritesRecord left pair machine.journal event w) same told))

module _ {D : Type 0} {disk : Ghosts D} (pair : ℕ) (found left : Replica D disk) (agent : Agent)
    (machine : SideMachine) (is : IsOf pair found agent machine) where
  abbrev pub value : History
  value = machine.journal.value

  room_is : machine.journal.status ≡ Up → room_shown found ≡ machine.journal.room - 5
  room_is up = half ∙ ap (λ n. n - 5) (sym (is.keeps.room up))
    where
      half : room_shown found ≡ left_shown found - 5
      half = omega arith

  made_up : machine.journal.status ≡ Up → (causes : List Cause) → first_cause causes ≡ None →
      IsMade machine causes
  made_up up causes none =
      subst (λ s. first_cause ((is_halted s, why.Halted) ∷ causes) ≡ None) (sym up) none

  refused_up : machine.journal.status ≡ Up → (causes : List Cause) (e : ReplicaError) →
      first_cause (causes ++ (true, why.Memory) ∷ []) ≡ Some (refusal_of e) →
      IsRefused machine causes e
  refused_up up causes e some =
      subst (λ s. first_cause ((is_halted s, why.Halted) ∷ causes ++ (true, why.Memory) ∷ [])
      ≡ Some (refusal_of e)) (sym up) some

  refused_halted : machine.journal.status ≡ Halted → (causes : List Cause) →
      IsRefused machine causes (Journal journal_error.Halted)
  refused_halted at causes =
      subst (λ s. first_cause ((is_halted s, why.Halted) ∷ causes ++ (true, why.Memory) ∷ [])
      ≡ Some why.Halted) (sym at) refl

  module _ (user : ℕ) (edit : Edit) (answer : Result ℕ ReplicaError) where
    abbrev event : Event
    event = Edited user edit

    abbrev causes : List Cause
    causes = causes_of pair machine event

    edit_refused : machine.journal.status ≡ Up → (stands : Stands found value) →
        (given : Result ℕ ReplicaError) → IfErr given (λ e. IsOneOf outside_refusals e
        ⊎ (add_refusal (room_shown found) value event ≡ Some (refusal_of e))) →
        ((other : Refusal) → add_refusal (room_shown found) value event ≡ Some other →
        IsErrAnd given (λ e. refusal_of e ≡ other)) →
        IfErr given (λ e. refusal_of e ≢ why.Device → IsRefused machine causes e)
    edit_refused up stands (Ok n) cause refused = tt
    edit_refused up stands (Err e) cause refused = λ not. refused_up up causes e
        (refused_so e causes (add_refusal (room_shown found) value event)
        (sym (same_causes pair (room_shown found) machine event (room_is up))) not cause refused)

    pub edit_world : ((history : History) → Stands found history → IfOk answer
        (λ position. (position ≡ length history + 1) × Stands left (history ++ event ∷ []))) →
        ((history : History) → Stands found history → IfErr answer (λ e. IsOneOf outside_refusals e
        ⊎ (add_refusal (room_shown found) history event ≡ Some (refusal_of e)))) →
        ((history : History) (other : Refusal) → Stands found history →
        add_refusal (room_shown found) history event ≡ Some other →
        IsErrAnd answer (λ e. refusal_of e ≡ other)) →
        Writes found left (Some event) (ended refusal_of answer) →
        WritesRecord left pair machine.journal event (ended refusal_of answer) →
        EditsSide pair left agent machine event answer
    edit_world acknowledged cause refused writes told =
        by machine.journal.status refl is.keeps.stands
      where
        by : (status : Status) → machine.journal.status ≡ status → StandsAs status found value →
            EditsSide pair left agent machine event answer
        by Up up stands =
            event_written pair found left agent machine is event (IsMade machine causes)
            (IsRefused machine causes) answer (acknowledged value stands) told
            (match_map answer (add_refusal (room_shown found) value event ≡ None)
            (IsMade machine causes) (λ none. made_up up causes
            (sym (same_causes pair (room_shown found) machine event (room_is up)) ∙ none))
            (no_cause answer (add_refusal (room_shown found) value event)
            (edit_never (room_shown found) value user edit)
            (λ other some. or_memory answer other (refused value other stands some))))
            (edit_refused up stands answer (cause value stands)
            (λ other some. refused value other stands some))
        by Halted at stands =
            halted pair found left agent machine is event (IsMade machine causes)
            (IsRefused machine causes) answer (writes.halted.1 stands.0)
            (refused_halted at causes) told
        by Down at stands = absurd stands

  module _ (token : Token) (path : Path) (since : ℕ) (new : Model)
      (open_is : is_done value token ≡ false) (answer : Result ℕ ReplicaError) where
    abbrev replacement : Event
    replacement = Replaced token path since new

    abbrev cause_now : Option Refusal
    cause_now = replace_refusal (room_shown found) value token path since new

    longer : replaced value token path since new ≡ value ++ replacement ∷ []
    longer =
        ap (λ (b : Bool). if b then value else value ++ Replaced token path since new ∷ []) open_is

    replaced_ok : (given : Result ℕ ReplicaError) →
        IfOk given (λ position. (position ≡ length (replaced value token path since new))
        × Stands left (replaced value token path since new)) → IfOk given
        (λ position. (position ≡ length value + 1) × Stands left (value ++ replacement ∷ []))
    replaced_ok (Ok n) acknowledged = (
      acknowledged.0 ∙ (ap length longer ∙ length-append value (replacement ∷ [])),
      subst (λ (h : History). Stands left h) longer acknowledged.1,
    )
    replaced_ok (Err e) acknowledged = tt

    refused_early : machine.journal.status ≡ Up → (given : Result ℕ ReplicaError) →
        IfErr given (λ e. IsOneOf outside_refusals e ⊎ (cause_now ≡ Some (refusal_of e))) →
        IfErr given (λ e. refusal_of e ≢ why.Device → IsRefusedEarly machine cause_now e)
    refused_early up (Ok n) cause = tt
    refused_early up (Err e) (inr some) = λ not. inr (up, inr some)
    refused_early up (Err e) (inl outside) =
        λ not. elim (memory_or_device e outside) as (λ _. IsRefusedEarly machine cause_now e) [
          | inl memory ↦ inr (up, inl memory)
          | inr device ↦ absurd (not device)
        ]

    pub replace_world : ((history : History) → Stands found history →
        let after = replaced history token path since new in
        IfOk answer (λ position. (position ≡ length after) × Stands left after)) →
        ((history : History) → Stands found history →
        IfErr answer (λ e. IsOneOf outside_refusals e ⊎ (replace_refusal
        (room_shown found) history token path since new ≡ Some (refusal_of e)))) →
        ((history : History) (other : Refusal) → Stands found history → is_done history token
        ≡ false → replace_refusal (room_shown found) history token path since new ≡ Some other →
        IsErrAnd answer (λ e. (refusal_of e ≡ other) ⊎ (refusal_of e ≡ why.Memory))) →
        Writes found left (unless (is_done_at (standing_shown found) token) replacement)
        (ended refusal_of answer) →
        WritesUnlessDone left pair machine.journal
        (unless (is_done_at (standing_shown found) token) replacement) (ended refusal_of answer) →
        WritesEvent pair left agent machine replacement (cause_now ≡ None)
        (IsRefusedEarly machine cause_now) answer
    replace_world acknowledged cause refused writes told =
        by machine.journal.status refl is.keeps.stands
      where
        written : standing_shown found ≡ standing_of value →
            WritesRecord left pair machine.journal replacement (ended refusal_of answer)
        written same =
            subst (λ (b : Bool). WritesUnlessDone left pair machine.journal (unless b replacement)
            (ended refusal_of answer)) (ap (λ s. is_done_at s token) same ∙ open_is) told

        by : (status : Status) → machine.journal.status ≡ status → StandsAs status found value →
            WritesEvent pair left agent machine replacement (cause_now ≡ None)
            (IsRefusedEarly machine cause_now) answer
        by Up up stands =
            event_written pair found left agent machine is replacement (cause_now ≡ None)
            (IsRefusedEarly machine cause_now) answer
            (replaced_ok answer (acknowledged value stands)) (written stands.remembers.standing)
            (no_cause answer cause_now (replace_never (room_shown found) value token path since new)
            (λ other some. refused value other stands open_is some))
            (refused_early up answer (cause value stands))
        by Halted at stands =
            halted pair found left agent machine is replacement (cause_now ≡ None)
            (IsRefusedEarly machine cause_now) answer (writes.halted.1 stands.0)
            (inl (at, refl)) (written stands.1.standing)
        by Down at stands = absurd stands
