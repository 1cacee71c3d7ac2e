-- Which refusals a history causes, and which cause the world names first.
use Rattle.std.proofs.Common.{◌≡◌, ◌≢◌, ◌-◌, ℕ, [], ◌∷◌, ◌++◌, List, length}
use Rattle.std.proofs.Common.{refl, sym, ap, true, false, None, Some}
use Rattle.syn_machine.specs.SideMachine.{SideMachine, causes_of}
use Rattle.syn_model.specs.Event.{Event, Token, Replaced}
use Rattle.syn_model.specs.History.{History, event_causes, position_causes, is_old_token, tree_of}
use Rattle.syn_model.specs.Path.{Path}
use Rattle.syn_model.specs.Tree.{Tree as Model, replace}
use Rattle.syn_model.specs.Refusal.{Refusal, Cause, first_cause, JournalFull}
use Rattle.syn_model.specs.Refusal as why
use Rattle.syn_model.specs.Standing.{place_causes, full_causes}
use Rattle.syn_model.specs.Spelling.{event_spelling}
use Rattle.syn_replica.specs.Steps.{add_refusal, replace_refusal, room_causes}
use Rattle.syn_replica.specs.Causes.{since_causes}
use Rattle.syn_agent.proofs.CauseLemmas.{never_first, none_is_no, rooms}
use Rattle.syn_replica.proofs.RoomLemmas.{spelled_long}

-- no history causes that a device call fails as a side replaces
pub replace_never : (room : ℕ) (history : History) (token : Token) (path : Path) (since : ℕ)
    (new : Model) (other : Refusal) →
    replace_refusal room history token path since new ≡ Some other → other ≢ why.Device
replace_never room history token path since new other is =
    never_first why.Device other
    ((is_old_token history token, why.OldSession) ∷ since_causes history path since
    ++ (place_causes (tree_of history) path ++ (full_causes (replace (tree_of history) path new)
    ++ (position_causes history ++ room_causes room (Replaced token path since new))))) (
      (λ d. cc d),
      (
        (λ d. cc d),
        (
          (λ d. cc d),
          ((λ d. cc d), ((λ d. cc d), ((λ d. cc d), ((λ d. cc d), ((λ d. cc d), tt))))),
        ),
      ),
    ) is

-- the replica and the world name the same causes of an event
pub same_causes : (pair room : ℕ) (machine : SideMachine) (event : Event) →
    room ≡ machine.journal.room - 5 →
    add_refusal room machine.journal.value event ≡ first_cause (causes_of pair machine event)
same_causes pair room machine event is =
    ap (λ b. first_cause (event_causes machine.journal.value event ++ (b, JournalFull) ∷ []))
    (rooms room machine.journal.room (length (event_spelling event)) is (spelled_long event))

-- lack of memory is named where no other cause stands
pub memory_last : (causes : List Cause) → first_cause causes ≡ None →
    first_cause (causes ++ (true, why.Memory) ∷ []) ≡ Some why.Memory
memory_last [] is = refl
memory_last ((true, first) ∷ causes) is = absurd (none_is_no first (sym is))
memory_last ((false, first) ∷ causes) is = memory_last causes is
