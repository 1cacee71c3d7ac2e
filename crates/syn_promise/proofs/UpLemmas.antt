-- A coordinator that is not up records nothing as it takes an answer.
use Rattle.std.proofs.Common.{◌≡◌, ◌⊎◌, ◌∙◌, ℕ, List, [], ◌++◌, map, Option, Some, refl, ap, inl}
use Rattle.std.proofs.Common.{inr, append-nil}
use Rattle.syn_model.specs.Archive.{Kept}
use Rattle.syn_machine.specs.Machine.{Up}
use Rattle.syn_machine.specs.Side.{Reply}
use Rattle.syn_machine.specs.Network.{Which, Message, Answers}
use Rattle.syn_machine.specs.Planning.{Planned}
use Rattle.syn_machine.specs.Coordinator.{CoordinatorMachine, Call, Walk, Exchange, Running, past}
use Rattle.syn_machine.specs.Coordinator.{refusing, Advances, Takes, CoordinatorTakes, start_of}
use Rattle.syn_machine.specs.Coordinator as coordinator
use Rattle.syn_runs.specs.Acknowledged.{Kept_by}
use Rattle.syn_runs.specs.World.{World, Delivers, no_message, to_no_side, to_side}
use Rattle.syn_runs.specs.World.{to_coordinator, coordinator_goes}
use Rattle.syn_runs.specs.Runs.{picture_of}
use Rattle.syn_promise.proofs.LeaveLemmas.{RecordsIfUp}

advances_if_up : (pair : ℕ) (plan : List Planned) (taken : Exchange) (walk later : Walk)
    (kept : List Kept) → Advances pair plan taken walk kept later → (walk.journal.status ≡ Up)
    ⊎ ((kept ≡ []) × (later.journal.writing ≡ walk.journal.writing))
advances_if_up pair plan taken walk _ _ (coordinator.stands _) = inr (refl, refl)
advances_if_up pair plan taken walk later kept
    (coordinator.conflicts _ _ _ planned path first at is more) =
    advances_if_up pair plan taken (past walk walk.journal) later kept more
advances_if_up pair plan taken walk later kept
    (coordinator.side_refuses _ _ _ planned why first at is for more) =
    advances_if_up pair plan taken (refusing walk why planned) later kept more
advances_if_up pair plan taken walk later kept
    (coordinator.archive_refuses _ _ _ planned what why first at is may refused more) =
    advances_if_up pair plan taken (refusing walk why planned) later kept more
advances_if_up pair plan taken walk later kept
    (coordinator.no_checkpoint _ _ _ what first full greatest more) = inl full.to_keep.up
advances_if_up pair plan taken walk later kept
    (coordinator.checkpoints _ _ _ what journal first full smaller compacts up more) =
    inl full.to_keep.up
advances_if_up pair plan taken walk _ _
    (coordinator.checkpoint_breaks _ what journal first full smaller compacts broken) =
    inl full.to_keep.up
advances_if_up pair plan taken walk later _
    (coordinator.keeps _ _ what kept journal to_keep room kept_so up more) = inl to_keep.up
advances_if_up pair plan taken walk _ kept
    (coordinator.record_breaks _ what _ journal to_keep room kept_so broken) = inl to_keep.up

abbrev CallRecordsIfUp : CoordinatorMachine → CoordinatorMachine → Call → Type 0
CallRecordsIfUp old new call = (old.journal.status ≡ Up)
    ⊎ ((call.kept ≡ []) × (new.journal.writing ≡ old.journal.writing))

takes_if_up : (pair : ℕ) (old : CoordinatorMachine) (r : Running) (taken : Exchange)
    (new : CoordinatorMachine) (call : Call) → Takes pair old r taken new call →
    CallRecordsIfUp old new call
takes_if_up pair old r taken _ _ (coordinator.ends_at_once why fault) = inr (refl, refl)
takes_if_up pair old r taken _ _
    (coordinator.stops plan logged walk kept fault has advances down) =
    advances_if_up pair _ taken (start_of old r) walk kept advances
takes_if_up pair old r taken _ _
    (coordinator.ends plan logged walk kept why fault has advances ends) =
    advances_if_up pair _ taken (start_of old r) walk kept advances
takes_if_up pair old r taken _ _ (coordinator.goes_on plan logged walk kept left right fault has
    advances rests unmoved moves asks) =
    advances_if_up pair _ taken (start_of old r) walk kept advances

answer_if_up : (pair : ℕ) (old : CoordinatorMachine) (from : Which) (session number : ℕ)
    (reply : Reply) (new : CoordinatorMachine) (call : Call) →
    CoordinatorTakes pair old from session number reply new call → CallRecordsIfUp old new call
answer_if_up pair old from session number reply _ _
    (coordinator.takes r request new call expected t) = takes_if_up pair old r _ new call t
answer_if_up pair old from session number reply _ _ (coordinator.ignores none) = inr (refl, refl)

pub delivered_if_up : (old new : World) (o : Option Message) → Delivers old o new → (from : Which)
    (session number : ℕ) (reply : Reply) → o ≡ Some (Answers from session number reply) →
    RecordsIfUp (picture_of old) (picture_of new)
delivered_if_up old _ _ no_message from session number reply e = cc
delivered_if_up old _ _ (to_no_side side s n request down) from session number reply e = cc
delivered_if_up old _ _ (to_side side s n request machine said events t) from session number reply
    e = cc
delivered_if_up old _ _ (to_coordinator side s n said machine call t) from session number reply e =
    by (answer_if_up old.pair old.coordinator side s n said machine call t)
  where
    by : CallRecordsIfUp old.coordinator machine call →
        RecordsIfUp (picture_of old) (picture_of (coordinator_goes old machine call))
    by (inl up) = inl up
    by (inr (none, same)) = inr (
      ap (λ kept. old.acknowledged ++ map Kept_by kept) none ∙ append-nil old.acknowledged,
      same,
    )
