-- Many events that are added to what is kept in memory.
use Rattle.std.specs.Prelude.{◌≡◌, ◌-◌, ℕ, List, [], ◌∷◌, Option, None, fold, map}
use Rattle.syn_model.specs.Event.{Event}
use Rattle.syn_model.specs.Path.{Bytes}
use Rattle.syn_model.specs.Refusal.{Refusal}
use Rattle.syn_model.specs.Spelling.{event_spelling}
use Rattle.syn_model.specs.Standing.{AllAllowedAt, Standing, standing_after}
use Rattle.syn_replica.specs.Batches.{or_else}
use Rattle.syn_replica.specs.Disks.{event_size}
use Rattle.syn_replica.specs.inner.Additions.{add_refusal_at}

-- why the first event is refused there that is, with so much room in the journal
abbrev pub add_all_refusal_at : ℕ → Standing → List Event → Option Refusal
add_all_refusal_at room standing [] = None
add_all_refusal_at room standing (event ∷ events) =
    or_else (add_refusal_at room standing event)
    (add_all_refusal_at (room - event_size event) (standing_after standing event) events)

-- each event is allowed in turn, these are their payloads, and this is what they leave
pub record AddsAll (old : Standing) (events : List Event) (payloads : List Bytes)
    (new : Standing) : Type 0 where
  pub allowed : AllAllowedAt old events
  pub spelled : payloads ≡ map event_spelling events
  pub gives : new ≡ fold standing_after old events
