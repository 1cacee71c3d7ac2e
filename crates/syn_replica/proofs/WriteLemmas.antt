-- What a machine's write makes of a replica.
use Rattle.std.proofs.Common.{◌≡◌, ◌⊎◌, ◌∙◌, ◌-◌, ◌++◌, ◌∷◌, [], Option, Some, None, ap}
use Rattle.std.proofs.Common.{inl, inr, subst, sym}
use Rattle.std.proofs.lemmas.Option.{none-some, same_Some}
use Rattle.syn_disk.specs.Stops.{LeavesOnly}
use Rattle.syn_disk.specs.declared.disk.Disk.{Ghosts}
use Rattle.syn_journal.specs.Layout.{LeftBehindPayload, IsBeforeOrAfter, record_size, with_payload}
use Rattle.syn_journal.specs.Journaled.{Appends, state_of}
use Rattle.syn_model.specs.Event.{Event}
use Rattle.syn_model.specs.History.{History, IsAllowed}
use Rattle.syn_model.specs.Image.{StandsFor}
use Rattle.syn_model.specs.Laws.{AllowedGoesOn, PayloadGoesOn, StandingSteps}
use Rattle.syn_model.specs.Path.{Bytes}
use Rattle.syn_model.specs.Refusal.{Refusal, Device}
use Rattle.syn_model.specs.Spelling.{event_spelling}
use Rattle.syn_replica.specs.Updates.{IsOf}
use Rattle.syn_replica.specs.declared.standing.Update.{Update}
use Rattle.syn_replica.specs.Calls.{Tries, Writes}
use Rattle.syn_replica.specs.Growth.{IsGrown}
use Rattle.syn_replica.specs.Replica.{KeepsBeforeOrAfter, Stands, disk_of}
use Rattle.syn_replica.specs.Replica.{generation_shown, journal_of, left_shown, pair_of}
use Rattle.syn_replica.specs.Replica.{standing_shown, tried_shown}
use Rattle.syn_replica.specs.declared.replica.Replica.{Replica}
use Rattle.syn_replica.specs.inner.Memories.{StepsBy}
use Rattle.syn_replica.proofs.StandLemmas.{left_behind, payload_stands}
use Rattle.syn_disk.proofs.LeftLemmas.{leaves_weaker}
use Rattle.syn_replica.proofs.StandLemmas.{remembers_more, stop_keeps}

module _ {D : Type 0} {disk : Ghosts D} (old new : Replica D disk) (payload : Bytes)
    (ended : Option Refusal)
    (appends : Appends (journal_of old) (journal_of new) payload ended) where
  module _ (event : Event) (spelled : payload ≡ event_spelling event) where
    pub written_moment : PayloadGoesOn → LeftBehindPayload → (history : History) →
        Stands old history → IsAllowed history event →
        LeavesOnly disk.moment disk.left_since (disk_of old) (disk_of new)
        (KeepsBeforeOrAfter old history event)
    written_moment goes_on less history stands allowed =
        leaves_weaker disk.moment disk.left_since _ _
        (IsBeforeOrAfter stands.value (generation_shown old) (with_payload stands.value payload)
        (generation_shown old)) (KeepsBeforeOrAfter old history event)
        (stop_keeps goes_on less (pair_of old) stands.value payload history event (left_shown old)
        (generation_shown old) stands.means allowed spelled
        (left_behind old stands.value stands.runs)) (appends.any_moment stands.value stands.runs)

    pub written_stands : AllowedGoesOn → StandingSteps → PayloadGoesOn → (update : Update) →
        ended ≡ None → StepsBy (state_of old.journaled) update (state_of new.journaled) →
        IsOf (standing_shown old) event update → (history : History) → Stands old history →
        IsAllowed history event → Stands new (history ++ event ∷ [])
    written_stands allows steps goes_on update none makes of history stands allowed = record {
      remembers = remembers_more allows steps old new history event stands.remembers allowed
          (makes.standing event of);
      value = with_payload stands.value payload;
      runs = appends.acknowledged none stands.value stands.runs;
      means =
          subst (λ n. StandsFor n stands.value.image (with_payload stands.value payload).payloads
          (history ++ event ∷ [])) (sym makes.pair)
          (payload_stands goes_on (pair_of old) stands.value payload history event stands.means
          allowed spelled);
    }

module _ {D : Type 0} {disk : Ghosts D} (old new : Replica D disk) (payload : Bytes)
    (event : Event) (spelled : payload ≡ event_spelling event) (grown : IsGrown old new)
    (seen : (history : History) → Stands old history →
    KeepsBeforeOrAfter old history event (disk.seen (disk_of new))) where
  -- the machine wrote it
  pub written_call : Appends (journal_of old) (journal_of new) payload None →
      pair_of new ≡ pair_of old → tried_shown new ≡ Some payload →
      Writes old new (Some event) None
  written_call appends pair tried = record {
    written = record {
      pair = pair;
      left_is = appends.left_is ∙ ap (λ p. left_shown old - record_size p) spelled;
      generation = appends.generation;
    };
    tried = tried ∙ ap (λ p. Some p) spelled;
    grown = grown;
    seen = seen;
    halted = appends.halted;
    halts = tt;
    untried = tt;
    readings = tt;
    unchanged = tt;
    device = appends.device;
  }

  -- the machine refused it
  pub refused_call : (refusal : Refusal) →
      Appends (journal_of old) (journal_of new) payload (Some refusal) →
      state_of new.journaled ≡ state_of old.journaled → Tries old new (Some event) (Some refusal) →
      Writes old new (Some event) (Some refusal)
  refused_call refusal appends same tries = record {
    written = tt;
    tried = tries;
    grown = grown;
    seen = seen;
    halted = appends.halted;
    halts = λ device. appends.halts (ap (λ w. Some w) device);
    untried = λ other. elim tries as (λ _. tried_shown new ≡ tried_shown old) [
      | inl sent ↦ absurd (other sent.0)
      | inr not ↦ not.1
    ];
    readings = record {
      memory = record { pair = ap (λ m. m.pair) same; standing = ap (λ m. m.standing) same };
      left_is = appends.left_is;
      generation = appends.generation;
    };
    unchanged = elim appends.unchanged
        as (λ _. (refusal ≡ Device) ⊎ (journal_of new ≡ journal_of old)) [
          | inl none ↦ absurd (none-some _ (sym none))
          | inr (inl device) ↦ inl (same_Some _ _ device)
          | inr (inr still) ↦ inr still
        ];
    device = appends.device;
  }
