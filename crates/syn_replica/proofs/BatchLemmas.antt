-- Many edits at once: why they are refused, and what they leave.
use Rattle.std.proofs.Common.{◌≡◌, ◌≢◌, ◌⊎◌, ℕ, ◌+◌, ◌-◌}
use Rattle.std.proofs.Common.{List, [], ◌∷◌, ◌++◌, length, map, fold}
use Rattle.std.proofs.Common.{Option, Some, None, refl, sym, ap, ap₂, ◌∙◌, subst, inl, inr, arith}
use Rattle.std.proofs.Common.{append_assoc, append-nil, length-append, true}
use Rattle.std.proofs.lemmas.List.{map-append}
use Rattle.std.proofs.lemmas.Option.{none-some}
use Rattle.std.specs.Int.{to_be_bytes, w32}
use Rattle.syn_disk.specs.Stops.{LeavesOnly}
use Rattle.syn_disk.specs.declared.disk.Disk.{Ghosts}
use Rattle.syn_disk.proofs.LeftLemmas.{leaves_weaker}
use Rattle.syn_journal.specs.Batches.{LeftBehindPayloads, records_size, with_payloads}
use Rattle.syn_journal.specs.Layout.{IsBeforeOrAfter, record_of, records_of}
use Rattle.syn_journal.specs.Appending.{AppendsAll, HasAll}
use Rattle.syn_journal.specs.Endings.{BreaksIf, Grows, Spends}
use Rattle.syn_journal.specs.Journaled.{IsOfWrite}
use Rattle.syn_journal.proofs.Spent.{not_device}
use Rattle.syn_model.specs.Event.{Chmod, Edit, Edited, Event, MakeDir, Put, Remove}
use Rattle.syn_model.specs.History.{AllAllowed, History, standing_of}
use Rattle.syn_model.specs.Image.{StandsFor}
use Rattle.syn_model.specs.Laws.{PayloadGoesOn, StandingAllows, StandingSteps}
use Rattle.syn_model.specs.Path.{Bytes}
use Rattle.syn_model.specs.Refusal as why
use Rattle.syn_model.specs.Refusal.{Refusal}
use Rattle.syn_model.specs.Spelling.{event_spelling}
use Rattle.syn_model.specs.Standing.{AllAllowedAt, IsAllowedAt, Standing, causes_at}
use Rattle.syn_model.specs.Standing.{standing_after}
use Rattle.syn_replica.specs.Batches.{HasRecords, KeepsNoneOrAll, add_all_refusal, events_size}
use Rattle.syn_replica.specs.Batches.{or_else}
use Rattle.syn_replica.specs.Disks.{event_size}
use Rattle.syn_replica.specs.Replica.{Stands, generation_shown, journal_of, left_shown, pair_of}
use Rattle.syn_replica.specs.Replica.{disk_of, room_shown, standing_shown}
use Rattle.syn_replica.specs.Steps.{add_refusal}
use Rattle.syn_replica.specs.declared.replica.Replica.{Replica}
use Rattle.syn_replica.specs.inner.Additions.{add_refusal_at}
use Rattle.syn_replica.specs.inner.Batches.{AddsAll, add_all_refusal_at}
use Rattle.syn_replica.specs.Edits.{event_by}
use Rattle.syn_replica.specs.Refusals.{IsOneOf, edit_refusals, outside_refusals}
use Rattle.syn_replica.specs.Steps.{room_causes}
use Rattle.syn_replica.specs.ErrorRefusals.{refusal_of}
use Rattle.syn_replica.specs.declared.error.ReplicaError.{ReplicaError}
use Rattle.syn_tree.specs.Edits.{edit_of}
use Rattle.syn_tree.specs.declared.edit.Edit.{Edit as Planned}
use Rattle.syn_replica.proofs.RefusalLemmas.{first_among, inner_refusals, is_among}
use Rattle.syn_replica.proofs.RoomLemmas.{edited_among}
use Rattle.syn_replica.proofs.StandLemmas.{left_behind}
use Rattle.syn_model.proofs.ImageLemmas.{allowed-append}
use Rattle.syn_model.proofs.StandingLemmas.{standing_goes_on}

-- ---- why they are refused

or_else-assoc : (a b c : Option Refusal) → or_else a (or_else b c) ≡ or_else (or_else a b) c
or_else-assoc None b c = refl
or_else-assoc (Some why) b c = refl

-- first some of them, and then the others
pub in_two : (room : ℕ) (s : Standing) (xs ys : List Event) →
    add_all_refusal_at room s (xs ++ ys) ≡ or_else (add_all_refusal_at room s xs)
    (add_all_refusal_at (room - events_size xs) (fold standing_after s xs) ys)
in_two room s [] ys =
    let same : room ≡ room - 0 = omega arith in ap (λ n. add_all_refusal_at n s ys) same
in_two room s (x ∷ xs) ys =
    let first = add_refusal_at room s x in
    let then = add_all_refusal_at (room - event_size x) (standing_after s x) xs in
    let after = fold standing_after (standing_after s x) xs in
    let same : room - event_size x - events_size xs ≡ room - (event_size x + events_size xs) =
    omega arith in
    ap (or_else first) (in_two (room - event_size x) (standing_after s x) xs ys)
    ∙ (or_else-assoc first then
    (add_all_refusal_at (room - event_size x - events_size xs) after ys)
    ∙ ap (λ n. or_else (or_else first then) (add_all_refusal_at n after ys)) same)

-- first those that are not refused, and then one more
pub with_next : (room : ℕ) (first now : Standing) (made : List Event) (event : Event)
    (others : List Event) (left : ℕ) → add_all_refusal_at room first made ≡ None →
    now ≡ fold standing_after first made → left ≡ room - events_size made →
    add_all_refusal_at room first (made ++ event ∷ others)
    ≡ or_else (add_refusal_at left now event)
    (add_all_refusal_at (left - event_size event) (standing_after now event) others)
with_next room first now made event others left passed gives is =
    in_two room first made (event ∷ others)
    ∙ (ap (λ r. or_else r (add_all_refusal_at (room - events_size made)
    (fold standing_after first made) (event ∷ others))) passed
    ∙ ap₂ (λ n s. add_all_refusal_at n s (event ∷ others)) (sym is) (sym gives))

pub next_refused : (room : ℕ) (first now : Standing) (made : List Event) (event : Event)
    (others : List Event) (left : ℕ) (refusal : Refusal) →
    add_all_refusal_at room first made ≡ None → now ≡ fold standing_after first made →
    left ≡ room - events_size made → add_refusal_at left now event ≡ Some refusal →
    add_all_refusal_at room first (made ++ event ∷ others) ≡ Some refusal
next_refused room first now made event others left refusal passed gives is cause =
    with_next room first now made event others left passed gives is
    ∙ ap (λ r. or_else r (add_all_refusal_at (left - event_size event) (standing_after now event)
    others)) cause

pub next_passed : (room : ℕ) (first now : Standing) (made : List Event) (event : Event)
    (left : ℕ) → add_all_refusal_at room first made ≡ None →
    now ≡ fold standing_after first made → left ≡ room - events_size made →
    add_refusal_at left now event ≡ None →
    add_all_refusal_at room first (made ++ event ∷ []) ≡ None
next_passed room first now made event left passed gives is none =
    with_next room first now made event [] left passed gives is
    ∙ ap (λ r. or_else r None) none

-- an edit among others is refused for what an edit may be refused, and not for a failed call
edited_inner : (room : ℕ) (s : Standing) (user : ℕ) (edit : Edit) (refusal : Refusal) →
    add_refusal_at room s (Edited user edit) ≡ Some refusal →
    is_among (why.JournalFull ∷ inner_refusals) refusal ≡ true
edited_inner room s user (Put path bytes) refusal e =
    first_among (why.JournalFull ∷ inner_refusals) (causes_at s (Edited user (Put path bytes))
    ++ room_causes room (Edited user (Put path bytes))) refusal
    (refl, (refl, (refl, (refl, (refl, (refl, tt)))))) e
edited_inner room s user (MakeDir path) refusal e =
    first_among (why.JournalFull ∷ inner_refusals) (causes_at s (Edited user (MakeDir path))
    ++ room_causes room (Edited user (MakeDir path))) refusal
    (refl, (refl, (refl, (refl, (refl, (refl, tt)))))) e
edited_inner room s user (Remove path) refusal e =
    first_among (why.JournalFull ∷ inner_refusals) (causes_at s (Edited user (Remove path))
    ++ room_causes room (Edited user (Remove path))) refusal
    (refl, (refl, (refl, (refl, (refl, (refl, tt)))))) e
edited_inner room s user (Chmod path mode) refusal e =
    first_among (why.JournalFull ∷ inner_refusals) (causes_at s (Edited user (Chmod path mode))
    ++ room_causes room (Edited user (Chmod path mode))) refusal
    (refl, (refl, (refl, (refl, (refl, (refl, (refl, tt))))))) e

module _ (refusals : List Refusal) (user : ℕ) (among : (room : ℕ) (s : Standing) (edit : Edit)
    (refusal : Refusal) → add_refusal_at room s (Edited user edit) ≡ Some refusal →
    is_among refusals refusal ≡ true) where
  all_among : (room : ℕ) (s : Standing) (edits : List Planned) (refusal : Refusal) →
      add_all_refusal_at room s (map (event_by user) edits) ≡ Some refusal →
      is_among refusals refusal ≡ true
  all_among room s [] refusal e = absurd (none-some _ e)
  all_among room s (x ∷ xs) refusal e =
      by_first
      (λ later. all_among (room - event_size (event_by user x)) (standing_after s (event_by user x))
      xs refusal later) (add_refusal_at room s (event_by user x)) refl e
    where
      by_first : (add_all_refusal_at (room - event_size (event_by user x))
          (standing_after s (event_by user x)) (map (event_by user) xs) ≡ Some refusal →
          is_among refusals refusal ≡ true) → (a : Option Refusal) →
          add_refusal_at room s (event_by user x) ≡ a →
          or_else a (add_all_refusal_at (room - event_size (event_by user x))
          (standing_after s (event_by user x)) (map (event_by user) xs)) ≡ Some refusal →
          is_among refusals refusal ≡ true
      by_first again None none later = again later
      by_first again (Some r) some now = among room s (edit_of x) refusal (some ∙ now)

pub edits_among : (room : ℕ) (s : Standing) (user : ℕ) (edits : List Planned) (refusal : Refusal) →
    add_all_refusal_at room s (map (event_by user) edits) ≡ Some refusal →
    is_among edit_refusals refusal ≡ true
edits_among room s user edits refusal e =
    all_among edit_refusals user (λ n t edit r is. edited_among n t user edit r is) room s edits
    refusal e

pub edits_inner : (room : ℕ) (s : Standing) (user : ℕ) (edits : List Planned) (e : ReplicaError) →
    (refusal_of e ≡ why.Memory)
    ⊎ (add_all_refusal_at room s (map (event_by user) edits) ≡ Some (refusal_of e)) →
    IsOneOf (why.JournalFull ∷ inner_refusals) e
edits_inner room s user edits e (inl memory) =
    ap (is_among (why.JournalFull ∷ inner_refusals)) memory
edits_inner room s user edits e (inr cause) =
    all_among (why.JournalFull ∷ inner_refusals) user (λ n t edit r is. edited_inner n t user edit r
    is) room s edits (refusal_of e) cause

-- by a history, or by what is kept of it
pub same_causes : StandingSteps → (room : ℕ) (history : History) (events : List Event) →
    add_all_refusal room history events ≡ add_all_refusal_at room (standing_of history) events
same_causes steps room history [] = refl
same_causes steps room history (event ∷ events) =
    ap (or_else (add_refusal room history event))
    (same_causes steps (room - event_size event) (history ++ event ∷ []) events
    ∙ ap (λ s. add_all_refusal_at (room - event_size event) s events) (steps history event))

-- ---- what they leave

pub sized : (events : List Event) →
    records_size (map event_spelling events) ≡ events_size events
sized [] = refl
sized (event ∷ events) =
    omega (
      arith,
      sized events,
      length-append (record_of (event_spelling event)) (records_of (map event_spelling events)),
      length-append (to_be_bytes w32 (length (event_spelling event))) (event_spelling event),
    )

pub size_more : (payloads : List Bytes) (payload : Bytes) →
    records_size (payloads ++ payload ∷ []) ≡ records_size payloads + (5 + length payload)
size_more [] payload =
    omega (
      arith,
      length-append (record_of payload) [],
      length-append (to_be_bytes w32 (length payload)) payload,
    )
size_more (p ∷ payloads) payload =
    omega (
      arith,
      size_more payloads payload,
      length-append (record_of p) (records_of (payloads ++ payload ∷ [])),
      length-append (record_of p) (records_of payloads),
    )

fold_more : (s : Standing) (events : List Event) (event : Event) →
    fold standing_after s (events ++ event ∷ [])
    ≡ standing_after (fold standing_after s events) event
fold_more s [] event = refl
fold_more s (x ∷ xs) event = fold_more (standing_after s x) xs event

pub adds_more : (first now new : Standing) (made : List Event) (event : Event)
    (payloads : List Bytes) (payload : Bytes) → AddsAll first made payloads now →
    IsAllowedAt now event → payload ≡ event_spelling event → new ≡ standing_after now event →
    AddsAll first (made ++ event ∷ []) (payloads ++ payload ∷ []) new
adds_more first now new made event payloads payload adds allowed spelled makes = record {
  allowed =
      allowed-append first made event adds.allowed
      (subst (λ (s : Standing). IsAllowedAt s event) adds.gives allowed);
  spelled =
      ap₂ (λ ps p. ps ++ p ∷ []) adds.spelled spelled
      ∙ sym (map-append event_spelling made (event ∷ []));
  gives =
      makes ∙ (ap (λ s. standing_after s event) adds.gives ∙ sym (fold_more first made event));
}

all_stand : PayloadGoesOn → (pair : ℕ) (image : Bytes) (payloads : List Bytes) (history : History)
    (events : List Event) → StandsFor pair image payloads history → AllAllowed history events →
    StandsFor pair image (payloads ++ map event_spelling events) (history ++ events)
all_stand goes_on pair image payloads history [] stands allowed =
    subst (λ (h : History). StandsFor pair image (payloads ++ []) h) (sym (append-nil history))
    (subst (λ (ps : List Bytes). StandsFor pair image ps history) (sym (append-nil payloads))
    stands)
all_stand goes_on pair image payloads history (event ∷ events) stands allowed =
    let spelled = event_spelling event in
    let rest = all_stand goes_on pair image (payloads ++ spelled ∷ []) (history ++ event ∷ [])
    events (goes_on pair image payloads history event stands allowed.0) allowed.1 in
    subst (λ (ps : List Bytes). StandsFor pair image ps (history ++ event ∷ events))
    (append_assoc payloads (spelled ∷ []) (map event_spelling events))
    (subst (λ (h : History). StandsFor pair image
    ((payloads ++ spelled ∷ []) ++ map event_spelling events) h)
    (append_assoc history (event ∷ []) events) rest)

module _ (goes_on : PayloadGoesOn) (allows : StandingAllows) {D : Type 0} {disk : Ghosts D}
    (old : Replica D disk) (events : List Event) (payloads : List Bytes) (after : Standing)
    (adds : AddsAll (standing_shown old) events payloads after) where
  pub size_is : records_size payloads ≡ events_size events
  size_is = ap records_size adds.spelled ∙ sized events

  module _ (history : History) (stands : Stands old history) where
    pub stands_after : StandsFor (pair_of old) stands.value.image
        (stands.value.payloads ++ payloads) (history ++ events)
    stands_after =
        let allowed : AllAllowed history events = (allows history events).0
        (subst (λ (s : Standing). AllAllowedAt s events) stands.remembers.standing adds.allowed) in
        subst (λ (ps : List Bytes). StandsFor (pair_of old) stands.value.image
        (stands.value.payloads ++ ps) (history ++ events)) (sym adds.spelled)
        (all_stand goes_on (pair_of old) stands.value.image stands.value.payloads history events
        stands.means allowed)

    -- what a stop leaves
    pub none_or_all : LeftBehindPayloads → (bytes : List ℕ) →
        IsBeforeOrAfter stands.value (generation_shown old) (with_payloads stands.value payloads)
        (generation_shown old) bytes → KeepsNoneOrAll old history events bytes
    none_or_all less bytes (inl has) =
        inl (record {
          value = stands.value;
          journal = has;
          stands = stands.means;
          left_is = left_behind old stands.value stands.runs;
        })
    none_or_all less bytes (inr has) =
        inr (record {
          value = with_payloads stands.value payloads;
          journal = has;
          stands = stands_after;
          left_is =
              less stands.value payloads
              ∙ ap₂ (λ n m. n - m) (left_behind old stands.value stands.runs) size_is;
        })

    -- where all were appended
    pub stands_with_all : (new : Replica D disk) → pair_of new ≡ pair_of old →
        standing_shown new ≡ after → HasAll (journal_of old) (journal_of new) payloads →
        Stands new (history ++ events)
    stands_with_all new pair standing has = record {
      remembers = record {
        lawful = stands_after.lawful;
        standing =
            standing ∙ (adds.gives
            ∙ (ap (λ s. fold standing_after s events) stands.remembers.standing
            ∙ sym (standing_goes_on history events)));
      };
      value = with_payloads stands.value payloads;
      runs = has.acknowledged stands.value stands.runs;
      means =
          subst (λ (n : ℕ). StandsFor n stands.value.image (stands.value.payloads ++ payloads)
          (history ++ events)) (sym pair) stands_after;
    }

  pub has_records : (new : Replica D disk) → pair_of new ≡ pair_of old →
      HasAll (journal_of old) (journal_of new) payloads → HasRecords old new events
  has_records new pair has = record {
    pair = pair;
    left_is = has.left_is ∙ ap (λ n. left_shown old - n) size_is;
    generation = has.generation;
  }

-- where no device call failed, none was made
pub spends_nothing : {D : Type 0} {disk : Ghosts D} (calls : ℕ) (refusal : Refusal) (d : D) →
    refusal ≢ why.Device → Spends disk calls (Some refusal) d d
spends_nothing {disk = disk} calls refusal d other = record {
  failures = subst (λ b. Grows b (disk.failures d) (disk.failures d))
      (sym (not_device refusal other)) refl;
  arms = subst (λ b. BreaksIf b calls (disk.arms d) (disk.arms d))
      (sym (not_device refusal other)) refl;
}

-- what is told by what is kept is told by the history
pub told_by_history : StandingSteps → {D : Type 0} {disk : Ghosts D} (old : Replica D disk)
    (history : History) → Stands old history → (room : ℕ) (s : Standing) (events : List Event)
    (r : Option Refusal) → room ≡ room_shown old → s ≡ standing_shown old →
    add_all_refusal_at room s events ≡ r → add_all_refusal (room_shown old) history events ≡ r
told_by_history steps old history stands room s events r same_room same is =
    same_causes steps (room_shown old) history events
    ∙ (ap₂ (λ n t. add_all_refusal_at n t events) (sym same_room)
    (sym stands.remembers.standing ∙ sym same) ∙ is)

-- what a stop leaves where the payloads were written, or not
pub moments_of : PayloadGoesOn → StandingAllows → {D : Type 0} {disk : Ghosts D}
    (old : Replica D disk) (events : List Event) (payloads : List Bytes) (after : Standing) →
    AddsAll (standing_shown old) events payloads after → LeftBehindPayloads → (new : D)
    (ended : Option Refusal) → AppendsAll (journal_of old) new payloads ended →
    (history : History) → Stands old history →
    LeavesOnly disk.moment disk.left_since (disk_of old) new (KeepsNoneOrAll old history events)
moments_of goes_on allows {disk = disk} old events payloads after adds less new ended told history
    stands =
    leaves_weaker disk.moment disk.left_since (disk_of old) new
    (IsBeforeOrAfter stands.value (generation_shown old) (with_payloads stands.value payloads)
    (generation_shown old)) (KeepsNoneOrAll old history events)
    (none_or_all goes_on allows old events payloads after adds history stands less)
    (told.any_moment stands.value stands.runs)

-- of a write that was neither halted nor too long
pub outside_of : (w : Refusal) → IsOfWrite (Some w) → (w ≡ why.Halted → ⊥) →
    (w ≡ why.JournalFull → ⊥) → is_among outside_refusals w ≡ true
outside_of why.Halted h halted full = absurd (halted refl)
outside_of why.JournalFull h halted full = absurd (full refl)
outside_of why.Memory h halted full = refl
outside_of why.Device h halted full = refl
outside_of _ h halted full = absurd h
