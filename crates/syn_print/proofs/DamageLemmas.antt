-- Why no events are told of a disk: then no replica is opened of it either.
use Rattle.std.proofs.Common.{◌≡◌, ◌≤◌, ◌<◌, ◌+◌, ◌++◌, ◌∷◌, [], ℕ, zero, suc, List, length, map}
use Rattle.std.proofs.Common.{arith, ap, get_or, refl, subst, sym, take, ◌∙◌}
use Rattle.std.proofs.lemmas.List.{length-map, length-take-le}
use Rattle.std.proofs.lemmas.List.Elements.{All-contains, Contains-append_left}
use Rattle.std.proofs.lemmas.List.Elements.{Contains-append_right}
use Rattle.std.specs.Global.{Vec}
use Rattle.std.specs.List.{AllByRecursion}
use Rattle.std.specs.Prelude.{Contains, None, Ok}
use Rattle.syn_journal.specs.Layout.{meaning}
use Rattle.syn_journal.specs.Refusals as journal
use Rattle.syn_journal.specs.declared.error.JournalError.{JournalError}
use Rattle.syn_journal.specs.declared.error.JournalError.TheVariants as refused_by
use Rattle.syn_model.specs.Event.{Event}
use Rattle.syn_model.specs.Image.{IsOldImage, IsStanding}
use Rattle.syn_model.specs.Limits.{greatest}
use Rattle.syn_model.specs.Path.{Bytes, IsPath}
use Rattle.syn_model.specs.Spelling.{event_spelling}
use Rattle.syn_model.specs.Standing.{AllAllowedIn, Standing, Touch, standing_after}
use Rattle.syn_model.specs.Version.{current_version}
use Rattle.syn_print.proofs.KnownLemmas.{AddsUpTo}
use Rattle.syn_print.specs.declared.log.Logged.{Logged}
use Rattle.syn_print.specs.inner.Damages.{AreNoEvents, HasGreatest, IsReadRefusal}
use Rattle.syn_replica.specs.Disks.{IsOpenRefusal, IsUnlawful}
use Rattle.syn_replica.specs.Readings.{AllowedIsSpelled, GivesNothing, IsImageOf, OneIsGiven}
use Rattle.syn_replica.specs.Readings.{IsEventOf, IsOfPayload, bytes_of_each}
use Rattle.syn_replica.specs.declared.error.ReplicaError.{ReplicaError}
use Rattle.syn_replica.specs.declared.error.ReplicaError.TheVariants.{Damaged, Journal, Memory}
use Rattle.syn_replica.proofs.ReadingLemmas.{same_image}
use Rattle.syn_model.proofs.SoundStandings.{before_greatest}
use Rattle.syn_wire.specs.Events.{IsSpelledEvent}

-- what the journal refuses, as an opening refuses it
pub by_journal : (by : JournalError) (bytes : List ℕ) → journal.IsOpenRefusal by (meaning bytes)
    → IsOpenRefusal (Journal by) None bytes
by_journal refused_by.Full bytes h = absurd h
by_journal refused_by.JournalFull bytes h = absurd h
by_journal refused_by.Device bytes h = tt
by_journal refused_by.Halted bytes h = absurd h
by_journal refused_by.Memory bytes h = tt
by_journal refused_by.NoImage bytes h = h
by_journal refused_by.Damaged bytes h = h

-- and what is read of the image and its payloads
pub by_reading : (e : ReplicaError) (P : Type 0) (bytes : List ℕ) → (P → IsUnlawful bytes)
    → IsReadRefusal e P → IsOpenRefusal e None bytes
by_reading Memory P bytes to h = tt
by_reading Damaged P bytes to h = to h
by_reading _ P bytes to h = absurd h

-- and what is read of the image alone
pub by_image : (e : ReplicaError) (bytes : List ℕ) → IsOfPayload e
    → (e ≡ Damaged → IsUnlawful bytes) → IsOpenRefusal e None bytes
by_image Memory bytes h to = tt
by_image Damaged bytes h to = to refl
by_image _ bytes h to = absurd h

pub reading_weaker : (e : ReplicaError) (P Q : Type 0) → (P → Q) → IsReadRefusal e P
    → IsReadRefusal e Q
reading_weaker Memory P Q to h = tt
reading_weaker Damaged P Q to h = to h
reading_weaker _ P Q to h = absurd h

-- the disk has an image that is not old, and payloads, which give nothing
pub unlawful : (bytes image : Bytes) (payloads : List Bytes)
    → meaning bytes ≡ Ok (record { image = image; payloads = payloads }) → ¬ IsOldImage image
    → GivesNothing image payloads → IsUnlawful bytes
unlawful bytes image payloads means young nothing = record {
  value = record { image = image; payloads = payloads };
  means = means;
  nothing = nothing;
  not_old = young;
}

-- ---- the payloads

-- what a row of events has at a place
event_at : (payloads : List (Vec ℕ)) (events : List Event) (i : ℕ) (d : Vec ℕ)
    → i < length payloads → bytes_of_each payloads ≡ map event_spelling events
    → AllByRecursion IsSpelledEvent events → (event : Event) × IsSpelledEvent event
    × ((get_or payloads i d).items ≡ event_spelling event)
event_at [] events i d within are all = absurd (omega arith)
event_at (payload ∷ payloads) [] i d within are all = absurd cc
event_at (payload ∷ payloads) (event ∷ events) zero d within are all = (event, all.0, cc)
event_at (payload ∷ payloads) (event ∷ events) (suc i) d within are all =
    event_at payloads events i d (omega arith) (cc) all.1

-- a payload is no event
pub no_event : (first i : ℕ) (payloads : List (Vec ℕ)) (payload : Vec ℕ)
    → i < length payloads → payload ≡ get_or payloads i payload
    → IsEventOf current_version payload.items None → AreNoEvents first (bytes_of_each payloads)
no_event first i payloads payload within is none events all fits are =
    let at = event_at payloads events i payload within are all in
    none at.0 at.1 (ap (λ (p : Vec ℕ). p.items) is ∙ at.2)

-- no position is left for a payload
pub no_position : (first last i : ℕ) (payloads : List (Vec ℕ)) (old new : List Logged)
    → AddsUpTo first last (bytes_of_each (take i payloads)) old new → i < length payloads
    → greatest ≤ last → AreNoEvents first (bytes_of_each payloads)
no_position first last i payloads old new so_far within most events all fits are =
    let f : Vec ℕ → Bytes = λ payload. payload.items in
    let whole : length payloads ≡ length events =
    sym (length-map payloads f) ∙ (ap length are ∙ length-map events event_spelling) in
    let front : length (take i payloads) ≡ length so_far.adds.events =
    sym (length-map (take i payloads) f)
    ∙ (ap length so_far.adds.spelled ∙ length-map so_far.adds.events event_spelling) in
    let reached = length-take-le i payloads (omega (arith, within)) in
    let at = so_far.at in
    absurd (omega (arith, whole, front, reached, at))

-- ---- what a replica would be of

-- events that are allowed in turn are spelled, and have positions
all_spelled : AllowedIsSpelled → (standing : Standing) (events : List Event)
    → AllAllowedIn current_version standing events → AllByRecursion IsSpelledEvent events
all_spelled spelled standing [] all = tt
all_spelled spelled standing (event ∷ events) all = (
  spelled current_version standing event all.0,
  all_spelled spelled (standing_after standing event) events all.1,
)

all_numbered : (standing : Standing) (events : List Event) → standing.position ≤ greatest
    → AllAllowedIn current_version standing events
    → standing.position + length events ≤ greatest
all_numbered standing [] fits all = omega arith
all_numbered standing (event ∷ events) fits all =
    let before = before_greatest standing event all.0.not_refused in
    let rest = all_numbered (standing_after standing event) events (omega (arith, before)) all.1 in
    omega (arith, rest)

module _ (image : Bytes) (payloads : List Bytes) where
  -- no image
  pub nothing_of_image : ((pair : ℕ) (standing : Standing)
      → ¬ IsImageOf current_version image pair standing) → GivesNothing image payloads
  nothing_of_image none pair standing fits gives =
      none pair gives.first
      (record { fits = fits; sound = gives.sound; spelled = gives.image_is })

  -- an image, and no events
  pub nothing_of_events : OneIsGiven → AllowedIsSpelled → (pair : ℕ) (standing : Standing)
      → IsImageOf current_version image pair standing → AreNoEvents standing.position payloads
      → GivesNothing image payloads
  nothing_of_events one spelled pair standing is none other last fits gives =
      let of_first : IsImageOf current_version image other gives.first =
      record { fits = fits; sound = gives.sound; spelled = gives.image_is } in
      let same = same_image one current_version image other pair gives.first standing of_first is in
      let at : gives.first.position ≡ standing.position = ap (λ (s : Standing). s.position) same in
      let numbered = all_numbered gives.first gives.events gives.sound.position gives.allowed in
      none gives.events (all_spelled spelled gives.first gives.events gives.allowed)
      (omega (arith, at, numbered)) gives.payloads_are

-- what stands has no touch at the greatest position
none_greatest : (standing : Standing) → IsStanding standing → HasGreatest standing.touches → ⊥
none_greatest standing sound (touch, there, most) =
    let P : Touch → Type 0 = λ other. (standing.floor ≤ other.position)
    × (other.position < standing.position) × IsPath other.path in
    let below : P touch = All-contains P standing.touches touch sound.touches there in
    let position = sound.position in
    let before = below.1 in
    omega (arith, before, position, most)

module _ (standing : Standing) (sound : IsStanding standing) (older newer : List Touch)
    (are : older ++ newer ≡ standing.touches) where
  pub none_in_older : HasGreatest older → ⊥
  none_in_older (touch, there, most) =
      none_greatest standing sound (
        touch,
        subst (λ ts. Contains ts touch) are
            (Contains-append_left older newer touch there),
        most,
      )

  pub none_in_newer : HasGreatest newer → ⊥
  none_in_newer (touch, there, most) =
      none_greatest standing sound (
        touch,
        subst (λ ts. Contains ts touch) are
            (Contains-append_right older newer touch there),
        most,
      )
