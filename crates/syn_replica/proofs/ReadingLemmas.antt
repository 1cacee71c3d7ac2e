-- What is read of an image and of its payloads.
use Rattle.std.proofs.Common.{◌≡◌, ◌⊎◌, inl, inr, refl, ◌<◌, ◌+◌, ℕ, List, [], ◌∷◌, ◌++◌, length}
use Rattle.std.proofs.Common.{map, take, drop, sym, ap, ap₂, ◌∙◌, None, append-nil}
use Rattle.std.proofs.Common.{append_assoc, slice_index_or}
use Rattle.std.specs.Global.{Vec}
use Rattle.std.proofs.lemmas.List.{map-append, map_more, take-append-drop}
use Rattle.syn_model.specs.Path.{Bytes}
use Rattle.syn_model.specs.Event.{Event}
use Rattle.syn_model.specs.Standing.{Standing}
use Rattle.syn_model.specs.Version.{Version}
use Rattle.syn_model.specs.Spelling.{event_spelling_in}
use Rattle.syn_model.specs.Image.{GivesIn}
use Rattle.syn_wire.specs.Events.{IsSpelledEventIn}
use Rattle.syn_wire.specs.Laws.{NoEventBeginsAnother}
use Rattle.syn_wire.specs.Reads.{BeginsWith, IsReading}
use Rattle.syn_image.specs.Images.{IsImage, spelled_image, NoImageBeginsAnother}
use Rattle.syn_replica.specs.Readings.{Replays, IsImageOf, OneIsGiven, bytes_of_each, IsOfPayload}
use Rattle.syn_replica.specs.declared.error.ReplicaError.{ReplicaError}
use Rattle.syn_replica.specs.declared.error.ReplicaError.TheVariants.{Tree, History, Journal}
use Rattle.syn_replica.specs.declared.error.ReplicaError.TheVariants.{Memory, Touched, OldSession}
use Rattle.syn_replica.specs.declared.error.ReplicaError.TheVariants.{Damaged, WrongPair}
use Rattle.syn_replica.specs.declared.error.ReplicaError.TheVariants.{OldVersion}
use Rattle.syn_replica.proofs.AlikeLemmas.{replays_nothing}

-- ---- the whole of what is read, and nothing after it

module _ (version : Version) (payload : Bytes) (event : Event)
    (spelled : IsSpelledEventIn version event)
    (e : payload ≡ event_spelling_in version event) where
  alone : payload ≡ event_spelling_in version event ++ []
  alone = e ∙ sym (append-nil (event_spelling_in version event))

  pub event_there : ¬ IsReading (IsSpelledEventIn version) (event_spelling_in version) payload None
  event_there none = none event [] (record { lawful = spelled; spelled = alone })

  pub event_ends : NoEventBeginsAnother → (other : Event) (rest : Bytes) →
      BeginsWith (IsSpelledEventIn version) (event_spelling_in version) payload other rest →
      rest ≡ []
  event_ends tell other rest read =
      (tell version other event rest [] read.lawful spelled (sym read.spelled ∙ alone)).1

module _ (version : Version) (image : Bytes) (pair : ℕ) (standing : Standing)
    (is : IsImageOf version image pair standing) where
  image_alone : image ≡ spelled_image version (pair, standing) ++ []
  image_alone = is.spelled ∙ sym (append-nil (spelled_image version (pair, standing)))

  pub image_there : ¬ IsReading (IsImage version) (spelled_image version) image None
  image_there none =
      none (pair, standing) [] (record { lawful = (is.fits, is.sound); spelled = image_alone })

  pub image_ends : NoImageBeginsAnother → (other : ℕ × Standing) (rest : Bytes) →
      BeginsWith (IsImage version) (spelled_image version) image other rest → rest ≡ []
  image_ends tell other rest read =
      (tell version other (pair, standing) rest
      [] read.lawful (is.fits, is.sound) (sym read.spelled ∙ image_alone)).1

-- ---- an image with its payloads

pub gives_of : (version : Version) (image : Bytes) (payloads : List Bytes) (pair : ℕ)
    (first last : Standing) → IsImageOf version image pair first →
    Replays version first payloads last → GivesIn version pair image payloads last
gives_of version image payloads pair first last is replays = record {
  first = first;
  events = replays.events;
  sound = is.sound;
  image_is = is.spelled;
  payloads_are = replays.spelled;
  allowed = replays.allowed;
  last = replays.gives;
}

-- what an image gives is read of it
pub same_image : OneIsGiven → (version : Version) (image : Bytes) (p q : ℕ) (s t : Standing) →
    IsImageOf version image p s → IsImageOf version image q t → s ≡ t
same_image one version image p q s t a b =
    (one version image [] p q s t a.fits b.fits
    (gives_of version image [] p s s a (replays_nothing version s))
    (gives_of version image [] q t t b (replays_nothing version t))).1

-- the payloads in three parts: those that were read, the next one, and the others
pub row_parts : (version : Version) (payloads : List (Vec ℕ)) (i : ℕ) (payload : Vec ℕ)
    (events : List Event) →
    i < length payloads → payload ≡ slice_index_or payloads i payload →
    bytes_of_each (take i payloads) ≡ map (event_spelling_in version) events →
    bytes_of_each payloads ≡ map (event_spelling_in version) events
    ++ payload.items ∷ bytes_of_each (drop (i + 1) payloads)
row_parts version payloads i payload events inside is read =
    let f : Vec ℕ → Bytes = λ p. p.items in
    let rest = bytes_of_each (drop (i + 1) payloads) in
    ap bytes_of_each (sym (take-append-drop (i + 1) payloads))
    ∙ (map-append f (take (i + 1) payloads) (drop (i + 1) payloads)
    ∙ (ap (λ xs. xs ++ rest)
    (map_more f payloads i payload inside ∙ ap₂ (λ xs p. xs ++ p.items ∷ []) read (sym is))
    ∙ append_assoc (map (event_spelling_in version) events) (payload.items ∷ []) rest))

-- what is refused of payloads that are lawful is memory alone
pub memory_else : (e : ReplicaError) → IsOfPayload e → (e ≡ Damaged → ⊥) →
    (e ≡ Memory) ⊎ (e ≡ WrongPair)
memory_else (Tree e) of other = absurd of
memory_else (History e) of other = absurd of
memory_else (Journal e) of other = absurd of
memory_else Memory of other = inl refl
memory_else Touched of other = absurd of
memory_else OldSession of other = absurd of
memory_else Damaged of other = absurd (other refl)
memory_else WrongPair of other = inr refl
memory_else OldVersion of other = absurd of
