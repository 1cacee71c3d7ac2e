-- What is read of an image and of its payloads.
use Rattle.std.proofs.Common.{◌≡◌, ◌<◌, ◌+◌, ℕ, List, [], ◌∷◌, ◌++◌, length, map, take, drop, sym}
use Rattle.std.proofs.Common.{ap, ap₂, ◌∙◌, None, append-nil, append_assoc, slice_index_or, arith}
use Rattle.std.specs.Global.{Vec}
use Rattle.std.proofs.lemmas.List.{map-append, map_more, take-append-drop}
use Rattle.syn_model.specs.Path.{Bytes}
use Rattle.syn_model.specs.Archive.{Archive, Kept}
use Rattle.syn_model.specs.ArchiveImage.{ArchiveStandsFor, ArchiveStandsForIn}
use Rattle.syn_model.specs.MarkSpelling.{IsOldArchiveImage, kept_spelling_in}
use Rattle.syn_model.specs.Version.{Version}
use Rattle.syn_wire.specs.Reads.{BeginsWith, IsReading}
use Rattle.syn_image.specs.Archives.{IsSpelledArchive, IsSpelledKept, spelled_archive}
use Rattle.syn_image.specs.Archives.{NoArchiveBeginsAnother, NoKeptBeginsAnother}
use Rattle.syn_archive.specs.inner.Openings.{Replays, IsImageOf, OneStands, bytes_of_each}
use Rattle.syn_archive.proofs.AlikeLemmas.{replays_nothing}

-- ---- the whole of what is read, and nothing after it

module _ (version : Version) (payload : Bytes) (kept : Kept) (spelled : IsSpelledKept version kept)
    (e : payload ≡ kept_spelling_in version kept) where
  alone : payload ≡ kept_spelling_in version kept ++ []
  alone = e ∙ sym (append-nil (kept_spelling_in version kept))

  pub kept_there : ¬ IsReading (IsSpelledKept version) (kept_spelling_in version) payload None
  kept_there none = none kept [] (record { lawful = spelled; spelled = alone })

  pub kept_ends : NoKeptBeginsAnother → (other : Kept) (rest : Bytes) →
      BeginsWith (IsSpelledKept version) (kept_spelling_in version) payload other rest → rest ≡ []
  kept_ends tell other rest read =
      (tell version other kept rest [] read.lawful spelled (sym read.spelled ∙ alone)).1

module _ (version : Version) (image : Bytes) (pair : ℕ) (archive : Archive)
    (is : IsImageOf version image pair archive) where
  image_alone : image ≡ spelled_archive version (pair, archive) ++ []
  image_alone = is.spelled ∙ sym (append-nil (spelled_archive version (pair, archive)))

  pub image_there : ¬ IsReading (IsSpelledArchive version) (spelled_archive version) image None
  image_there none =
      none (pair, archive) [] (record { lawful = (is.fits, is.sound); spelled = image_alone })

  pub image_ends : NoArchiveBeginsAnother → (other : ℕ × Archive) (rest : Bytes) →
      BeginsWith (IsSpelledArchive version) (spelled_archive version) image other rest → rest ≡ []
  image_ends tell other rest read =
      (tell version other (pair, archive) rest
      [] read.lawful (is.fits, is.sound) (sym read.spelled ∙ image_alone)).1

-- ---- an image with its payloads

pub stands_of : (version : Version) (image : Bytes) (payloads : List Bytes) (pair : ℕ)
    (first last : Archive) → IsImageOf version image pair first →
    Replays version first payloads last → ArchiveStandsForIn version pair image payloads last
stands_of version image payloads pair first last is replays = record {
  first = first;
  kept = replays.kept;
  sound = is.sound;
  image_is = is.spelled;
  payloads_are = replays.spelled;
  allowed = replays.allowed;
  last = replays.gives;
}

fifth : Bytes → ℕ
fifth (a ∷ b ∷ c ∷ d ∷ e ∷ bytes) = e
fifth _ = 0

-- an archive's image of the second version is none of the first
pub not_old : (pair : ℕ) (image : Bytes) (payloads : List Bytes) (archive : Archive) →
    ArchiveStandsFor pair image payloads archive → ¬ IsOldArchiveImage image
unfolding fifth
not_old pair image payloads archive stands old =
    let versions : 2 ≡ 1 = ap fifth (sym stands.image_is ∙ old.1) in omega (arith, versions)

-- what an image has is read of it
pub same_image : OneStands → (version : Version) (image : Bytes) (p q : ℕ) (a b : Archive) →
    IsImageOf version image p a → IsImageOf version image q b → a ≡ b
same_image one version image p q a b h k =
    (one version image [] p q a b h.fits k.fits
    (stands_of version image [] p a a h (replays_nothing version a))
    (stands_of version image [] q b b k (replays_nothing version b))).1

-- the payloads in three parts: those that were read, the next one, and the others
pub row_parts : (version : Version) (payloads : List (Vec ℕ)) (i : ℕ) (payload : Vec ℕ)
    (kept : List Kept) → i < length payloads → payload ≡ slice_index_or payloads i payload →
    bytes_of_each (take i payloads) ≡ map (kept_spelling_in version) kept → bytes_of_each payloads
    ≡ map (kept_spelling_in version) kept ++ payload.items ∷ bytes_of_each (drop (i + 1) payloads)
row_parts version payloads i payload kept inside is read =
    let f : Vec ℕ → Bytes = λ p. p.items in
    let rest = bytes_of_each (drop (i + 1) payloads) in
    ap bytes_of_each (sym (take-append-drop (i + 1) payloads))
    ∙ (map-append f (take (i + 1) payloads) (drop (i + 1) payloads)
    ∙ (ap (λ xs. xs ++ rest)
    (map_more f payloads i payload inside ∙ ap₂ (λ xs p. xs ++ p.items ∷ []) read (sym is))
    ∙ append_assoc (map (kept_spelling_in version) kept) (payload.items ∷ []) rest))
