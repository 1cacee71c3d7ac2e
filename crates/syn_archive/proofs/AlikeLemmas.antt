-- Records that are spelled alike are one, and an image with payloads stands for one archive.
use Rattle.std.proofs.Common.{◌≡◌, ◌<◌, ◌+◌, ◌^◌, ◌==◌, ℕ, Bool, true, false, not, nat_le}
use Rattle.std.proofs.Common.{if◌then◌else◌}
use Rattle.std.proofs.Common.{List, [], ◌∷◌, ◌++◌, map, refl, sym, ap, ap₂, ◌∙◌, subst, Option}
use Rattle.std.proofs.Common.{Some, None, true≢false, arith}
use Rattle.std.proofs.lemmas.Bool.{eqb-true, leb-false}
use Rattle.std.proofs.lemmas.List.{map-append}
use Rattle.std.proofs.lemmas.List.Sums.{fold-append}
use Rattle.std.proofs.lemmas.Option.{none-some}
use Rattle.syn_model.specs.Path.{Bytes}
use Rattle.syn_model.specs.Version.{Version}
use Rattle.syn_model.specs.Archive.{Archive, Kept, Session, Recorded, RecordedDir, CanKeepIn}
use Rattle.syn_model.specs.Archive.{after_kept, archive_of}
use Rattle.syn_model.specs.ArchiveImage.{ArchiveStandsForIn, IsArchive, AllKeptIn}
use Rattle.syn_model.specs.ArchiveImage.{KeepingStaysSound}
use Rattle.syn_model.proofs.VersionLemmas.{archive_now, can_now}
use Rattle.syn_model.specs.Limits.{greatest}
use Rattle.syn_model.specs.Refusal.{Refusal, Full, BadMessage}
use Rattle.syn_model.specs.MarkSpelling.{kept_spelling_in}
use Rattle.syn_mark.specs.Changes.{PutPartFits}
use Rattle.syn_mark.proofs.ChangeLemmas.{allowed_parts}
use Rattle.syn_image.specs.Archives.{NoKeptBeginsAnother, NoArchiveBeginsAnother}
use Rattle.syn_archive.specs.inner.Openings.{AddsKept, Replays, OneStands, KeptIsSpelled}
use Rattle.syn_archive.specs.inner.Openings.{KeptIsTold}

first_payload : List Bytes → Bytes
first_payload [] = []
first_payload (x ∷ xs) = x

other_payloads : List Bytes → List Bytes
other_payloads [] = []
other_payloads (x ∷ xs) = xs

is_row : List Bytes → Bool
is_row [] = true
is_row (x ∷ xs) = false

pub kept_told : NoKeptBeginsAnother → KeptIsTold
kept_told tell version kept other h g e =
    (tell version kept other [] [] h g (ap (λ xs. xs ++ []) e)).0

-- ---- what can be kept

-- a session that can begin is one above a last that is below the greatest
pub can_session : {version : Version} (archive : Archive) (session : ℕ) →
    CanKeepIn version archive (Session session) →
    (archive.last_session < greatest) × (session ≡ archive.last_session + 1)
can_session archive session can =
    by (nat_le greatest archive.last_session)
    (session == archive.last_session + 1) refl refl can.not_refused
  where
    asked : Bool → Bool → Option Refusal
    asked a b = if a then Some Full else (if not b then Some BadMessage else None)

    by : (a b : Bool) → nat_le greatest archive.last_session ≡ a →
        (session == archive.last_session + 1) ≡ b →
        asked (nat_le greatest archive.last_session) (session == archive.last_session + 1) ≡ None →
        (archive.last_session < greatest) × (session ≡ archive.last_session + 1)
    by true b e f k =
        absurd (none-some _ (sym k ∙ ap (λ x. asked x (session == archive.last_session + 1)) e))
    by false false e f k = absurd (none-some _ (sym k ∙ ap₂ asked e f))
    by false true e f k =
        (leb-false greatest archive.last_session e, eqb-true session (archive.last_session + 1) f)

pub kept_spelled : PutPartFits → KeptIsSpelled
kept_spelled put version archive (Session session) sound can =
    let next = can_session archive session can in
    omega (arith, next.0, next.1)
kept_spelled put version archive (Recorded path marks) sound can = (
  can.lawful.0,
  record {
    marks = can.lawful.1;
    fits =
        put archive.marks path marks (allowed_parts archive.marks path marks can.not_refused).1.1;
  },
)
kept_spelled put version archive (RecordedDir path) sound can = can.lawful

module _ (told : KeptIsTold) (spelled : KeptIsSpelled) (keeping : KeepingStaysSound)
    (version : Version) where
  same_kept : (archive : Archive) (kept other : Kept) → IsArchive archive → CanKeepIn version
      archive kept →
      CanKeepIn version archive other →
      kept_spelling_in version kept ≡ kept_spelling_in version other → kept ≡ other
  same_kept archive kept other sound h g e =
      told version kept other (spelled version archive kept sound h)
      (spelled version archive other sound g) e

  -- rows of what can be kept in turn, and is spelled alike, are one
  all_alike : (archive : Archive) (kept others : List Kept) → IsArchive archive →
      AllKeptIn version archive kept → AllKeptIn version archive others →
      map (kept_spelling_in version) kept ≡ map (kept_spelling_in version) others →
      kept ≡ others
  unfolding is_row first_payload other_payloads
  all_alike archive [] [] sound h g e = refl
  all_alike archive [] (other ∷ others) sound h g e = absurd (true≢false (ap is_row e))
  all_alike archive (one ∷ kept) [] sound h g e = absurd (true≢false (sym (ap is_row e)))
  all_alike archive (one ∷ kept) (other ∷ others) sound h g e =
      let same = same_kept archive one other sound h.0 g.0 (ap first_payload e) in
      ap₂ (λ x xs. x ∷ xs) same
      (all_alike (after_kept archive one) kept others
      (keeping archive one sound (can_now version archive one h.0)) h.1
      (subst (λ x. AllKeptIn version (after_kept archive x) others) (sym same) g.1)
      (ap other_payloads e))

  -- what comes next of what can be kept in turn, after what some payloads are
  pub next_kept : (archive : Archive) (kept read : List Kept) (payload : Bytes)
      (rest : List Bytes) → IsArchive archive → AllKeptIn version archive kept → AllKeptIn version
      archive read →
      map (kept_spelling_in version) kept
      ≡ map (kept_spelling_in version) read ++ payload ∷ rest → (next : Kept)
      × (payload ≡ kept_spelling_in version next) × CanKeepIn version (archive_of archive read) next
      × IsArchive (archive_of archive read)
  unfolding is_row first_payload other_payloads
  next_kept archive [] [] payload rest sound all done e = absurd (true≢false (ap is_row e))
  next_kept archive [] (r ∷ read) payload rest sound all done e = absurd (true≢false (ap is_row e))
  next_kept archive (one ∷ kept) [] payload rest sound all done e =
      (one, sym (ap first_payload e), all.0, sound)
  next_kept archive (one ∷ kept) (r ∷ read) payload rest sound all done e =
      let same = same_kept archive one r sound all.0 done.0 (ap first_payload e) in
      next_kept (after_kept archive r) kept read payload rest
      (keeping archive r sound (can_now version archive r done.0))
      (subst (λ x. AllKeptIn version (after_kept archive x) kept) same all.1) done.1
      (ap other_payloads e)

  stands_alike : NoArchiveBeginsAnother → (image : Bytes) (payloads : List Bytes) (p q : ℕ)
      (a b : Archive) → p < 2 ^ 64 → q < 2 ^ 64 → ArchiveStandsForIn version p image payloads a →
      ArchiveStandsForIn version q image payloads b → (p ≡ q) × (a ≡ b)
  stands_alike images image payloads p q a b hp hq s t =
      let first = (images version (p, s.first) (q, t.first) []
      [] (hp, s.sound) (hq, t.sound) (ap (λ xs. xs ++ []) (sym s.image_is ∙ t.image_is))).0 in
      let start : s.first ≡ t.first = ap (λ x. x.1) first in
      let kept = all_alike t.first s.kept t.kept (archive_now version t.first t.sound)
      (subst (λ x. AllKeptIn version x s.kept) start s.allowed) t.allowed
      (sym s.payloads_are ∙ t.payloads_are) in
      (ap (λ x. x.0) first, s.last ∙ (ap₂ (λ x ks. archive_of x ks) start kept ∙ sym t.last))

pub one_stands : KeptIsTold → KeptIsSpelled → KeepingStaysSound → NoArchiveBeginsAnother →
    OneStands
one_stands told spelled keeping images version image payloads p q a b hp hq s t =
    stands_alike told spelled keeping version images image payloads p q a b hp hq s t

-- ---- one more record

more_kept : {version : Version} (archive : Archive) (kept : List Kept) (one : Kept) → AllKeptIn
    version archive kept →
    CanKeepIn version (archive_of archive kept) one → AllKeptIn version archive (kept ++ one ∷ [])
more_kept archive [] one all can = (can, tt)
more_kept archive (first ∷ kept) one all can =
    (all.0, more_kept (after_kept archive first) kept one all.1 can)

pub replays_nothing : (version : Version) (archive : Archive) → Replays version archive [] archive
replays_nothing version archive = record { kept = []; spelled = refl; allowed = tt; gives = refl }

pub replays_more : (version : Version) (first mid last : Archive) (payloads : List Bytes)
    (payload : Bytes) → Replays version first payloads mid → AddsKept version mid payload last →
    Replays version first (payloads ++ payload ∷ []) last
replays_more version first mid last payloads payload r adds = record {
  kept = r.kept ++ adds.kept ∷ [];
  spelled =
      ap₂ (λ xs x. xs ++ x ∷ []) r.spelled adds.spelled
      ∙ sym (map-append (kept_spelling_in version) r.kept (adds.kept ∷ []));
  allowed =
      more_kept first r.kept adds.kept r.allowed
      (subst (λ s. CanKeepIn version s adds.kept) r.gives adds.can);
  gives =
      adds.gives ∙ (ap (λ s. after_kept s adds.kept) r.gives
      ∙ sym (fold-append after_kept first r.kept (adds.kept ∷ [])));
}
