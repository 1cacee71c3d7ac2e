-- What an archive keeps in turn.
use Rattle.std.proofs.Common.{◌≡◌, ◌≤◌, ◌+◌, ℕ, true, false, not, ◌==◌, nat_le, if◌then◌else◌, List}
use Rattle.std.proofs.Common.{[], ◌∷◌, ◌++◌, fold, refl, sym, ap, ◌∙◌, subst, None, append_assoc}
use Rattle.std.proofs.Common.{append-nil, arith}
use Rattle.std.specs.Prelude.{All}
use Rattle.std.proofs.lemmas.Bool.Decides.{nat_tests}
use Rattle.std.proofs.lemmas.List.Elements.{All-head, All-tail}
use Rattle.std.proofs.lemmas.List.Sums.{fold-append}
use Rattle.std.proofs.lemmas.Bool.{and_parts, not-false}
use Rattle.syn_model.specs.Path.{Path, is_root}
use Rattle.syn_model.specs.Tree.{Tree, IsTree, empty_directory, is_directory, replace}
use Rattle.syn_model.specs.Limits.{greatest, fits_archive, fits_paths}
use Rattle.syn_model.specs.Refusal.{first_cause, Root, Full, BadMessage}
use Rattle.syn_model.specs.Standing.{place_causes}
use Rattle.syn_model.specs.Archive.{Archive, Kept, Session, Recorded, RecordedDir, CanKeep}
use Rattle.syn_model.specs.Archive.{record_causes, after_kept, archive_of}
use Rattle.syn_model.specs.Plan.{HasDepth, most_names}
use Rattle.syn_runs.specs.Acknowledged.{since_start}
use Rattle.syn_runs.specs.Picture.{AllCanKeep}
use Rattle.syn_model.proofs.HistoryLemmas.{first_cause-none, none-append}
use Rattle.syn_model.proofs.FitsLemmas.{paths_depth}
use Rattle.syn_runs.proofs.SoundLemmas.{kept_session, kept_is_tree}

-- all of a list can be kept where its parts can, one after the other
pub can-append : (a : Archive) (xs ys : List Kept) → AllCanKeep a xs →
    AllCanKeep (archive_of a xs) ys → AllCanKeep a (xs ++ ys)
can-append a [] ys h k = k
can-append a (x ∷ xs) ys h k = (h.0, can-append (after_kept a x) xs ys h.1 k)

pub can-parts : (a : Archive) (xs ys : List Kept) → AllCanKeep a (xs ++ ys) →
    AllCanKeep a xs × AllCanKeep (archive_of a xs) ys
can-parts a [] ys h = (tt, h)
can-parts a (x ∷ xs) ys h =
    let rest = can-parts (after_kept a x) xs ys h.1 in
    ((h.0, rest.0), rest.1)

pub all_kept_tree : (a : Archive) (kept : List Kept) → IsTree a.marks → AllCanKeep a kept →
    IsTree (archive_of a kept).marks
all_kept_tree a [] tree can = tree
all_kept_tree a (k ∷ kept) tree can =
    all_kept_tree (after_kept a k) kept (kept_is_tree a k tree can.0) can.1

-- an archive has no path that is longer than a path may be
recorded_depth : (marks : Tree) (path : Path) (new : Tree) →
    first_cause (record_causes marks path new) ≡ None → HasDepth most_names (replace marks path new)
recorded_depth marks path new e =
    let full = (none-append (place_causes marks path)
    ((not (fits_archive (replace marks path new)), Full) ∷ []) e).1 in
    let fits = not-false (fits_archive (replace marks path new))
    (first_cause-none (not (fits_archive (replace marks path new)), Full) [] full).0 in
    paths_depth (replace marks path new) (and_parts _ (fits_paths (replace marks path new)) fits).1

kept_depth : (a : Archive) (kept : Kept) → HasDepth most_names a.marks → CanKeep a kept →
    HasDepth most_names (after_kept a kept).marks
kept_depth a (Session session) depth can = depth
kept_depth a (Recorded path marks) depth can = recorded_depth a.marks path marks can.not_refused
kept_depth a (RecordedDir path) depth can =
    elim (is_directory a.marks path) as (λ b. first_cause ((is_root path, Root)
    ∷ (if b then [] else record_causes a.marks path empty_directory)) ≡ None → HasDepth most_names
    (if b then a else record a { marks = replace a.marks path empty_directory }).marks) [
      | true ↦ λ _. depth
      | false ↦ λ e. recorded_depth a.marks path empty_directory
          (first_cause-none (is_root path, Root) (record_causes a.marks path empty_directory) e).1
    ] can.not_refused

pub all_kept_depth : (a : Archive) (kept : List Kept) → HasDepth most_names a.marks →
    AllCanKeep a kept → HasDepth most_names (archive_of a kept).marks
all_kept_depth a [] depth can = depth
all_kept_depth a (k ∷ kept) depth can =
    all_kept_depth (after_kept a k) kept (kept_depth a k depth can.0) can.1

-- A session's number is kept once

pub sessions_grow : (a : Archive) (kept : List Kept) → AllCanKeep a kept →
    a.last_session ≤ (archive_of a kept).last_session
sessions_grow a [] can = omega arith
sessions_grow a (k ∷ kept) can =
    let one : a.last_session ≤ (after_kept a k).last_session = kept_session a k can.0 in
    let rest : (after_kept a k).last_session ≤ (archive_of (after_kept a k) kept).last_session =
    sessions_grow (after_kept a k) kept can.1 in
    omega (arith, one, rest)

next_number : (n last : ℕ) → not (n == last + 1) ≡ false → n ≡ last + 1
next_number n last h = grind (arith, nat_tests)

pub session_next : (a : Archive) (session : ℕ) → CanKeep a (Session session) →
    session ≡ a.last_session + 1
session_next a session can =
    next_number session a.last_session (first_cause-none (
      not (session == a.last_session + 1),
      BadMessage,
    ) [] (first_cause-none (nat_le greatest a.last_session, Full)
    ((not (session == a.last_session + 1), BadMessage) ∷ []) can.not_refused).1).0

pub not_again : (a : Archive) (session : ℕ) (kept more : List Kept) →
    AllCanKeep a (Session session ∷ (kept ++ Session session ∷ more)) → ⊥
not_again a session kept more can =
    let parts = can-parts (after_kept a (Session session)) kept (Session session ∷ more) can.1 in
    let grown : session ≤ (archive_of (after_kept a (Session session)) kept).last_session =
    sessions_grow (after_kept a (Session session)) kept parts.0 in
    let next : session ≡ (archive_of (after_kept a (Session session)) kept).last_session + 1 =
    session_next (archive_of (after_kept a (Session session)) kept) session parts.1.0 in
    omega (arith, grown, next)

pub one_start : (a : Archive) (session : ℕ) (kept : List Kept) →
    AllCanKeep a kept → (xs us ys vs : List Kept) → kept ≡ xs ++ Session session ∷ us →
    kept ≡ ys ++ Session session ∷ vs → xs ≡ ys
one_start a session kept can [] us [] vs e f = refl
one_start a session [] can (x ∷ xs) us ys vs e f = cc
one_start a session [] can [] us ys vs e f = cc
one_start a session (k ∷ kept) can [] us (y ∷ ys) vs e f =
    let same : k ≡ Session session = cc in
    let rest : kept ≡ ys ++ Session session ∷ vs = cc in
    absurd (not_again a session ys vs (subst (AllCanKeep a)
    (ap (λ w. k ∷ w) rest ∙ ap (λ w. w ∷ (ys ++ Session session ∷ vs)) same) can))
one_start a session (k ∷ kept) can (x ∷ xs) us [] vs e f =
    let same : k ≡ Session session = cc in
    let rest : kept ≡ xs ++ Session session ∷ us = cc in
    absurd (not_again a session xs us (subst (AllCanKeep a)
    (ap (λ w. k ∷ w) rest ∙ ap (λ w. w ∷ (xs ++ Session session ∷ us)) same) can))
one_start a session (k ∷ kept) can (x ∷ xs) us (y ∷ ys) vs e f =
    let first : x ≡ y = cc in
    let rest_e : kept ≡ xs ++ Session session ∷ us = cc in
    let rest_f : kept ≡ ys ++ Session session ∷ vs = cc in
    ap (λ w. x ∷ w) (one_start (after_kept a k) session kept can.1 xs us ys vs rest_e rest_f)
    ∙ ap (λ w. w ∷ ys) first

-- What was kept since a session started

abbrev pub IsNoSession : Kept → Type 0
IsNoSession (Session session) = ⊥
IsNoSession (Recorded path marks) = Unit {0}
IsNoSession (RecordedDir path) = Unit {0}

all_since : (xs ys : List Kept) → All IsNoSession ys → fold since_start xs ys ≡ xs ++ ys
all_since xs [] all = sym (append-nil xs)
all_since xs (Session session ∷ ys) all = absurd (All-head IsNoSession (Session session) ys all)
all_since xs (Recorded path marks ∷ ys) all =
    all_since (xs ++ Recorded path marks ∷ []) ys
    (All-tail IsNoSession (Recorded path marks) ys all)
    ∙ append_assoc xs (Recorded path marks ∷ []) ys
all_since xs (RecordedDir path ∷ ys) all =
    all_since (xs ++ RecordedDir path ∷ []) ys (All-tail IsNoSession (RecordedDir path) ys all)
    ∙ append_assoc xs (RecordedDir path ∷ []) ys

pub since_last : (earlier records : List Kept) (session : ℕ) → All IsNoSession records →
    fold since_start [] (earlier ++ Session session ∷ records) ≡ records
since_last earlier records session all =
    fold-append since_start [] earlier (Session session ∷ records) ∙ all_since [] records all
