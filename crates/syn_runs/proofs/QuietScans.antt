-- What a session's scans show, where no user's event came since it began.
use Rattle.std.proofs.Common.{◌≡◌, ◌≤◌, ◌<◌, ◌+◌, ℕ, true, false, nat_le, List, [], ◌∷◌, ◌++◌}
use Rattle.std.proofs.Common.{length, take, drop, refl, sym, ap, ap₂, ◌∙◌, subst, Some, true≢false}
use Rattle.std.proofs.Common.{is_some, append_assoc, append-nil, arith, inr, slice_get, option_map}
use Rattle.std.specs.Prelude.{Contains, All}
use Rattle.std.specs.FinMap.{get}
use Rattle.std.proofs.lemmas.Bool.Decides.{nat_tests}
use Rattle.std.proofs.lemmas.List.{length-append, take-append-drop, take-append-le}
use Rattle.std.proofs.lemmas.List.Elements.{All-head}
use Rattle.std.proofs.Math.Seq.{take-length, drop-length}
use Rattle.std.proofs.lemmas.Option.{none-some}
use Rattle.std.proofs.lemmas.Bool.{leb-false}
use Rattle.syn_model.specs.Path.{Name, Path, child}
use Rattle.syn_model.specs.Tree.{Tree, HasParents, is_directory, is_directory_content}
use Rattle.syn_model.specs.Limits.{children}
use Rattle.syn_model.specs.Mark.{mark, mark_of}
use Rattle.syn_model.specs.Dirty.{Scan, is_unstable, IsListedInOrder}
use Rattle.syn_model.specs.Plan.{scan_of}
use Rattle.syn_model.specs.Event.{Event, Edited, Began, Replaced}
use Rattle.syn_model.specs.History.{History, IsHistory, AllAllowed, tree_of, tree_at, is_quiet}
use Rattle.syn_model.specs.History.{last_session}
use Rattle.syn_model.specs.Archive.{Archive}
use Rattle.syn_machine.specs.Side.{ListAt, Listed, NotDir}
use Rattle.syn_machine.specs.Network.{Which, other, Sent}
use Rattle.syn_machine.specs.Planning.{Planned, seen_on, IsScanOf, WritesTo}
use Rattle.syn_runs.specs.Headline.{IsNoEdit}
use Rattle.syn_runs.proofs.Invariant.{Plans, Histories, IsSound, IsTrueListing, IsTrueNotDir}
use Rattle.syn_runs.proofs.Invariant.{source_of}
use Rattle.syn_model.proofs.TreeLemmas.{same_tree, get-subtree}
use Rattle.syn_model.proofs.HistoryLemmas.{tree_of-append}
use Rattle.syn_model.proofs.MarkLemmas.{get-mark}
use Rattle.syn_model.proofs.SyncLemmas.{directory_is}
use Rattle.syn_model.proofs.QuietLemmas.{ScansHistory, scan_is, directory_of_mark, quiet_rest}
use Rattle.syn_model.proofs.QuietLemmas.{none_touches}
use Rattle.syn_runs.proofs.PlanLemmas.{scans, listing_reached, not_dir_reached}
use Rattle.syn_runs.proofs.GrownLemmas.{began_above, session_grows, fold_one}
use Rattle.syn_runs.proofs.StagedLemmas.{all_front, tree_at_is_tree}
use Rattle.syn_runs.proofs.TokenLemmas.{after_front}
use Rattle.syn_model.proofs.BaseLemmas.{nothing_in}

-- a replacement by an item of the plan, with what the item's source had
pub record IsPlannedReplacement (plan : List Planned) (histories : Histories) (side : Which)
    (item : ℕ) (path : Path) (new : Tree) : Type 0 where
  pub planned : Planned
  pub at : slice_get plan item ≡ Some planned
  pub writes : WritesTo planned.item side path
  pub reached : (seen_on planned (other side)).since ≤ length (histories (other side))
  pub whole : new ≡ source_of histories side planned

-- a side's event since the session began: a user's, or a replacement by its plan
abbrev pub IsPlannedEvent : List Planned → Histories → Which → Event → Type 0
IsPlannedEvent plan histories side (Edited user edit) = Unit {0}
IsPlannedEvent plan histories side (Began session) = ⊥
IsPlannedEvent plan histories side (Replaced token path since new) =
    IsPlannedReplacement plan histories side token.item path new

-- the scan shows the tree that was found, and each listing came right after the session's begin
abbrev pub ShowsTree : Scan → (Path → ℕ) → History → Type 0
ShowsTree scan since found =
    (scan ≡ scan_of (tree_of found))
    × ((path : Path) → is_directory scan.marks path ≡ true → since path ≡ length found + 1)

-- as it does where no user's event came since then
abbrev pub ShowsFound : History → ℕ → Scan → (Path → ℕ) → Type 0
ShowsFound history session scan since =
    (found later : History) → history ≡ found ++ Began session ∷ later → All IsNoEdit later →
    ShowsTree scan since found

-- Sessions only grow

pub sessions_grow : (start events : History) → AllAllowed start events →
    last_session start ≤ last_session (start ++ events)
sessions_grow start [] all =
    subst (λ h. last_session start ≤ last_session h) (sym (append-nil start)) (omega arith)
sessions_grow start (event ∷ events) all =
    let one : last_session start ≤ last_session (start ++ event ∷ []) =
    session_grows start (start ++ event ∷ []) (inr (event, all.0, refl)) in
    let rest : last_session (start ++ event ∷ []) ≤ last_session ((start ++ event ∷ []) ++ events) =
    sessions_grow (start ++ event ∷ []) events all.1 in
    subst (λ h. last_session start ≤ last_session h) (append_assoc start (event ∷ []) events)
    (omega (arith, one, rest))

-- a history in which a session began has that session or a later one
pub begun_within : (history before later : History) (session : ℕ) → IsHistory history →
    history ≡ before ++ Began session ∷ later →
    (session ≤ last_session history) × (last_session before < session)
begun_within history before later session h e =
    let rest = after_front [] before (Began session ∷ later) (subst IsHistory e h) in
    let grown : last_session (before ++ Began session ∷ [])
    ≤ last_session ((before ++ Began session ∷ []) ++ later) =
    sessions_grow (before ++ Began session ∷ []) later rest.1 in
    let now : last_session (before ++ Began session ∷ []) ≡ session =
    fold_one 0 before (Began session) in (
      subst (λ w. session ≤ last_session w) (append_assoc before (Began session ∷ []) later ∙ sym e)
          (omega (arith, grown, now)),
      began_above before session rest.0,
    )

pub earlier_session : (history : History) (k : ℕ) → IsHistory history →
    last_session (take k history) ≤ last_session history
earlier_session history k h =
    let rest = after_front
    [] (take k history) (drop k history) (subst IsHistory (sym (take-append-drop k history)) h) in
    subst (λ w. last_session (take k history) ≤ last_session w) (take-append-drop k history)
    (sessions_grow (take k history) (drop k history) rest)

-- no plan, no replacement
nothing_later : (histories : Histories) (side : Which) (later : History) →
    All (IsPlannedEvent [] histories side) later → All IsNoEdit later → later ≡ []
nothing_later histories side [] planned quiet = refl
nothing_later histories side (Edited user edit ∷ later) planned quiet =
    absurd (All-head IsNoEdit (Edited user edit) later quiet)
nothing_later histories side (Began session ∷ later) planned quiet =
    absurd (All-head (IsPlannedEvent [] histories side) (Began session) later planned)
nothing_later histories side (Replaced token path since new ∷ later) planned quiet =
    absurd (none-some _ (All-head (IsPlannedEvent [] histories side)
    (Replaced token path since new) later planned).at)

-- what stands below a path stands in directories
directory_above : (t : Tree) (p rest : Path) → HasParents t → is_directory t (p ++ rest) ≡ true →
    is_directory t p ≡ true
directory_above t p [] parents d = ap (is_directory t) (sym (append-nil p)) ∙ d
directory_above t p (n ∷ r) parents d =
    ap is_directory_content (parents p n r (ap is_some (directory_is (get t (p ++ n ∷ r)) d)))

module _ (plans : Plans) (histories : Histories) (archive : Archive) (sent : Sent)
    (sound : IsSound plans histories archive sent) (side : Which) (session : ℕ) (scan : Scan)
    (since : Path → ℕ) (is : IsScanOf sent side session scan since)
    (ordered : IsListedInOrder scan since)
    (before : History) (e : histories side ≡ before ++ Began session ∷ []) where
  long : length (histories side) ≡ length before + 1
  long = ap length e ∙ length-append before (Began session ∷ [])

  shows : ScansHistory scan since (histories side)
  shows = scans plans histories archive sent sound side session scan since is ordered

  root_there : is_directory scan.marks [] ≡ true
  root_there = ap is_directory_content is.tree.rooted

  root_steady : is_unstable scan [] ≡ false
  root_steady = elim (is_unstable scan []) as (λ b. is_unstable scan [] ≡ b → b ≡ false) [
    | false ↦ λ _. refl
    | true ↦ λ u. absurd (true≢false (sym (ap is_directory_content (tree_at_is_tree (histories side)
        (since []) (sound.lawful side)).rooted) ∙ shows.not_dir [] u))
  ] refl

  -- the root was listed right as the session began
  root_after : length before + 1 ≤ since []
  root_after =
      let w = is.listed [] root_there root_steady in
      let listing : IsTrueListing (histories side) session [] (since []) (children scan.marks []) =
      sound.answered side session w.number (Listed (since []) (children scan.marks []))
      (ListAt []) w.answered w.asked in
      let above : last_session before < session =
      (begun_within (histories side) before [] session (sound.lawful side) e).1 in
      elim (nat_le (since []) (length before))
      as (λ b. nat_le (since []) (length before) ≡ b → length before + 1 ≤ since []) [
        | false ↦ λ late. let above_it : length before < since [] =
            leb-false (since []) (length before) late in omega (arith, above_it)
        | true ↦ λ early.
            let early' : since [] ≤ length before = grind (arith, nat_tests) in
            let front : take (since []) (histories side) ≡ take (since []) before = ap
            (take (since [])) e ∙ take-append-le (since []) before (Began session ∷ []) early' in
            let begun : session ≤ last_session (take (since []) before) =
            subst (λ h. session ≤ last_session h) front listing.begun in
            let lower : last_session (take (since []) before) ≤ last_session before =
            earlier_session before (since [])
            (all_front [] before (Began session ∷ []) (subst IsHistory e (sound.lawful side))) in
            absurd (omega (arith, above, begun, lower))
      ] refl

  after_from : (p rest : Path) → length before + 1 ≤ since p →
      is_directory scan.marks (p ++ rest) ≡ true → length before + 1 ≤ since (p ++ rest)
  after_from p [] late d = subst (λ w. length before + 1 ≤ since w) (sym (append-nil p)) late
  after_from p (n ∷ r) late d =
      let at : child p n ++ r ≡ p ++ n ∷ r = append_assoc p (n ∷ []) r in
      let d' : is_directory scan.marks (child p n ++ r) ≡ true = ap (is_directory scan.marks) at
      ∙ d in
      let next : since p ≤ since (child p n) =
      ordered p n (directory_above scan.marks (child p n) r is.tree.part.parents d') in
      subst (λ w. length before + 1 ≤ since w) at
      (after_from (child p n) r (omega (arith, late, next)) d')

  reached : (p : Path) → is_directory scan.marks p ≡ true → since p ≤ length (histories side)
  reached p d =
      elim (is_unstable scan p)
      as (λ b. is_unstable scan p ≡ b → since p ≤ length (histories side)) [
        | false ↦ λ u. listing_reached plans histories archive sent sound side session scan since is
            p d
            u
        | true ↦ λ u. not_dir_reached plans histories archive sent sound side session scan since is
            p u
      ] refl

  listed_then : (p : Path) → is_directory scan.marks p ≡ true → since p ≡ length before + 1
  listed_then p d =
      let low : length before + 1 ≤ since p = after_from [] p root_after d in
      let high : since p ≤ length (histories side) = reached p d in
      omega (arith, low, high, long)

  found_tree : tree_of (histories side) ≡ tree_of before
  found_tree = ap tree_of e ∙ tree_of-append before (Began session ∷ [])

  quiet_now : (p q : Path) → is_directory scan.marks p ≡ true →
      is_quiet (histories side) (since p) (length (histories side)) q ≡ true
  quiet_now p q d =
      quiet_rest (histories side) (since p) q ∙ ap (λ w. none_touches w q) (ap
      (λ k. drop k (histories side)) (listed_then p d ∙ sym long) ∙ drop-length (histories side))

  part_is : (p : Path) (n : Name) → is_directory scan.marks p ≡ true →
      is_unstable scan p ≡ false → (rest : Path) →
      get scan.marks (child p n ++ rest) ≡ get (mark (tree_of (histories side))) (child p n ++ rest)
  part_is p n d u rest =
      let same = scan_is scan since (histories side) shows p n d u (quiet_now p (child p n) d) in
      sym (get-subtree scan.marks (child p n) rest) ∙ (ap (λ t. get t rest) same
      ∙ get-subtree (mark (tree_of (histories side))) (child p n) rest)

  marks_are : scan.marks ≡ mark (tree_of before)
  marks_are =
      same_tree scan.marks (mark (tree_of before)) (λ q. at q ∙ ap (λ t. get (mark t) q) found_tree)
    where
      at : (q : Path) → get scan.marks q ≡ get (mark (tree_of (histories side))) q
      at [] =
          is.tree.rooted ∙ sym (get-mark (tree_of (histories side)) []
          ∙ ap (option_map mark_of) shows.history_tree.rooted)
      at (n ∷ r) = part_is [] n root_there root_steady r

  none_unstable : (p : Path) → Contains scan.unstable p → ⊥
  none_unstable p c =
      let h = is.not_dir p c in
      let answer : IsTrueNotDir (histories side) p (since p) = sound.answered side session
      h.1.number (NotDir (since p)) (ListAt p) h.1.answered h.1.asked in
      let whole : tree_at (histories side) (since p) ≡ tree_of before =
      ap tree_of (ap (λ k. take k (histories side)) (listed_then p h.0 ∙ sym long)
      ∙ take-length (histories side)) ∙ found_tree in
      true≢false (sym h.0 ∙ (ap (λ t. is_directory t p) marks_are ∙ (directory_of_mark
      (tree_of before) p ∙ (ap (λ t. is_directory t p) (sym whole) ∙ answer.no_directory))))

  scan_found : scan ≡ scan_of (tree_of before)
  scan_found =
      ap₂ (λ m u. record { marks = m; unstable = u }) marks_are
      (nothing_in scan.unstable none_unstable)

-- what the scans of a plan show as it is made
pub plan_shows : (plans : Plans) (histories : Histories) (archive : Archive) (sent : Sent) →
    IsSound plans histories archive sent → (side : Which) (session : ℕ) (scan : Scan)
    (since : Path → ℕ) → IsScanOf sent side session scan since → IsListedInOrder scan since →
    ((before later : History) → histories side ≡ before ++ Began session ∷ later →
    All (IsPlannedEvent [] histories side) later) → ShowsFound (histories side) session scan since
plan_shows plans histories archive sent sound side session scan since is ordered events before later
    e quiet =
    let alone : histories side ≡ before ++ Began session ∷ [] = e
    ∙ ap (λ w. before ++ Began session ∷ w)
    (nothing_later histories side later (events before later e) quiet) in (
      scan_found plans histories archive sent sound side session scan since is ordered before alone,
      listed_then plans histories archive sent sound side session scan since is ordered before
          alone,
    )
