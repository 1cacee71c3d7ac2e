-- What is true of histories stays true as they go on: what was held, what a reply says, and what a
-- plan is of.
use Rattle.std.proofs.Common.{◌≡◌, ◌≤◌, ◌<◌, ℕ, true, false, nat_le, List, ◌∷◌, ◌++◌, length, take}
use Rattle.std.proofs.Common.{drop, refl, sym, ap, ◌∙◌, subst, Some, true≢false, append-nil, arith}
use Rattle.std.proofs.Common.{inl, inr, slice_get, fold, [], ◌⊎◌}
use Rattle.std.specs.FinMap.{get}
use Rattle.std.proofs.lemmas.List.{length-append, take-append-le}
use Rattle.std.proofs.lemmas.List.Elements.{All-contains}
use Rattle.std.proofs.lemmas.Option.{none-some}
use Rattle.std.proofs.lemmas.Bool.{leb-false}
use Rattle.syn_model.specs.Path.{Path}
use Rattle.syn_model.specs.Tree.{Tree, Content, subtree, is_directory}
use Rattle.syn_model.specs.Mark.{mark}
use Rattle.syn_model.specs.Limits.{children}
use Rattle.syn_model.specs.Spelling.{spelling}
use Rattle.syn_model.specs.Refusal.{OldSession}
use Rattle.syn_model.specs.Event.{Event, Edited, Began, Replaced}
use Rattle.syn_model.specs.History.{History, IsHistory, IsAllowed, tree_of, tree_at, is_quiet}
use Rattle.syn_model.specs.History.{last_session, position_causes}
use Rattle.syn_model.specs.Standing.{session_after}
use Rattle.syn_model.specs.Archive.{Archive, Held}
use Rattle.syn_runs.specs.Laws.{AddsAllowed}
use Rattle.syn_machine.specs.Side.{Request, Begin, ListAt, Fetch, Replace, Reply, Begun, Listed}
use Rattle.syn_machine.specs.Side.{NotDir, Piece, Done}
use Rattle.syn_machine.specs.Network.{Which, other, Sent}
use Rattle.syn_machine.specs.Planning.{Planned, seen_on, IsPlanOf}
use Rattle.syn_runs.proofs.Invariant.{Plans, plan_in, Scans, IsPlanFrom, Histories, IsSound}
use Rattle.syn_runs.proofs.Invariant.{IsStillRecorded, IsTrue, IsBorne, HadMarks, IsUsed}
use Rattle.syn_runs.proofs.Invariant.{part_at, IsPreferredIn}
use Rattle.syn_model.proofs.HistoryLemmas.{first_cause-none, allowed_goes_on}
use Rattle.syn_model.proofs.MarkLemmas.{mark-subtree}
use Rattle.syn_model.proofs.QuietLemmas.{quiet_before, tree_at-append, untouched_stays}
use Rattle.syn_runs.proofs.LogLemmas.{entry_of, scans_of, plan_from}
use Rattle.syn_runs.proofs.PlanLemmas.{fenced, since_reached}

-- A history that goes on

pub fold_one : (last : ℕ) (history : History) (event : Event) → fold session_after last
    (history ++ event ∷ []) ≡ session_after (fold session_after last history) event
fold_one last [] event = refl
fold_one last (e ∷ history) event = fold_one (session_after last e) history event

pub began_above : (history : History) (session : ℕ) → IsAllowed history (Began session) →
    last_session history < session
began_above history session a =
    leb-false session (last_session history) (first_cause-none
    (nat_le session (last_session history), OldSession) (position_causes history) a.not_refused).0

after_grows : (history : History) (event : Event) → IsAllowed history event →
    last_session history ≤ session_after (last_session history) event
after_grows history (Edited user edit) a = omega arith
after_grows history (Began session) a =
    let above : last_session history < session = began_above history session a in
    omega (arith, above)
after_grows history (Replaced token path since new) a = omega arith

pub session_grows : (old new : History) → AddsAllowed old new → last_session old ≤ last_session new
session_grows old new (inl e) = subst (λ h. last_session old ≤ last_session h) (sym e) (omega arith)
session_grows old new (inr a) =
    subst (λ h. last_session old ≤ last_session h) (sym a.2)
    (subst (λ n. last_session old ≤ n) (sym (fold_one 0 old a.0)) (after_grows old a.0 a.1))

pub history_grows : (old new : History) → AddsAllowed old new → IsHistory old → IsHistory new
history_grows old new (inl e) h = subst IsHistory (sym e) h
history_grows old new (inr a) h = subst IsHistory (sym a.2) (allowed_goes_on old a.0 h a.1)

-- a list that goes on
abbrev pub Extends : History → History → Type 0
Extends old new = (events : History) × (new ≡ old ++ events)

pub extends : (old new : History) → AddsAllowed old new → Extends old new
extends old new (inl e) = ([], e ∙ sym (append-nil old))
extends old new (inr a) = (a.0 ∷ [], a.2)

pub length_grows : (old new : History) → Extends old new → length old ≤ length new
length_grows old new x =
    subst (λ h. length old ≤ length h) (sym x.1) (omega (arith, length-append old x.0))

pub tree_at_stays : (old new : History) → Extends old new → (k : ℕ) → k ≤ length old →
    tree_at new k ≡ tree_at old k
tree_at_stays old new x k h = ap (λ w. tree_at w k) x.1 ∙ tree_at-append old x.0 k h

pub part_at_stays : (old new : History) → Extends old new → (k : ℕ) (p : Path) → k ≤ length old →
    part_at new k p ≡ part_at old k p
part_at_stays old new x k p h = ap (λ t. subtree t p) (tree_at_stays old new x k h)

pub quiet_was : (old new : History) → Extends old new → (since : ℕ) (p : Path) →
    since ≤ length old → is_quiet new since (length new) p ≡ true →
    is_quiet old since (length old) p ≡ true
quiet_was old new x since p h q =
    (quiet_before old x.0 since p h (ap (λ w. is_quiet w since (length w) p) (sym x.1) ∙ q)).0

pub still_touched : (old new : History) → Extends old new → (since : ℕ) (p : Path) →
    since ≤ length old → is_quiet old since (length old) p ≡ false →
    is_quiet new since (length new) p ≡ false
still_touched old new x since p h f =
    elim (is_quiet new since (length new) p)
    as (λ b. is_quiet new since (length new) p ≡ b → b ≡ false) [
      | false ↦ λ _. refl
      | true ↦ λ q. absurd (true≢false (sym (quiet_was old new x since p h q) ∙ f))
    ] refl

still_recorded-grow : (old new : History) (archive : Archive) (session : ℕ) (path : Path)
    (since : ℕ) → AddsAllowed old new → session ≤ last_session old → since ≤ length old →
    IsStillRecorded old archive session path since → IsStillRecorded new archive session path since
still_recorded-grow old new archive session path since a fence h still e q =
    let x = extends old new a in
    let before = quiet_before old x.0 since path h
    (ap (λ w. is_quiet w since (length w) path) (sym x.1) ∙ q) in
    let grows : last_session old ≤ last_session new = session_grows old new a in
    let same : session ≡ last_session old = omega (arith, grows, fence, e) in
    ap (λ w. subtree (mark (tree_of w)) path) x.1 ∙ (sym (mark-subtree (tree_of (old ++ x.0)) path)
    ∙ (ap mark (untouched_stays old x.0 path before.1)
    ∙ (mark-subtree (tree_of old) path ∙ still same before.0)))

-- what was held stays so
pub held-grow : (old new : History) → Extends old new → (path : Path) (content : Content) →
    Held old path content → Held new path content
held-grow old new x path content h =
    let grows : length old ≤ length new = length_grows old new x in (
      h.0,
      omega (arith, h.1, grows),
      ap (λ t. get (mark t) path) (tree_at_stays old new x h.0 h.1)
          ∙ h.2,
    )

pub had-grow : (old new : History) → Extends old new → (path : Path) (marks : Tree) →
    HadMarks old path marks → HadMarks new path marks
had-grow old new x path marks h =
    let grows : length old ≤ length new = length_grows old new x in
    record {
      position = h.position;
      reached = omega (arith, h.reached, grows);
      had = h.had
          ∙ ap (λ t. subtree (mark t) path) (sym (tree_at_stays old new x h.position h.reached));
    }

-- a reply stays true
pub true-grow : (old new : History) → AddsAllowed old new → (session : ℕ) (request : Request)
    (reply : Reply) → IsTrue old session request reply → IsTrue new session request reply
true-grow old new a session (Begin pair) (Begun position) t =
    let grows : last_session old ≤ last_session new = session_grows old new a in
    omega (arith, t, grows)
true-grow old new a session (ListAt path) (Listed position entries) t =
    let x = extends old new a in
    let grows : length old ≤ length new = length_grows old new x in
    record {
      reached = omega (arith, t.reached, grows);
      begun = subst (λ w. session ≤ last_session (take position w)) (sym x.1) (subst
          (λ w. session ≤ last_session w)
          (sym (take-append-le position old x.0 t.reached)) t.begun);
      entries_there = t.entries_there ∙ ap (λ u. children (mark u) path)
          (sym (tree_at_stays old new x position t.reached));
      directory =
          ap (λ u. is_directory u path) (tree_at_stays old new x position t.reached) ∙ t.directory;
    }
true-grow old new a session (ListAt path) (NotDir position) t =
    let x = extends old new a in
    let grows : length old ≤ length new = length_grows old new x in
    record {
      reached = omega (arith, t.reached, grows);
      no_directory =
          ap (λ u. is_directory u path) (tree_at_stays old new x position t.reached)
          ∙ t.no_directory;
    }
true-grow old new a session (Fetch path since offset) (Piece total bytes) t =
    let x = extends old new a in
    let grows : length old ≤ length new = length_grows old new x in
    let same = sym (part_at_stays old new x since path t.reached) in
    record {
      reached = omega (arith, t.reached, grows);
      whole = t.whole ∙ ap (λ u. length (spelling u)) same;
      bytes_there = t.bytes_there ∙ ap (λ u. take 32768 (drop offset (spelling u))) same;
    }
true-grow old new a session (Replace item path since size) Done t =
    let x = extends old new a in
    let grows : length old ≤ length new = length_grows old new x in
    (omega (arith, t.0, grows), still_touched old new x since path t.0 t.1)
true-grow old new a session request reply t = t

-- and so does what it says of its item
borne-grow : (old new : History) → AddsAllowed old new → (plan : List Planned) (from : Which)
    (session : ℕ) (request : Request) (reply : Reply) → IsTrue old session request reply →
    IsBorne plan old from request reply → IsBorne plan new from request reply
borne-grow old new a plan from session (Fetch path since offset) (Piece total bytes) t b =
    λ item planned e w same. b item planned e w same
    ∙ ap mark (sym (part_at_stays old new (extends old new a) since path t.reached))
borne-grow old new a plan from session (Replace item path since size) Done t b =
    λ planned e. had-grow old new (extends old new a) path (seen_on planned (other from)).marks
    (b planned e)
borne-grow old new a plan from session request reply t b = tt

pub some_in_nothing : (item : ℕ) (planned : Planned) → slice_get [] item ≡ Some planned → ⊥
some_in_nothing item planned e = none-some _ e

-- an item of a plan is of one that was made as said
pub made : (plans : Plans) (histories : Histories) (archive : Archive) (sent : Sent) →
    IsSound plans histories archive sent → (session item : ℕ) (planned : Planned) →
    slice_get (plan_in plans session) item ≡ Some planned →
    (found : Tree) × (scans : Scans) × IsPlanFrom sent session found scans (plan_in plans session)
made plans histories archive sent sound session item planned e =
    let entry = entry_of plans session item planned e in
    let one = entry.0 in
    let from = plan_from sent one
    (All-contains (IsPlanOf sent) plans one sound.planned entry.1) in (
      one.archive,
      scans_of one,
      subst (IsPlanFrom sent session one.archive (scans_of one)) entry.3
          (subst (λ n. IsPlanFrom sent n one.archive (scans_of one) one.plan) entry.2 from),
    )

pub sound-grow : (plans : Plans) (histories new : Histories) (archive : Archive) (sent : Sent) →
    IsSound plans histories archive sent → ((s : Which) → AddsAllowed (histories s) (new s)) →
    ((s : Which) → last_session (new s) ≤ archive.last_session) → IsUsed plans new →
    IsSound plans new archive sent
sound-grow plans histories new archive sent sound grows below used = record {
  used = used;
  lawful = λ s. history_grows (histories s) (new s) (grows s) (sound.lawful s);
  marks = sound.marks;
  begun = below;
  numbers = sound.numbers;
  repeats = sound.repeats;
  asked = sound.asked;
  known = sound.known;
  answered =
      λ from session number reply request c d. true-grow (histories from) (new from)
      (grows from) session request reply (sound.answered from session number reply request c d);
  borne =
      λ from session number reply request c d. borne-grow (histories from) (new from) (grows from)
      (plan_in plans session) from session request reply
      (sound.answered from session number reply request c d)
      (sound.borne from session number reply request c d);
  held =
      λ path content e side. held-grow (histories side) (new side)
      (extends (histories side) (new side) (grows side)) path content
      (sound.held path content e side);
  once = sound.once;
  planned = sound.planned;
  recorded = λ session item planned side path e w.
      let is = made plans histories archive sent sound session item planned e in
      elim (sound.recorded session item planned side path e w)
      as (λ _. IsStillRecorded (new side) archive session path (seen_on planned side).since
      ⊎ IsPreferredIn plans session side path) [
        | inl still ↦ inl (still_recorded-grow (histories side) (new side) archive session path
            (seen_on planned side).since (grows side)
            (fenced plans histories archive sent sound session is.0 is.1
            (plan_in plans session) is.2 side)
            (since_reached plans histories archive sent sound session is.0 is.1
            (plan_in plans session) is.2 item planned side path e w side) still)
        | inr preferred ↦ inr preferred
      ];
}
