-- What a session that runs has done so far: its records are due, and its sides' events since it
-- began are by its plan.
use Rattle.std.proofs.Common.{◌≡◌, ◌≢◌, ◌≤◌, ◌<◌, ◌+◌, ℕ, List, [], ◌∷◌, ◌++◌, length, refl, sym}
use Rattle.std.proofs.Common.{ap, ◌∙◌, subst, append_assoc, arith, inl, inr, ◌⊎◌, slice_get}
use Rattle.std.specs.Prelude.{All}
use Rattle.std.proofs.lemmas.List.Elements.{All-head, All-tail, All-nil, All-cons, All-append}
use Rattle.std.proofs.lemmas.List.Elements.{All-push, All-weaker}
use Rattle.std.proofs.lemmas.Option.{none-some}
use Rattle.syn_model.specs.Tree.{Tree}
use Rattle.syn_model.specs.Event.{Event, Edited, Began, Replaced}
use Rattle.syn_model.specs.History.{History, IsAllowed, last_session}
use Rattle.syn_model.specs.Archive.{Archive, Kept, Session, archive_of}
use Rattle.syn_model.specs.Decision.{path_of}
use Rattle.syn_runs.specs.Laws.{AddsAllowed}
use Rattle.syn_machine.specs.Network.{Which, other, Sent}
use Rattle.syn_machine.specs.Planning.{Planned, Log, seen_on}
use Rattle.syn_runs.specs.Headline.{IsNoEdit, PlansWith}
use Rattle.syn_runs.proofs.Invariant.{Plans, plan_in, Scans, IsPlanFrom, Histories, IsSound}
use Rattle.syn_runs.proofs.Invariant.{IsSoundEvent}
use Rattle.syn_runs.proofs.PlanLemmas.{plan_of-more, fenced}
use Rattle.syn_runs.proofs.GrownLemmas.{began_above, extends, length_grows, part_at_stays}
use Rattle.syn_runs.proofs.GrownLemmas.{still_touched}
use Rattle.syn_runs.proofs.StepLemmas.{next_fresh}
use Rattle.syn_runs.proofs.StagedLemmas.{Moves, moves_grow}
use Rattle.syn_machine.proofs.NetworkLemmas.{on_both}
use Rattle.syn_runs.proofs.MoveLemmas.{current}
use Rattle.syn_runs.proofs.WorldLemmas.{archive-append}
use Rattle.syn_runs.proofs.QuietScans.{IsPlannedEvent, ShowsTree, ShowsFound, begun_within}
use Rattle.syn_runs.proofs.QuietScans.{plan_shows}
use Rattle.syn_runs.proofs.CompleteLemmas.{IsRecordDue, carried, alike, marked}

-- a plan whose scans show what was found, where no user's event came since the session began
pub record IsQuietPlan (log : Log) (sent : Sent) (histories : Histories) (session : ℕ)
    (found : Tree)
    (plan : List Planned) : Type 0 where
  pub scans : Scans
  pub is : IsPlanFrom sent session found scans plan
  pub logged : PlansWith log session scans.preference
  pub shows : (side : Which) →
      ShowsFound (histories side) session (scans.scan side) (scans.since side)

pub record IsUnderway (log : Log) (before : Archive) (histories : Histories) (sent : Sent)
    (kept : List Kept) (session : ℕ) (plan : List Planned) : Type 0 where
  pub earlier : List Kept
  pub records : List Kept
  pub kept_is : kept ≡ earlier ++ Session session ∷ records
  pub due : All (IsRecordDue plan histories) records
  pub events : (side : Which) (first later : History) →
      histories side ≡ first ++ Began session ∷ later →
      All (IsPlannedEvent plan histories side) later
  pub planned : All (λ made. made.session ≢ session) log
      ⊎ IsQuietPlan log sent histories session (archive_of before earlier).marks plan

-- the last of a list is that which is looked for, or comes after it
split_last : (xs : History) (e : Event) (first : History) (b : Event) (later : History) →
    xs ++ e ∷ [] ≡ first ++ b ∷ later → ((e ≡ b) × (later ≡ []))
    ⊎ ((rest : History) × (later ≡ rest ++ e ∷ []) × (xs ≡ first ++ b ∷ rest))
split_last [] e [] b later h =
    let same : e ≡ b = cc in
    let none : later ≡ [] = cc in
    inl (same, none)
split_last [] e (f ∷ []) b later h = cc
split_last [] e (f ∷ g ∷ first) b later h = cc
split_last (x ∷ xs) e [] b later h =
    let same : x ≡ b = cc in
    let rest : later ≡ xs ++ e ∷ [] = cc in
    inr (xs, rest, ap (λ y. y ∷ xs) same)
split_last (x ∷ xs) e (f ∷ first) b later h =
    let same : x ≡ f = cc in
    let tail : xs ++ e ∷ [] ≡ first ++ b ∷ later = cc in
    elim (split_last xs e first b later tail) as (λ _. ((e ≡ b) × (later ≡ []))
    ⊎ ((rest : History) × (later ≡ rest ++ e ∷ []) × (x ∷ xs ≡ f ∷ (first ++ b ∷ rest)))) [
      | inl l ↦ inl l
      | inr r ↦ inr (r.0, r.1, ap (λ ys. x ∷ ys) r.2 ∙ ap (λ y. y ∷ (first ++ b ∷ r.0)) same)
    ]

front_of : {X : Type 0} (P : X → Type 0) (xs ys : List X) → All P (xs ++ ys) → All P xs
front_of P [] ys all = All-nil P
front_of P (x ∷ xs) ys all =
    All-cons P x xs (All-head P x (xs ++ ys) all) (front_of P xs ys (All-tail P x (xs ++ ys) all))

module _ (plan : List Planned) (old new : Histories)
    (grows : (side : Which) → AddsAllowed (old side) (new side)) where
  event-grow : (side : Which) (event : Event) → IsPlannedEvent plan old side event →
      IsPlannedEvent plan new side event
  event-grow side (Edited user edit) h = h
  event-grow side (Began session) h = h
  event-grow side (Replaced token path since u) h =
      let x = extends (old (other side)) (new (other side)) (grows (other side)) in
      let longer : length (old (other side)) ≤ length (new (other side)) =
      length_grows (old (other side)) (new (other side)) x in
      let r : (seen_on h.planned (other side)).since ≤ length (old (other side)) = h.reached in
      record {
        planned = h.planned;
        at = h.at;
        writes = h.writes;
        reached = omega (arith, r, longer);
        whole =
            h.whole ∙ sym (part_at_stays (old (other side)) (new (other side)) x
            (seen_on h.planned (other side)).since (path_of h.planned.item) r);
      }

  due-grow : (kept : Kept) → IsRecordDue plan old kept → IsRecordDue plan new kept
  due-grow _ (carried side item planned path at w reached touched) =
      let x = extends (old side) (new side) (grows side) in
      let longer : length (old side) ≤ length (new side) = length_grows (old side) (new side) x in
      carried side item planned path at w (omega (arith, reached, longer))
      (still_touched (old side) (new side) x (seen_on planned side).since path reached touched)
  due-grow _ (alike item planned path at kind) = alike item planned path at kind
  due-grow _ (marked item planned path at kind) = marked item planned path at kind

-- a side goes on
module _ (plans : Plans) (archive : Archive) (sent : Sent) (old new : Histories)
    (sound : IsSound plans old archive sent) (which : Which) (m : Moves plans archive old new which)
    (session : ℕ) (last : session ≡ archive.last_session)
    (plan : List Planned) (has : plan_in plans session ≡ plan) where
  grows : (side : Which) → AddsAllowed (old side) (new side)
  grows = moves_grow plans archive old new which m

  -- an event since the session began is by its plan
  event_planned : (event : Event) → IsAllowed (old which) event →
      IsSoundEvent plans old archive which event → session ≤ last_session (old which) →
      IsPlannedEvent plan old which event
  event_planned (Edited user edit) a s begun = tt
  event_planned (Began n) a s begun =
      let above : last_session (old which) < n = began_above (old which) n a in
      omega (arith, above, s, begun, last)
  event_planned (Replaced token path since u) a s begun =
      let now : token.session ≡ last_session (old which) =
      current (old which) token path since u a in
      let below : last_session (old which) ≤ archive.last_session = sound.begun which in
      let same : token.session ≡ session = omega (arith, now, below, begun, last) in
      record {
        planned = s.planned;
        at = ap (λ p. slice_get p token.item) (sym (ap (plan_in plans) same ∙ has)) ∙ s.item;
        writes = s.writes;
        reached = s.reached;
        whole = s.whole;
      }

  more_planned : (side : Which) (later : History) → All (IsPlannedEvent plan old side) later →
      All (IsPlannedEvent plan new side) later
  more_planned side later all =
      All-weaker (IsPlannedEvent plan old side) (IsPlannedEvent plan new side)
      (event-grow plan old new grows side) later all

  module _ (events : (side : Which) (first later : History) →
      old side ≡ first ++ Began session ∷ later → All (IsPlannedEvent plan old side) later) where
    events_here : (first later : History) → new which ≡ first ++ Began session ∷ later →
        All (IsPlannedEvent plan new which) later
    events_here first later e = elim m.here as (λ _. All (IsPlannedEvent plan new which) later) [
      | inl same ↦ more_planned which later (events which first later (sym same ∙ e))
      | inr a ↦ elim (split_last (old which) a.0 first (Began session) later (sym a.3 ∙ e))
          as (λ _. All (IsPlannedEvent plan new which) later) [
            | inl now ↦ subst (All (IsPlannedEvent plan new which)) (sym now.1)
                (All-nil (IsPlannedEvent plan new which))
            | inr more ↦ subst (All (IsPlannedEvent plan new which)) (sym more.1)
                (more_planned which (more.0 ++ a.0 ∷ []) (All-push
                (IsPlannedEvent plan old which) more.0 a.0 (events which first more.0 more.2)
                (event_planned a.0 a.1 a.2
                (begun_within (old which) first more.0 session (sound.lawful which) more.2).0)))
          ]
    ]

    events_then : (side : Which) (first later : History) →
        new side ≡ first ++ Began session ∷ later → All (IsPlannedEvent plan new side) later
    events_then =
        on_both (λ side. (first later : History) → new side ≡ first ++ Began session ∷ later →
        All (IsPlannedEvent plan new side) later) which events_here
        (λ first later e. more_planned (other which) later
        (events (other which) first later (sym m.there ∙ e)))

  module _ (log : Log) (found : Tree) (h : IsQuietPlan log sent old session found plan) where
    shows_here : ShowsFound (new which) session (h.scans.scan which) (h.scans.since which)
    shows_here first later e quiet =
        elim m.here as (λ _. ShowsTree (h.scans.scan which) (h.scans.since which) first) [
          | inl same ↦ h.shows which first later (sym same ∙ e) quiet
          | inr a ↦ elim (split_last (old which) a.0 first (Began session) later (sym a.3 ∙ e))
              as (λ _. ShowsTree (h.scans.scan which) (h.scans.since which) first) [
                | inl now ↦
                    let fence : session ≤ last_session (old which) =
                    fenced plans old archive sent sound session found h.scans plan h.is which in
                    let above : last_session (old which) < session =
                    began_above (old which) session (subst (IsAllowed (old which)) now.0 a.1) in
                    absurd (omega (arith, fence, above))
                | inr more ↦ h.shows which first more.0 more.2
                    (front_of IsNoEdit more.0 (a.0 ∷ []) (subst (All IsNoEdit) more.1 quiet))
              ]
        ]

    quiet_then : (more : Sent) → IsQuietPlan log (sent ++ more) new session found plan
    quiet_then more = record {
      scans = h.scans;
      is = plan_of-more sent more _ h.is;
      logged = h.logged;
      shows =
          on_both (λ side. ShowsFound (new side) session (h.scans.scan side) (h.scans.since side))
          which shows_here
          (λ first later e quiet. h.shows (other which) first later (sym m.there ∙ e) quiet);
    }

  pub underway_moves : (log : Log) (before : Archive) (kept : List Kept) (more : Sent) →
      IsUnderway log before old sent kept session plan →
      IsUnderway log before new (sent ++ more) kept session plan
  underway_moves log before kept more h = record {
    earlier = h.earlier;
    records = h.records;
    kept_is = h.kept_is;
    due =
        All-weaker (IsRecordDue plan old) (IsRecordDue plan new)
        (due-grow plan old new grows) h.records h.due;
    events = events_then h.events;
    planned =
        elim h.planned as (λ _. All (λ made. made.session ≢ session) log
        ⊎ IsQuietPlan log (sent ++ more) new session (archive_of before h.earlier).marks plan) [
          | inl none ↦ inl none
          | inr is ↦ inr (quiet_then log (archive_of before h.earlier).marks is more)
        ];
  }

-- the coordinator says more
pub underway_says : (log : Log) (before : Archive) (histories : Histories) (sent more : Sent)
    (kept : List Kept) (session : ℕ) (plan : List Planned) →
    IsUnderway log before histories sent kept session plan →
    IsUnderway log before histories (sent ++ more) kept session plan
underway_says log before histories sent more kept session plan h = record {
  earlier = h.earlier;
  records = h.records;
  kept_is = h.kept_is;
  due = h.due;
  events = h.events;
  planned =
      elim h.planned as (λ _. All (λ made. made.session ≢ session) log
      ⊎ IsQuietPlan log (sent ++ more) histories session (archive_of before h.earlier).marks plan) [
        | inl none ↦ inl none
        | inr is ↦ inr
            (record {
              scans = is.scans;
              is = plan_of-more sent more _ is.is;
              logged = is.logged;
              shows = is.shows;
            })
      ];
}

-- it records what is due
abbrev pub underway_records : (log : Log) (before : Archive) (histories : Histories) (sent : Sent)
    (kept more : List Kept) (session : ℕ) (plan : List Planned) →
    All (IsRecordDue plan histories) more → IsUnderway log before histories sent kept session plan →
    IsUnderway log before histories sent (kept ++ more) session plan
underway_records log before histories sent kept more session plan due h = record {
  earlier = h.earlier;
  records = h.records ++ more;
  kept_is =
      ap (λ ks. ks ++ more) h.kept_is ∙ append_assoc h.earlier (Session session ∷ h.records) more;
  due = All-append (IsRecordDue plan histories) h.records more h.due due;
  events = h.events;
  planned = h.planned;
}

no_item : (histories : Histories) (kept : Kept) → IsRecordDue [] histories kept → ⊥
no_item histories _ (carried side item planned path at w reached touched) = none-some _ at
no_item histories _ (alike item planned path at kind) = none-some _ at
no_item histories _ (marked item planned path at kind) = none-some _ at

no_records : (histories : Histories) (records : List Kept) →
    All (IsRecordDue [] histories) records → records ≡ []
no_records histories [] due = refl
no_records histories (kept ∷ records) due =
    absurd (no_item histories kept (All-head (IsRecordDue [] histories) kept records due))

no_replacement : (plan : List Planned) (histories : Histories) (side : Which) (event : Event) →
    IsPlannedEvent [] histories side event → IsPlannedEvent plan histories side event
no_replacement plan histories side (Edited user edit) h = h
no_replacement plan histories side (Began session) h = h
no_replacement plan histories side (Replaced token path since new) h = absurd (none-some _ h.at)

-- a plan that is made where none was
pub quiet_plan : (log later : Log) (before : Archive) (plans : Plans) (histories : Histories)
    (archive : Archive) (sent : Sent) → IsSound plans histories archive sent → (kept : List Kept) →
    archive ≡ archive_of before kept → (session : ℕ) (had plan : List Planned) →
    had ≡ [] → (scans : Scans) → IsPlanFrom sent session archive.marks scans plan →
    PlansWith later session scans.preference →
    (h : IsUnderway log before histories sent kept session had) →
    IsQuietPlan later sent histories session (archive_of before h.earlier).marks plan
quiet_plan log later before plans histories archive sent sound kept archive_is session had plan
    empty scans is logged h =
    let none : h.records ≡ [] = no_records histories h.records
    (subst (λ p. All (IsRecordDue p histories) h.records) empty h.due) in
    let found_is : archive.marks ≡ (archive_of before h.earlier).marks =
    ap (λ a. a.marks) (archive_is
    ∙ (ap (archive_of before) (h.kept_is ∙ ap (λ ks. h.earlier ++ Session session ∷ ks) none)
    ∙ archive-append before h.earlier (Session session ∷ []))) in
    subst (λ marks. IsQuietPlan later sent histories session marks plan) found_is (record {
      scans = scans;
      is = is;
      logged = logged;
      shows =
          λ side. plan_shows plans histories archive sent sound side session (scans.scan side)
          (scans.since side) (is.scanned side) (is.ordered side)
          (λ first later e. subst (λ p. All (IsPlannedEvent p histories side) later) empty
          (h.events side first later e));
    })

pub underway_plans : (log later : Log) (before : Archive) (plans : Plans) (histories : Histories)
    (archive : Archive) (sent : Sent) → IsSound plans histories archive sent → (kept : List Kept) →
    archive ≡ archive_of before kept → (session : ℕ) (had plan : List Planned) →
    had ≡ [] → (scans : Scans) → IsPlanFrom sent session archive.marks scans plan →
    PlansWith later session scans.preference →
    IsUnderway log before histories sent kept session had →
    IsUnderway later before histories sent kept session plan
underway_plans log later before plans histories archive sent sound kept archive_is session had plan
    empty scans is logged h =
    record {
      earlier = h.earlier;
      records = h.records;
      kept_is = h.kept_is;
      due =
          subst (All (IsRecordDue plan histories)) (sym (no_records histories h.records
          (subst (λ p. All (IsRecordDue p histories) h.records) empty h.due)))
          (All-nil (IsRecordDue plan histories));
      events =
          λ side first later e. All-weaker (IsPlannedEvent [] histories side)
          (IsPlannedEvent plan histories side) (no_replacement plan histories side) later (subst
          (λ p. All (IsPlannedEvent p histories side) later) empty (h.events side first later e));
      planned =
          inr (quiet_plan log later before plans histories archive sent sound kept archive_is
          session
          had plan empty scans is logged h);
    }

-- it starts
pub underway_starts : (before : Archive) (plans : Plans) (histories : Histories) (archive : Archive)
    (sent : Sent) → IsSound plans histories archive sent → (kept : List Kept) (session : ℕ) →
    session ≡ archive.last_session + 1 →
    IsUnderway plans before histories sent (kept ++ Session session ∷ []) session []
underway_starts before plans histories archive sent sound kept session next = record {
  earlier = kept;
  records = [];
  kept_is = refl;
  due = All-nil (IsRecordDue [] histories);
  events = λ side first later e.
      let within : session ≤ last_session (histories side) =
      (begun_within (histories side) first later session (sound.lawful side) e).0 in
      let below : last_session (histories side) ≤ archive.last_session = sound.begun side in
      absurd (omega (arith, next, within, below));
  planned = inl (next_fresh plans histories archive sent sound session next).0;
}
