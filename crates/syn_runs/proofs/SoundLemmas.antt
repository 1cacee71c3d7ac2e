-- The invariant is kept as messages are sent, a plan is made, and the archive keeps its items.
use Rattle.std.proofs.Common.{◌≡◌, ◌≤◌, ℕ, true, false, nat_le, List, ◌∷◌, ◌++◌, refl, sym, ap, ◌∙◌}
use Rattle.std.proofs.Common.{subst, Some, append-nil, arith, inl, inr, slice_get, ◌≢◌, ◌+◌}
use Rattle.std.proofs.Common.{not, ◌==◌, None, ◌⊎◌, if◌then◌else◌, [], true≢false}
use Rattle.std.specs.FinMap.{get}
use Rattle.std.proofs.lemmas.List.Elements.{All-weaker, All-push, All-get_or, Contains-append_left}
use Rattle.std.proofs.lemmas.List.Elements.{Contains-append_cases, All-contains}
use Rattle.std.proofs.lemmas.Option.{none-some, same_Some}
use Rattle.syn_model.specs.Path.{Path, is_root, strip_prefix, IsName}
use Rattle.syn_model.specs.Tree.{Tree, Content, subtree, is_directory, Directory, IsTree, IsPart}
use Rattle.syn_model.specs.Tree.{empty_directory, replace}
use Rattle.syn_model.specs.Limits.{greatest, fits_archive}
use Rattle.syn_model.specs.Refusal.{first_cause, Root, Full, BadMessage}
use Rattle.syn_model.specs.History.{History, tree_of, last_session}
use Rattle.syn_model.specs.Archive.{Archive, Held, Kept, Session, Recorded, RecordedDir, CanKeep}
use Rattle.syn_model.specs.Archive.{after_kept, record_causes}
use Rattle.syn_machine.specs.Side.{Request, Begin, ListAt, Fetch, Replace, Reply, Piece, Done}
use Rattle.syn_machine.specs.Side.{Stage}
use Rattle.syn_machine.specs.Network.{Which, other, Sent, Asks, Answers, NumbersTell}
use Rattle.syn_machine.specs.Network.{AsksNothingTwice}
use Rattle.syn_machine.specs.Planning.{Planned, seen_on, IsPlanOf, SessionPlan}
use Rattle.syn_runs.proofs.Invariant.{Plans, plan_in, Histories, IsSound, IsStillRecorded}
use Rattle.syn_runs.proofs.Invariant.{IsTrue, IsBorne, IsSound_request, IsSpent, IsHeld}
use Rattle.syn_runs.proofs.Invariant.{IsHeldRecord, IsHarmless, IsFresh, IsPreferredIn}
use Rattle.syn_model.proofs.HistoryLemmas.{first_cause-none, get-at_root, replace-is_tree}
use Rattle.syn_model.proofs.HistoryLemmas.{place-stands, empty-is_tree}
use Rattle.syn_runs.proofs.LogLemmas.{scans_of, plan_from, no_plan, plan_in-push}
use Rattle.syn_runs.proofs.PlanLemmas.{of_plan-more, plan_of-more, target_is, writes_of}
use Rattle.std.specs.Prelude.{Contains, All}
use Rattle.std.specs.Option.{option_map_or}
use Rattle.std.proofs.lemmas.Bool.Decides.{nat_tests}
use Rattle.std.proofs.lemmas.List.Quantifiers.{all_pairs_push}
use Rattle.syn_runs.specs.Picture.{IsOfPlan}
use Rattle.syn_model.proofs.PathLemmas.{strip_prefix-is}
use Rattle.syn_model.proofs.TreeLemmas.{get-replace}
use Rattle.syn_runs.proofs.GrownLemmas.{some_in_nothing}
use Rattle.syn_runs.specs.Acknowledged.{IsPreferred}
use Rattle.syn_model.proofs.BaseLemmas.{contains_one}

-- Messages

pub sound-more : (plans : Plans) (histories : Histories) (archive : Archive) (sent more : Sent) →
    IsSound plans histories archive sent → NumbersTell (sent ++ more) →
    AsksNothingTwice (sent ++ more) → ((to : Which) (session number : ℕ) (request : Request) →
    Contains more (Asks to session number request) →
    IsSound_request plans archive sent to session request) → ((from : Which) (session number : ℕ)
    (reply : Reply) → Contains more (Answers from session number reply) →
    (request : Request) × Contains sent (Asks from session number request) × IsTrue (histories from)
    session request reply × IsBorne (plan_in plans session) (histories from) from request reply) →
    IsSound plans histories archive (sent ++ more)
sound-more plans histories archive sent more sound numbers repeats asks answers = record {
  repeats = repeats;
  used = sound.used;
  lawful = sound.lawful;
  marks = sound.marks;
  begun = sound.begun;
  numbers = numbers;
  asked =
      λ to session number request c.
      elim (Contains-append_cases sent more (Asks to session number request) c)
      as (λ _. IsSound_request plans archive (sent ++ more) to session request) [
        | inl old ↦ let r = sound.asked to session number request old in
            record {
              session_kept = r.session_kept;
              lawful = r.lawful;
              pair = r.pair;
              by_plan =
                  of_plan-more r.pair sent more session
                  (plan_in plans session) to request r.by_plan;
            }
        | inr new ↦ let r = asks to session number request new in
            record {
              session_kept = r.session_kept;
              lawful = r.lawful;
              pair = r.pair;
              by_plan =
                  of_plan-more r.pair sent more session
                  (plan_in plans session) to request r.by_plan;
            }
      ];
  known =
      λ from session number reply c.
      elim (Contains-append_cases sent more (Answers from session number reply) c)
      as (λ _. (request : Request) × Contains (sent ++ more) (Asks from session number request)) [
        | inl old ↦ let k = sound.known from session number reply old in
            (k.0, Contains-append_left sent more _ k.1)
        | inr new ↦ let k = answers from session number reply new in
            (k.0, Contains-append_left sent more _ k.1)
      ];
  answered =
      λ from session number reply request c d.
      elim (Contains-append_cases sent more (Answers from session number reply) c)
      as (λ _. IsTrue (histories from) session request reply) [
        | inl old ↦
            let k = sound.known from session number reply old in
            subst (λ r. IsTrue (histories from) session r reply)
            (numbers from session number k.0 request (Contains-append_left sent more _ k.1) d)
            (sound.answered from session number reply k.0 old k.1)
        | inr new ↦
            let k = answers from session number reply new in
            subst (λ r. IsTrue (histories from) session r reply)
            (numbers from session number k.0 request (Contains-append_left sent more _ k.1) d) k.2
      ];
  borne =
      λ from session number reply request c d.
      elim (Contains-append_cases sent more (Answers from session number reply) c)
      as (λ _. IsBorne (plan_in plans session) (histories from) from request reply) [
        | inl old ↦
            let k = sound.known from session number reply old in
            subst (λ r. IsBorne (plan_in plans session) (histories from) from r reply)
            (numbers from session number k.0 request (Contains-append_left sent more _ k.1) d)
            (sound.borne from session number reply k.0 old k.1)
        | inr new ↦
            let k = answers from session number reply new in
            subst (λ r. IsBorne (plan_in plans session) (histories from) from r reply)
            (numbers from session number k.0 request (Contains-append_left sent more _ k.1) d) k.3
      ];
  held = sound.held;
  once = sound.once;
  planned =
      All-weaker (IsPlanOf sent) (IsPlanOf (sent ++ more))
      (plan_of-more sent more) plans sound.planned;
  recorded = sound.recorded;
}

-- an answer to a request that was sent
ask_before : (sent : Sent) (from : Which) (session number : ℕ) (reply : Reply) (to : Which)
    (n m : ℕ) (request : Request) →
    Contains (sent ++ Answers from session number reply ∷ []) (Asks to n m request) →
    Contains sent (Asks to n m request)
ask_before sent from session number reply to n m request c =
    elim (Contains-append_cases sent (Answers from session number reply ∷ [])
    (Asks to n m request) c) as (λ _. Contains sent (Asks to n m request)) [
      | inl old ↦ old
      | inr new ↦ let e = contains_one (Answers from session number reply) (Asks to n m request) new
          in
          cc
    ]

pub sound-answer : (plans : Plans) (histories : Histories) (archive : Archive) (sent : Sent) →
    IsSound plans histories archive sent → (from : Which) (session number : ℕ) (request : Request)
    (reply : Reply) → Contains sent (Asks from session number request) →
    IsTrue (histories from) session request reply →
    IsBorne (plan_in plans session) (histories from) from request reply →
    IsSound plans histories archive (sent ++ Answers from session number reply ∷ [])
sound-answer plans histories archive sent sound from session number request reply asked is_true
    is_borne =
    sound-more plans histories archive sent (Answers from session number reply ∷ []) sound
    (λ side n m a b c d. sound.numbers side n m a b (ask_before sent from session number reply side
    n m a c) (ask_before sent from session number reply side n m b d))
    (λ side n l m a b c d. sound.repeats side n l m a b (ask_before sent from session number reply
    side n l a c) (ask_before sent from session number reply side n m b d))
    (λ to n m r c. let e = contains_one (Answers from session number reply) (Asks to n m r) c in cc)
    (λ side n m r c.
    let e = contains_one (Answers from session number reply) (Answers side n m r) c in
    let e0 : from ≡ side = cc in
    let e1 : session ≡ n = cc in
    let e2 : number ≡ m = cc in
    let e3 : reply ≡ r = cc in (
      request,
      subst (λ m. Contains sent (Asks side n m request)) e2
          (subst (λ n. Contains sent (Asks side n number request)) e1
          (subst (λ s. Contains sent (Asks s session number request)) e0 asked)),
      subst (λ r. IsTrue (histories side) n request r) e3
          (subst (λ n. IsTrue (histories side) n request reply) e1
          (subst (λ s. IsTrue (histories s) session request reply) e0 is_true)),
      subst (λ r. IsBorne (plan_in plans n) (histories side) side request r) e3
          (subst (λ n. IsBorne (plan_in plans n) (histories side) side request reply) e1
          (subst (λ s. IsBorne (plan_in plans session) (histories s) s request reply) e0 is_borne)),
    ))

-- A plan that is made

-- a plan is only made where there was none
abbrev pub PlansGrow : Plans → Plans → Type 0
PlansGrow old new = (n : ℕ) → (plan_in new n ≡ plan_in old n) ⊎ (plan_in old n ≡ [])

abbrev pub IsNew : Plans → SessionPlan → Type 0
IsNew plans entry = All (λ earlier. earlier.session ≢ entry.session) plans

pub push-grows : (plans : Plans) (entry : SessionPlan) → IsNew plans entry →
    PlansGrow plans (plans ++ entry ∷ [])
push-grows plans entry new n =
    elim (n == entry.session) as (λ b. (n == entry.session) ≡ b →
    (plan_in (plans ++ entry ∷ []) n ≡ plan_in plans n) ⊎ (plan_in plans n ≡ [])) [
      | true ↦ λ same. let at : n ≡ entry.session = grind (arith, nat_tests) in
          inr (ap (plan_in plans) at ∙ no_plan plans entry.session new)
      | false ↦ λ other. inl
          (plan_in-push plans entry new n
          ∙ ap (λ b. if b then entry.plan else plan_in plans n) other)
    ] refl

pub push-here : (plans : Plans) (entry : SessionPlan) → IsNew plans entry →
    plan_in (plans ++ entry ∷ []) entry.session ≡ entry.plan
push-here plans entry new =
    let e : (entry.session == entry.session) ≡ true = grind (arith, nat_tests) in
    plan_in-push plans entry new entry.session
    ∙ ap (λ b. if b then entry.plan else plan_in plans entry.session) e

pub item-grow : (old new : Plans) → PlansGrow old new → (session item : ℕ) (planned : Planned) →
    slice_get (plan_in old session) item ≡ Some planned →
    slice_get (plan_in new session) item ≡ Some planned
item-grow old new grows session item planned e =
    elim (grows session) as (λ _. slice_get (plan_in new session) item ≡ Some planned) [
      | inl same ↦ ap (λ plan. slice_get plan item) same ∙ e
      | inr nothing ↦ absurd
          (some_in_nothing item planned (ap (λ plan. slice_get plan item) (sym nothing) ∙ e))
    ]

of_plan-grow : (old new : Plans) → PlansGrow old new → (pair : ℕ) (sent : Sent) (session : ℕ)
    (to : Which) (request : Request) → IsOfPlan pair sent session (plan_in old session) to request →
    IsOfPlan pair sent session (plan_in new session) to request
of_plan-grow old new grows pair sent session to (Begin asked) h = h
of_plan-grow old new grows pair sent session to (ListAt path) h = h
of_plan-grow old new grows pair sent session to (Fetch path since offset) h =
    (h.0, h.1, item-grow old new grows session h.0 h.1 h.2, h.3, h.4, h.5)
of_plan-grow old new grows pair sent session to (Stage item offset bytes) h =
    (h.0, item-grow old new grows session item h.0 h.1, h.2)
of_plan-grow old new grows pair sent session to (Replace item path since size) h =
    (h.0, item-grow old new grows session item h.0 h.1, h.2, h.3, h.4)

-- nothing was asked for by a plan that was not made
nothing_borne : (pair : ℕ) (sent : Sent) (session : ℕ) (plan : List Planned) (history : History)
    (from : Which) (request : Request) (reply : Reply) →
    IsOfPlan pair sent session [] from request → IsBorne plan history from request reply
nothing_borne pair sent session plan history from (Fetch path since offset) (Piece total bytes) h =
    absurd (some_in_nothing h.0 h.1 h.2)
nothing_borne pair sent session plan history from (Replace item path since size) Done h =
    absurd (some_in_nothing item h.0 h.1)
nothing_borne pair sent session plan history from request reply h = tt

-- a plan that is made now prefers a side as it says
preferred_now : (plans : Plans) (entry : SessionPlan) → IsNew plans entry → (n : ℕ) →
    n ≡ entry.session → (side : Which) (path : Path) → IsPreferred entry side path →
    IsPreferredIn (plans ++ entry ∷ []) n side path
preferred_now plans entry new n at side path p made c of =
    elim (Contains-append_cases plans (entry ∷ []) made c) as (λ _. IsPreferred made side path) [
      | inl earlier ↦ absurd (All-contains (λ e. e.session ≢ entry.session) plans made new earlier
          (of ∙ at))
      | inr here ↦ subst (λ m. IsPreferred m side path) (contains_one entry made here) p
    ]

-- and the plans before it do so still
preferred_before : (plans : Plans) (entry : SessionPlan) (n : ℕ) →
    (n == entry.session) ≡ false → (side : Which) (path : Path) →
    IsPreferredIn plans n side path → IsPreferredIn (plans ++ entry ∷ []) n side path
preferred_before plans entry n differ side path p made c of =
    elim (Contains-append_cases plans (entry ∷ []) made c) as (λ _. IsPreferred made side path) [
      | inl earlier ↦ p made earlier of
      | inr here ↦
          let is : entry.session ≡ n = ap (λ e. e.session) (contains_one entry made here) ∙ of in
          absurd (true≢false (grind (arith, nat_tests)))
    ]

pub sound-plan : (plans : Plans) (histories : Histories) (archive : Archive) (sent : Sent) →
    IsSound plans histories archive sent → (entry : SessionPlan) → IsNew plans entry →
    entry.archive ≡ archive.marks → IsPlanOf sent entry → IsFresh histories entry.session →
    IsSound (plans ++ entry ∷ []) histories archive sent
sound-plan plans histories archive sent sound entry new archive_is is fresh = record {
  used =
      λ side token planned path last e w. elim (token.session == entry.session)
      as (λ b. (token.session == entry.session) ≡ b → slice_get
      (if b then entry.plan else plan_in plans token.session) token.item ≡ Some planned →
      IsSpent (histories side) path (seen_on planned side).since
      (seen_on planned (other side)).marks) [
        | true ↦ λ same _. absurd (fresh side token last (grind (arith, nat_tests)))
        | false ↦ λ _ e. sound.used side token planned path last e w
      ] refl (item_in token.session token.item planned e);
  lawful = sound.lawful;
  marks = sound.marks;
  begun = sound.begun;
  numbers = sound.numbers;
  repeats = sound.repeats;
  asked = λ to n number request c. let r = sound.asked to n number request c in
      record {
        session_kept = r.session_kept;
        lawful = r.lawful;
        pair = r.pair;
        by_plan = of_plan-grow plans (plans ++ entry ∷ [])
            (push-grows plans entry new) r.pair sent n to request r.by_plan;
      };
  known = sound.known;
  answered = sound.answered;
  borne =
      λ from n number reply request c d. subst
      (λ plan. IsBorne plan (histories from) from request reply)
      (sym (plan_in-push plans entry new n))
      (elim (n == entry.session) as (λ b. (n == entry.session) ≡ b →
      IsBorne (if b then entry.plan else plan_in plans n) (histories from) from request reply) [
        | true ↦ λ same.
            let at : n ≡ entry.session = grind (arith, nat_tests) in
            let r = sound.asked from n number request d in
            nothing_borne r.pair sent n entry.plan (histories from) from request reply
            (subst (λ p. IsOfPlan r.pair sent n p from request)
            (ap (plan_in plans) at ∙ no_plan plans entry.session new) r.by_plan)
        | false ↦ λ _. sound.borne from n number reply request c d
      ] refl);
  held = sound.held;
  once =
      all_pairs_push (λ earlier later. earlier.session ≢ later.session) plans entry sound.once
      (λ k d within. All-get_or
      (λ earlier. earlier.session ≢ entry.session) plans k d within new);
  planned = All-push (IsPlanOf sent) plans entry sound.planned is;
  recorded =
      λ n item planned side path e w. elim (n == entry.session) as (λ b. (n == entry.session) ≡ b →
      slice_get (if b then entry.plan else plan_in plans n) item ≡ Some planned →
      IsStillRecorded (histories side) archive n path (seen_on planned side).since
      ⊎ IsPreferredIn (plans ++ entry ∷ []) n side path) [
        | true ↦ λ same e.
            let from = plan_from sent entry is in
            let writes = writes_of plans histories archive sent sound entry.session entry.archive
            (scans_of entry) entry.plan from item planned side path e w in
            elim writes.free
            as (λ _. IsStillRecorded (histories side) archive n path (seen_on planned side).since
            ⊎ IsPreferredIn (plans ++ entry ∷ []) n side path) [
              | inl clean ↦ inl (λ _ quiet. target_is plans histories archive sent sound
                  entry.session entry.archive (scans_of entry) entry.plan from item planned side
                  path
                  e w clean quiet ∙ ap (λ marks. subtree marks path) archive_is)
              | inr free ↦ inr (preferred_now plans entry new n (grind (arith, nat_tests)) side path
                  (record { prefers = free.0; contested = free.1 }))
            ]
        | false ↦ λ differ e. elim (sound.recorded n item planned side path e w)
            as (λ _. IsStillRecorded (histories side) archive n path (seen_on planned side).since
            ⊎ IsPreferredIn (plans ++ entry ∷ []) n side path) [
              | inl still ↦ inl still
              | inr preferred ↦ inr (preferred_before plans entry n differ side path preferred)
            ]
      ] refl (item_in n item planned e);
}
  where
    item_in : (n item : ℕ) (planned : Planned) →
        slice_get (plan_in (plans ++ entry ∷ []) n) item ≡ Some planned →
        slice_get (if n == entry.session then entry.plan else plan_in plans n) item ≡ Some planned
    item_in n item planned e =
        ap (λ plan. slice_get plan item) (sym (plan_in-push plans entry new n)) ∙ e

-- What the archive keeps

-- an entry of an archive that recorded a part is of that part, or was there before
pub recorded_entry : (marks : Tree) (at : Path) (new : Tree) (p : Path) (x : Content) →
    get (replace marks at new) p ≡ Some x →
    ((rest : Path) × (p ≡ at ++ rest) × (get new rest ≡ Some x)) ⊎ (get marks p ≡ Some x)
recorded_entry marks at new p x e =
    elim (strip_prefix at p) as (λ o. strip_prefix at p ≡ o →
    ((rest : Path) × (p ≡ at ++ rest) × (get new rest ≡ Some x)) ⊎ (get marks p ≡ Some x)) [
      | None ↦ λ none. inr (sym (ap (λ o. option_map_or (λ r. get new r) o (get marks p)) none)
          ∙ (sym (get-replace marks at new p) ∙ e))
      | Some rest ↦ λ some. inl (
        rest,
        strip_prefix-is at p rest some,
        sym (ap (λ o. option_map_or (λ r. get new r) o (get marks p)) some)
            ∙ (sym (get-replace marks at new p) ∙ e),
      )
    ] refl

session_next : (n last : ℕ) → not (n == last + 1) ≡ false → last ≤ n
session_next n last h = grind (arith, nat_tests)

pub kept_session : (archive : Archive) (kept : Kept) → CanKeep archive kept →
    archive.last_session ≤ (after_kept archive kept).last_session
kept_session archive (Session session) can =
    session_next session archive.last_session
    (first_cause-none (not (session == archive.last_session + 1), BadMessage)
    [] (first_cause-none (nat_le greatest archive.last_session, Full)
    ((not (session == archive.last_session + 1), BadMessage) ∷ []) can.not_refused).1).0
kept_session archive (Recorded path marks) can = omega arith
kept_session archive (RecordedDir path) can =
    elim (is_directory archive.marks path) as (λ b. archive.last_session ≤ (if b then archive
    else record archive { marks = replace archive.marks path empty_directory }).last_session)
    [ true ↦ omega arith | false ↦ omega arith ]

recorded_is_tree : (marks : Tree) (path : Path) (new : Tree) → IsTree marks → IsPart new →
    All IsName path → first_cause (record_causes marks path new) ≡ None →
    IsTree (replace marks path new)
recorded_is_tree marks path new h part names e =
    let place = place-stands marks path
    ((not (fits_archive (replace marks path new)), Full) ∷ []) e in
    replace-is_tree marks path new h part place.0 place.1 names

empty_is_part : IsPart empty_directory
unfolding tree_of
empty_is_part = empty-is_tree.part

pub kept_is_tree : (archive : Archive) (kept : Kept) → IsTree archive.marks → CanKeep archive kept →
    IsTree (after_kept archive kept).marks
kept_is_tree archive (Session session) h can = h
kept_is_tree archive (Recorded path marks) h can =
    recorded_is_tree archive.marks path marks h can.lawful.1.part can.lawful.0.names can.not_refused
kept_is_tree archive (RecordedDir path) h can =
    elim (is_directory archive.marks path) as (λ b. first_cause
    ((is_root path, Root) ∷ (if b then [] else record_causes archive.marks path empty_directory))
    ≡ None → IsTree (if b then archive
    else record archive { marks = replace archive.marks path empty_directory }).marks) [
      | true ↦ λ _. h
      | false ↦ λ e. recorded_is_tree archive.marks path empty_directory h empty_is_part
          can.lawful.names (first_cause-none (is_root path, Root)
          (record_causes archive.marks path empty_directory) e).1
    ] can.not_refused

put_held : (histories : Histories) (marks : Tree) (path : Path) (new : Tree) →
    IsHeld histories marks → ((rest : Path) (content : Content) →
    get new rest ≡ Some content → (side : Which) → Held (histories side) (path ++ rest) content) →
    IsHeld histories (replace marks path new)
put_held histories marks path new h n p x e side =
    elim (recorded_entry marks path new p x e) as (λ _. Held (histories side) p x) [
      | inl of ↦ subst (λ q. Held (histories side) q x) (sym of.1) (n of.0 x of.2 side)
      | inr old ↦ h p x old side
    ]

at_root_alone : (rest : Path) (x : Content) → get empty_directory rest ≡ Some x →
    (rest ≡ []) × (x ≡ Directory)
at_root_alone [] x e = (refl, sym (same_Some _ _ (sym (get-at_root Directory []) ∙ e)))
at_root_alone (n ∷ rest) x e = absurd (none-some _ (sym (get-at_root Directory (n ∷ rest)) ∙ e))

-- what is recorded was held
pub kept_held : (histories : Histories) (archive : Archive) (kept : Kept) →
    IsHeld histories archive.marks → IsHeldRecord histories kept →
    IsHeld histories (after_kept archive kept).marks
kept_held histories archive (Session session) h k = h
kept_held histories archive (Recorded path marks) h k =
    put_held histories archive.marks path marks h k
kept_held histories archive (RecordedDir path) h k =
    elim (is_directory archive.marks path) as (λ b. IsHeld histories (if b then archive
    else record archive { marks = replace archive.marks path empty_directory }).marks) [
      | true ↦ h
      | false ↦ put_held histories archive.marks path empty_directory h (λ rest x e side.
          let at = at_root_alone rest x e in
          subst (λ q. Held (histories side) q x) (sym (append-nil path) ∙ ap (λ r. path ++ r)
          (sym at.0)) (subst (λ y. Held (histories side) path y) (sym at.1) (k side)))
    ]

pub sound-keep : (plans : Plans) (histories : Histories) (archive : Archive) (sent : Sent) →
    IsSound plans histories archive sent → (kept : Kept) → CanKeep archive kept →
    IsHarmless plans histories kept → IsSound plans histories (after_kept archive kept) sent
sound-keep plans histories archive sent sound kept can harmless =
    let grows : archive.last_session ≤ (after_kept archive kept).last_session =
    kept_session archive kept can in
    record {
      used = sound.used;
      lawful = sound.lawful;
      marks = kept_is_tree archive kept sound.marks can;
      begun =
          λ side. let b : last_session (histories side) ≤ archive.last_session = sound.begun side in
          omega (arith, b, grows);
      numbers = sound.numbers;
      repeats = sound.repeats;
      asked = λ to session number request c. let r = sound.asked to session number request c in
          let k : session ≤ archive.last_session = r.session_kept in
          record {
            session_kept = omega (arith, k, grows);
            lawful = r.lawful;
            pair = r.pair;
            by_plan = r.by_plan;
          };
      known = sound.known;
      answered = sound.answered;
      borne = sound.borne;
      held = kept_held histories archive kept sound.held harmless.held;
      once = sound.once;
      planned = sound.planned;
      recorded = λ session item planned side path e w.
          elim (sound.recorded session item planned side path e w)
          as (λ _. IsStillRecorded (histories side) (after_kept archive kept) session path
          (seen_on planned side).since ⊎ IsPreferredIn plans session side path) [
            | inl still ↦ inl (λ current quiet. still current quiet ∙ sym (harmless.leaves session
                item planned side path e w current quiet archive sound.marks can))
            | inr preferred ↦ inr preferred
          ];
    }
