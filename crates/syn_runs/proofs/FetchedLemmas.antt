-- What was carried and not touched since its fetch is marked.
use Rattle.std.proofs.Common.{◌≡◌, ◌≤◌, ◌<◌, ℕ, false, List, [], ◌∷◌, ◌++◌, length, take}
use Rattle.std.proofs.Common.{filter_map, refl, sym, ap, ◌∙◌, subst, Option, Some, None}
use Rattle.std.proofs.Common.{append_assoc, arith, inl, inr, slice_get}
use Rattle.std.specs.Prelude.{All, Contains}
use Rattle.std.specs.List.{cons_option}
use Rattle.std.proofs.lemmas.List.{take-append-le}
use Rattle.std.proofs.lemmas.List.Elements.{All-contains, filter_map-append}
use Rattle.syn_model.specs.Path.{Path, parent}
use Rattle.syn_model.specs.Tree.{Tree, subtree, is_directory}
use Rattle.syn_model.specs.Event.{Token, Event, Began, Replaced, touches}
use Rattle.syn_model.specs.History.{History, IsHistory, tree_of, tree_at, last_session}
use Rattle.syn_runs.specs.World.{Step}
use Rattle.syn_model.specs.Refusal.{Refusal}
use Rattle.syn_machine.specs.Side.{Fetch}
use Rattle.syn_machine.specs.Network.{Which, Left, Right, other}
use Rattle.syn_machine.specs.Planning.{Planned, seen_on, SessionPlan, IsPlanOf, WritesTo}
use Rattle.syn_runs.specs.Acknowledged.{Ack, Happened, Kept_by, event_at, Stores, history_of}
use Rattle.syn_runs.specs.Acknowledged.{stores_after, IsLegal}
use Rattle.syn_machine.specs.Report.{Report}
use Rattle.syn_runs.specs.Headline.{IsQuietSession, IsFetched, UntouchedSince, CarriedIsMarked}
use Rattle.syn_runs.specs.Headline.{IsStart, AreMarked}
use Rattle.syn_runs.specs.Picture.{Picture, FollowsAll, stores_of}
use Rattle.syn_runs.proofs.PictureRuns.{OfEachRun}
use Rattle.syn_runs.proofs.Invariant.{Plans, plan_in, histories_of, IsKept, IsSound_request}
use Rattle.syn_machine.proofs.Heard.{split_at}
use Rattle.syn_runs.proofs.LogLemmas.{entry_of, scans_of, plan_from}
use Rattle.syn_runs.proofs.MoveLemmas.{current}
use Rattle.syn_runs.proofs.PlanLemmas.{planned_is, writes_path}
use Rattle.syn_runs.proofs.TokenLemmas.{after_front}
use Rattle.syn_runs.proofs.QuietScans.{begun_within, sessions_grow}
use Rattle.syn_runs.proofs.WholeRuns.{no_plans, start_kept, run_kept, runs_replace_legally}
use Rattle.syn_runs.proofs.EarlyLemmas.{IsEarly, entry_is}
use Rattle.syn_runs.proofs.SessionRuns.{watched, stands, found_then, found_lawful}
use Rattle.syn_runs.proofs.CarriedLemmas.{runs_mark_held}

-- a token of a history is of a session that was begun there
token_within : (history first rest : History) (token : Token) (path : Path) (since : ℕ)
    (new : Tree) → IsHistory history → history ≡ first ++ Replaced token path since new ∷ rest →
    token.session ≤ last_session history
token_within history first rest token path since new lawful is =
    let event = Replaced token path since new in
    let all = after_front [] first (event ∷ rest) (subst IsHistory is lawful) in
    let at : token.session ≡ last_session first = current first token path since new all.0 in
    let grown : last_session first ≤ last_session (first ++ event ∷ rest) =
    sessions_grow first (event ∷ rest) all in
    subst (λ h. token.session ≤ last_session h) (sym is) (omega (arith, at, grown))

-- an event that was acknowledged stands in the list
event_in : (side : Which) (acks : List Ack) (first : History) (event : Event) (rest : History) →
    filter_map (event_at side) acks ≡ first ++ event ∷ rest →
    (earlier : List Ack) × (later : List Ack) × (acks ≡ earlier ++ Happened side event ∷ later)
event_in side [] [] event rest e = absurd (let x : [] ≡ event ∷ rest = e in cc)
event_in side [] (x ∷ first) event rest e =
    absurd (let y : [] ≡ x ∷ (first ++ event ∷ rest) = e in cc)
event_in side (ack ∷ acks) first event rest e =
    by (event_at side ack) refl first e (λ front is. event_in side acks front event rest is)
  where
    further : ((earlier : List Ack) × (later : List Ack)
        × (acks ≡ earlier ++ Happened side event ∷ later)) → (earlier : List Ack)
        × (later : List Ack) × (ack ∷ acks ≡ earlier ++ Happened side event ∷ later)
    further (earlier, later, is) = (ack ∷ earlier, later, ap (λ xs. ack ∷ xs) is)

    same_ack : (at : Which) (it : Ack) (was : Event) → event_at at it ≡ Some was →
        it ≡ Happened at was
    same_ack Left (Happened Left x) was h =
        ap (λ y. Happened Left y) (let z : Some x ≡ Some was = h in cc)
    same_ack Right (Happened Right x) was h =
        ap (λ y. Happened Right y) (let z : Some x ≡ Some was = h in cc)
    same_ack Left (Happened Right x) was h = absurd (let z : None ≡ Some was = h in cc)
    same_ack Right (Happened Left x) was h = absurd (let z : None ≡ Some was = h in cc)
    same_ack Left (Kept_by x) was h = absurd (let z : None ≡ Some was = h in cc)
    same_ack Right (Kept_by x) was h = absurd (let z : None ≡ Some was = h in cc)

    by : (o : Option Event) → event_at side ack ≡ o → (first : History) →
        cons_option o (filter_map (event_at side) acks) ≡ first ++ event ∷ rest →
        ((front : History) → filter_map (event_at side) acks ≡ front ++ event ∷ rest → (earlier :
        List Ack) × (later : List Ack) × (acks ≡ earlier ++ Happened side event ∷ later)) →
        (earlier : List Ack) × (later : List Ack)
        × (ack ∷ acks ≡ earlier ++ Happened side event ∷ later)
    by None at first e more = further (more first e)
    by (Some x) at [] e more =
        let is : x ≡ event = cc in
        ([], acks, ap (λ a. a ∷ acks) (same_ack side ack event (at ∙ ap (λ y. Some y) is)))
    by (Some x) at (y ∷ first) e more =
        further
        (more first (let t : filter_map (event_at side) acks ≡ first ++ event ∷ rest = cc in t))

history_after : (before : Stores) (acks : List Ack) (side : Which) → history_of
    (stores_after before acks) side ≡ history_of before side ++ filter_map (event_at side) acks
history_after before acks Left = refl
history_after before acks Right = refl

-- a beginning of a history shows what stood there at a position that it reached
tree_before : (history front rest : History) (position : ℕ) → history ≡ front ++ rest →
    position ≤ length front → tree_at history position ≡ tree_at front position
tree_before history front rest position is reached =
    ap tree_of (ap (take position) is ∙ take-append-le position front rest reached)

module _ (old new : Picture) {steps : List Step} {refusals : List Refusal} (s : IsStart old)
    (g : FollowsAll old steps refusals new) (side : Which)
    (first rest : History) (token : Token) (path : Path) (since : ℕ) (u : Tree) (report : Report)
    (found left : Stores)
    (is : history_of found side ≡ first ++ Replaced token path since u ∷ rest)
    (fetched : IsFetched new.sent (other side) (history_of found (other side)) token.session path)
    (q : IsQuietSession (stores_of old) new.acknowledged new.reports report found left) where
  abbrev event : Event
  event = Replaced token path since u

  run : (plans : Plans) × IsKept plans new
  run = run_kept no_plans old new (start_kept old s) g

  early : IsEarly (stores_of old) new
  early = (watched old new s g).early

  began : (which : Which) → (more : History)
      × (histories_of new which ≡ history_of found which ++ Began report.session ∷ more)
  began = found_then old new s g report found left q

  -- the fetch was by the session's plan
  asked : IsSound_request run.0 new.coordinator.archive new.sent (other side) token.session
      (Fetch path fetched.position fetched.offset)
  asked =
      run.1.sound.asked (other side) token.session fetched.answered.number
      (Fetch path fetched.position fetched.offset) fetched.answered.asked

  abbrev made : SessionPlan
  made = (entry_of run.0 token.session asked.by_plan.0 asked.by_plan.1 asked.by_plan.2).0

  entry : Contains run.0 made × (made.session ≡ token.session)
      × (made.plan ≡ plan_in run.0 token.session)
  entry =
      let e = entry_of run.0 token.session asked.by_plan.0 asked.by_plan.1 asked.by_plan.2 in
      (e.1, e.2, e.3)

  is_plan : IsPlanOf new.sent made
  is_plan = All-contains (IsPlanOf new.sent) run.0 made run.1.sound.planned entry.0

  -- where its plan saw an item, by its path
  seen_at : (item : ℕ) (planned : Planned) (to : Which) → slice_get made.plan item ≡ Some planned →
      WritesTo planned.item to path → (which : Which) →
      (seen_on planned which).since ≡ made.since which (parent path)
  seen_at item planned to at writes which =
      let from = planned_is new.sent made.session made.archive (scans_of made) made.plan
      (plan_from new.sent made is_plan) item planned at in
      (from.seen which).1
      ∙ ap (λ p. made.since which (parent p)) (writes_path planned.item to path writes)

  fetched_at : fetched.position ≡ made.since (other side) (parent path)
  fetched_at =
      asked.by_plan.4 ∙ seen_at asked.by_plan.0 asked.by_plan.1 (other (other side))
      (ap (λ plan. slice_get plan asked.by_plan.0) entry.2 ∙ asked.by_plan.2) asked.by_plan.3
      (other side)

  begun : token.session < report.session
  begun =
      let within : token.session ≤ last_session (history_of found side) =
      token_within (history_of found side) first rest token path since u
      (found_lawful old new s g report found left q side) is in
      let below = (begun_within (histories_of new side) (history_of found side)
      (began side).0 report.session (run.1.sound.lawful side) (began side).1).1 in
      omega (arith, within, below)

  -- the replacement is one of the run
  acknowledged : (earlier : List Ack) × (later : List Ack)
      × (new.acknowledged ≡ earlier ++ Happened side event ∷ later)
  acknowledged =
      elim (split_at (history_of (stores_of old) side) (filter_map (event_at side) new.acknowledged)
      first event (rest ++ Began report.session ∷ (began side).0) whole) as
      (λ _. (earlier : List Ack) × (later : List Ack)
      × (new.acknowledged ≡ earlier ++ Happened side event ∷ later)) [
        | inl before ↦
            let within : token.session ≤ last_session (history_of (stores_of old) side) =
            token_within (history_of (stores_of old) side) first before.0 token path since u
            (lawful_before side) before.1 in
            let base : last_session (history_of (stores_of old) side)
            ≤ old.coordinator.archive.last_session = base_of side in
            let fresh : old.coordinator.archive.last_session < made.session =
            All-contains (λ made. old.coordinator.archive.last_session < made.session) new.log
            made early.logged (subst (λ log. Contains log made) (sym run.1.logged) entry.0) in
            let same = entry.1 in
            absurd (omega (arith, within, base, fresh, same))
        | inr later ↦ event_in side new.acknowledged later.0 event
            (rest ++ Began report.session ∷ (began side).0) later.2
      ]
    where
      now : (which : Which) →
          histories_of new which ≡ history_of (stores_after (stores_of old) new.acknowledged) which
      now Left = (stands old new s g).left
      now Right = (stands old new s g).right

      whole : history_of (stores_of old) side ++ filter_map (event_at side) new.acknowledged
          ≡ first ++ event ∷ (rest ++ Began report.session ∷ (began side).0)
      whole =
          sym (history_after (stores_of old) new.acknowledged side) ∙ (sym (now side)
          ∙ ((began side).1 ∙ (ap (λ h. h ++ Began report.session ∷ (began side).0) is
          ∙ append_assoc first (event ∷ rest) (Began report.session ∷ (began side).0))))

      lawful_before : (which : Which) → IsHistory (history_of (stores_of old) which)
      lawful_before Left = s.pair.left
      lawful_before Right = s.pair.right

      base_of : (which : Which) →
          last_session (history_of (stores_of old) which) ≤ old.coordinator.archive.last_session
      base_of Left = s.pair.left_begun
      base_of Right = s.pair.right_begun

  abbrev written : Stores
  written = stores_after (stores_of old) acknowledged.0

  legal : IsLegal new.sent new.log side written token path since u
  legal =
      runs_replace_legally old new steps refusals s g acknowledged.0 acknowledged.1 side token path
      since u
      acknowledged.2

  same_made : legal.made ≡ made
  same_made =
      entry_is run.0 made run.1.sound.once entry.0 legal.made
      (subst (λ log. Contains log legal.made) run.1.logged legal.logged.0)
      (legal.logged.1 ∙ sym entry.1)

  legal_item : slice_get made.plan token.item ≡ Some legal.planned
  legal_item = ap (λ m. slice_get m.plan token.item) (sym same_made) ∙ legal.item.0

  -- so it was fetched where its plan saw it
  abbrev position : ℕ
  position = (seen_on legal.planned (other side)).since

  fetched_there : fetched.position ≡ position
  fetched_there =
      fetched_at ∙ sym (seen_at token.item legal.planned side legal_item legal.item.1 (other side))

  reached : position ≤ length (history_of found (other side))
  reached =
      early.seen made (subst (λ log. Contains log made) (sym run.1.logged) entry.0) token.item
      legal.planned side path legal_item legal.item.1 (other side) (history_of found (other side))
      (began (other side)).0 report.session (began (other side)).1
      (let same = entry.1 in let after = begun in omega (arith, same, after))

  -- which is what was found
  same_tree : tree_at (history_of written (other side)) position
      ≡ tree_at (history_of found (other side)) position
  same_tree =
      let later = filter_map (event_at (other side)) (Happened side event ∷ acknowledged.1) in
      let grown : histories_of new (other side) ≡ history_of written (other side) ++ later =
      source_now (other side) ∙ (ap (λ acks. history_of (stores_of old) (other side)
      ++ filter_map (event_at (other side)) acks) acknowledged.2
      ∙ (ap (λ es. history_of (stores_of old) (other side) ++ es) (filter_map-append
      (event_at (other side)) acknowledged.0 (Happened side event ∷ acknowledged.1))
      ∙ (sym (append_assoc (history_of (stores_of old) (other side))
      (filter_map (event_at (other side)) acknowledged.0) later) ∙ ap (λ h. h ++ later)
      (sym (history_after (stores_of old) acknowledged.0 (other side)))))) in
      sym (tree_before (histories_of new (other side))
      (history_of written (other side)) later position grown legal.source.reached)
      ∙ tree_before (histories_of new (other side)) (history_of found (other side))
      (Began report.session ∷ (began (other side)).0) position (began (other side)).1 reached
    where
      source_now : (which : Which) → histories_of new which
          ≡ history_of (stores_of old) which ++ filter_map (event_at which) new.acknowledged
      source_now Left = (stands old new s g).left
      source_now Right = (stands old new s g).right

  pub marked : All (λ event. touches event path ≡ false) rest →
      AreMarked left path u
  marked untouched =
      runs_mark_held old new steps refusals s g side first rest token path since position u report
      found left is
      untouched
      (ap (λ t. is_directory t (parent path)) (sym same_tree) ∙ legal.source.directory)
      (legal.source.held ∙ ap (λ t. subtree t path) same_tree)
      (subst (λ k. UntouchedSince k (history_of found (other side)) path) fetched_there
      fetched.untouched) q

pub runs_mark_carried : OfEachRun CarriedIsMarked
runs_mark_carried old new steps refusals s g side first rest token path since u report found left
    is untouched
    fetched q =
    marked old new s g side first rest token path since u report found left is fetched q untouched
