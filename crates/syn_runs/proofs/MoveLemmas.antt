-- The invariant is kept as a side answers a request.
use Rattle.std.proofs.Common.{◌≡◌, ◌≤◌, ◌+◌, ℕ, true, false, not, ◌||◌, ◌==◌, ◌∷◌, ◌++◌, length}
use Rattle.std.proofs.Common.{take, drop, refl, sym, ap, ap₂, ◌∙◌, subst, Option, Some, None}
use Rattle.std.proofs.Common.{true≢false, arith, inl, inr, ◌⊎◌, slice_get, List, []}
use Rattle.std.proofs.lemmas.List.{length-append}
use Rattle.std.proofs.Math.Seq.{take-length}
use Rattle.std.proofs.lemmas.Option.{same_Some}
use Rattle.std.proofs.lemmas.Bool.{eqb-true, not-false, or_parts}
use Rattle.syn_model.specs.Path.{Bytes, Path, parent}
use Rattle.syn_model.specs.Tree.{Tree, subtree, is_directory, replace}
use Rattle.syn_model.specs.Limits.{children}
use Rattle.syn_model.specs.Mark.{mark}
use Rattle.syn_model.specs.Spelling.{spelling}
use Rattle.syn_model.specs.Event.{Token, is_same_token, Event, Began, Replaced, is_below}
use Rattle.syn_model.specs.History.{History, IsAllowed, tree_of, tree_at, is_quiet, last_session}
use Rattle.syn_model.specs.History.{last_token, is_old_token, position_causes}
use Rattle.syn_model.specs.Standing.{place_causes, full_causes}
use Rattle.syn_model.specs.Archive.{Archive}
use Rattle.syn_machine.specs.Side.{Staging, token_of, Side, Served, Request, Begin, ListAt, Fetch}
use Rattle.syn_machine.specs.Side.{Stage, Replace, Begun, Piece, Refused, Reads, is_staged}
use Rattle.syn_machine.specs.Side.{staged_bytes, Listed}
use Rattle.syn_machine.specs.Network.{Which, other, Sent, Asks}
use Rattle.syn_model.specs.Decision.{path_of}
use Rattle.syn_machine.specs.Planning.{Planned, seen_on, WritesTo, IsPlanOf}
use Rattle.syn_runs.proofs.Invariant.{Plans, plan_in, Histories, IsSound, IsSoundStaging}
use Rattle.syn_runs.proofs.Invariant.{belongs}
use Rattle.syn_runs.proofs.Invariant.{IsSoundReplacement, IsSoundEvent, IsTrue, IsBorne}
use Rattle.syn_runs.proofs.Invariant.{HadMarks, IsTruePiece, IsTrueListing, source_of, part_at}
use Rattle.syn_model.proofs.HistoryLemmas.{first_cause-none}
use Rattle.syn_model.proofs.QuietLemmas.{quiet_same}
use Rattle.syn_runs.proofs.PlanLemmas.{writes_path, since_reached, seen_is, writes_of}
use Rattle.syn_runs.proofs.PlanLemmas.{parent-child, planned_is}
use Rattle.syn_model.proofs.MarkLemmas.{mark-subtree}
use Rattle.syn_runs.proofs.GrownLemmas.{fold_one, made}
use Rattle.syn_runs.proofs.OutcomeLemmas.{begins, Outcome, refuses, begins_again, lists}
use Rattle.syn_runs.proofs.OutcomeLemmas.{lists_none, fetches, stages_first, stages_more}
use Rattle.syn_runs.proofs.OutcomeLemmas.{stages_again, done_again, replaces}
use Rattle.std.specs.Prelude.{Contains, IfSome}
use Rattle.std.specs.Option.{option_map_or}
use Rattle.syn_runs.proofs.SpellingLemmas.{spellings_tell}
use Rattle.syn_model.specs.Refusal.{Refusal, OldSession}
use Rattle.syn_runs.specs.Acknowledged.{Stores, history_of, WasListed, IsLegal, MayOverwrite}
use Rattle.syn_runs.proofs.LogLemmas.{entry_of, scans_of, plan_from}
use Rattle.syn_runs.proofs.StagedLemmas.{same_token, touched_now, put_there}
use Rattle.syn_runs.proofs.StagedLemmas.{first_piece, next_piece, tree_at_is_tree}
use Rattle.syn_machine.proofs.NetworkLemmas.{other_twice}
use Rattle.syn_runs.proofs.StagedLemmas.{tree_at_fits}
use Rattle.std.proofs.lemmas.List.Elements.{All-contains}
use Rattle.syn_model.proofs.PathLemmas.{comparable_itself}

-- A request

pub refused_borne : (plan : List Planned) (history : History) (from : Which) (request : Request)
    (reason : Refusal) → IsBorne plan history from request (Refused reason)
refused_borne plan history from (Begin pair) reason = tt
refused_borne plan history from (ListAt path) reason = tt
refused_borne plan history from (Fetch path since offset) reason = tt
refused_borne plan history from (Stage item offset bytes) reason = tt
refused_borne plan history from (Replace item path since size) reason = tt

-- a refusal tells nothing, but that it belongs
pub refused_true : (history : History) (n : ℕ) (request : Request) (reason : Refusal) →
    belongs reason ≡ true → IsTrue history n request (Refused reason)
refused_true history n (Begin pair) reason known = known
refused_true history n (ListAt path) reason known = known
refused_true history n (Fetch path since offset) reason known = known
refused_true history n (Stage item offset bytes) reason known = known
refused_true history n (Replace item path since size) reason known = known

module _ (plans : Plans) (archive : Archive) (sent : Sent) (histories : Histories)
    (sound : IsSound plans histories archive sent) (which : Which) (side : Side)
    (same : side.history ≡ histories which)
    (staged : IfSome side.staging (IsSoundStaging plans histories which)) (session number : ℕ) where
  staged_is : (o : Option Staging) (token : Token) →
      IfSome o (IsSoundStaging plans histories which) →
      is_staged o token ≡ true → (staging : Staging) × IsSoundStaging plans histories which staging
      × (staging.token ≡ token) × (staged_bytes o ≡ staging.bytes)
  staged_is None token h e = absurd (true≢false (sym e))
  staged_is (Some staging) token h e = (staging, h, same_token staging.token token e, refl)

  -- what is staged whole is what the source had
  pub replacement_is : (item : ℕ) (path : Path) (since size : ℕ) (new : Tree) →
      Contains sent (Asks which session number (Replace item path since size)) →
      Reads (staged_bytes side.staging) (Some new) →
      is_staged side.staging (token_of session item) ≡ true →
      length (staged_bytes side.staging) ≡ size → since ≤ length side.history →
      is_quiet side.history since (length side.history) path ≡ true →
      IsSoundReplacement plans histories which (token_of session item) path since new
  replacement_is item path since size new asked reads at_token long within quiet =
      let st = staged_is side.staging (token_of session item) staged at_token in
      let by_plan =
      (sound.asked which session number (Replace item path since size) asked).by_plan in
      let planned = by_plan.0 in
      let item_is : slice_get (plan_in plans session) item ≡ Some st.1.planned =
      ap (λ t. slice_get (plan_in plans t.session) t.item) (sym st.2) ∙ st.1.item in
      let same_planned : st.1.planned ≡ planned = same_Some _ _ (sym item_is ∙ by_plan.1) in
      let piece = by_plan.4.2 in
      let true_piece : IsTruePiece (histories (other which)) (path_of planned.item)
      (seen_on planned (other which)).since by_plan.4.0 size by_plan.4.1 =
      sound.answered (other which) session piece.number (Piece size by_plan.4.1)
      (Fetch (path_of planned.item) (seen_on planned (other which)).since by_plan.4.0)
      piece.answered piece.asked in
      let whole = spelling (source_of histories which planned) in
      let begins : st.0.bytes ≡ take (length st.0.bytes) whole = st.1.begins ∙ ap
      (λ d. take (length st.0.bytes) (spelling (source_of histories which d))) same_planned in
      let full : length st.0.bytes ≡ length whole = ap length (sym st.3)
      ∙ (long ∙ true_piece.whole) in
      let bytes_are : st.0.bytes ≡ whole = begins
      ∙ (ap (λ k. take k whole) full ∙ take-length whole) in
      let new_is : new ≡ source_of histories which planned =
      spellings_tell new (source_of histories which planned) reads.0 reads.1
      (record {
        whole = tree_at (histories (other which)) (seen_on planned (other which)).since;
        path = path_of planned.item;
        tree =
            tree_at_is_tree (histories (other which)) (seen_on planned (other which)).since
            (sound.lawful (other which));
        fits =
            tree_at_fits (histories (other which)) (seen_on planned (other which)).since
            (sound.lawful (other which));
        part_is = refl;
      })
      (reads.3 ∙ (st.3 ∙ bytes_are)) in
      let to_path : WritesTo planned.item (other (other which)) (path_of planned.item) =
      subst (λ s. WritesTo planned.item s (path_of planned.item)) (sym (other_twice which))
      (subst (WritesTo planned.item which)
      (sym (writes_path planned.item which path by_plan.2)) by_plan.2) in
      let borne = sound.borne (other which) session piece.number (Piece size by_plan.4.1)
      (Fetch (path_of planned.item) (seen_on planned (other which)).since by_plan.4.0)
      piece.answered piece.asked in
      record {
        planned = planned;
        item = by_plan.1;
        writes = by_plan.2;
        listed = by_plan.3;
        within = subst (λ h. since ≤ length h) same within;
        quiet = ap (λ h. is_quiet h since (length h) path) (sym same) ∙ quiet;
        reached = true_piece.reached;
        whole = new_is;
        carries = borne item planned by_plan.1 to_path refl ∙ ap mark (sym new_is);
      }

  -- the events that it adds are asked for
  pub outcome_moves : (request : Request) (served : Served) →
      Contains sent (Asks which session number request) → Outcome side session request served →
      (served.side.history ≡ side.history)
      ⊎ ((event : Event) × IsAllowed side.history event × IsSoundEvent plans histories archive which
      event × (served.side.history ≡ side.history ++ event ∷ []))
  outcome_moves request served asked (refuses r reason known) = inl refl
  outcome_moves _ served asked (begins_again pair e) = inl refl
  outcome_moves _ served asked (begins pair a) =
      inr (
        Began session,
        a,
        (sound.asked which session number (Begin pair) asked).session_kept,
        refl,
      )
  outcome_moves _ served asked (lists path there) = inl refl
  outcome_moves _ served asked (lists_none path none) = inl refl
  outcome_moves _ served asked (fetches path since offset w q) = inl refl
  outcome_moves _ served asked (stages_first item offset bytes z) = inl refl
  outcome_moves _ served asked (stages_more item offset bytes staging s t at) = inl refl
  outcome_moves _ served asked (stages_again item offset bytes) = inl refl
  outcome_moves _ served asked (done_again item path since size e) = inl refl
  outcome_moves _ served asked
      (replaces item path since size new reads at_token long within quiet a) =
      inr (
        Replaced (token_of session item) path since new,
        a,
        replacement_is item path since size new asked reads at_token long within quiet,
        refl,
      )

  last_is : (o : Option Token) (token : Token) →
      option_map_or (λ last. is_same_token last token) o false ≡ true → o ≡ Some token
  last_is None token e = absurd (true≢false (sym e))
  last_is (Some last) token e = ap (λ t. Some t) (same_token last token e)

  -- a side that is listed has begun the session
  has_begun : (path : Path) → Contains sent (Asks which session number (ListAt path)) →
      session ≤ last_session side.history
  has_begun path asked =
      let b = (sound.asked which session number (ListAt path) asked).by_plan in
      subst (λ h. session ≤ last_session h) (sym same) (sound.answered which session b.begun.number
      (Begun b.position) (Begin b.pair) b.begun.answered b.begun.asked)

  -- what it answers is true
  pub outcome_true : (request : Request) (served : Served) →
      Contains sent (Asks which session number request) → Outcome side session request served →
      IsTrue served.side.history session request served.reply
  outcome_true request served asked (refuses r reason known) =
      refused_true side.history session request reason known
  outcome_true _ served asked (begins_again pair e) = subst (λ n. session ≤ n) e (omega arith)
  outcome_true _ served asked (begins pair a) =
      subst (λ n. session ≤ n) (sym (fold_one 0 side.history (Began session))) (omega arith)
  outcome_true _ served asked (lists path there) =
      record {
        reached = omega arith;
        begun = subst (λ w. session ≤ last_session w)
            (sym (take-length side.history)) (has_begun path asked);
        entries_there = ap (λ h. children (mark (tree_of h)) path) (sym (take-length side.history));
        directory = ap (λ h. is_directory (tree_of h) path) (take-length side.history) ∙ there;
      }
  outcome_true _ served asked (lists_none path none) =
      record {
        reached = omega arith;
        no_directory = ap (λ h. is_directory (tree_of h) path) (take-length side.history) ∙ none;
      }
  outcome_true _ served asked (fetches path since offset w q) =
      let at = quiet_same side.history since path q in
      record {
        reached = w;
        whole = ap (λ t. length (spelling t)) at;
        bytes_there = ap (λ t. take 32768 (drop offset (spelling t))) at;
      }
  outcome_true _ served asked (stages_first item offset bytes z) = tt
  outcome_true _ served asked (stages_more item offset bytes staging s t at) = tt
  outcome_true _ served asked (stages_again item offset bytes) = tt
  outcome_true _ served asked (done_again item path since size e) =
      let by_plan =
      (sound.asked which session number (Replace item path since size) asked).by_plan in
      let is = made plans histories archive sent sound session item by_plan.0 by_plan.1 in
      let spent = sound.used which (token_of session item) by_plan.0 path (ap last_token (sym same)
      ∙ last_is (last_token side.history) (token_of session item) e) by_plan.1 by_plan.2 in
      let touched = spent.touched in
      let within = since_reached plans histories archive sent sound session is.0 is.1
      (plan_in plans session) is.2 item by_plan.0 which path by_plan.1 by_plan.2 which in (
        subst (λ h. since ≤ length h) (sym same)
            (subst (λ k. k ≤ length (histories which)) (sym by_plan.3) within),
        subst (λ h. is_quiet h since (length h) path ≡ false) (sym same)
            (subst (λ k. is_quiet (histories which) k (length (histories which)) path ≡ false)
            (sym by_plan.3) touched),
      )
  outcome_true _ served asked
      (replaces item path since size new reads at_token long within quiet a) = (
        omega (
          arith,
          within,
          length-append side.history
              (Replaced (token_of session item) path since new ∷ []),
        ),
        touched_now side.history (Replaced
            (token_of session item) path since new) since path within (comparable_itself path),
      )

  -- and so is what it says of its item
  pub outcome_borne : (request : Request) (served : Served) →
      Contains sent (Asks which session number request) → Outcome side session request served →
      IsBorne (plan_in plans session) served.side.history which request served.reply
  outcome_borne request served asked (refuses r reason known) =
      refused_borne (plan_in plans session) side.history which request reason
  outcome_borne _ served asked (begins_again pair e) = tt
  outcome_borne _ served asked (begins pair a) = tt
  outcome_borne _ served asked (lists path there) = tt
  outcome_borne _ served asked (lists_none path none) = tt
  outcome_borne _ served asked (fetches path since offset w q) = λ item planned e writes since_is.
      let is = made plans histories archive sent sound session item planned e in
      let quiet = ap₂ (λ k h. is_quiet h k (length h) path) (sym since_is) (sym same) ∙ q in
      let seen = seen_is plans histories archive sent sound session is.0 is.1
      (plan_in plans session) is.2 item planned (other which) path e writes which quiet in
      seen ∙ (ap (λ h. subtree (mark (tree_of h)) path) (sym same) ∙ (sym (mark-subtree
      (tree_of side.history) path) ∙ ap mark (quiet_same side.history since path q)))
  outcome_borne _ served asked (stages_first item offset bytes z) = tt
  outcome_borne _ served asked (stages_more item offset bytes staging s t at) = tt
  outcome_borne _ served asked (stages_again item offset bytes) = tt
  outcome_borne _ served asked (done_again item path since size e) = λ planned at.
      let by_plan =
      (sound.asked which session number (Replace item path since size) asked).by_plan in
      let spent = sound.used which (token_of session item) by_plan.0 path (ap last_token (sym same)
      ∙ last_is (last_token side.history) (token_of session item) e) by_plan.1 by_plan.2 in
      subst (λ h. HadMarks h path (seen_on planned (other which)).marks) (sym same)
      (subst (λ d. HadMarks (histories which) path (seen_on d (other which)).marks)
      (same_Some _ _ (sym by_plan.1 ∙ at)) spent.put)
  outcome_borne _ served asked
      (replaces item path since size new reads at_token long within quiet a) =
      λ planned at.
      let r = replacement_is item path since size new asked reads at_token long within quiet in
      record {
        position = length side.history + 1;
        reached =
            omega (
              arith,
              length-append side.history
                  (Replaced (token_of session item) path since new ∷ []),
            );
        had =
            ap (λ d. (seen_on d (other which)).marks) (same_Some _ _ (sym at ∙ r.item))
            ∙ (r.carries ∙ put_there side.history (token_of session item) path since new);
      }

  piece_of : (item offset : ℕ) (bytes : Bytes) →
      Contains sent (Asks which session number (Stage item offset bytes)) →
      (planned : Planned) × (slice_get (plan_in plans session) item ≡ Some planned)
      × ((seen_on planned (other which)).since ≤ length (histories (other which)))
      × (bytes ≡ take 32768 (drop offset (spelling (source_of histories which planned))))
  piece_of item offset bytes asked =
      let by_plan = (sound.asked which session number (Stage item offset bytes) asked).by_plan in
      let planned = by_plan.0 in
      let piece = by_plan.2.1 in
      let true_piece : IsTruePiece (histories (other which)) (path_of planned.item)
      (seen_on planned (other which)).since offset by_plan.2.0 bytes =
      sound.answered (other which) session piece.number (Piece by_plan.2.0 bytes)
      (Fetch (path_of planned.item) (seen_on planned (other which)).since offset) piece.answered
      piece.asked in
      (planned, by_plan.1, true_piece.reached, true_piece.bytes_there)

  -- what it stages was fetched
  pub outcome_staging : (request : Request) (served : Served) →
      Contains sent (Asks which session number request) → Outcome side session request served →
      IfSome served.side.staging (IsSoundStaging plans histories which)
  outcome_staging request served asked (refuses r reason known) = staged
  outcome_staging _ served asked (begins_again pair e) = staged
  outcome_staging _ served asked (begins pair a) = staged
  outcome_staging _ served asked (lists path there) = staged
  outcome_staging _ served asked (lists_none path none) = staged
  outcome_staging _ served asked (fetches path since offset w q) = staged
  outcome_staging _ served asked (stages_first item offset bytes z) =
      let piece = piece_of item offset bytes asked in
      record {
        planned = piece.0;
        item = piece.1;
        reached = piece.2;
        begins = first_piece (spelling (source_of histories which piece.0)) bytes offset z piece.3;
      }
  outcome_staging _ served asked (stages_more item offset bytes staging s t at) =
      let piece = piece_of item offset bytes asked in
      let had : IsSoundStaging plans histories which staging =
      subst (λ o. IfSome o (IsSoundStaging plans histories which)) s staged in
      let item_is : slice_get (plan_in plans session) item ≡ Some had.planned =
      ap (λ t. slice_get (plan_in plans t.session) t.item)
      (same_token (token_of session item) staging.token t) ∙ had.item in
      let same_planned : had.planned ≡ piece.0 = same_Some _ _ (sym item_is ∙ piece.1) in
      record {
        planned = piece.0;
        item = piece.1;
        reached = piece.2;
        begins =
            next_piece (spelling (source_of histories which piece.0)) staging.bytes bytes offset at
            (had.begins ∙ ap (λ d. take (length staging.bytes)
            (spelling (source_of histories which d))) same_planned) piece.3;
      }
  outcome_staging _ served asked (stages_again item offset bytes) = staged
  outcome_staging _ served asked (done_again item path since size e) = staged
  outcome_staging _ served asked
      (replaces item path since size new reads at_token long within quiet a) =
      staged

-- Legal replacements

pub current : (history : History) (token : Token) (path : Path) (since : ℕ) (new : Tree) →
    IsAllowed history (Replaced token path since new) → token.session ≡ last_session history
current history token path since new a =
    let rest = place_causes (tree_of history) path
    ++ (full_causes (replace (tree_of history) path new) ++ position_causes history) in
    let one = (first_cause-none (is_old_token history token, OldSession) rest a.not_refused).0 in
    let two = (or_parts (token.session == 0 || not (token.session == last_session history))
    (option_map_or (λ last. not (is_below last token)) (last_token history) false) one).0 in
    let three =
    (or_parts (token.session == 0) (not (token.session == last_session history)) two).1 in
    eqb-true token.session (last_session history) (not-false _ three)

-- a replacement by its session's plan is legal
pub legal : (plans : Plans) (histories : Histories) (archive : Archive) (sent : Sent) →
    IsSound plans histories archive sent → (side : Which) (token : Token) (path : Path) (since : ℕ)
    (new : Tree) → IsAllowed (histories side) (Replaced token path since new) →
    IsSoundReplacement plans histories side token path since new → (stores : Stores) →
    ((s : Which) → history_of stores s ≡ histories s) → stores.archive ≡ archive →
    IsLegal sent plans side stores token path since new
legal plans histories archive sent sound side token path since new allowed h stores at archive_is =
    let is = made plans histories archive sent sound token.session token.item h.planned h.item in
    let w = writes_of plans histories archive sent sound token.session is.0 is.1
    (plan_in plans token.session) is.2 token.item h.planned side path h.item h.writes in
    let entry = entry_of plans token.session token.item h.planned h.item in
    let above_is : parent path ≡ w.above = ap parent w.at ∙ parent-child w.above w.name in
    let listed = λ (s : Which). subst
    (λ k. WasListed sent s token.session (parent path) k) (sym (w.since_is s))
    (subst (λ q. WasListed sent s token.session q (is.1.since s w.above)) (sym above_is) (
      children (is.1.scan s).marks w.above,
      (is.2.scanned s).listed w.above (w.above_is s).0 (w.above_is s).1,
    )) in
    let at_source = (listed (other side)).1 in
    let true_listing : IsTrueListing (histories (other side)) token.session (parent path)
    (seen_on h.planned (other side)).since (listed (other side)).0 =
    sound.answered (other side) token.session at_source.number
    (Listed (seen_on h.planned (other side)).since (listed (other side)).0)
    (ListAt (parent path)) at_source.answered at_source.asked in
    let quiet : is_quiet (histories side) (seen_on h.planned side).since (length (histories side))
    path ≡ true = ap (λ k. is_quiet (histories side) k (length (histories side)) path)
    (sym h.listed) ∙ h.quiet in
    let marks_here : subtree (mark (tree_of (history_of stores side))) path
    ≡ subtree (mark (tree_of (histories side))) path =
    ap (λ w. subtree (mark (tree_of w)) path) (at side) in
    let entry_is = All-contains (IsPlanOf sent) plans entry.0 sound.planned entry.1 in
    let seen_by = (planned_is sent entry.0.session entry.0.archive (scans_of entry.0) entry.0.plan
    (plan_from sent entry.0 entry_is) token.item h.planned
    (ap (λ plan. slice_get plan token.item) entry.3 ∙ h.item)).seen side in
    let source_directory =
    ap (λ w. is_directory (tree_at w (seen_on h.planned (other side)).since) (parent path))
    (at (other side)) ∙ true_listing.directory in
    record {
      listed =
          subst (λ k. WasListed sent side token.session (parent path) k) (sym h.listed)
          (listed side);
      reached = subst (λ w. since ≤ length w) (sym (at side)) h.within;
      untouched = ap (λ w. is_quiet w since (length w) path) (at side) ∙ h.quiet;
      made = entry.0;
      logged = (entry.1, entry.2);
      planned = h.planned;
      item = (ap (λ plan. slice_get plan token.item) entry.3 ∙ h.item, h.writes);
      seen = h.listed;
      recorded =
          elim (sound.recorded token.session token.item h.planned side path h.item h.writes)
          as (λ _. MayOverwrite entry.0 stores side path) [
            | inl still ↦ inl (marks_here ∙ (still
                (current (histories side) token path since new allowed) quiet
                ∙ ap (λ a. subtree a.marks path) (sym archive_is)))
            | inr preferred ↦ inr (
              preferred entry.0 entry.1 entry.2,
              marks_here ∙ (sym (seen_is plans histories archive sent sound token.session is.0 is.1
                  (plan_in plans token.session) is.2 token.item h.planned side path h.item h.writes
                  side quiet)
                  ∙ (seen_by.0 ∙ ap (subtree (entry.0.scan side).marks)
                  (writes_path h.planned.item side path h.writes))),
            )
          ];
      source = record {
        listed = listed (other side);
        directory = source_directory;
        reached =
            subst (λ w. (seen_on h.planned (other side)).since ≤ length w)
            (sym (at (other side))) h.reached;
        held =
            h.whole
            ∙ (ap (λ p. part_at (histories (other side)) (seen_on h.planned (other side)).since p)
            (writes_path h.planned.item side path h.writes) ∙ ap
            (λ w. part_at w (seen_on h.planned (other side)).since path) (sym (at (other side))));
      };
    }
