-- A session that carries out its plan goes on, or comes to its end.
use Rattle.std.proofs.Common.{◌≡◌, ◌≢◌, ℕ, true, List, [], ◌∷◌, ◌++◌, Option, Some, None, refl}
use Rattle.std.proofs.Common.{sym, ap, ap₂, ◌∙◌, subst, inl, inr, arith, ◌≤◌, ◌+◌, length, map}
use Rattle.std.specs.Option.{option_map_or}
use Rattle.std.specs.Prelude.{AllPairs, Contains, slice_get}
use Rattle.std.proofs.lemmas.List.{append-nil, length-append}
use Rattle.std.proofs.lemmas.List.Elements.{Contains-push_cases}
use Rattle.syn_archive.specs.declared.archive.Archive.{Archive}
use Rattle.syn_disk.specs.declared.disk.Disk.{Ghosts}
use Rattle.syn_machine.specs.Coordinator.{Advances, AsksOnce, Exchange, HasPlan, MayAsk}
use Rattle.syn_machine.specs.Coordinator.{Outstanding, Running, Walk, fault_of, hearing, is_last}
use Rattle.syn_machine.specs.Coordinator.{MayWait, numbered, stands}
use Rattle.syn_machine.specs.Network.{IsRepeat, Left, Right, Which, other}
use Rattle.syn_machine.specs.Planning.{Log, Planned, WritesTo, seen_on}
use Rattle.syn_machine.specs.Session.{IsStagedTo, WasTaken, first_total, is_wanted, record_for}
use Rattle.syn_machine.specs.Side.{Begin, Fetch, IsLawfulBody, ListAt, Piece, Replace, Request}
use Rattle.syn_machine.specs.Side.{Stage, Staged}
use Rattle.syn_message.specs.Requests.{request_of}
use Rattle.syn_path.specs.Sides.{which_of}
use Rattle.syn_path.specs.declared.side.Side.{Side}
use Rattle.syn_path.specs.declared.side.Side.TheVariants as side_is
use Rattle.syn_model.specs.Archive as model
use Rattle.syn_model.specs.Archive.{Kept, Recorded, kept_refusal}
use Rattle.syn_model.specs.Decision.{path_of}
use Rattle.syn_propagate.specs.Carrying.{source_of, target_of}
use Rattle.syn_propagate.specs.Carrying as transferring
use Rattle.syn_propagate.specs.Transfers.{Asks as TransferAsks, WaitsFor as TransferWaitsFor}
use Rattle.syn_propagate.specs.Transfers.{spec_of}
use Rattle.syn_propagate.specs.declared.next.SideRequest.{SideRequest}
use Rattle.syn_propagate.specs.declared.transfer_spec.TransferSpec.{TransferSpec}
use Rattle.syn_coordinator.specs.Machines.{Journal}
use Rattle.syn_session.specs.Scanning.{found_of}
use Rattle.syn_session.specs.declared.plan_progress.PlanProgress.{PlanProgress}
use Rattle.syn_coordinator.specs.declared.session_end.SessionEnd.{SessionEnd}
use Rattle.syn_session.specs.declared.session.Session.{Session}
use Rattle.syn_coordinator.specs.declared.tried.TriedRecord.{TriedRecord}
use Rattle.syn_session.specs.Answering.{IsHeard, asks_alone, asks_of}
use Rattle.syn_coordinator.specs.inner.Taking.{TakesEnd, TakesOn, Walks, reaching}
use Rattle.syn_session.specs.declared.session.Asks.{Asks}
use Rattle.syn_session.specs.declared.session.Asks.TheVariants.{Listings, One}
use Rattle.syn_session.specs.Hearing.{IsAsking, IsFresh}
use Rattle.syn_session.specs.Sessions.{IsPeer, IsStage, Tells, TellsOf}
use Rattle.syn_image.specs.Archives.{kept_for}
use Rattle.syn_session.specs.Stages.{Carries, IsCarriageOf, IsFoundOnBoth, IsPlanProgress, Reached}
use Rattle.syn_session.specs.Stages.{found_on, peer_of, plan_in, reached_by, requests_on}
use Rattle.syn_session.specs.Stages.{waiting_of}
use Rattle.syn_coordinator.specs.inner.Taking as taking
use Rattle.syn_coordinator.specs.inner.Walking.{ComesToAsk, Ends, HasKept, ends, goes_down, plan_at}
use Rattle.syn_coordinator.specs.inner.Walking.{walk_at}
use Rattle.syn_session.proofs.WaitingLemmas.{numbered_requests}
use Rattle.syn_machine.proofs.Heard.{numbered-length}
use Rattle.syn_session.proofs.CarryingLemmas.{source_other, marks_of}
use Rattle.syn_model.proofs.BaseLemmas.{contains_none}

-- ---- what a transfer asks, a session may ask

module _ (archive : model.Archive) (running : Running) (plan : List Planned) (planned : Planned)
    (c : TransferSpec) (kept : Kept) (has_plan : running.plan ≡ Some plan) (item : ℕ)
    (come : running.cursor ≡ item) (at : slice_get plan item ≡ Some planned)
    (is : IsCarriageOf c planned item) (recorded : record_for planned planned.item ≡ Some kept)
    (can : kept_refusal archive kept ≡ None) where
  here : slice_get (option_map_or (λ p. p) running.plan []) running.cursor ≡ Some planned
  here = ap₂ (λ p n. slice_get (option_map_or (λ p. p) p []) n) has_plan come ∙ at

  staged_on : (to : Which) → to ≡ target_of c → (count : ℕ) →
      transferring.IsStagedTo c running.taken count → IsStagedTo running to count
  staged_on to of count (inl none) = inl none
  staged_on to of count (inr (before, bytes, was, sum)) =
      inr (
        before,
        bytes,
        subst (λ w. WasTaken running.taken w (Stage running.cursor before bytes) Staged) (sym of)
            (subst (λ n. WasTaken running.taken (target_of c) (Stage n before bytes) Staged)
            (is.item_is ∙ sym come) was),
        sum,
      )

  fetched_from : (from : Which) → from ≡ source_of c → (total offset : ℕ) (bytes : _) →
      transferring.WasFetched c running.taken total offset bytes → WasTaken running.taken from
      (Fetch (path_of planned.item) (seen_on planned from).since offset) (Piece total bytes)
  fetched_from from of total offset bytes was =
      subst (λ w. WasTaken running.taken w
      (Fetch (path_of planned.item) (seen_on planned w).since offset) (Piece total bytes))
      (sym of)
      (subst (λ s. WasTaken running.taken (source_of c) (Fetch (path_of planned.item) s offset)
      (Piece total bytes)) is.source_since
      (subst (λ p. WasTaken running.taken (source_of c) (Fetch p c.source_since offset)
      (Piece total bytes)) is.path_is was))

  writes_to : (to : Which) → to ≡ target_of c → WritesTo planned.item to c.path
  writes_to to of = subst (λ w. WritesTo planned.item w c.path) (sym of) is.writes

  pub may_ask : (to : Which) (request : Request) → transferring.MayAsk c running.taken to request →
      MayAsk archive running to request
  may_ask to (Begin pair) may = absurd may
  may_ask to (ListAt path) may = absurd may
  may_ask to (Fetch path since offset) (of, same, from, staged, wanted) =
      let across : other to ≡ target_of c = ap other of in (
        planned,
        here,
        (
          subst (λ p. WritesTo planned.item (other to) p) (sym same) (writes_to (other to) across),
          from ∙ (is.source_since ∙ ap (λ w. (seen_on planned w).since) (sym of)),
          ap (kept_refusal archive) (ap₂ (λ p w. Recorded p (seen_on planned w).marks) same of
              ∙ sym (marks_of planned c item kept is recorded)) ∙ can,
          staged_on (other to) across offset staged,
          ap (λ p. is_wanted offset (first_total running.taken p)) same ∙ wanted,
        ),
      )
  may_ask to (Stage at_item offset bytes) (of, same, total, was) = (
    same ∙ (is.item_is ∙ sym come),
    (
      planned,
      here,
      (
        subst (λ p. WritesTo planned.item to p) is.path_is (writes_to to of),
        total,
        fetched_from (other to) (ap other of ∙ source_other c) total offset bytes was,
      ),
    ),
  )
  may_ask to (Replace at_item path since size) (of, same, same_path, from, staged, whole) = (
    same ∙ (is.item_is ∙ sym come),
    (
      planned,
      here,
      (
        subst (λ p. WritesTo planned.item to p) (sym same_path) (writes_to to of),
        from ∙ (is.target_since ∙ ap (λ w. (seen_on planned w).since) (sym of)),
        whole.offset,
        whole.last,
        fetched_from (other to)
            (ap other of ∙ source_other c) size whole.offset whole.last whole.said,
        staged_on to of size staged,
      ),
    ),
  )

-- ---- how far a session came is told apart from what waits

heard_reaching : (session : Session) (running : Running) (taken : Exchange) (after : Reached) →
    IsHeard session (hearing running taken) → IsHeard session (reaching running taken after)
heard_reaching session running taken after h =
    record {
      number = h.number;
      preference = h.preference;
      lawful = h.lawful;
      peer = peer;
      once = once;
    }
  where
    peer : (side : Which) → IsPeer (peer_of session side) (reaching running taken after) side
    peer Left =
        record {
          waits = (h.peer Left).waits;
          count = (h.peer Left).count;
          few = (h.peer Left).few;
          of_session = (h.peer Left).of_session;
          rising = (h.peer Left).rising;
          below = (h.peer Left).below;
          may = (h.peer Left).may;
        }
    peer Right =
        record {
          waits = (h.peer Right).waits;
          count = (h.peer Right).count;
          few = (h.peer Right).few;
          of_session = (h.peer Right).of_session;
          rising = (h.peer Right).rising;
          below = (h.peer Right).below;
          may = (h.peer Right).may;
        }

    once : AsksOnce (reaching running taken after)
    once Left m n a b was_m was_n = h.once Left m n a b was_m was_n
    once Right m n a b was_m was_n = h.once Right m n a b was_m was_n

module _ {D : Type 0} {disk : Ghosts D} (new : Archive D disk) (pair : ℕ) (journal : Journal)
    (running : Running) (taken : Exchange) (session : Session) (progress : PlanProgress)
    (is_progress : session.progress ≡ Some progress)
    (heard : IsHeard session (hearing running taken))
    (found : IsFoundOnBoth session (running.taken ++ taken ∷ []))
    (silent : (side : Which) → waiting_of (peer_of session side) ≡ [])
    (fault : fault_of running.taken taken.side taken.request taken.reply ≡ None) (before : Reached)
    (same_cursor : before.cursor ≡ running.cursor)
    (same_refused : before.refused ≡ running.refused) (same_kept : before.kept ≡ running.kept)
    (logged : Log) (has : HasPlan journal.value (hearing running taken) before.plan logged) where
  tells_progress : (after : Reached) →
      IsPlanProgress progress (found_on session Left) (found_on session Right) after →
      Tells session (reaching running taken after)
  tells_progress after is =
      record {
        number = heard.number;
        found = found;
        told = subst (λ c. TellsOf c after) (sym is_progress) (_, _, is);
      }

  start_is : walk_at journal before ≡ walk_at journal (reached_by running)
  start_is =
      ap₂ (λ c r. walk_at journal (record { plan = None; cursor = c; kept = []; refused = r }))
      same_cursor same_refused

  walks_so : (after : Reached) (kept : List Kept) (walk : Walk) → HasKept before after kept →
      Advances pair (plan_at before) taken (walk_at journal before) kept walk →
      Walks pair journal running taken after kept walk
  walks_so after kept walk has_kept goes = record {
    fault = fault;
    logged = logged;
    has =
        subst (λ p. HasPlan journal.value (hearing running taken) p logged) (sym has_kept.plan) has;
    goes =
        subst (λ w. Advances pair (plan_at after) taken w kept walk) start_is
        (subst (λ p. Advances pair (option_map_or (λ plan. plan) p []) taken
        (walk_at journal before) kept walk) (sym has_kept.plan) goes);
    kept_is = has_kept.kept_is ∙ ap (λ k. k ++ kept) same_kept;
  }

  -- it comes to its end
  pub ends_progress : (tried : Option TriedRecord) (kept : List Kept) (ended : SessionEnd) →
      Ends new tried pair
      taken journal before kept progress (found_on session Left) (found_on session Right) ended →
      TakesEnd new tried pair journal running taken session kept ended
  ends_progress tried kept ended (ends walk after goes cursor refused has_kept why is is_at tries) =
      taking.ends ended walk after (walks_so after kept walk has_kept goes) cursor refused
      (why (reaching running taken after) has_kept.plan) is (tells_progress after is_at) tries
  ends_progress tried kept ended (goes_down walk goes stopped down leaves tries) =
      taking.goes_down ended walk (record before { kept = before.kept ++ kept })
      (walks_so (record before { kept = before.kept ++ kept }) kept walk
      (record { plan = refl; kept_is = refl }) goes) stopped down leaves tries

  -- it asks a side for what comes next
  module _ (kept : List Kept) (wants : SideRequest)
      (comes : ComesToAsk new pair taken journal before kept progress (found_on session Left)
      (found_on session Right) (running.taken ++ taken ∷ []) (One wants)) where
    abbrev wanted : Request
    wanted = request_of wants.request

    abbrev now_at : Running
    now_at = reaching running taken comes.after

    abbrev c : TransferSpec
    c = spec_of comes.carries.carrying.transfer

    asked : TransferAsks comes.carries.carrying.transfer (running.taken ++ taken ∷ [])
        (which_of wants.to) wanted
    asked = comes.carries.is

    -- only that is asked
    only_that : (side : Which) (request : Request) →
        Contains (asks_of (One wants) side) request →
        (side ≡ which_of wants.to) × (request ≡ wanted)
    only_that side request contains = by wants.to side contains
      where
        one : Contains (wanted ∷ []) request → request ≡ wanted
        one contains_it =
            elim (Contains-push_cases [] _ _ contains_it) as (λ _. request ≡ wanted)
            [ inl never ↦ absurd (contains_none _ never) | inr same ↦ sym same ]

        by : (to : Side) (on : Which) → Contains (asks_alone to on wanted) request →
            (on ≡ which_of to) × (request ≡ wanted)
        by side_is.Left Left contains_it = (refl, one contains_it)
        by side_is.Left Right contains_it = absurd (contains_none _ contains_it)
        by side_is.Right Left contains_it = absurd (contains_none _ contains_it)
        by side_is.Right Right contains_it = (refl, one contains_it)

    fresh_so : (side : Which) → IsFresh now_at side wanted
    fresh_so side n was (inl (reply, contains_it)) repeat = asked.new _ contains_it repeat
    fresh_so Left n was (inr (k, contains_it)) repeat =
        contains_none _
        (subst (λ l. let waits : Outstanding = record { number = n; request = was; resent = k } in
        Contains l waits) ((heard.peer Left).waits ∙ silent Left) contains_it)
    fresh_so Right n was (inr (k, contains_it)) repeat =
        contains_none _
        (subst (λ l. let waits : Outstanding = record { number = n; request = was; resent = k } in
        Contains l waits) ((heard.peer Right).waits ∙ silent Right) contains_it)

    asks_own : (to : Side) → asks_alone to (which_of to) wanted ≡ wanted ∷ []
    asks_own side_is.Left = refl
    asks_own side_is.Right = refl

    asks_across : (to : Side) → asks_alone to (other (which_of to)) wanted ≡ []
    asks_across side_is.Left = refl
    asks_across side_is.Right = refl

    now_asks : (side : Which) (later : Session) → IsAsking session later (One wants) →
        requests_on (peer_of later side) ≡ asks_of (One wants) side
    now_asks side later asking =
        ap (map (λ (one : Outstanding). one.request)) ((asking.peer side).waits
        ∙ ap (λ w. w ++ numbered (peer_of session side).next_number
        (asks_of (One wants) side)) (silent side))
        ∙ numbered_requests (peer_of session side).next_number (asks_of (One wants) side)

    few_asked : (to : Side) (on : Which) → length (asks_alone to on wanted) ≤ 1
    few_asked side_is.Left Left = omega arith
    few_asked side_is.Left Right = omega arith
    few_asked side_is.Right Left = omega arith
    few_asked side_is.Right Right = omega arith

    may_wait_so : (side : Which) → MayWait (waiting_of (peer_of session side)
        ++ numbered (peer_of session side).next_number (asks_of (One wants) side))
    may_wait_so side =
        let few = few_asked wants.to side in
        let none = ap length (silent side) in
        let long = length-append (waiting_of (peer_of session side))
        (numbered (peer_of session side).next_number (asks_of (One wants) side)) in
        let same = numbered-length (peer_of session side).next_number
        (asks_of (One wants) side) in
        inl (omega (arith, few, none, long, same))

    apart_so : (side : Which) →
        AllPairs (λ one another. ¬ IsRepeat one another) (asks_of (One wants) side)
    apart_so side i j d before less =
        let few = few_asked wants.to side in
        absurd (omega (arith, before, less, few))

    some_so : (side : Which) × (1 ≤ length (waiting_of (peer_of session side))
        + length (asks_of (One wants) side))
    some_so = (which_of wants.to, let one = ap length (asks_own wants.to) in omega (arith, one))

    carries_later : (later : Session) → IsAsking session later (One wants) →
        Carries comes.journal.value progress (found_on later Left) (found_on later Right)
        (running.taken ++ taken ∷ []) comes.after (λ transfer. TransferWaitsFor transfer
        (running.taken ++ taken ∷ []) (which_of wants.to) wanted)
    carries_later later asking =
        subst (λ r. Carries comes.journal.value progress (found_on later Left) (found_of r)
        (running.taken ++ taken ∷ []) comes.after (λ transfer. TransferWaitsFor transfer
        (running.taken ++ taken ∷ []) (which_of wants.to) wanted))
        (sym (asking.peer Right).scan)
        (subst (λ l. Carries comes.journal.value progress (found_of l) (found_on session Right)
        (running.taken ++ taken ∷ []) comes.after (λ transfer. TransferWaitsFor transfer
        (running.taken ++ taken ∷ []) (which_of wants.to) wanted))
        (sym (asking.peer Left).scan) (record {
          progress_is = comes.carries.progress_is;
          carrying = comes.carries.carrying;
          is_carried = comes.carries.is_carried;
          planned = comes.carries.planned;
          at = comes.carries.at;
          carries = comes.carries.carries;
          asked = comes.carries.asked;
          is = asked.waits;
        }))

    asks_one : (is_last taken.reply ≡ true → comes.after.cursor ≢ running.cursor) →
        TakesOn new pair journal running taken session kept (One wants)
    asks_one last = record {
      now = comes.journal;
      after = comes.after;
      walks =
          subst (λ k. Walks pair journal running taken comes.after k
          (walk_at comes.journal comes.after)) (append-nil kept)
          (walks_so comes.after (kept ++ []) (walk_at comes.journal comes.after)
          (subst (HasKept before comes.after) (sym (append-nil kept)) comes.passes.has)
          (comes.passes.leads _ [] (stands _)));
      last = last;
      status = comes.passes.status;
      quiet = comes.passes.quiet;
      is = comes.is;
      heard = heard_reaching session running taken comes.after heard;
      tells = tells_progress comes.after comes.carries.progress_is;
      may = record {
        may_wait = may_wait_so;
        apart = apart_so;
        fresh =
            λ side request contains. subst (IsFresh now_at side)
            (sym (only_that side request contains).1) (fresh_so side);
        may = λ side request contains.
            let that = only_that side request contains in
            let progress_is = comes.carries.progress_is in
            subst (λ r. MayAsk comes.journal.value now_at side r × IsLawfulBody r) (sym that.1) (
              subst (λ w. MayAsk comes.journal.value now_at w wanted) (sym that.0)
                  (may_ask comes.journal.value now_at (plan_in progress (found_on session Left)
                  (found_on session Right)) comes.carries.planned c
                  (kept_for comes.carries.carrying.item_record) progress_is.plan progress.cursor
                  progress_is.cursor
                  comes.carries.at comes.carries.carries.spec comes.carries.carries.record_is
                  comes.carries.carries.can (which_of wants.to) wanted asked.may),
              asked.lawful,
            );
        some = some_so;
        stage =
            λ later asking. subst (λ o. IsStage comes.journal.value later o
            (running.taken ++ taken ∷ []) comes.after) (sym (asking.progress ∙ is_progress))
            (record {
              to = which_of wants.to;
              request = wanted;
              waits = now_asks (which_of wants.to) later asking ∙ asks_own wants.to;
              alone = now_asks (other (which_of wants.to)) later asking ∙ asks_across wants.to;
              carries = carries_later later asking;
            });
      };
    }

  pub asks_progress : (kept : List Kept) (asks : Asks) (comes : ComesToAsk new pair taken journal
      before kept progress (found_on session Left) (found_on session Right)
      (running.taken ++ taken ∷ []) asks) →
      (is_last taken.reply ≡ true → comes.after.cursor ≢ running.cursor) →
      TakesOn new pair journal running taken session kept asks
  asks_progress kept (Listings left right) comes = absurd comes.carries.is
  asks_progress kept (One wants) comes = asks_one kept wants comes
