-- A session that begins, and one whose requests are sent again.
use Rattle.std.proofs.Common.{◌≡◌, ◌≤◌, ◌<◌, ◌^◌, ◌⊎◌, ◌+◌, ℕ, false, List, [], ◌∷◌, map, get_or}
use Rattle.std.proofs.Common.{Option, Some, None, refl, sym, ap, ap₂, ◌∙◌, ◌++◌, subst, inl, inr}
use Rattle.std.proofs.Common.{arith}
use Rattle.std.specs.Prelude.{All, Contains}
use Rattle.std.specs.List.{count_by}
use Rattle.std.proofs.lemmas.Bool.{false≢true}
use Rattle.std.proofs.lemmas.List.{length-map}
use Rattle.std.proofs.lemmas.List.Elements.{All-cons, All-map, All-nil, Contains-push_cases}
use Rattle.syn_machine.specs.Coordinator.{AreRising, MayWait, Running, Outstanding, outstanding}
use Rattle.syn_machine.specs.Coordinator.{asked_count, messages_to, once_more}
use Rattle.syn_machine.specs.Network.{Which, Left, Right, other, is_side}
use Rattle.syn_machine.specs.Session.{Exchange, WasAsked}
use Rattle.syn_machine.specs.Side.{Request, Begin, ListAt}
use Rattle.syn_machine.proofs.Rising.{may_wait_again, once_more-rising}
use Rattle.syn_model.specs.Archive as model
use Rattle.syn_scan.specs.Asked.{is_out}
use Rattle.syn_session.specs.Scanning.{IsFoundIn, WaitsFor, found_of, out_of}
use Rattle.syn_session.specs.declared.plan_progress.PlanProgress.{PlanProgress}
use Rattle.syn_session.specs.declared.peer.PeerState.{PeerState}
use Rattle.syn_session.specs.declared.session.Session.{Session}
use Rattle.syn_session.specs.Sessions.{IsPeer, IsSession, IsStage, asks, begin_of, begun}
use Rattle.syn_session.specs.Sendings.{messages_waiting}
use Rattle.syn_session.specs.Sessions.{messages_now, once_later, resent_once}
use Rattle.syn_session.specs.Stages.{AreOfSession, IsBeginningOrListing, IsToBegin, IsToList}
use Rattle.syn_session.specs.Stages.{Reached, begins, lists, peer_of, reached_by, requests_on}
use Rattle.syn_session.specs.Stages.{waiting_of}
use Rattle.syn_session.proofs.WaitingLemmas.{sent_of}
use Rattle.std.proofs.Common.{option_map}
use Rattle.syn_path.specs.Sides.{which_of}
use Rattle.syn_path.specs.declared.side.Side.{Side}
use Rattle.syn_model.proofs.BaseLemmas.{from_map, contains_none}

-- ---- a session that begins

module _ (preference : Option Which) (peer : PeerState) (number pair : ℕ)
    (waits : waiting_of peer ≡ begin_of pair) (of : AreOfSession number peer)
    (next : peer.next_number ≡ 1) where
  rising : AreRising (waiting_of peer)
  rising = subst AreRising (sym waits) (λ i j d before less. absurd (omega (arith, before, less)))

  below : All (λ one. one.number < peer.next_number) (waiting_of peer)
  below =
      subst (λ w. All (λ one. one.number < peer.next_number) w) (sym waits)
      (All-cons (λ one. one.number < peer.next_number) (asks 0 (Begin pair)) [] (omega (
        arith,
        next,
      ))
      (All-nil (λ one. one.number < peer.next_number)))

  may : MayWait (waiting_of peer)
  may = subst MayWait (sym waits) (inl (omega arith))

  begins_peer : (side : Which) → IsPeer peer (begun preference number pair) side
  begins_peer Left =
      record {
        waits = sym waits;
        count = sym next;
        few = subst (λ n. n ≤ 2 ^ 32) (sym next) (omega arith);
        of_session = of;
        rising = rising;
        below = below;
        may = may;
      }
  begins_peer Right =
      record {
        waits = sym waits;
        count = sym next;
        few = subst (λ n. n ≤ 2 ^ 32) (sym next) (omega arith);
        of_session = of;
        rising = rising;
        below = below;
        may = may;
      }

only_begin : (preference : Option Which) (number pair : ℕ) (side : Which) (n : ℕ) (a : Request) →
    WasAsked (begun preference number pair) side n a → n ≡ 0
only_begin preference number pair side n a (inl (reply, has)) = absurd (contains_none _ has)
only_begin preference number pair Left n a (inr (resent, has)) = by (Contains-push_cases [] _ _ has)
  where
    by : let one : Outstanding = record { number = n; request = a; resent = resent } in
        Contains [] one ⊎ (asks 0 (Begin pair) ≡ one) → n ≡ 0
    by (inl never) = absurd (contains_none _ never)
    by (inr is) = sym (ap (λ (o : Outstanding). o.number) is)
only_begin preference number pair Right n a (inr (resent, has)) = by
    (Contains-push_cases [] _ _ has)
  where
    by : let one : Outstanding = record { number = n; request = a; resent = resent } in
        Contains [] one ⊎ (asks 0 (Begin pair) ≡ one) → n ≡ 0
    by (inl never) = absurd (contains_none _ never)
    by (inr is) = sym (ap (λ (o : Outstanding). o.number) is)

module _ (archive : model.Archive) (session : Session) (preference : Option Which) (number pair : ℕ)
    (numbered : session.number ≡ number)
    (preferred : option_map which_of session.preference ≡ preference) (lawful : number < 2 ^ 64)
    (scans : session.progress ≡ None)
    (waits : (side : Which) → waiting_of (peer_of session side) ≡ begin_of pair)
    (of : (side : Which) → AreOfSession number (peer_of session side))
    (next : (side : Which) → (peer_of session side).next_number ≡ 1)
    (found : (side : Which) → IsFoundIn (found_of (peer_of session side).scan) side [])
    (out : (side : Which) → out_of (peer_of session side).scan ≡ []) where
  pub session_begins : IsSession archive session (begun preference number pair)
  session_begins = record {
    number = sym numbered;
    preference = sym preferred;
    lawful = subst (λ n. n < 2 ^ 64) (sym numbered) lawful;
    peer = λ side. begins_peer preference (peer_of session side) number pair (waits side)
        (of side) (next side) side;
    once =
        λ side m n a b was_m was_n _. only_begin preference number pair side m a was_m
        ∙ sym (only_begin preference number pair side n b was_n);
    found = found;
    stage =
        subst (λ progress. IsStage archive session progress
        [] (record { plan = None; cursor = 0; kept = []; refused = [] })) (sym scans) (record {
          nothing = refl;
          of_scan = λ exchange has. absurd (contains_none _ has);
          at =
              begins (λ side. inl (
                pair,
                ap (map (λ (one : Outstanding). one.request))
                    (waits side),
              ));
          out =
              λ side path is. absurd
              (false≢true (ap (λ ps. is_out ps path) (sym (out side)) ∙ is));
        });
  }

-- ---- a session whose requests are sent again

-- what waits stays, and what was found
module _ (archive : model.Archive) (old new : Session) (taken : List Exchange) (reached : Reached)
    (same : (side : Which) → requests_on (peer_of new side) ≡ requests_on (peer_of old side))
    (scan : (side : Which) → (peer_of new side).scan ≡ (peer_of old side).scan) where
  begins_still : (side : Which) → IsToBegin old taken side → IsToBegin new taken side
  begins_still side (inl (pair, is)) = inl (pair, same side ∙ is)
  begins_still side (inr (is, pair, position, was)) = inr (same side ∙ is, pair, position, was)

  lists_still : (side : Which) → IsToList old side → IsToList new side
  lists_still side each request has =
      let it = each request (subst (λ l. Contains l request) (same side) has) in
      (it.0, it.1, subst (λ s. WaitsFor s it.0) (sym (scan side)) it.2)

  at_still : IsBeginningOrListing old taken → IsBeginningOrListing new taken
  at_still (begins each) = begins (λ side. begins_still side (each side))
  at_still (lists begun each) = lists begun (λ side. lists_still side (each side))

  stage_still : (progress : Option PlanProgress) → IsStage archive old progress taken reached →
      IsStage archive new progress taken reached
  stage_still None is = record {
    nothing = is.nothing;
    of_scan = is.of_scan;
    at = at_still is.at;
    out =
        λ side path waits. subst (λ l. Contains l (ListAt path)) (sym (same side))
        (is.out side path (subst (λ s. WaitsFor s path) (scan side) waits));
  }
  stage_still (Some progress) is = record {
    to = is.to;
    request = is.request;
    waits = same is.to ∙ is.waits;
    alone = same (other is.to) ∙ is.alone;
    carries =
        subst (λ r. Rattle.syn_session.specs.Stages.Carries archive progress (found_of
        new.left.scan)
        (found_of r) taken reached (λ transfer. Rattle.syn_propagate.specs.Transfers.WaitsFor
        transfer taken is.to is.request)) (sym (scan Right))
        (subst (λ l. Rattle.syn_session.specs.Stages.Carries archive progress (found_of l) (found_of
        old.right.scan) taken reached (λ transfer. Rattle.syn_propagate.specs.Transfers.WaitsFor
        transfer taken is.to is.request)) (sym (scan Left)) is.carries);
  }

  pub stage_goes_on : new.progress ≡ old.progress → IsStage archive old old.progress taken reached →
      IsStage archive new new.progress taken reached
  stage_goes_on progress is =
      subst (λ c. IsStage archive new c taken reached) (sym progress) (stage_still old.progress is)

-- a side whose requests were sent once more
pub record SentAgain (old new : PeerState) : Type 0 where
  pub waits : waiting_of new ≡ once_more (waiting_of old)
  pub of_session : (session : ℕ) → AreOfSession session old → AreOfSession session new
  pub number : new.next_number ≡ old.next_number
  pub scan : new.scan ≡ old.scan

same_requests : (waiting : List Outstanding) → map (λ (one : Outstanding). one.request)
    (once_more waiting) ≡ map (λ (one : Outstanding). one.request) waiting
same_requests [] = refl
same_requests (one ∷ more) = ap (λ l. one.request ∷ l) (same_requests more)

abbrev waits_as : ℕ → Request → ℕ → Outstanding
waits_as number request resent = record { number = number; request = request; resent = resent }

was_once : (waiting : List Outstanding) (n : ℕ) (a : Request) (k : ℕ) →
    Contains (once_more waiting) (waits_as n a k) → (m : ℕ) × Contains waiting (waits_as n a m)
was_once waiting n a k has =
    let it = from_map once_later waiting (waits_as n a k) has in (
      it.0.resent,
      subst (λ (r : Request). Contains waiting (waits_as n r it.0.resent))
          (ap (λ (o : Outstanding). o.request) it.2)
          (subst (λ (m : ℕ). Contains waiting (waits_as m it.0.request it.0.resent))
          (ap (λ (o : Outstanding). o.number) it.2) it.1),
    )

module _ (archive : model.Archive) (old new : Session) (running : Running)
    (is : IsSession archive old running) (number : new.number ≡ old.number)
    (preferred : new.preference ≡ old.preference)
    (progress : new.progress ≡ old.progress)
    (again : (side : Which) → SentAgain (peer_of old side) (peer_of new side)) where
  waits_again : (side : Which) →
      outstanding (resent_once running) side ≡ waiting_of (peer_of new side)
  waits_again Left = ap once_more (is.peer Left).waits ∙ sym (again Left).waits
  waits_again Right = ap once_more (is.peer Right).waits ∙ sym (again Right).waits

  count_again : (side : Which)
      → asked_count (resent_once running) side ≡ (peer_of new side).next_number
  count_again Left =
      ap (λ n. count_by (λ exchange. is_side Left exchange.side) running.taken + n)
      (length-map running.left _) ∙ ((is.peer Left).count ∙ sym (again Left).number)
  count_again Right =
      ap (λ n. count_by (λ exchange. is_side Right exchange.side) running.taken + n)
      (length-map running.right _) ∙ ((is.peer Right).count ∙ sym (again Right).number)

  was_asked : (side : Which) (n : ℕ) (a : Request) → WasAsked (resent_once running) side n a →
      WasAsked running side n a
  was_asked side n a (inl taken) = inl taken
  was_asked side n a (inr (k, has)) =
      let was = was_once (waiting_of (peer_of old side)) n a k
      (subst (λ l. Contains l (waits_as n a k)) (waits_again side ∙ (again side).waits) has) in
      inr (was.0, subst (λ l. Contains l (waits_as n a was.0)) (sym (is.peer side).waits) was.1)

  still_below : (side : Which) →
      All (λ one. one.number < (peer_of new side).next_number) (waiting_of (peer_of new side))
  still_below side =
      subst (λ w. All (λ one. one.number < (peer_of new side).next_number) w) (sym (again
      side).waits)
      (All-map (λ one. one.number < (peer_of new side).next_number) once_later
      (waiting_of (peer_of old side)) (λ k d less. subst (λ n. (get_or (waiting_of
      (peer_of old side)) k d).number < n) (sym (again side).number)
      ((is.peer side).below k d less)))

  pub resent_so : IsSession archive new (resent_once running)
  resent_so = record {
    number = is.number ∙ sym number;
    preference =
        is.preference ∙ sym (ap (λ (p : Option Side). option_map which_of p) preferred);
    lawful = subst (λ n. n < 2 ^ 64) (sym number) is.lawful;
    peer =
        λ side. record {
          waits = waits_again side;
          count = count_again side;
          few = subst (λ n. n ≤ 2 ^ 32) (sym (again side).number) (is.peer side).few;
          of_session = (again side).of_session running.session (is.peer side).of_session;
          rising =
              subst AreRising (sym (again side).waits)
              (once_more-rising (waiting_of (peer_of old side)) (is.peer side).rising);
          below = still_below side;
          may =
              subst MayWait (sym (again side).waits)
              (may_wait_again (waiting_of (peer_of old side)) (is.peer side).may);
        };
    once =
        λ side m n a b was_m was_n repeat. is.once side m n a b (was_asked side m a was_m)
        (was_asked side n b was_n) repeat;
    found =
        λ side. subst (λ s. IsFoundIn (found_of s) side running.taken) (sym (again side).scan)
        (is.found side);
    stage =
        stage_goes_on archive old new running.taken (reached_by running) (λ side.
        ap (map (λ (one : Outstanding). one.request)) (again side).waits
        ∙ same_requests (waiting_of (peer_of old side)))
        (λ side. (again side).scan) progress is.stage;
  }

-- what is sent again is what waits
pub messages_resent : (archive : model.Archive) (session : Session) (running : Running) →
    IsSession archive session running → messages_now session
    ≡ messages_to running.session Left running.left
    ++ messages_to running.session Right running.right
messages_resent archive session running is = ap₂ (λ l r. l ++ r) (on Left) (on Right)
  where
    on : (side : Which) → messages_waiting side (peer_of session side)
        ≡ messages_to running.session side (outstanding running side)
    on side =
        sent_of running.session side (peer_of session side).waiting.items
        (is.peer side).of_session ∙ ap (messages_to running.session side) (sym (is.peer side).waits)
