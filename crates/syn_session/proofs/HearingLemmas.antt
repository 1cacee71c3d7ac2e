-- A session that scans hears that a side has begun, or what it lists.
use Rattle.std.proofs.Common.{◌≡◌, ◌≢◌, ◌≤◌, ◌<◌, ◌^◌, ◌==◌, ℕ, Bool, true, false, option_map}
use Rattle.std.proofs.Common.{true≢false, not, ◌&&◌, if◌then◌else◌, [], ◌++◌, length, map}
use Rattle.std.proofs.Common.{Option, None, refl, sym, ap, ◌∙◌, subst, inl, inr, arith}
use Rattle.std.proofs.Common.{append-nil}
use Rattle.std.specs.Prelude.{All, AllPairs, Contains}
use Rattle.std.proofs.lemmas.List.{length-map}
use Rattle.std.proofs.lemmas.List.Elements.{Contains-append_left, Contains-push}
use Rattle.std.proofs.lemmas.List.Elements.{Contains-push_cases}
use Rattle.std.proofs.lemmas.Option.{same_Some}
use Rattle.syn_machine.specs.Coordinator.{AreRising, Exchange, MayWait, Outstanding, Running}
use Rattle.syn_machine.specs.Coordinator.{asked_in, hearing, is_last, is_not_dir}
use Rattle.syn_machine.specs.Coordinator.{numbered, without}
use Rattle.syn_machine.specs.Network.{IsRepeat, Which, is_side, other}
use Rattle.syn_machine.specs.Session.{BothBegun, WasAsked, WasTaken, entries_in, fault_of}
use Rattle.syn_machine.specs.Side.{Begin, Begun, ListAt, Request}
use Rattle.syn_machine.specs.Side as model
use Rattle.syn_machine.proofs.WaitingLemmas.{asked_waits}
use Rattle.syn_message.specs.Requests.{request_of}
use Rattle.syn_message.specs.declared.request.Request.{Request as Asked}
use Rattle.syn_message.specs.declared.request.Request.TheVariants as has
use Rattle.syn_model.specs.Archive as archive
use Rattle.syn_model.specs.Path.{Path}
use Rattle.syn_scan.specs.Asked.{is_out, without as without_path}
use Rattle.syn_session.specs.Scanning.{IsFoundIn, WaitsFor, found_of, out_of}
use Rattle.syn_session.specs.declared.peer.PeerState.{PeerState}
use Rattle.syn_session.specs.declared.hearing.Heard.TheVariants.{Ask}
use Rattle.syn_session.specs.declared.session.Asks.{Asks}
use Rattle.syn_session.specs.declared.session.Session.{Session}
use Rattle.syn_session.specs.Answering.{IsAnswering, asks_of, exchange_of}
use Rattle.syn_session.specs.inner.Listing.{KeepsRequests}
use Rattle.syn_session.specs.Hearing.{HasHeard, IsAsking, ScansOn}
use Rattle.syn_session.specs.Sessions.{IsSession, IsStage, Tells}
use Rattle.syn_session.specs.Stages.{AreOfScan, IsBeginningOrListing, IsOfScan, IsScanning}
use Rattle.syn_session.specs.Stages.{IsFoundOnBoth, IsToBegin, IsToList, begins, lists, found_on}
use Rattle.syn_session.specs.Stages.{peer_of, outstanding_of, reached_by, requests_on, waiting_of}
use Rattle.syn_session.proofs.AnswerLemmas.{heard_so}
use Rattle.syn_session.proofs.HeardNext.{no_begin_in, no_list_in}
use Rattle.syn_session.proofs.HearLemmas.{found_still}
use Rattle.syn_session.proofs.WaitingLemmas.{alone_is, asked_has, first_is, in_filter}
use Rattle.syn_session.proofs.WaitingLemmas.{in_map, its_number, other_number, out_before}
use Rattle.syn_session.proofs.WaitingLemmas.{out_still, same_directory, still_in-filter}
use Rattle.syn_session.proofs.TellingLemmas.{either_nothing, list_not_begin}
use Rattle.syn_session.proofs.TellingLemmas.{not_across, other_side, scans_further, tells_nothing}
use Rattle.syn_path.specs.Sides.{which_of}
use Rattle.syn_path.specs.declared.side.Side.{Side}
use Rattle.syn_model.proofs.BaseLemmas.{and_false, contains_none, contains_one, from_map}
use Rattle.syn_machine.proofs.NetworkLemmas.{on_both}

not_true : (b : Bool) → not b ≡ true → b ≡ false
not_true false e = refl
not_true true e = absurd (true≢false (sym e))

module _ (kept : archive.Archive) (before now : Session) (running : Running) (side : Which)
    (number : ℕ) (request : Request) (reply : model.Reply) (is : IsSession kept before running)
    (answers : IsAnswering before now side number request) (scans : before.progress ≡ None) where
  abbrev exchange : Exchange
  exchange = exchange_of side number request reply

  abbrev heard : Running
  heard = hearing running exchange

  scanning : IsScanning before running.taken (reached_by running)
  scanning = subst (λ c. IsStage kept before c running.taken (reached_by running)) scans is.stage

  left_now : waiting_of (peer_of now side) ≡ without number (waiting_of (peer_of before side))
  left_now = answers.taken.waits (is.peer side).rising

  waited : Contains (requests_on (peer_of before side)) request
  waited = asked_has (waiting_of (peer_of before side)) number request answers.asked

  waits_across : waiting_of (peer_of now (other side))
      ≡ waiting_of (peer_of before (other side))
  waits_across = ap waiting_of answers.across

  -- it was begun or a listing, as what was asked before
  of_scan_then : IsOfScan request → AreOfScan heard.taken
  of_scan_then this one has =
      elim (Contains-push_cases running.taken exchange one has) as (λ _. IsOfScan one.request) [
        | inl had ↦ scanning.of_scan one had
        | inr is_now ↦ subst (λ (e : Exchange). IsOfScan e.request) is_now this
      ]

  still_scans : now.progress ≡ None
  still_scans = answers.progress ∙ scans

  scan_same : (on : Which) → (peer_of now on).scan ≡ (peer_of before on).scan
  scan_same =
      on_both (λ on. (peer_of now on).scan ≡ (peer_of before on).scan) side answers.scan
      (ap (λ (l : PeerState). l.scan) answers.across)

  -- what it told before
  pub tells_before : (session : Session) → session.number ≡ now.number →
      ((on : Which) → found_on session on ≡ found_on now on) → session.progress ≡ now.progress →
      Tells session running
  tells_before session n f c =
      tells_nothing session running (is.number ∙ sym (n ∙ answers.number_is))
      (λ on. subst (λ x. IsFoundIn x on running.taken) (sym (f on ∙ ap found_of (scan_same on)))
      (is.found on)) (c ∙ still_scans) scanning.nothing

  -- while it scans it waits for nothing but a begin or a listing
  neither : ((pair : ℕ) → request ≡ Begin pair → ⊥) → ((path : Path) → request ≡ ListAt path → ⊥) →
      ⊥
  neither no_begin no_list = by scanning.at
    where
      by : IsBeginningOrListing before running.taken → ⊥
      by (begins each) = elim (each side) [
        | inl (pair, e) ↦ no_begin pair
            (sym (contains_one (Begin pair) request (subst (λ l. Contains l request) e waited)))
        | inr (e, pair, position, was) ↦ contains_none request
            (subst (λ l. Contains l request) e waited)
      ]
      by (lists both each) = let it = each side request waited in no_list it.0 it.1

  -- and an answer that does not end it is not the last to an item
  pub not_last : fault_of running.taken side request reply ≡ None → is_last reply ≡ true → ⊥
  not_last fault last = neither
      (λ pair e. scans_further running.taken side (Begin pair) tt reply
      (subst (λ r. fault_of running.taken side r reply ≡ None) e fault) last)
      (λ path e. scans_further running.taken side (ListAt path) tt reply
      (subst (λ r. fault_of running.taken side r reply ≡ None) e fault) last)

  -- what the other side showed stays
  found_across : IsFoundIn (found_on now (other side)) (other side) heard.taken
  found_across =
      subst (λ s. IsFoundIn (found_of s) (other side) heard.taken) (sym (scan_same (other side)))
      (found_still (found_on before (other side)) (other side) running.taken exchange
      (is.found (other side)) (ap (λ b. if b then entries_in reply else 0) (not_across side))
      (ap (λ b. b && is_not_dir reply) (not_across side)) (λ e path _. other_side side e))

  -- ---- a side has begun

  module _ (pair position : ℕ) (begin : request ≡ Begin pair) (said : reply ≡ Begun position) where
    found_begun : IsFoundOnBoth now heard.taken
    found_begun = on_both (λ on. IsFoundIn (found_on now on) on heard.taken) side
        (subst (λ s. IsFoundIn (found_of s) side heard.taken) (sym (scan_same side))
        (found_still (found_on before side) side running.taken exchange (is.found side)
        (ap (λ (r : model.Reply). if is_side side side then entries_in r else 0) said
        ∙ either_nothing (is_side side side))
        (ap (λ (r : model.Reply). is_side side side && is_not_dir r) said
        ∙ and_false (is_side side side))
        (λ _ path e. list_not_begin path pair (sym e ∙ begin))))
        found_across

    pub begun_heard : HasHeard now heard
    begun_heard = record {
      heard_is = heard_so kept before now running number request reply is side answers;
      found = found_begun;
      scans = still_scans;
      reached = scanning.nothing;
      of_scan = of_scan_then (subst IsOfScan (sym begin) tt);
    }

    each_begins : (on : Which) → IsToBegin before running.taken on
    each_begins = by scanning.at
      where
        by : IsBeginningOrListing before running.taken → (on : Which) →
            IsToBegin before running.taken on
        by (begins each) = each
        by (lists both each) =
            let it = each side request waited in
            absurd (list_not_begin it.0 pair (sym it.1 ∙ begin))

    -- so nothing is out
    no_list_waits : (on : Which) (path : Path) →
        Contains (requests_on (peer_of before on)) (ListAt path) → ⊥
    no_list_waits on path has = elim (each_begins on) [
      | inl (asked, e) ↦ list_not_begin path asked (sym (contains_one (Begin asked) (ListAt path)
          (subst (λ l. Contains l (ListAt path)) e has)))
      | inr (e, asked, at, was) ↦ contains_none (ListAt path)
          (subst (λ l. Contains l (ListAt path)) e has)
    ]

    nothing_out : (on : Which) (path : Path) → WaitsFor (peer_of now on).scan path → ⊥
    nothing_out on path waits =
        no_list_waits on path
        (scanning.out on path (subst (λ s. WaitsFor s path) (scan_same on) waits))

    silent_here : waiting_of (peer_of now side) ≡ []
    silent_here =
        left_now ∙ alone_is (waiting_of (peer_of before side)) number request few answers.asked
      where
        few : length (waiting_of (peer_of before side)) ≤ 1
        few =
            let same = length-map (waiting_of (peer_of before side))
            (λ (one : Outstanding). one.request) in
            elim (each_begins side) as (λ _. length (waiting_of (peer_of before side)) ≤ 1) [
              | inl (asked, e) ↦ let one = ap length e in omega (arith, same, one)
              | inr (e, asked, at, was) ↦ let none = ap length e in omega (arith, same, none)
            ]

    begun_now : WasTaken heard.taken side (Begin pair) (Begun position)
    begun_now =
        subst (λ (r : Request). WasTaken heard.taken side r (Begun position)) begin
        (subst (λ (r : model.Reply). WasTaken heard.taken side request r) said
        (number, Contains-push running.taken _))

    was_begun : (on : Which) (p k : ℕ) → WasTaken running.taken on (Begin p) (Begun k) →
        WasTaken heard.taken on (Begin p) (Begun k)
    was_begun on p k was = (was.0, Contains-append_left running.taken _ _ was.1)

    -- the other side has begun too
    module _ (silent : waiting_of (peer_of now (other side)) ≡ []) where
      pub both_begun : BothBegun heard.taken
      both_begun =
          on_both (λ on. (p : ℕ) × (k : ℕ) × WasTaken heard.taken on (Begin p) (Begun k)) side
          (pair, position, begun_now) (elim (each_begins (other side))
          as (λ _. (p : ℕ) × (k : ℕ) × WasTaken heard.taken (other side) (Begin p) (Begun k)) [
            | inl (asked, e) ↦ absurd (contains_none (Begin asked)
                (subst (λ l. Contains l (Begin asked))
                (sym e ∙ ap (map (λ (one : Outstanding). one.request))
                (sym waits_across ∙ silent)) (0, omega arith, refl)))
            | inr was ↦ (was.1, was.2, was_begun (other side) was.1 was.2 was.3)
          ])

      silent_on : (on : Which) → waiting_of (peer_of now on) ≡ []
      silent_on = on_both (λ on. waiting_of (peer_of now on) ≡ []) side silent_here silent

      pub begun_lines : (on : Which) → IsToList now on
      begun_lines on r has =
          absurd (contains_none r (subst (λ w. Contains (map (λ (one : Outstanding). one.request) w)
          r)
          (silent_on on) has))

      pub begun_out : (on : Which) (path : Path) → WaitsFor (peer_of now on).scan path →
          Contains (requests_on (peer_of now on)) (ListAt path)
      begun_out on path waits = absurd (nothing_out on path waits)

    -- the other side is still to begin
    module _ (waits : 1 ≤ length (waiting_of (peer_of now (other side)))) (asks : Asks)
        (nothing : (on : Which) → asks_of asks on ≡ []) where
      waits_then : (on : Which) (later : Session) → IsAsking now later asks →
          waiting_of (peer_of later on) ≡ waiting_of (peer_of now on)
      waits_then on later asking =
          (asking.peer on).waits
          ∙ (ap (λ rs. waiting_of (peer_of now on) ++ numbered (peer_of now on).next_number rs)
          (nothing on) ∙ append-nil (waiting_of (peer_of now on)))

      requests_then : (on : Which) (later : Session) → IsAsking now later asks →
          requests_on (peer_of later on) ≡ requests_on (peer_of now on)
      requests_then on later asking =
          ap (map (λ (one : Outstanding). one.request)) (waits_then on later asking)

      nothing_on : (on : Which) (r : Request) → Contains (asks_of asks on) r → ⊥
      nothing_on on r has = contains_none r (subst (λ rs. Contains rs r) (nothing on) has)

      to_begin : (later : Session) → IsAsking now later asks → (on : Which) →
          IsToBegin later heard.taken on
      to_begin later asking = on_both (λ on. IsToBegin later heard.taken on) side
          (inr (
            requests_then side later asking
                ∙ ap (map (λ (one : Outstanding). one.request)) silent_here,
            pair,
            position,
            begun_now,
          ))
          (elim (each_begins (other side)) as (λ _. IsToBegin later heard.taken (other side)) [
            | inl is_to ↦ inl (
              is_to.0,
              requests_then (other side) later asking
                  ∙ (ap requests_on answers.across ∙ is_to.1),
            )
            | inr was ↦ inr (
              requests_then (other side) later asking ∙ (ap requests_on answers.across
                  ∙ was.0),
              was.1,
              was.2,
              was_begun (other side) was.1 was.2 was.3,
            )
          ])

      may_wait_on : (on : Which) → MayWait (waiting_of (peer_of now on)
          ++ numbered (peer_of now on).next_number (asks_of asks on))
      may_wait_on on =
          subst MayWait (sym (ap (λ rs. waiting_of (peer_of now on)
          ++ numbered (peer_of now on).next_number rs) (nothing on)
          ∙ append-nil (waiting_of (peer_of now on))))
          ((heard_so kept before now running number request reply is side answers).peer on).may

      pub waits_on : ScansOn now heard (Ask asks)
      waits_on archive = record {
        may_wait = may_wait_on;
        fresh = λ on r has. absurd (nothing_on on r has);
        apart =
            λ on. subst (AllPairs (λ one another. ¬ IsRepeat one another)) (sym (nothing on))
            (λ i j d first less. absurd (omega (arith, less)));
        may = λ on r has. absurd (nothing_on on r has);
        some = (other side, omega (arith, waits));
        stage =
            λ later asking. subst (λ c. IsStage archive later c heard.taken (reached_by heard))
            (sym (asking.progress ∙ still_scans)) (record {
              nothing = scanning.nothing;
              of_scan = of_scan_then (subst IsOfScan (sym begin) tt);
              at = begins (to_begin later asking);
              out =
                  λ on path is_out. absurd (nothing_out on path
                  (subst (λ s. WaitsFor s path) (asking.peer on).scan is_out));
            });
      }

  -- ---- a side has listed a directory

  module _ (path : Path) (listing : request ≡ ListAt path) where
    each_lists : BothBegun running.taken × ((on : Which) → IsToList before on)
    each_lists = by scanning.at
      where
        by : IsBeginningOrListing before running.taken →
            BothBegun running.taken × ((on : Which) → IsToList before on)
        by (lists both each) = (both, each)
        by (begins each) = elim (each side) [
          | inl (pair, e) ↦ absurd (list_not_begin path pair (sym (contains_one (Begin pair) request
              (subst (λ l. Contains l request) e waited) ∙ listing)))
          | inr (e, pair, position, was) ↦ absurd (contains_none request
              (subst (λ l. Contains l request) e waited))
        ]

    -- it waits for that
    pub waits_for : WaitsFor (peer_of now side).scan path
    waits_for =
        let it = each_lists.1 side request waited in
        subst (λ s. WaitsFor s path) (sym answers.scan)
        (subst (WaitsFor (peer_of before side).scan)
        (sym (same_directory path it.0 (sym listing ∙ it.1))) it.2)

    pub found_before : IsFoundIn (found_on now side) side running.taken
    found_before =
        subst (λ s. IsFoundIn (found_of s) side running.taken) (sym (scan_same side))
        (is.found side)

    module _ (after : Session) (keeps : KeepsRequests now after side)
        (found : IsFoundIn (found_on after side) side heard.taken)
        (out : out_of (peer_of after side).scan
        ≡ without_path (out_of (peer_of now side).scan) path) where
      waiting_same : (on : Which) → (peer_of after on).waiting ≡ (peer_of now on).waiting
      waiting_same = on_both (λ on. (peer_of after on).waiting ≡ (peer_of now on).waiting) side
          keeps.waits (ap (λ (l : PeerState). l.waiting) keeps.across)

      count_same : (on : Which) → (peer_of after on).next_number ≡ (peer_of now on).next_number
      count_same = on_both (λ on. (peer_of after on).next_number ≡ (peer_of now on).next_number)
          side
          keeps.count (ap (λ (l : PeerState). l.next_number) keeps.across)

      listed_found : IsFoundOnBoth after heard.taken
      listed_found = on_both (λ on. IsFoundIn (found_on after on) on heard.taken) side found
          (subst (λ (l : PeerState). IsFoundIn (found_of l.scan) (other side) heard.taken)
          (sym keeps.across) found_across)

      waits_same : (on : Which) → waiting_of (peer_of after on) ≡ waiting_of (peer_of now on)
      waits_same on = ap (λ w. map outstanding_of w.items) (waiting_same on)

      pub listed_heard : HasHeard after heard
      listed_heard =
          let h = heard_so kept before now running number request reply is side answers in record {
            heard_is = record {
              number = h.number ∙ sym keeps.number_is;
              preference =
                  h.preference
                  ∙ sym (ap (λ (p : Option Side). option_map which_of p) keeps.preference_is);
              lawful = subst (λ n. n < 2 ^ 64) (sym keeps.number_is) h.lawful;
              peer =
                  λ on. record {
                    waits = (h.peer on).waits ∙ sym (waits_same on);
                    count = (h.peer on).count ∙ sym (count_same on);
                    few = subst (λ n. n ≤ 2 ^ 32) (sym (count_same on)) (h.peer on).few;
                    of_session =
                        subst (λ w. All (λ one. one.message.value.session ≡ running.session)
                        w.items)
                        (sym (waiting_same on)) (h.peer on).of_session;
                    rising = subst AreRising (sym (waits_same on)) (h.peer on).rising;
                    below =
                        subst (λ n. All (λ one. one.number < n) (waiting_of (peer_of after on)))
                        (sym (count_same on))
                        (subst (λ w. All (λ one. one.number < (peer_of now on).next_number) w)
                        (sym (waits_same on)) (h.peer on).below);
                    may = subst MayWait (sym (waits_same on)) (h.peer on).may;
                  };
              once = h.once;
            };
            found = listed_found;
            scans = keeps.progress ∙ still_scans;
            reached = scanning.nothing;
            of_scan = of_scan_then (subst IsOfScan (sym listing) tt);
          }

      pub listed_begun : BothBegun heard.taken
      listed_begun on =
          let was = each_lists.0 on in
          (was.0, was.1, (was.2.0, Contains-append_left running.taken _ _ was.2.1))

      across_same : peer_of after (other side) ≡ peer_of before (other side)
      across_same = keeps.across ∙ answers.across

      -- what waits on the side still waited there, under another number
      waits_here : waiting_of (peer_of after side)
          ≡ without number (waiting_of (peer_of before side))
      waits_here = waits_same side ∙ left_now

      out_here : out_of (peer_of after side).scan
          ≡ without_path (out_of (peer_of before side).scan) path
      out_here = out ∙ ap (λ s. without_path (out_of s) path) answers.scan

      -- no other listing that waits is of that directory
      other_directory : (one : Outstanding) (q : Path) →
          Contains (waiting_of (peer_of before side)) one → one.request ≡ ListAt q →
          (one.number == number) ≡ false → q ≢ path
      other_directory one q has asked off same =
          let here = asked_waits (waiting_of (peer_of before side)) number request answers.asked in
          let was_one : WasAsked running side one.number one.request =
          inr (one.resent, subst (λ w. Contains w one) (sym (is.peer side).waits) has) in
          let was_it : WasAsked running side here.0.number here.0.request =
          inr (here.0.resent, subst (λ w. Contains w here.0) (sym (is.peer side).waits) here.1) in
          let repeat : IsRepeat one.request here.0.request =
          subst (λ r. IsRepeat r here.0.request) (sym asked)
          (subst (IsRepeat (ListAt q)) (sym (here.3 ∙ listing)) same) in
          let equal = is.once side one.number here.0.number one.request here.0.request was_one
          was_it repeat in
          true≢false (sym (its_number one.number number (equal ∙ here.2)) ∙ off)

      list_here : IsToList after side
      list_here r has =
          let one = from_map (λ (one : Outstanding). one.request) (waiting_of (peer_of after side))
          r has in
          let was = in_filter (λ one. not (one.number == number))
          (waiting_of (peer_of before side)) one.0
          (subst (λ w. Contains w one.0) waits_here one.1) in
          let it = each_lists.1 side r (subst (Contains (requests_on (peer_of before side))) one.2
          (in_map (λ (one : Outstanding). one.request) (waiting_of (peer_of before side)) one.0
          was.0)) in (
            it.0,
            it.1,
            subst (λ ps. is_out ps it.0 ≡ true) (sym out_here)
                (out_still (out_of (peer_of before side).scan) path it.0
                (other_directory one.0 it.0 was.0 (one.2 ∙ it.1)
                (not_true (one.0.number == number) was.1)) it.2),
          )

      pub listed_lines : (on : Which) → IsToList after on
      listed_lines = on_both (λ on. IsToList after on) side list_here across
        where
          across : IsToList after (other side)
          across r has =
              let it = each_lists.1 (other side) r
              (subst (λ (l : PeerState). Contains (requests_on l) r) across_same has) in
              (it.0, it.1, subst (λ (l : PeerState). WaitsFor l.scan it.0) (sym across_same) it.2)

      out_waits : (q : Path) → WaitsFor (peer_of after side).scan q →
          Contains (requests_on (peer_of after side)) (ListAt q)
      out_waits q waits =
          let was = out_before (out_of (peer_of before side).scan) path q
          (subst (λ ps. is_out ps q ≡ true) out_here waits) in
          let one = from_map (λ (one : Outstanding). one.request)
          (waiting_of (peer_of before side)) (ListAt q) (scanning.out side q was.0) in
          let off : (one.0.number == number) ≡ false =
          other_number one.0.number number (λ same. was.1 (same_directory q path
          (sym one.2 ∙ (same_Some _ _ (sym (first_is (waiting_of (peer_of before side)) one.0
          (is.peer side).rising one.1) ∙ (ap (asked_in (waiting_of (peer_of before side))) same
          ∙ answers.asked)) ∙ listing)))) in
          subst (λ w. Contains (map (λ (one : Outstanding). one.request) w) (ListAt q))
          (sym waits_here) (subst (Contains (map (λ (one : Outstanding). one.request)
          (without number (waiting_of (peer_of before side))))) one.2
          (in_map (λ (one : Outstanding). one.request)
          (without number (waiting_of (peer_of before side))) one.0
          (still_in-filter (λ one. not (one.number == number)) (waiting_of (peer_of before side))
          one.0 one.1 (ap not off))))

      pub listed_out : (on : Which) (q : Path) → WaitsFor (peer_of after on).scan q →
          Contains (requests_on (peer_of after on)) (ListAt q)
      listed_out = on_both (λ on. (q : Path) → WaitsFor (peer_of after on).scan q →
          Contains (requests_on (peer_of after on)) (ListAt q)) side out_waits
          (λ q waits. subst (λ (l : PeerState). Contains (requests_on l) (ListAt q))
          (sym across_same)
          (scanning.out (other side) q
          (subst (λ (l : PeerState). WaitsFor l.scan q) across_same waits)))

pub none_other : (kept : archive.Archive) (before now : Session) (running : Running) (side : Which)
    (number : ℕ) (asked : Asked) (reply : model.Reply) → IsSession kept before running →
    IsAnswering before now side number (request_of asked) → before.progress ≡ None →
    ((x : ℕ) → asked ≡ has.Begin x → ⊥) → ((x : Path) → asked ≡ has.List x → ⊥) → ⊥
none_other kept before now running side number asked reply is answers scans no_begin no_list =
    neither kept before now running side number (request_of asked) reply is answers scans
    (λ pair. no_begin_in asked pair no_begin) (λ path. no_list_in asked path no_list)
