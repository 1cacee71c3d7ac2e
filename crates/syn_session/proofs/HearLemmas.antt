-- What a session that scans comes to with an answer.
use Rattle.std.proofs.Common.{◌≡◌, ◌≤◌, ◌<◌, ◌^◌, ◌⊎◌, ◌+◌, ◌&&◌, ◌||◌, ℕ, Bool, true, false, not}
use Rattle.std.proofs.Common.{List}
use Rattle.std.proofs.Common.{if◌then◌else◌, [], ◌∷◌, ◌++◌, map, Option, refl, sym, ap}
use Rattle.std.proofs.Common.{◌∙◌, subst, inl, inr, arith, append-nil, length, nat_eq, nat_lt, suc}
use Rattle.std.proofs.Common.{zero, Vec, Global, option_map}
use Rattle.std.specs.Prelude.{All, AllPairs, Contains}
use Rattle.std.specs.List.{sum_by}
use Rattle.std.proofs.lemmas.Bool.{and_parts, false≢true}
use Rattle.std.proofs.lemmas.Bool.Decides.{nat_tests}
use Rattle.std.proofs.lemmas.List.{length-map, map-append}
use Rattle.std.proofs.lemmas.List.Elements.{All-contains, Contains-append_cases}
use Rattle.std.proofs.lemmas.List.Elements.{Contains-append_left, Contains-append_right}
use Rattle.std.proofs.lemmas.List.Elements.{Contains-push_cases}
use Rattle.std.proofs.lemmas.List.Folds.{list_any-append}
use Rattle.std.proofs.lemmas.List.Sums.{sum_by-append}
use Rattle.syn_machine.specs.Coordinator.{AreRising, Exchange, MayAsk, MayWait, Outstanding}
use Rattle.syn_machine.specs.Coordinator.{Running, numbered}
use Rattle.syn_machine.specs.Network.{IsRepeat, Left, Right, Which, is_side}
use Rattle.syn_machine.specs.Session.{BothBegun, entries_in, is_not_dir}
use Rattle.syn_machine.specs.Side.{Begin, Fetch, IsLawfulBody, ListAt, Replace, Request, Stage}
use Rattle.syn_model.specs.Path.{Path}
use Rattle.syn_scan.specs.Asked.{AreAllOut, is_out}
use Rattle.syn_scan.specs.Found.{Found, IsWhole, is_open}
use Rattle.syn_session.specs.Scanning.{IsFoundIn, WaitsFor, WasAnswered, asked_of, out_of}
use Rattle.syn_session.specs.Scanning.{told_unstable}
use Rattle.syn_session.specs.declared.peer.PeerState.{PeerState}
use Rattle.syn_session.specs.declared.hearing.Heard.{Heard}
use Rattle.syn_session.specs.declared.hearing.Heard.TheVariants.{Ask, Scanned}
use Rattle.syn_session.specs.declared.session.Asks.{Asks}
use Rattle.syn_session.specs.declared.session.Asks.TheVariants.{Listings}
use Rattle.syn_session.specs.declared.session.Session.{Session}
use Rattle.syn_session.specs.Answering.{asks_of}
use Rattle.syn_session.specs.inner.Listing.{IsListed, IsNextListing, KeepsFound, ListsNext, ListsOn}
use Rattle.syn_session.specs.inner.Listing.{ScansNext, is_silent}
use Rattle.syn_session.specs.Hearing.{HasHeard, IsAsking, IsFresh, IsScanned, ScansOn}
use Rattle.syn_session.specs.Sessions.{IsPeer, IsStage}
use Rattle.syn_session.specs.Stages.{IsFoundOnBoth, IsToList, lists, found_on, peer_of, reached_by}
use Rattle.syn_session.specs.Stages.{requests_on}
use Rattle.syn_session.specs.Stages.{outstanding_of, waiting_of}
use Rattle.syn_session.proofs.WaitingLemmas.{contains_out, in_map, listings_all}
use Rattle.syn_session.proofs.WaitingLemmas.{may_listings, none_wait, numbered_requests}
use Rattle.syn_session.proofs.WaitingLemmas.{out_contains, pairs_map, same_directory}
use Rattle.syn_path.specs.Sides.{which_of}
use Rattle.syn_path.specs.declared.side.Side.{Side}
use Rattle.syn_model.proofs.BaseLemmas.{contains_none, from_map, or_false}

-- ---- what was found stays with an answer that shows nothing there

pub found_still : (found : Found) (side : Which) (taken : List Exchange) (exchange : Exchange) →
    IsFoundIn found side taken →
    (if is_side side exchange.side then entries_in exchange.reply else 0) ≡ 0 →
    (is_side side exchange.side && is_not_dir exchange.reply) ≡ false →
    (exchange.side ≡ side → (path : Path) → exchange.request ≡ ListAt path → ⊥) →
    IsFoundIn found side (taken ++ exchange ∷ [])
found_still found side taken exchange f nothing stable never = record {
  listed =
      λ path position entries was. let had = f.listed path position entries was in
      (had.0, Contains-append_left taken _ _ had.1);
  not_dir =
      λ path position was. let had = f.not_dir path position was in
      (had.0, Contains-append_left taken _ _ had.1);
  nodes =
      ap (λ n. 1 + n) (sum_by-append shows taken (exchange ∷ [])) ∙ (ap
      (λ n. 1 + (sum_by shows taken + (0 + n))) nothing ∙ (add (sum_by shows taken) ∙ f.nodes));
  unstable =
      list_any-append tells taken (exchange ∷ [])
      ∙ (ap (λ b. told_unstable taken side || (b || false)) stable
      ∙ (or_false (told_unstable taken side) ∙ f.unstable));
  only =
      λ one path has at asked. elim (Contains-push_cases taken exchange one has)
      as (λ _. WasAnswered found path) [
        | inl before ↦ f.only one path before at asked
        | inr now ↦ absurd (never (ap (λ (e : Exchange). e.side) now ∙ at) path
            (ap (λ (e : Exchange). e.request) now ∙ asked))
      ];
}
  where
    shows : Exchange → ℕ
    shows one = if is_side side one.side then entries_in one.reply else 0

    tells : Exchange → Bool
    tells one = is_side side one.side && is_not_dir one.reply

    add : (n : ℕ) → 1 + (n + (0 + 0)) ≡ 1 + n
    add n = omega arith

-- ---- what is listed next

no_repeat : (before : Request) (path : Path) → IsRepeat before (ListAt path) → before ≡ ListAt path
no_repeat (Begin pair) path is = absurd is
no_repeat (ListAt at) path is = ap ListAt is
no_repeat (Fetch at since offset) path is = absurd is
no_repeat (Stage item offset bytes) path is = absurd is
no_repeat (Replace item at since size) path is = absurd is

shut_by : (a b : Bool) → (a && not b) ≡ false → (b ≡ true → ⊥) → a ≡ false
shut_by false b e never = refl
shut_by true true e never = absurd (never refl)
shut_by true false e never = e

module _ (session new : Session) (heard : Running) (h : HasHeard session heard)
    (begun : BothBegun heard.taken)
    (listing : (side : Which) → IsToList session side)
    (out : (side : Which) (path : Path) → WaitsFor (peer_of session side).scan path →
    Contains (requests_on (peer_of session side)) (ListAt path))
    (keeps : KeepsFound session new) where
  found_new : IsFoundOnBoth new heard.taken
  found_new side = subst (λ f. IsFoundIn f side heard.taken) (sym (keeps.found side)) (h.found side)

  waiting_new : (side : Which) → waiting_of (peer_of new side) ≡ waiting_of (peer_of session side)
  waiting_new side = ap (λ w. map outstanding_of w.items) (keeps.waits side)

  peer_new : (side : Which) → IsPeer (peer_of new side) heard side
  peer_new side =
      let was = h.heard_is.peer side in record {
        waits = was.waits ∙ sym (waiting_new side);
        count = was.count ∙ sym (keeps.count side);
        few = subst (λ n. n ≤ 2 ^ 32) (sym (keeps.count side)) was.few;
        of_session = subst (λ w. All (λ one. one.message.value.session ≡ heard.session) w.items)
            (sym (keeps.waits side)) was.of_session;
        rising = subst AreRising (sym (waiting_new side)) was.rising;
        below =
            subst (λ n. All (λ one. one.number < n) (waiting_of (peer_of new side)))
            (sym (keeps.count side)) (subst
            (λ w. All (λ one. one.number < (peer_of session side).next_number) w)
            (sym (waiting_new side)) was.below);
        may = subst MayWait (sym (waiting_new side)) was.may;
      }

  pub heard_new : HasHeard new heard
  heard_new = record {
    heard_is =
        record {
          number = h.heard_is.number ∙ sym keeps.number_is;
          preference =
              h.heard_is.preference
              ∙ sym (ap (λ (p : Option Side). option_map which_of p) keeps.preference_is);
          lawful = subst (λ n. n < 2 ^ 64)
              (sym keeps.number_is) h.heard_is.lawful;
          peer = peer_new;
          once = h.heard_is.once;
        };
    found = found_new;
    scans = keeps.progress ∙ h.scans;
    reached = h.reached;
    of_scan = h.of_scan;
  }

  -- where nothing waits nothing is out
  nothing_out : (side : Which) → waiting_of (peer_of new side) ≡ [] → (path : Path) →
      WaitsFor (peer_of session side).scan path → ⊥
  nothing_out side none path is =
      contains_none (ListAt path) (subst (λ w. Contains (map (λ (one : Outstanding). one.request) w)
      (ListAt path)) (sym (waiting_new side) ∙ none) (out side path is))

  scanned_new : IsListed session new → IsScanned new heard
  scanned_new is =
      record { begun = begun; whole = whole; silent = is.silent }
    where
      whole : (side : Which) → IsWhole (found_on new side)
      whole side path =
          shut_by (is_open (found_on new side) path)
          (is_out (out_of (peer_of new side).scan) path) (is.all side path)
          (λ waits. nothing_out side (is.silent side) path
          (subst (λ ps. is_out ps path ≡ true) (is.out side) waits))

  module _ (asks : Asks) (on : ListsOn session new asks) where
    -- a listing that is asked for
    next_listing : (side : Which) (request : Request) → Contains (asks_of asks side) request →
        (path : Path) × (request ≡ ListAt path) × IsNextListing (peer_of session side) path
    next_listing side request has =
        let it = from_map ListAt (on.paths side) request
        (subst (λ rs. Contains rs request) (on.asked side) has) in (
          it.0,
          sym it.2,
          All-contains (IsNextListing (peer_of session side)) (on.paths side)
              it.0 (on.next side).each it.1,
        )

    fresh_listing : (side : Which) (path : Path) → IsNextListing (peer_of session side) path →
        IsFresh heard side (ListAt path)
    fresh_listing side path is n before (inl (reply, has)) repeat =
        is.unanswered ((h.found side).only _ path has refl (no_repeat before path repeat))
    fresh_listing side path is n before (inr (k, has)) repeat =
        let it = listing side before (in_map (λ (one : Outstanding). one.request)
        (waiting_of (peer_of session side)) (record { number = n; request = before; resent = k })
        (subst (λ l. let waits : Outstanding = record {
          number = n;
          request = before;
          resent = k;
        } in Contains l waits) (h.heard_is.peer side).waits has)) in
        is.unasked (subst (WaitsFor (peer_of session side).scan)
        (same_directory it.0 path (sym it.1 ∙ no_repeat before path repeat)) it.2)

    may_wait_on : (side : Which) → MayWait (waiting_of (peer_of new side)
        ++ numbered (peer_of new side).next_number (asks_of asks side))
    may_wait_on side =
        subst (λ rs. MayWait (waiting_of (peer_of new side)
        ++ numbered (peer_of new side).next_number rs)) (sym (on.asked side))
        (subst (λ w. MayWait (w ++ numbered (peer_of new side).next_number
        (map ListAt (on.paths side)))) (sym (waiting_new side))
        (may_listings (waiting_of (peer_of session side)) (peer_of new side).next_number
        (on.paths side) (h.heard_is.peer side).may
        (listings_all (waiting_of (peer_of session side))
        (WaitsFor (peer_of session side).scan) (listing side)) (on.next side).few))

    module _ (later : Session) (asking : IsAsking new later asks) where
      requests_later : (side : Which) → requests_on (peer_of later side)
          ≡ requests_on (peer_of session side) ++ map ListAt (on.paths side)
      requests_later side =
          ap (map (λ (one : Outstanding). one.request)) (asking.peer side).waits
          ∙ (map-append (λ (one : Outstanding). one.request) (waiting_of (peer_of new side))
          (numbered (peer_of new side).next_number (asks_of asks side))
          ∙ (ap (λ l. requests_on (peer_of new side) ++ l)
          (numbered_requests (peer_of new side).next_number (asks_of asks side) ∙ on.asked side)
          ∙ ap (λ w. map (λ (one : Outstanding). one.request) w
          ++ map ListAt (on.paths side)) (waiting_new side)))

      out_later : (side : Which) → out_of (peer_of later side).scan
          ≡ out_of (peer_of session side).scan ++ on.paths side
      out_later side = ap out_of (asking.peer side).scan ∙ (on.next side).out

      to_list : (side : Which) → IsToList later side
      to_list side request has =
          elim (Contains-append_cases (requests_on (peer_of session side))
          (map ListAt (on.paths side)) request
          (subst (λ l. Contains l request) (requests_later side) has))
          as (λ _. (path : Path) × (request ≡ ListAt path)
          × WaitsFor (peer_of later side).scan path) [
            | inl was ↦ let it = listing side request was in (
              it.0,
              it.1,
              subst (λ ps. is_out ps it.0 ≡ true) (sym (out_later side)) (contains_out _ it.0
                  (Contains-append_left (out_of (peer_of session side).scan) (on.paths side) it.0
                  (out_contains (out_of (peer_of session side).scan) it.0 it.2))),
            )
            | inr now ↦ let it = from_map ListAt (on.paths side) request now in (
              it.0,
              sym it.2,
              subst (λ ps. is_out ps it.0 ≡ true) (sym (out_later side)) (contains_out _ it.0
                  (Contains-append_right (out_of (peer_of session side).scan) (on.paths side) it.0
                  it.1)),
            )
          ]

      still_out : (side : Which) (path : Path) → WaitsFor (peer_of later side).scan path →
          Contains (requests_on (peer_of later side)) (ListAt path)
      still_out side path waits =
          subst (λ l. Contains l (ListAt path)) (sym (requests_later side))
          (elim (Contains-append_cases (out_of (peer_of session side).scan) (on.paths side) path
          (out_contains _ path (subst (λ ps. is_out ps path ≡ true) (out_later side) waits)))
          as (λ _. Contains (requests_on (peer_of session side)
          ++ map ListAt (on.paths side)) (ListAt path)) [
            | inl was ↦ Contains-append_left (requests_on (peer_of session side))
                (map ListAt (on.paths side)) (ListAt path) (out side path
                (contains_out (out_of (peer_of session side).scan) path was))
            | inr now ↦ Contains-append_right (requests_on (peer_of session side))
                (map ListAt (on.paths side)) (ListAt path)
                (in_map ListAt (on.paths side) path now)
          ])

    scans_new : ScansOn new heard (Ask asks)
    scans_new archive = record {
      may_wait = may_wait_on;
      fresh =
          λ side request has. let it = next_listing side request has in
          subst (IsFresh heard side) (sym it.1) (fresh_listing side it.0 it.2);
      apart =
          λ side. subst (AllPairs (λ one other. ¬ IsRepeat one other)) (sym (on.asked side))
          (pairs_map (λ one other. ¬ IsRepeat one other) ListAt (on.paths side)
          (on.next side).apart);
      may =
          λ side request has. let it = next_listing side request has in
          subst (λ r. MayAsk archive heard side r × IsLawfulBody r) (sym it.1) (
            (ap (λ r. r.plan) h.reached, begun, it.2.shown side heard.taken (h.found side)),
            it.2.lawful,
          );
      some = on.some;
      stage =
          λ later asking. subst (λ c. IsStage archive later c heard.taken (reached_by heard))
          (sym (asking.progress ∙ (keeps.progress ∙ h.scans))) (record {
            nothing = h.reached;
            of_scan = h.of_scan;
            at = lists begun (to_list later asking);
            out = still_out later asking;
          });
    }

  pub scans_next : (next : Heard) → ScansNext session new next → ScansOn new heard next
  scans_next (Ask asks) on = scans_new asks on
  scans_next Scanned is = scanned_new is

-- ---- whether anything is listed next

quiet_peer : (old new : PeerState) (paths : List Path) → new.waiting ≡ old.waiting →
    ListsNext old new paths → is_silent new paths ≡ true →
    (waiting_of new ≡ []) × (out_of new.scan ≡ out_of old.scan) × AreAllOut (asked_of new.scan)
quiet_peer old new paths same next quiet =
    let both = and_parts (not (nat_lt 0 (length (waiting_of new)))) (nat_eq (length paths) 0) quiet
    in
    let none = none_wait (waiting_of new) (off _ both.0) in
    let nothing = no_paths paths both.1 in
    let was : waiting_of old ≡ [] = ap (λ w. map outstanding_of w.items) (sym same) ∙ none in (
      none,
      next.out ∙ (ap (λ ps. out_of old.scan ++ ps) nothing ∙ append-nil (out_of old.scan)),
      elim next.most as (λ _. AreAllOut (asked_of new.scan)) [
        | inl many ↦
            let zero_waits = ap length was in
            let zero_next = ap length nothing in
            absurd (omega (arith, many, zero_waits, zero_next))
        | inr all ↦ all
      ],
    )
  where
    off : (b : Bool) → not b ≡ true → b ≡ false
    off false e = refl
    off true e = absurd (false≢true e)

    no_paths : (ps : List Path) → nat_eq (length ps) 0 ≡ true → ps ≡ []
    no_paths [] e = refl
    no_paths (path ∷ ps) e = absurd (never (length ps) e)
      where
        never : (n : ℕ) → nat_eq (suc n) 0 ≡ true → ⊥
        never n e = grind (arith, nat_tests)

loud_peer : (new : PeerState) (paths : List Path) → is_silent new paths ≡ false →
    1 ≤ length (waiting_of new) + length paths
loud_peer new paths loud =
    by (length (waiting_of new)) (length paths) loud
  where
    by : (m n : ℕ) → (not (nat_lt 0 m) && nat_eq n 0) ≡ false → 1 ≤ m + n
    by zero zero e = absurd (false≢true (sym e))
    by zero (suc n) e = omega arith
    by (suc m) n e = omega arith

module _ (old new : Session) (left right : Vec Path Global) (left_same : new.left.waiting
    ≡ old.left.waiting) (right_same : new.right.waiting ≡ old.right.waiting)
    (next_left : ListsNext old.left new.left left.items)
    (next_right : ListsNext old.right new.right right.items) where
  pub listed_so : (is_silent new.left left.items && is_silent new.right right.items) ≡ true →
      IsListed old new
  listed_so quiet =
      let both = and_parts (is_silent new.left left.items) (is_silent new.right right.items)
      quiet in
      let l = quiet_peer old.left new.left left.items left_same next_left both.0 in
      let r = quiet_peer old.right new.right right.items right_same next_right both.1 in
      record {
        silent = λ side. elim side as (λ side. waiting_of (peer_of new side) ≡ [])
            [ Left ↦ l.0 | Right ↦ r.0 ];
        out = λ side. elim side as (λ side.
            out_of (peer_of new side).scan ≡ out_of (peer_of old side).scan)
            [ Left ↦ l.1 | Right ↦ r.1 ];
        all = λ side. elim side as (λ side. AreAllOut (asked_of (peer_of new side).scan))
            [ Left ↦ l.2 | Right ↦ r.2 ];
      }

  abbrev paths_of : Which → List Path
  paths_of Left = left.items
  paths_of Right = right.items

  either_loud : (a b : Bool) → (a && b) ≡ false → (a ≡ false) ⊎ (b ≡ false)
  either_loud false b e = inl refl
  either_loud true b e = inr e

  pub lists_so : (is_silent new.left left.items && is_silent new.right right.items) ≡ false →
      ListsOn old new (Listings left right)
  lists_so loud = record {
    paths = paths_of;
    asked =
        λ side. elim side as (λ side. asks_of (Listings left right) side
        ≡ map ListAt (paths_of side)) [ Left ↦ refl | Right ↦ refl ];
    next =
        λ side. elim side as (λ side. ListsNext (peer_of old side) (peer_of new side)
        (paths_of side)) [ Left ↦ next_left | Right ↦ next_right ];
    some =
        elim (either_loud (is_silent new.left left.items) (is_silent new.right right.items) loud)
        as (λ _. (side : Which) × (1 ≤ length (waiting_of (peer_of new side))
        + length (asks_of (Listings left right) side))) [
          | inl l ↦ (
            Left,
            let more = loud_peer new.left left.items l in
                let long = length-map left.items ListAt in omega (arith, more, long),
          )
          | inr r ↦ (
            Right,
            let more = loud_peer new.right right.items r in
                let long = length-map right.items ListAt in omega (arith, more, long),
          )
        ];
  }
