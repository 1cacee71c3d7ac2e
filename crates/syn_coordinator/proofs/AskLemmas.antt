-- A session that asks for what comes next.
use Rattle.std.proofs.Common.{◌≡◌, ◌≤◌, ◌<◌, ◌^◌, ◌⊎◌, ◌+◌, ℕ, zero, suc, Bool, true, false, nat_lt}
use Rattle.std.proofs.Common.{List, [], ◌∷◌, ◌++◌, length, get_or, refl, sym, ap, ap₂, ◌∙◌, subst}
use Rattle.std.proofs.Common.{inl, inr, arith, option_map, Option}
use Rattle.std.specs.Prelude.{All, AllPairs, Contains}
use Rattle.std.specs.List.{count_by}
use Rattle.std.proofs.lemmas.Bool.Decides.{nat_tests}
use Rattle.std.proofs.lemmas.List.{length-append}
use Rattle.std.proofs.lemmas.List.Elements.{All-contains_itself, Contains-append_cases}
use Rattle.std.proofs.lemmas.List.Elements.{Contains-get_or}
use Rattle.syn_machine.specs.Coordinator.{AreRising, AsksNext, AsksOnce, MayAsk, MayWait}
use Rattle.syn_machine.specs.Coordinator.{Outstanding, Running, Waits}
use Rattle.syn_machine.specs.Coordinator.{asked_count, asking, messages_to, numbered, outstanding}
use Rattle.syn_machine.specs.Coordinator.{sent_now}
use Rattle.syn_machine.specs.Network.{IsRepeat, Left, Right, Which, is_side}
use Rattle.syn_machine.specs.Session.{WasAsked}
use Rattle.syn_machine.specs.Side.{Begin, Fetch, IsLawfulBody, IsLawfulRequest, ListAt, Replace}
use Rattle.syn_machine.specs.Side.{Request, Stage}
use Rattle.syn_machine.proofs.Rising.{numbered-rising}
use Rattle.syn_model.specs.Archive.{Archive}
use Rattle.syn_session.specs.declared.session.Asks.{Asks}
use Rattle.syn_session.specs.declared.session.Session.{Session}
use Rattle.syn_session.specs.Answering.{IsAskedOn, IsHeard, asks_of, messages_asked}
use Rattle.syn_session.specs.Hearing.{IsFresh}
use Rattle.syn_session.specs.Sessions.{IsPeer}
use Rattle.syn_session.specs.Stages.{AreOfSession, peer_of, waiting_of}
use Rattle.syn_session.proofs.WaitingLemmas.{below_more}
use Rattle.syn_path.specs.Sides.{which_of}
use Rattle.syn_path.specs.declared.side.Side.{Side}
use Rattle.syn_model.proofs.BaseLemmas.{contains_none}

-- two that ask for the same thing do so in either order
pub repeat_back : (a b : Request) → IsRepeat a b → IsRepeat b a
repeat_back (Begin a) (Begin b) is = tt
repeat_back (Begin a) (ListAt q) is = absurd is
repeat_back (Begin a) (Fetch q l n) is = absurd is
repeat_back (Begin a) (Stage j n e) is = absurd is
repeat_back (Begin a) (Replace j q l y) is = absurd is
repeat_back (ListAt p) (Begin b) is = absurd is
repeat_back (ListAt p) (ListAt q) is = sym is
repeat_back (ListAt p) (Fetch q l n) is = absurd is
repeat_back (ListAt p) (Stage j n e) is = absurd is
repeat_back (ListAt p) (Replace j q l y) is = absurd is
repeat_back (Fetch p k m) (Begin b) is = absurd is
repeat_back (Fetch p k m) (ListAt q) is = absurd is
repeat_back (Fetch p k m) (Fetch q l n) is = (sym is.0, sym is.1)
repeat_back (Fetch p k m) (Stage j n e) is = absurd is
repeat_back (Fetch p k m) (Replace j q l y) is = absurd is
repeat_back (Stage i m d) (Begin b) is = absurd is
repeat_back (Stage i m d) (ListAt q) is = absurd is
repeat_back (Stage i m d) (Fetch q l n) is = absurd is
repeat_back (Stage i m d) (Stage j n e) is = (sym is.0, sym is.1)
repeat_back (Stage i m d) (Replace j q l y) is = absurd is
repeat_back (Replace i p k z) (Begin b) is = absurd is
repeat_back (Replace i p k z) (ListAt q) is = absurd is
repeat_back (Replace i p k z) (Fetch q l n) is = absurd is
repeat_back (Replace i p k z) (Stage j n e) is = absurd is
repeat_back (Replace i p k z) (Replace j q l y) is = sym is

length-numbered : (requests : List Request) (n : ℕ) → length (numbered n requests) ≡ length requests
length-numbered [] n = refl
length-numbered (request ∷ more) n = ap suc (length-numbered more (suc n))

-- where a request stands that is numbered
numbered_at : (count : ℕ) (requests : List Request) (one : Outstanding) →
    Contains (numbered count requests) one → (i : ℕ) × (i < length requests)
    × (one.number ≡ count + i) × ((d : Request) → get_or requests i d ≡ one.request)
numbered_at count [] one has = absurd (contains_none one has)
numbered_at count (request ∷ more) one (zero, h, e) = (
  0,
  omega arith,
  (let at = ap (λ (o : Outstanding). o.number) e in omega (arith, at)),
  λ d. ap (λ (o : Outstanding). o.request) e,
)
numbered_at count (request ∷ more) one (suc k, h, e) =
    let rest = numbered_at (suc count) more one (k, omega (arith, h), e) in (
      suc rest.0,
      (let less = rest.1 in omega (arith, less)),
      (let at = rest.2 in omega (arith, at)),
      rest.3,
    )

module _ (heard : Running) (old new : Session) (asks : Asks) (is : IsHeard old heard)
    (asked : (side : Which) → IsAskedOn old.number (peer_of old side) (peer_of new side)
    (asks_of asks side))
    (number : new.number ≡ old.number) (preferred : new.preference ≡ old.preference)
    (may_wait : (side : Which) → MayWait (waiting_of (peer_of old side)
    ++ numbered (peer_of old side).next_number (asks_of asks side)))
    (apart : (side : Which) → AllPairs (λ one another. ¬ IsRepeat one another)
    (asks_of asks side)) where
  abbrev pub then_asking : Running
  then_asking = asking heard (asks_of asks Left) (asks_of asks Right)

  waits_on : (side : Which) → outstanding heard side ++ numbered (asked_count heard side)
      (asks_of asks side) ≡ waiting_of (peer_of new side)
  waits_on side =
      ap₂ (λ w n. w ++ numbered n (asks_of asks side)) (is.peer side).waits (is.peer side).count
      ∙ sym (asked side).waits

  outstanding_on : (side : Which) → outstanding then_asking side
      ≡ outstanding heard side ++ numbered (asked_count heard side) (asks_of asks side)
  outstanding_on Left = refl
  outstanding_on Right = refl

  sum_on : (side : Which) (c : ℕ) →
      c + length (outstanding heard side ++ numbered (asked_count heard side) (asks_of asks side))
      ≡ c + length (outstanding heard side) + length (asks_of asks side)
  sum_on side c =
      ap (λ n. c + n) (length-append (outstanding heard side) (numbered (asked_count heard side)
      (asks_of asks side)) ∙ ap (λ n. length (outstanding heard side) + n)
      (length-numbered (asks_of asks side) (asked_count heard side)))
      ∙ add c (length (outstanding heard side)) (length (asks_of asks side))
    where
      add : (a b d : ℕ) → a + (b + d) ≡ a + b + d
      add a b d = omega arith

  count_on : (side : Which) → asked_count then_asking side ≡ (peer_of new side).next_number
  count_on Left =
      sum_on Left (count_by (λ one. is_side Left one.side) heard.taken)
      ∙ (ap (λ n. n + length (asks_of asks Left)) (is.peer Left).count ∙ sym (asked Left).count)
  count_on Right =
      sum_on Right (count_by (λ one. is_side Right one.side) heard.taken) ∙ (ap
      (λ n. n + length (asks_of asks Right)) (is.peer Right).count ∙ sym (asked Right).count)

  few_on : (side : Which) → (peer_of new side).next_number ≤ 2 ^ 32
  few_on side = elim (asked side).few as (λ _. (peer_of new side).next_number ≤ 2 ^ 32) [
    | inl none ↦ let same = (asked side).count
        ∙ ap (λ l. (peer_of old side).next_number + length l) none in let was = (is.peer side).few
        in
        omega (arith, same, was)
    | inr few ↦ few
  ]

  pub peer_asked : (side : Which) → IsPeer (peer_of new side) then_asking side
  peer_asked side =
      let was = is.peer side in
      record {
        waits = outstanding_on side ∙ waits_on side;
        count = count_on side;
        few = few_on side;
        of_session =
            subst (λ n. AreOfSession n (peer_of new side)) (sym is.number) ((asked side).of_session
            (subst (λ n. AreOfSession n (peer_of old side)) is.number was.of_session));
        rising =
            subst AreRising (sym (asked side).waits)
            (numbered-rising (waiting_of (peer_of old side)) (peer_of old side).next_number
            (asks_of asks side) was.rising was.below);
        below =
            subst (λ w. All (λ one. one.number < (peer_of new side).next_number) w)
            (sym (asked side).waits) (subst (λ n. All (λ one. one.number < n)
            (waiting_of (peer_of old side)
            ++ numbered (peer_of old side).next_number (asks_of asks side))) (sym (asked
            side).count)
            (below_more (waiting_of (peer_of old side)) (peer_of old side).next_number
            (asks_of asks side) was.below));
        may = subst MayWait (sym (asked side).waits) (may_wait side);
      }

  -- what was asked by then was asked before, or is asked now
  data AskedBy (side : Which) (n : ℕ) (a : Request) : Type 0 where
    before : WasAsked heard side n a → AskedBy side n a
    now : (i : ℕ) → i < length (asks_of asks side) → n ≡ asked_count heard side + i →
        ((d : Request) → get_or (asks_of asks side) i d ≡ a) → AskedBy side n a

  asked_by : (side : Which) (n : ℕ) (a : Request) → WasAsked then_asking side n a → AskedBy side n a
  asked_by side n a (inl taken) = before (inl taken)
  asked_by side n a (inr (k, has)) =
      elim (Contains-append_cases (outstanding heard side)
      (numbered (asked_count heard side) (asks_of asks side)) _
      (subst (λ l. let waits : Outstanding = record { number = n; request = a; resent = k } in
      Contains l waits) (outstanding_on side) has)) as (λ _. AskedBy side n a) [
        | inl was ↦ before (inr (k, was))
        | inr is_new ↦
            let at = numbered_at (asked_count heard side) (asks_of asks side)
            (record { number = n; request = a; resent = k }) is_new in
            now at.0 at.1 at.2 at.3
      ]

  -- two that are asked for now are not the same
  not_twice : (side : Which) (i j : ℕ) (a b : Request) → i < j → j < length (asks_of asks side) →
      ((d : Request) → get_or (asks_of asks side) i d ≡ a) →
      ((d : Request) → get_or (asks_of asks side) j d ≡ b) → IsRepeat a b → ⊥
  not_twice side i j a b first less at_i at_j repeat =
      apart side i j a first less
      (subst (λ q. IsRepeat q (get_or (asks_of asks side) j a)) (sym (at_i a))
      (subst (IsRepeat a) (sym (at_j a)) repeat))

  same_place : (side : Which) (i j : ℕ) (a b : Request) → i < length (asks_of asks side) →
      j < length (asks_of asks side) → ((d : Request) → get_or (asks_of asks side) i d ≡ a) →
      ((d : Request) → get_or (asks_of asks side) j d ≡ b) → IsRepeat a b → i ≡ j
  same_place side i j a b less_i less_j at_i at_j repeat = by (compared i j)
    where
      compared : (i j : ℕ) → (i < j) ⊎ ((j < i) ⊎ (i ≡ j))
      compared i j = by_tests (nat_lt i j) (nat_lt j i) refl refl
        where
          below : (m n : ℕ) → nat_lt m n ≡ true → m < n
          below m n e = grind (arith, nat_tests)

          equal : (m n : ℕ) → nat_lt m n ≡ false → nat_lt n m ≡ false → m ≡ n
          equal m n e f = grind (arith, nat_tests)

          by_tests : (a b : Bool) → nat_lt i j ≡ a → nat_lt j i ≡ b →
              (i < j) ⊎ ((j < i) ⊎ (i ≡ j))
          by_tests true b e f = inl (below i j e)
          by_tests false true e f = inr (inl (below j i f))
          by_tests false false e f = inr (inr (equal i j e f))

      by : (i < j) ⊎ ((j < i) ⊎ (i ≡ j)) → i ≡ j
      by (inl first) = absurd (not_twice side i j a b first less_j at_i at_j repeat)
      by (inr (inl second)) =
          absurd (not_twice side j i b a second less_i at_j at_i (repeat_back a b repeat))
      by (inr (inr same)) = same

  module _ (fresh : (side : Which) (request : Request) → Contains (asks_of asks side) request →
      IsFresh heard side request) where
    asks_once : AsksOnce then_asking
    asks_once side m n a b was_m was_n repeat =
        by (asked_by side m a was_m) (asked_by side n b was_n)
      where
        among : (i : ℕ) (r : Request) → i < length (asks_of asks side) →
            ((d : Request) → get_or (asks_of asks side) i d ≡ r) → Contains (asks_of asks side) r
        among i r less at =
            subst (Contains (asks_of asks side)) (at r)
            (Contains-get_or (asks_of asks side) i r less)

        by : AskedBy side m a → AskedBy side n b → m ≡ n
        by (before x) (before y) = is.once side m n a b x y repeat
        by (before x) (now j less e at) =
            absurd (fresh side b (among j b less at) m a x repeat)
        by (now i less e at) (before y) =
            absurd (fresh side a (among i a less at) n b y (repeat_back a b repeat))
        by (now i less_i e at_i) (now j less_j f at_j) =
            e ∙ (ap (λ k. asked_count heard side + k)
            (same_place side i j a b less_i less_j at_i at_j repeat) ∙ sym f)

    -- it has asked for that
    pub heard_asking : IsHeard new then_asking
    heard_asking =
        record {
          number = is.number ∙ sym number;
          preference =
              is.preference ∙ sym (ap (λ (p : Option Side). option_map which_of p) preferred);
          lawful =
              subst (λ n. n < 2 ^ 64) (sym number) is.lawful;
          peer = peer_asked;
          once = asks_once;
        }

    module _ (archive : Archive) (may : (side : Which) (request : Request) → Contains
        (asks_of asks side) request → MayAsk archive heard side request × IsLawfulBody request)
        (some : (side : Which)
        × (1 ≤ length (waiting_of (peer_of old side)) + length (asks_of asks side))) where
      each : (side : Which) (P : Request → Type 0) →
          ((request : Request) → Contains (asks_of asks side) request → P request) →
          All P (asks_of asks side)
      each side P holds k d less = holds _ (All-contains_itself (asks_of asks side) k d less)

      lawful_each : All (IsLawfulRequest heard.session) (asks_of asks Left ++ asks_of asks Right)
      lawful_each k d less =
          elim (Contains-append_cases (asks_of asks Left) (asks_of asks Right) _
          (All-contains_itself (asks_of asks Left ++ asks_of asks Right) k d less)) [
            | inl has ↦ (subst (λ n. n < 2 ^ 64) (sym is.number) is.lawful, (may Left _ has).1)
            | inr has ↦ (subst (λ n. n < 2 ^ 64) (sym is.number) is.lawful, (may Right _ has).1)
          ]

      may_on : (side : Which) → MayWait (outstanding then_asking side)
      may_on side = subst MayWait (sym (peer_asked side).waits) (peer_asked side).may

      some_on : (side : Which) →
          1 ≤ length (waiting_of (peer_of old side)) + length (asks_of asks side) →
          1 ≤ length (outstanding then_asking side)
      some_on side more =
          let long = ap length ((peer_asked side).waits ∙ (asked side).waits) in
          let both = length-append (waiting_of (peer_of old side))
          (numbered (peer_of old side).next_number (asks_of asks side)) in
          let same = length-numbered (asks_of asks side) (peer_of old side).next_number in
          omega (arith, long, both, same, more)

      one_waits : (side : Which) → 1 ≤ length (outstanding then_asking side) →
          1 ≤ length then_asking.left + length then_asking.right
      one_waits Left more = omega (arith, more)
      one_waits Right more = omega (arith, more)

      waits_then : Waits then_asking
      waits_then = (one_waits some.0 (some_on some.0 some.1), may_on Left, may_on Right)

      -- so that it may go on with that
      pub asks_next : AsksNext archive heard (asks_of asks Left) (asks_of asks Right)
      asks_next = record {
        may_left = each Left (MayAsk archive heard Left) (λ request has. (may Left request has).0);
        may_right =
            each Right (MayAsk archive heard Right) (λ request has. (may Right request has).0);
        lawful = lawful_each;
        numbers = λ side. subst (λ n. n ≤ 2 ^ 32) (sym (count_on side)) (few_on side);
        once = asks_once;
        waits = waits_then;
      }

  -- what it sends is that
  pub sends_that : messages_asked old asks ≡ sent_now heard (asks_of asks Left) (asks_of asks Right)
  sends_that = ap₂ (λ l r. l ++ r) (on Left) (on Right)
    where
      on : (side : Which) →
          messages_to old.number side (numbered (peer_of old side).next_number (asks_of asks side))
          ≡ messages_to heard.session side (numbered (asked_count heard side) (asks_of asks side))
      on side =
          ap₂ (λ n c. messages_to n side (numbered c (asks_of asks side))) (sym is.number)
          (sym (is.peer side).count)
