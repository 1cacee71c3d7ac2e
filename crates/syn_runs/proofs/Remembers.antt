-- What the transcript of a session has to do with the messages that were sent, as it takes answers
-- and asks on.
use Rattle.std.proofs.Common.{◌≡◌, ◌≤◌, ◌<◌, ◌+◌, ◌⊎◌, ℕ, Bool, true, false, ◌==◌}
use Rattle.std.proofs.Common.{if◌then◌else◌, List, [], ◌∷◌, ◌++◌, length, get_or, refl}
use Rattle.std.proofs.Common.{sym, ap, ◌∙◌, subst, Option, Some, arith, inl, inr}
use Rattle.std.specs.Prelude.{Contains, All}
use Rattle.std.specs.List.{count_by}
use Rattle.std.proofs.lemmas.Bool.{eqb-true}
use Rattle.std.proofs.lemmas.List.{length-append}
use Rattle.std.proofs.lemmas.List.Elements.{Contains-push, Contains-push_cases}
use Rattle.std.proofs.lemmas.List.Elements.{Contains-append_left, Contains-append_right}
use Rattle.std.proofs.lemmas.List.Elements.{Contains-append_cases, All-contains_itself}
use Rattle.syn_model.specs.Archive.{Kept}
use Rattle.syn_machine.specs.Side.{Request, Reply}
use Rattle.syn_machine.specs.Network.{Which, Left, Right, other, is_side, Asks, Answers, Sent}
use Rattle.syn_machine.specs.Network.{NumbersTell, AsksNothingTwice}
use Rattle.syn_machine.specs.Planning.{Planned}
use Rattle.syn_machine.specs.Coordinator.{Exchange, Outstanding, Running, Walk, outstanding}
use Rattle.syn_machine.specs.Coordinator.{without, asked_of, asked_count, numbered}
use Rattle.syn_machine.specs.Coordinator.{asking, hearing, advanced, WasAsked, AsksOnce}
use Rattle.syn_machine.specs.Coordinator.{messages_to, sent_now, AreRising}
use Rattle.std.proofs.lemmas.List.Sums.{sum_by-append}
use Rattle.syn_machine.proofs.Rising.{without-rising, one_less, numbered-rising}
use Rattle.syn_machine.proofs.NetworkLemmas.{on_both}
use Rattle.syn_machine.proofs.WaitingLemmas.{kept_in-filter, was_in-filter, asked_waits}
use Rattle.syn_machine.proofs.Heard.{TakenWas, number_within, same_number, numbered-length}
use Rattle.syn_machine.proofs.Heard.{sent_to, waits_sent}

pub record Remembers (sent : Sent) (r : Running) : Type 0 where
  pub taken : TakenWas sent r.session r.taken
  pub waiting : (side : Which) (one : Outstanding) → Contains (outstanding r side) one →
      Contains sent (Asks side r.session one.number one.request)
  pub asked : (side : Which) (number : ℕ) (request : Request) →
      Contains sent (Asks side r.session number request) → WasAsked r side number request
  pub below : (side : Which) (number : ℕ) (request : Request) → WasAsked r side number request →
      number < asked_count r side
  pub rising : (side : Which) → AreRising (outstanding r side)

-- The rest of a session is no matter of it
module _ (sent : Sent) (r : Running) (plan : Option (List Planned)) (walk : Walk)
    (kept : List Kept) where
  abbrev later : Running
  later = advanced r plan walk kept

  to_later : (side : Which) (number : ℕ) (request : Request) → WasAsked r side number request →
      WasAsked later side number request
  to_later Left number request h = h
  to_later Right number request h = h

  from_later : (side : Which) (number : ℕ) (request : Request) →
      WasAsked later side number request → WasAsked r side number request
  from_later Left number request h = h
  from_later Right number request h = h

  same_count : (side : Which) → asked_count later side ≡ asked_count r side
  same_count Left = refl
  same_count Right = refl

  waits_later : Remembers sent r → (side : Which) (one : Outstanding) →
      Contains (outstanding later side) one →
      Contains sent (Asks side r.session one.number one.request)
  waits_later m Left one c = m.waiting Left one c
  waits_later m Right one c = m.waiting Right one c

  rising_later : Remembers sent r → (side : Which) → AreRising (outstanding later side)
  rising_later m Left = m.rising Left
  rising_later m Right = m.rising Right

  pub advanced_remembers : Remembers sent r → Remembers sent later
  advanced_remembers m = record {
    taken = m.taken;
    waiting = waits_later m;
    asked = λ side number request c. to_later side number request (m.asked side number request c);
    below =
        λ side number request w. subst (λ n. number < n) (sym (same_count side))
        (m.below side number request (from_later side number request w));
    rising = rising_later m;
  }

-- An answer is taken

-- one, if so
abbrev one_if : Bool → ℕ
one_if b = if b then 1 else 0

count_push : (side : Which) (taken : List Exchange) (exchange : Exchange) →
    count_by (λ e. is_side side e.side) (taken ++ exchange ∷ [])
    ≡ count_by (λ e. is_side side e.side) taken + one_if (is_side side exchange.side)
count_push side taken exchange =
    sum_by-append (λ e. one_if (is_side side e.side)) taken (exchange ∷ [])
    ∙ ap (λ n. count_by (λ e. is_side side e.side) taken + n)
    (last (one_if (is_side side exchange.side)))
  where
    last : (n : ℕ) → 0 + n ≡ n
    last n = omega arith

module _ (sent : Sent) (r : Running) (tell : NumbersTell sent) (m : Remembers sent r) (from : Which)
    (number : ℕ) (request : Request) (reply : Reply)
    (expected : asked_of r from number ≡ Some request)
    (heard : Contains sent (Answers from r.session number reply)) where
  abbrev exchange : Exchange
  exchange = record { side = from; number = number; request = request; reply = reply }

  abbrev then_ : Running
  then_ = hearing r exchange

  here : (one : Outstanding) × Contains (outstanding r from) one × (one.number ≡ number)
      × (one.request ≡ request)
  here = asked_waits (outstanding r from) number request expected

  pub was_sent : Contains sent (Asks from r.session number request)
  was_sent =
      subst (λ q. Contains sent (Asks from r.session number q)) here.3
      (subst (λ n. Contains sent (Asks from r.session n here.0.request)) here.2
      (m.waiting from here.0 here.1))

  -- what waits on the side that answered, and on the other
  waits_here : outstanding then_ from ≡ without number (outstanding r from)
  waits_here =
      elim from as (λ from. outstanding
      (hearing r (record { side = from; number = number; request = request; reply = reply })) from
      ≡ without number (outstanding r from)) [ Left ↦ refl | Right ↦ refl ]

  waits_there : outstanding then_ (other from) ≡ outstanding r (other from)
  waits_there =
      elim from as (λ from. outstanding
      (hearing r (record { side = from; number = number; request = request; reply = reply }))
      (other from) ≡ outstanding r (other from)) [ Left ↦ refl | Right ↦ refl ]

  -- so nothing waits that did not wait
  pub waited : (side : Which) (one : Outstanding) → Contains (outstanding then_ side) one →
      Contains (outstanding r side) one
  waited =
      on_both (λ side. (one : Outstanding) → Contains (outstanding then_ side) one →
      Contains (outstanding r side) one) from
      (λ one c. was_in-filter number (outstanding r from) one
      (subst (λ w. Contains w one) waits_here c))
      (λ one c. subst (λ w. Contains w one) waits_there c)

  waits_still : (side : Which) (n : ℕ) (q : Request) (resent : ℕ) →
      Contains (outstanding r side) (record { number = n; request = q; resent = resent }) →
      WasAsked then_ side n q
  waits_still =
      on_both (λ side. (n : ℕ) (q : Request) (resent : ℕ) → Contains (outstanding r side)
      (record { number = n; request = q; resent = resent }) → WasAsked then_ side n q) from
      (λ n q resent c. elim (n == number) as (λ b. (n == number) ≡ b → WasAsked then_ from n q) [
        | true ↦ λ on.
            let same : n ≡ number = eqb-true n number on in
            let is : request ≡ q = tell from r.session number request q was_sent
            (subst (λ k. Contains sent (Asks from r.session k q)) same
            (m.waiting from (record { number = n; request = q; resent = resent }) c)) in
            inl (
              reply,
              subst (λ k. Contains (r.taken ++ exchange ∷ [])
                  (record { side = from; number = k; request = q; reply = reply })) (sym same)
                  (subst (λ k. Contains (r.taken ++ exchange ∷ []) (record {
                    side = from;
                    number =
                        number;
                    request = k;
                    reply = reply;
                  })) is (Contains-push r.taken exchange)),
            )
        | false ↦ λ off. inr (
          resent,
          subst (λ w. Contains w (record { number = n; request = q; resent = resent }))
              (sym waits_here) (kept_in-filter number (outstanding r from)
              (record { number = n; request = q; resent = resent }) c off),
        )
      ] refl)
      (λ n q resent c. inr (
        resent,
        subst (λ w. Contains w
            (record { number = n; request = q; resent = resent })) (sym waits_there) c,
      ))

  asked_still : (side : Which) (n : ℕ) (q : Request) → WasAsked r side n q → WasAsked then_ side n q
  asked_still side n q (inl taken) =
      inl (taken.0, Contains-append_left r.taken (exchange ∷ []) _ taken.1)
  asked_still side n q (inr waits) = waits_still side n q waits.0 waits.1

  asked_before : (side : Which) (n : ℕ) (q : Request) → WasAsked then_ side n q →
      WasAsked r side n q
  asked_before side n q (inl taken) =
      elim (Contains-push_cases r.taken exchange
      (record { side = side; number = n; request = q; reply = taken.0 }) taken.1)
      as (λ _. WasAsked r side n q) [
        | inl was ↦ inl (taken.0, was)
        | inr now ↦
            let e0 : from ≡ side = ap (λ e. e.side) now in
            let e1 : number ≡ n = ap (λ e. e.number) now in
            let e2 : request ≡ q = ap (λ e. e.request) now in
            subst (λ s. WasAsked r s n q) e0
            (subst (λ k. WasAsked r from k q) e1 (subst (λ k. WasAsked r from number k) e2
            (subst (λ k. WasAsked r from number k) here.3
            (subst (λ k. WasAsked r from k here.0.request) here.2 (inr (here.0.resent, here.1))))))
      ]
  asked_before side n q (inr waits) = inr (waits.0, waited side _ waits.1)

  count_still : (side : Which) → asked_count then_ side ≡ asked_count r side
  count_still = on_both (λ side. asked_count then_ side ≡ asked_count r side) from
      (let pushed = count_push from r.taken exchange in
      let less = one_less (outstanding r from) number request (m.rising from) expected in
      let at : length (outstanding then_ from) ≡ length (without number (outstanding r from)) =
      ap length waits_here in
      let one : one_if (is_side from from) ≡ 1 = itself from in
      omega (arith, pushed, less, at, one))
      (let pushed = count_push (other from) r.taken exchange in
      let at : length (outstanding then_ (other from)) ≡ length (outstanding r (other from)) =
      ap length waits_there in
      let none : one_if (is_side (other from) from) ≡ 0 = another from in
      omega (arith, pushed, at, none))
    where
      itself : (side : Which) → one_if (is_side side side) ≡ 1
      itself Left = refl
      itself Right = refl

      another : (side : Which) → one_if (is_side (other side) side) ≡ 0
      another Left = refl
      another Right = refl

  taken_was : TakenWas sent r.session (r.taken ++ exchange ∷ [])
  taken_was e c =
      elim (Contains-push_cases r.taken exchange e c)
      as (λ _. Contains sent (Asks e.side r.session e.number e.request)
      × Contains sent (Answers e.side r.session e.number e.reply)) [
        | inl was ↦ m.taken e was
        | inr now ↦ subst (λ e. Contains sent (Asks e.side r.session e.number e.request)
            × Contains sent (Answers e.side r.session e.number e.reply)) now (was_sent, heard)
      ]

  rising_then : (side : Which) → AreRising (outstanding then_ side)
  rising_then = on_both (λ side. AreRising (outstanding then_ side)) from
      (subst AreRising (sym waits_here)
      (without-rising number (outstanding r from) (m.rising from)))
      (subst AreRising (sym waits_there) (m.rising (other from)))

  pub hearing_remembers : Remembers sent then_
  hearing_remembers = record {
    taken = taken_was;
    waiting = λ side one c. m.waiting side one (waited side one c);
    asked = λ side n q c. asked_still side n q (m.asked side n q c);
    below =
        λ side n q w. subst (λ k. n < k) (sym (count_still side))
        (m.below side n q (asked_before side n q w));
    rising = rising_then;
  }

-- More is asked for

module _ (sent : Sent) (r : Running) (tell : NumbersTell sent) (m : Remembers sent r)
    (left right : List Request) where
  abbrev on : Running
  on = asking r left right

  abbrev pub asks_of : Which → List Request
  asks_of Left = left
  asks_of Right = right

  waits_on : (side : Which) →
      outstanding on side ≡ outstanding r side ++ numbered (asked_count r side) (asks_of side)
  waits_on Left = refl
  waits_on Right = refl

  count_on : (side : Which) → asked_count on side ≡ asked_count r side + length (asks_of side)
  count_on side =
      let count : asked_count on side
      ≡ count_by (λ e. is_side side e.side) r.taken + length (outstanding on side) = refl in
      let long = ap length (waits_on side)
      ∙ length-append (outstanding r side) (numbered (asked_count r side) (asks_of side)) in
      let more = numbered-length (asked_count r side) (asks_of side) in
      omega (arith, count, long, more)

  -- what is sent now waits, with a number that was not given yet
  pub now_sent : (side : Which) (session n : ℕ) (q : Request) →
      Contains (sent_now r left right) (Asks side session n q) →
      (session ≡ r.session) × (one : Outstanding) × Contains
      (numbered (asked_count r side) (asks_of side)) one × (one.number ≡ n) × (one.request ≡ q)
  now_sent side session n q c =
      elim (Contains-append_cases (messages_to r.session Left (numbered (asked_count r Left) left))
      (messages_to r.session Right (numbered (asked_count r Right) right))
      (Asks side session n q) c) as
      (λ _. (session ≡ r.session) × (one : Outstanding) × Contains
      (numbered (asked_count r side) (asks_of side)) one × (one.number ≡ n) × (one.request ≡ q)) [
        | inl to ↦ by_message Left
            (sent_to r.session Left (numbered (asked_count r Left) left) (Asks side session n q) to)
        | inr to ↦ by_message Right (sent_to r.session Right (numbered (asked_count r Right) right)
            (Asks side session n q) to)
      ]
    where
      by_message : (at : Which) →
          ((one : Outstanding) × Contains (numbered (asked_count r at) (asks_of at)) one
          × (Asks at r.session one.number one.request ≡ Asks side session n q)) →
          (session ≡ r.session) × (one : Outstanding) × Contains
          (numbered (asked_count r side) (asks_of side)) one × (one.number ≡ n) × (one.request ≡ q)
      by_message at found =
          let e = found.2 in
          let e0 : at ≡ side = cc in
          let e1 : session ≡ r.session = cc in
          let e2 : found.0.number ≡ n = cc in
          let e3 : found.0.request ≡ q = cc in (
            e1,
            found.0,
            subst
                (λ s. Contains (numbered (asked_count r s) (asks_of s)) found.0) e0 found.1,
            e2,
            e3,
          )

  now_above : (side : Which) (session n : ℕ) (q : Request) →
      Contains (sent_now r left right) (Asks side session n q) →
      (session ≡ r.session) × (asked_count r side ≤ n)
  now_above side session n q c =
      let at = now_sent side session n q c in
      let within = (number_within (asked_count r side) (asks_of side) at.1 at.2).0 in
      let is : at.1.number ≡ n = at.3 in
      (at.0, omega (arith, within, is))

  before_below : (side : Which) (session n : ℕ) (q : Request) → session ≡ r.session →
      Contains sent (Asks side session n q) → n < asked_count r side
  before_below side session n q e c =
      m.below side n q (m.asked side n q (subst (λ s. Contains sent (Asks side s n q)) e c))

  -- numbers still tell
  pub asking_tells : NumbersTell (sent ++ sent_now r left right)
  asking_tells side session n a b c d =
      elim (Contains-append_cases sent (sent_now r left right) (Asks side session n a) c)
      as (λ _. a ≡ b) [
        | inl was ↦ elim (Contains-append_cases sent (sent_now r left right)
            (Asks side session n b) d) as (λ _. a ≡ b) [
              | inl was' ↦ tell side session n a b was was'
              | inr now ↦
                  let above = now_above side session n b now in
                  let below = before_below side session n a above.0 was in
                  let least = above.1 in
                  absurd (omega (arith, least, below))
            ]
        | inr now ↦ elim (Contains-append_cases sent (sent_now r left right)
            (Asks side session n b) d) as (λ _. a ≡ b) [
              | inl was ↦
                  let above = now_above side session n a now in
                  let below = before_below side session n b above.0 was in
                  let least = above.1 in
                  absurd (omega (arith, least, below))
              | inr now' ↦
                  let x = now_sent side session n a now in
                  let y = now_sent side session n b now' in
                  sym x.4 ∙ (same_number (asked_count r side) (asks_of side) x.1 y.1 x.2 y.2
                  (x.3 ∙ sym y.3) ∙ y.4)
            ]
      ]

  waits_more : (side : Which) (one : Outstanding) → Contains (outstanding on side) one → Contains
      (outstanding r side) one ⊎ Contains (numbered (asked_count r side) (asks_of side)) one
  waits_more side one c =
      Contains-append_cases (outstanding r side) (numbered (asked_count r side) (asks_of side)) one
      (subst (λ w. Contains w one) (waits_on side) c)

  message_of : (side : Which) (one : Outstanding) →
      Contains (numbered (asked_count r side) (asks_of side)) one →
      Contains (sent_now r left right) (Asks side r.session one.number one.request)
  message_of Left one c =
      Contains-append_left (messages_to r.session Left (numbered (asked_count r Left) left))
      (messages_to r.session Right (numbered (asked_count r Right) right)) _
      (waits_sent r.session Left (numbered (asked_count r Left) left) one c)
  message_of Right one c =
      Contains-append_right (messages_to r.session Left (numbered (asked_count r Left) left))
      (messages_to r.session Right (numbered (asked_count r Right) right)) _
      (waits_sent r.session Right (numbered (asked_count r Right) right) one c)

  asked_more : (side : Which) (n : ℕ) (q : Request) → WasAsked r side n q → WasAsked on side n q
  asked_more side n q (inl taken) = inl taken
  asked_more side n q (inr waits) =
      inr (
        waits.0,
        subst (λ w. Contains w (record { number = n; request = q; resent = waits.0 }))
            (sym (waits_on side)) (Contains-append_left (outstanding r side) _ _ waits.1),
      )

  pub asking_remembers : Remembers (sent ++ sent_now r left right) on
  asking_remembers = record {
    taken =
        λ e c. let was = m.taken e c in (
          Contains-append_left sent (sent_now r left right) _ was.0,
          Contains-append_left sent (sent_now r left right) _ was.1,
        );
    waiting =
        λ side one c. elim (waits_more side one c) as (λ _. Contains (sent ++ sent_now r left right)
        (Asks side r.session one.number one.request)) [
          | inl was ↦ Contains-append_left sent (sent_now r left right) _ (m.waiting side one was)
          | inr now ↦ Contains-append_right sent (sent_now r left right) _ (message_of side one now)
        ];
    asked =
        λ side n q c. elim (Contains-append_cases sent (sent_now r left right)
        (Asks side r.session n q) c) as (λ _. WasAsked on side n q) [
          | inl was ↦ asked_more side n q (m.asked side n q was)
          | inr now ↦
              let x = now_sent side r.session n q now in
              let c' : Contains (outstanding on side) x.1 = subst (λ w. Contains w x.1)
              (sym (waits_on side)) (Contains-append_right (outstanding r side) _ x.1 x.2) in
              subst (λ k. WasAsked on side k q) x.3
              (subst (λ k. WasAsked on side x.1.number k) x.4 (inr (x.1.resent, c')))
        ];
    below = λ side n q w. below_more side n q w;
    rising = rising_more;
  }
    where
      below_waiting : (side : Which) →
          All (λ one. one.number < asked_count r side) (outstanding r side)
      below_waiting side k d less =
          let one : Outstanding = get_or (outstanding r side) k d in
          m.below side one.number one.request
          (inr (one.resent, All-contains_itself (outstanding r side) k d less))

      rising_more : (side : Which) → AreRising (outstanding on side)
      rising_more side =
          subst AreRising (sym (waits_on side))
          (numbered-rising (outstanding r side) (asked_count r side) (asks_of side) (m.rising side)
          (below_waiting side))

      below_more : (side : Which) (n : ℕ) (q : Request) → WasAsked on side n q →
          n < asked_count on side
      below_more side n q (inl taken) =
          let was = m.below side n q (inl taken) in
          let more = count_on side in
          omega (arith, was, more)
      below_more side n q (inr waits) =
          elim (waits_more side (record { number = n; request = q; resent = waits.0 }) waits.1)
          as (λ _. n < asked_count on side) [
            | inl was ↦ let below = m.below side n q (inr (waits.0, was)) in
                let more = count_on side in
                omega (arith, below, more)
            | inr now ↦ let within = (number_within (asked_count r side) (asks_of side)
                (record { number = n; request = q; resent = waits.0 }) now).1 in
                let more = count_on side in omega (arith, within, more)
          ]

  -- and nothing is asked twice
  pub asking_once : AsksNothingTwice sent → AsksOnce on →
      AsksNothingTwice (sent ++ sent_now r left right)
  asking_once twice once side session n k a b c d again =
      elim (Contains-append_cases sent (sent_now r left right) (Asks side session n a) c)
      as (λ _. n ≡ k) [
        | inl was ↦ elim (Contains-append_cases sent (sent_now r left right)
            (Asks side session k b) d) as (λ _. n ≡ k) [
              | inl was' ↦ twice side session n k a b was was' again
              | inr now ↦ of_session (now_above side session k b now).0
            ]
        | inr now ↦ of_session (now_above side session n a now).0
      ]
    where
      of_session : session ≡ r.session → n ≡ k
      of_session e =
          once side n k a b (asking_remembers.asked side n a
          (subst (λ s. Contains (sent ++ sent_now r left right) (Asks side s n a)) e c))
          (asking_remembers.asked side k b
          (subst (λ s. Contains (sent ++ sent_now r left right) (Asks side s k b)) e d)) again
