-- A session lists a directory after the listing that showed it: so its scans stand in order.
use Rattle.std.proofs.Common.{◌≡◌, ◌≢◌, ◌≤◌, ◌⊎◌, ℕ, zero, suc, true, false, not, ◌==◌, true≢false}
use Rattle.std.proofs.Common.{if◌then◌else◌, List, [], ◌∷◌, ◌++◌, refl, sym, ap, ◌∙◌, subst, Option}
use Rattle.std.proofs.Common.{Some, None, arith, inl, inr}
use Rattle.std.specs.Prelude.{Contains, IsSome, slice_get}
use Rattle.std.proofs.lemmas.List.Elements.{Contains-append_left, Contains-append_cases}
use Rattle.std.proofs.lemmas.List.Elements.{Contains-push_cases}
use Rattle.std.proofs.lemmas.Option.{none-some, same_Some}
use Rattle.std.proofs.lemmas.Bool.Decides.{nat_tests}
use Rattle.std.specs.FinMap.{get, find}
use Rattle.syn_model.specs.Path.{Path, Name, name_cmp, root, child, parent}
use Rattle.syn_model.specs.Tree.{Content, Directory, is_directory, is_directory_content}
use Rattle.syn_model.specs.Limits.{children}
use Rattle.syn_model.specs.Dirty.{Scan, is_unstable, IsListedInOrder}
use Rattle.syn_model.specs.Archive.{Archive, Kept}
use Rattle.syn_model.proofs.QuietLemmas.{get-children}
use Rattle.syn_machine.specs.Side.{Request, ListAt, Reply, Listed, NotDir}
use Rattle.syn_machine.specs.Network.{Which, Left, Right, Message, Asks, Answers, Sent}
use Rattle.syn_machine.specs.Network.{NumbersTell, AsksNothingTwice, WasAnswered}
use Rattle.syn_machine.specs.Planning.{Planned, SessionPlan}
use Rattle.syn_machine.specs.Coordinator.{Exchange, Outstanding, Running, Walk, outstanding}
use Rattle.syn_machine.specs.Coordinator.{without, numbered, asked_count, asked_of, asking}
use Rattle.syn_machine.specs.Coordinator.{hearing, advanced, WasTaken, IsShown, MakesPlan}
use Rattle.syn_machine.specs.Coordinator.{messages_to, sent_now}
use Rattle.syn_machine.proofs.Heard.{number_within, sent_to}
use Rattle.syn_runs.proofs.Remembers.{Remembers, waited}
use Rattle.syn_machine.proofs.WaitingLemmas.{asked_waits}
use Rattle.syn_runs.proofs.PlanLemmas.{parent-child}
use Rattle.syn_model.proofs.ShownLemmas.{found_unstable}

-- the position of a listing
abbrev pub position_of : Reply → Option ℕ
position_of (Listed position entries) = Some position
position_of (NotDir position) = Some position
position_of _ = None

-- the path is the root, or a listing that was taken shows a directory there, which is no later than
-- these positions
abbrev pub IsAfter : List Exchange → Which → Path → (ℕ → Type 0) → Type 0
IsAfter taken side path May =
    (path ≡ root)
    ⊎ ((above : Path) × (name : Name) × (position : ℕ) × (entries : List (Name × Content))
    × (path ≡ child above name)
    × WasTaken taken side (ListAt above) (Listed position entries)
    × Contains entries (name, Directory) × ((later : ℕ) → May later → position ≤ later))

-- the side answered the request of that number so
abbrev pub IsSaid : Sent → Which → ℕ → ℕ → ℕ → Type 0
IsSaid sent side session number position =
    (reply : Reply) × Contains sent (Answers side session number reply)
    × (position_of reply ≡ Some position)

pub record ListsInOrder (sent : Sent) (r : Running) : Type 0 where
  pub apart : (side : Which) (one : Outstanding) (e : Exchange) →
      Contains (outstanding r side) one → Contains r.taken e → e.side ≡ side → e.number ≢ one.number
  pub once : (e f : Exchange) → Contains r.taken e → Contains r.taken f → e.side ≡ f.side →
      e.number ≡ f.number → e ≡ f
  pub took : (e : Exchange) (path : Path) (position : ℕ) → Contains r.taken e →
      e.request ≡ ListAt path → position_of e.reply ≡ Some position →
      IsAfter r.taken e.side path (λ later. later ≡ position)
  pub waits : (side : Which) (one : Outstanding) (path : Path) → Contains (outstanding r side) one →
      one.request ≡ ListAt path → IsAfter r.taken side path (IsSaid sent side r.session one.number)

after_more : (taken more : List Exchange) (side : Which) (path : Path) (May May' : ℕ → Type 0) →
    ((n : ℕ) → May' n → May n) → IsAfter taken side path May →
    IsAfter (taken ++ more) side path May'
after_more taken more side path May May' less (inl is) = inl is
after_more taken more side path May May' less
    (inr (above, name, position, entries, is, was, there, later)) =
    inr (
      above,
      name,
      position,
      entries,
      is,
      (was.0, Contains-append_left taken more _ was.1),
      there,
      λ n may. later n (less n may),
    )

pub after_less : (taken : List Exchange) (side : Which) (path : Path) (May May' : ℕ → Type 0) →
    ((n : ℕ) → May' n → May n) → IsAfter taken side path May → IsAfter taken side path May'
after_less taken side path May May' less (inl is) = inl is
after_less taken side path May May' less
    (inr (above, name, position, entries, is, was, there, later)) =
    inr (above, name, position, entries, is, was, there, λ n may. later n (less n may))

-- The rest of a session is no matter of it
pub advanced_in_order : (sent : Sent) (r : Running) (plan : Option (List Planned)) (walk : Walk)
    (kept : List Kept) → ListsInOrder sent r → ListsInOrder sent (advanced r plan walk kept)
advanced_in_order sent r plan walk kept m = record {
  apart =
      λ side. elim side as (λ side. (one : Outstanding) (e : Exchange) →
      Contains (outstanding (advanced r plan walk kept) side) one → Contains r.taken e →
      e.side ≡ side → e.number ≢ one.number) [ Left ↦ m.apart Left | Right ↦ m.apart Right ];
  once = m.once;
  took = m.took;
  waits =
      λ side. elim side as (λ side. (one : Outstanding) (path : Path) →
      Contains (outstanding (advanced r plan walk kept) side) one → one.request ≡ ListAt path →
      IsAfter r.taken side path (IsSaid sent side r.session one.number))
      [ Left ↦ m.waits Left | Right ↦ m.waits Right ];
}

-- what is left of those that wait has other numbers
off_number : (number : ℕ) (waiting : List Outstanding) (one : Outstanding) →
    Contains (without number waiting) one → number ≢ one.number
off_number number [] one c = absurd (omega (arith, c.1))
off_number number (first ∷ waiting) one c =
    elim (first.number == number) as (λ b. (first.number == number) ≡ b → Contains (if not b
    then first ∷ without number waiting else without number waiting) one → number ≢ one.number) [
      | true ↦ λ _ c. off_number number waiting one c
      | false ↦ λ off c. elim (Contains-append_cases (first ∷ []) (without number waiting) one c)
          as (λ _. number ≢ one.number) [
            | inl here ↦ other_number off here
            | inr there ↦ off_number number waiting one there
          ]
    ] refl c
  where
    differs : (m n : ℕ) → (m == n) ≡ false → n ≢ m
    differs m n off e = grind (arith, nat_tests)

    other_number : (first.number == number) ≡ false → Contains (first ∷ []) one →
        number ≢ one.number
    other_number off (zero, h, e) =
        subst (λ o. number ≢ o.number) e (differs first.number number off)
    other_number off (suc k, h, e) = absurd (omega (arith, h))

-- An answer is taken

module _ (sent : Sent) (r : Running) (m : ListsInOrder sent r) (tell : NumbersTell sent)
    (remembers : Remembers sent r) (from : Which) (number : ℕ) (request : Request) (reply : Reply)
    (expected : asked_of r from number ≡ Some request)
    (heard : Contains sent (Answers from r.session number reply)) where
  abbrev exchange : Exchange
  exchange = record { side = from; number = number; request = request; reply = reply }

  abbrev then_ : Running
  then_ = hearing r exchange

  here : (one : Outstanding) × Contains (outstanding r from) one × (one.number ≡ number)
      × (one.request ≡ request)
  here = asked_waits (outstanding r from) number request expected

  was_waiting : (side : Which) (one : Outstanding) → Contains (outstanding then_ side) one →
      Contains (outstanding r side) one
  was_waiting = waited sent r tell remembers from number request reply expected heard

  waits_here : outstanding then_ from ≡ without number (outstanding r from)
  waits_here =
      elim from as (λ from. outstanding
      (hearing r (record { side = from; number = number; request = request; reply = reply })) from
      ≡ without number (outstanding r from)) [ Left ↦ refl | Right ↦ refl ]

  -- no answer of that number was taken before
  fresh_number : (e : Exchange) → Contains r.taken e → e.side ≡ from → e.number ≢ number
  fresh_number e c at same = m.apart from here.0 e here.1 c at (same ∙ sym here.2)

  apart_then : (side : Which) (one : Outstanding) (e : Exchange) →
      Contains (outstanding then_ side) one → Contains (r.taken ++ exchange ∷ []) e →
      e.side ≡ side → e.number ≢ one.number
  apart_then side one e c d at =
      elim (Contains-push_cases r.taken exchange e d) as (λ _. e.number ≢ one.number) [
        | inl was ↦ m.apart side one e (was_waiting side one c) was at
        | inr now ↦
            let is_from : from ≡ side = ap (λ e. e.side) now ∙ at in
            let is_number : number ≡ e.number = ap (λ e. e.number) now in
            subst (λ n. n ≢ one.number) is_number
            (off_number number (outstanding r from) one (subst (λ w. Contains w one) waits_here
            (subst (λ s. Contains (outstanding then_ s) one) (sym is_from) c)))
      ]

  once_then : (e f : Exchange) → Contains (r.taken ++ exchange ∷ []) e →
      Contains (r.taken ++ exchange ∷ []) f → e.side ≡ f.side → e.number ≡ f.number → e ≡ f
  once_then e f c d side same = elim (Contains-push_cases r.taken exchange e c) as (λ _. e ≡ f) [
    | inl was ↦ elim (Contains-push_cases r.taken exchange f d) as (λ _. e ≡ f) [
      | inl too ↦ m.once e f was too side same
      | inr now ↦ absurd (fresh_number e was (side ∙ sym (ap (λ x. x.side) now))
          (same ∙ sym (ap (λ x. x.number) now)))
    ]
    | inr now ↦ elim (Contains-push_cases r.taken exchange f d) as (λ _. e ≡ f) [
      | inl was ↦ absurd (fresh_number f was (sym side ∙ sym (ap (λ x. x.side) now))
          (sym same ∙ sym (ap (λ x. x.number) now)))
      | inr too ↦ sym now ∙ too
    ]
  ]

  took_then : (e : Exchange) (path : Path) (position : ℕ) → Contains (r.taken ++ exchange ∷ []) e →
      e.request ≡ ListAt path → position_of e.reply ≡ Some position →
      IsAfter (r.taken ++ exchange ∷ []) e.side path (λ later. later ≡ position)
  took_then e path position c is at =
      elim (Contains-push_cases r.taken exchange e c)
      as (λ _. IsAfter (r.taken ++ exchange ∷ []) e.side path (λ later. later ≡ position)) [
        | inl was ↦ after_more r.taken (exchange ∷ []) e.side path (λ later. later ≡ position)
            (λ later. later ≡ position) (λ n h. h) (m.took e path position was is at)
        | inr now ↦
            let asked : here.0.request ≡ ListAt path = here.3 ∙ (ap (λ x. x.request) now ∙ is) in
            let said : position_of reply ≡ Some position = ap (λ x. position_of x.reply) now ∙ at in
            subst (λ s. IsAfter (r.taken ++ exchange ∷ []) s path (λ later. later ≡ position))
            (ap (λ x. x.side) now)
            (after_more r.taken (exchange ∷ []) from path (IsSaid sent from r.session here.0.number)
            (λ later. later ≡ position)
            (λ n h. (
              reply,
              subst (λ k. Contains sent (Answers from r.session k reply)) (sym here.2)
                  heard,
              said ∙ ap (λ k. Some k) (sym h),
            )) (m.waits from here.0 path here.1 asked))
      ]

  pub hearing_in_order : ListsInOrder sent then_
  hearing_in_order = record {
    apart = apart_then;
    once = once_then;
    took = took_then;
    waits =
        λ side one path c is. after_more r.taken (exchange ∷ []) side path
        (IsSaid sent side r.session one.number) (IsSaid sent side r.session one.number) (λ n h. h)
        (m.waits side one path (was_waiting side one c) is);
  }

-- More is asked for

pub numbered_request : (from : ℕ) (requests : List Request) (one : Outstanding) →
    Contains (numbered from requests) one → Contains requests one.request
numbered_request from [] one c = absurd (omega (arith, c.1))
numbered_request from (request ∷ more) one (zero, h, e) = (0, omega arith, ap (λ o. o.request) e)
numbered_request from (request ∷ more) one (suc k, h, e) =
    let rest = numbered_request (suc from) more one (k, omega (arith, h), e) in
    (suc rest.0, let w = rest.1 in omega (arith, w), rest.2)

-- the requests for a side
abbrev pub for_side : List Request → List Request → Which → List Request
for_side left right Left = left
for_side left right Right = right

pub no_answer : (session : ℕ) (at : Which) (waiting : List Outstanding) (from : Which) (s n : ℕ)
    (reply : Reply) → Contains (messages_to session at waiting) (Answers from s n reply) → ⊥
no_answer session at waiting from s n reply c =
    let to = sent_to session at waiting (Answers from s n reply) c in
    let x : Asks at session to.0.number to.0.request ≡ Answers from s n reply = to.2 in cc

module _ (sent : Sent) (r : Running) (m : ListsInOrder sent r) (remembers : Remembers sent r)
    (known : (from : Which) (session number : ℕ) (reply : Reply) →
    Contains sent (Answers from session number reply) →
    (request : Request) × Contains sent (Asks from session number request))
    (left right : List Request) (shown : (side : Which) (path : Path) →
    Contains (for_side left right side) (ListAt path) → IsShown r.taken side path) where
  abbrev on : Running
  on = asking r left right

  waits_on : (side : Which) → outstanding on side
      ≡ outstanding r side ++ numbered (asked_count r side) (for_side left right side)
  waits_on Left = refl
  waits_on Right = refl

  waits_more : (side : Which) (one : Outstanding) → Contains (outstanding on side) one →
      Contains (outstanding r side) one
      ⊎ Contains (numbered (asked_count r side) (for_side left right side)) one
  waits_more side one c =
      Contains-append_cases (outstanding r side)
      (numbered (asked_count r side) (for_side left right side)) one
      (subst (λ w. Contains w one) (waits_on side) c)

  above : (side : Which) (one : Outstanding) →
      Contains (numbered (asked_count r side) (for_side left right side)) one →
      asked_count r side ≤ one.number
  above side one c = (number_within (asked_count r side) (for_side left right side) one c).0

  no_answer_now : (from : Which) (s n : ℕ) (reply : Reply) →
      Contains (sent_now r left right) (Answers from s n reply) → ⊥
  no_answer_now from s n reply c =
      elim (Contains-append_cases (messages_to r.session Left (numbered (asked_count r Left) left))
      (messages_to r.session Right (numbered (asked_count r Right) right))
      (Answers from s n reply) c) as (λ _. ⊥) [
        | inl to ↦ no_answer r.session Left (numbered (asked_count r Left) left) from s n reply to
        | inr to ↦ no_answer r.session Right
            (numbered (asked_count r Right) right) from s n reply to
      ]

  said_before : (side : Which) (number position : ℕ) →
      IsSaid (sent ++ sent_now r left right) side r.session number position →
      IsSaid sent side r.session number position
  said_before side number position (reply, c, at) =
      elim (Contains-append_cases sent (sent_now r left right) (Answers side r.session number reply)
      c) as (λ _. IsSaid sent side r.session number position) [
        | inl was ↦ (reply, was, at)
        | inr now ↦ absurd (no_answer_now side r.session number reply now)
      ]

  -- what is asked for now was not answered yet
  unsaid : (side : Which) (one : Outstanding) (position : ℕ) →
      Contains (numbered (asked_count r side) (for_side left right side)) one →
      IsSaid sent side r.session one.number position → ⊥
  unsaid side one position c (reply, was, at) =
      let asked = known side r.session one.number reply was in
      let below = remembers.below side one.number asked.0
      (remembers.asked side one.number asked.0 asked.1) in
      let least = above side one c in
      omega (arith, below, least)

  waits_then : (side : Which) (one : Outstanding) (path : Path) →
      Contains (outstanding on side) one → one.request ≡ ListAt path →
      IsAfter r.taken side path (IsSaid (sent ++ sent_now r left right) side r.session one.number)
  waits_then side one path c is =
      elim (waits_more side one c) as (λ _. IsAfter r.taken side path
      (IsSaid (sent ++ sent_now r left right) side r.session one.number)) [
        | inl was ↦ after_less r.taken side path (IsSaid sent side r.session one.number)
            (IsSaid (sent ++ sent_now r left right) side r.session one.number)
            (λ n. said_before side one.number n) (m.waits side one path was is)
        | inr now ↦ by now (shown side path (subst (Contains (for_side left right side)) is
            (numbered_request (asked_count r side) (for_side left right side) one now)))
      ]
    where
      by : Contains (numbered (asked_count r side) (for_side left right side)) one →
          IsShown r.taken side path → IsAfter r.taken side path
          (IsSaid (sent ++ sent_now r left right) side r.session one.number)
      by now (inl at_root) = inl at_root
      by now (inr (up, name, position, entries, at, was, there)) =
          inr (
            up,
            name,
            position,
            entries,
            at,
            was,
            there,
            λ n h. absurd (unsaid side one n now (said_before side one.number n h)),
          )

  pub asking_in_order : ListsInOrder (sent ++ sent_now r left right) on
  asking_in_order = record {
    apart = λ side one e c d at. elim (waits_more side one c) as (λ _. e.number ≢ one.number) [
      | inl was ↦ m.apart side one e was d at
      | inr now ↦
          let below = remembers.below e.side e.number e.request (inl (e.reply, d)) in
          let least = subst (λ s. asked_count r s ≤ one.number) (sym at) (above side one now) in
          λ same. omega (arith, below, least, same)
    ];
    once = m.once;
    took = m.took;
    waits = waits_then;
  }

-- A session that starts
pub nothing_in_order : (sent : Sent) (r : Running) → r.taken ≡ [] → r.left ≡ [] → r.right ≡ [] →
    ListsInOrder sent r
nothing_in_order sent r taken left right = record {
  apart = λ side one e c d at. absurd (none (subst (λ xs. Contains xs e) taken d));
  once = λ e f c d side same. absurd (none (subst (λ xs. Contains xs e) taken c));
  took = λ e path position c is at. absurd (none (subst (λ xs. Contains xs e) taken c));
  waits =
      λ side. elim side as (λ side. (one : Outstanding) (path : Path) →
      Contains (outstanding r side) one → one.request ≡ ListAt path →
      IsAfter r.taken side path (IsSaid sent side r.session one.number)) [
        | Left ↦ λ one path c is. absurd (none (subst (λ xs. Contains xs one) left c))
        | Right ↦ λ one path c is. absurd (none (subst (λ xs. Contains xs one) right c))
      ];
}
  where
    none : {X : Type 0} {x : X} → Contains [] x → ⊥
    none c = omega (arith, c.1)

-- Beside the session

-- What is said beside a session comes after each listing that was answered before
abbrev pub SaysAfter : Sent → List Message → Type 0
SaysAfter sent more =
    (side : Which) (session number : ℕ) (reply : Reply) (path : Path) (later : ℕ) (above : Path)
    (position : ℕ) (entries : List (Name × Content)) →
    Contains more (Answers side session number reply) →
    Contains sent (Asks side session number (ListAt path)) → position_of reply ≡ Some later →
    WasAnswered sent side session (ListAt above) (Listed position entries) → position ≤ later

pub beside_in_order : (sent more : Sent) (r : Running) → Remembers sent r → SaysAfter sent more →
    ListsInOrder sent r → ListsInOrder (sent ++ more) r
beside_in_order sent more r remembers says m =
    record { apart = m.apart; once = m.once; took = m.took; waits = waits_then }
  where
    by : (side : Which) (one : Outstanding) (path : Path) → Contains (outstanding r side) one →
        one.request ≡ ListAt path →
        IsAfter r.taken side path (IsSaid sent side r.session one.number) →
        IsAfter r.taken side path (IsSaid (sent ++ more) side r.session one.number)
    by side one path c is (inl at_root) = inl at_root
    by side one path c is (inr (above, name, position, entries, at, was, there, later)) = inr (
      above,
      name,
      position,
      entries,
      at,
      was,
      there,
      λ n h. elim (Contains-append_cases sent more (Answers side r.session one.number h.0) h.1)
          as (λ _. position ≤ n) [
            | inl before ↦ later n (h.0, before, h.2)
            | inr now ↦
                let both = remembers.taken (record {
                  side = side;
                  number = was.0;
                  request = ListAt above;
                  reply = Listed position entries;
                }) was.1 in
                says side r.session one.number h.0 path n above position entries now
                (subst (λ q. Contains sent (Asks side r.session one.number q)) is
                (remembers.waiting side one c)) h.2
                (record { number = was.0; asked = both.0; answered = both.1 })
          ],
    )

    waits_then : (side : Which) (one : Outstanding) (path : Path) →
        Contains (outstanding r side) one → one.request ≡ ListAt path →
        IsAfter r.taken side path (IsSaid (sent ++ more) side r.session one.number)
    waits_then side one path c is = by side one path c is (m.waits side one path c is)

-- The scans of a plan

module _ (sent : Sent) (r : Running) (m : ListsInOrder sent r) (remembers : Remembers sent r)
    (repeats : AsksNothingTwice sent) (archive : Archive) (made : SessionPlan)
    (makes : MakesPlan r archive made) (side : Which) where
  abbrev scan : Scan
  scan = made.scan side

  abbrev since : Path → ℕ
  since = made.since side

  steady_above : (path : Path) (name : Name) → is_directory scan.marks (child path name) ≡ true →
      is_unstable scan path ≡ false
  steady_above path name there =
      elim (is_unstable scan path) as (λ b. is_unstable scan path ≡ b → b ≡ false) [
        | false ↦ λ _. refl
        | true ↦ λ u.
            let empty = (makes.scanned side).nothing_below path
            (found_unstable path scan.unstable u) in
            let none = get-children scan.marks path name ∙ ap (λ cs. find name_cmp name cs) empty in
            absurd (true≢false (sym there ∙ ap is_directory_content none))
      ] refl

  -- the directory was answered at its position
  pub answered : (path : Path) → is_directory scan.marks path ≡ true → (reply : Reply)
      × WasTaken r.taken side (ListAt path) reply × (position_of reply ≡ Some (since path))
  answered path there =
      elim (is_unstable scan path) as (λ b. is_unstable scan path ≡ b → (reply : Reply)
      × WasTaken r.taken side (ListAt path) reply × (position_of reply ≡ Some (since path))) [
        | false ↦ λ u. (
          Listed (since path) (children scan.marks path),
          (makes.scanned side).listed path there u,
          refl,
        )
        | true ↦ λ u. (
          NotDir (since path),
          ((makes.scanned side).not_dir path (found_unstable path scan.unstable u)).1,
          refl,
        )
      ] refl

  -- and once alone
  pub same_reply : (path : Path) (one other : Reply) → WasTaken r.taken side (ListAt path) one →
      WasTaken r.taken side (ListAt path) other → one ≡ other
  same_reply path one other was too =
      let a = remembers.taken (record
      { side = side; number = was.0; request = ListAt path; reply = one }) was.1 in
      let b = remembers.taken (record
      { side = side; number = too.0; request = ListAt path; reply = other }) too.1 in
      let same : was.0 ≡ too.0 =
      repeats side r.session was.0 too.0 (ListAt path) (ListAt path) a.0 b.0 refl in
      ap (λ e. e.reply) (m.once _ _ was.1 too.1 refl same)

  same_listing : (path : Path) (position : ℕ) (entries : List (Name × Content)) →
      WasTaken r.taken side (ListAt path) (Listed position entries) →
      is_directory scan.marks path ≡ true → position ≡ since path
  same_listing path position entries was there =
      let other = answered path there in
      same_Some _ _
      (ap position_of (same_reply path (Listed position entries) other.0 was other.1) ∙ other.2)

  pub plan_in_order : IsListedInOrder scan since
  plan_in_order path name there =
      let reply = answered (child path name) there in
      by (m.took _ (child path name) (since (child path name)) reply.1.1 refl reply.2)
    where
      directory : is_directory scan.marks path ≡ true
      directory =
          ap is_directory_content ((makes.scanned side).tree.part.parents path name
          [] (some (get scan.marks (child path name)) there))
        where
          some : (o : Option Content) → is_directory_content o ≡ true → IsSome o
          some None e = absurd (true≢false (sym e))
          some (Some content) e = refl

      by : IsAfter r.taken side (child path name) (λ later. later ≡ since (child path name)) →
          since path ≤ since (child path name)
      by (inl at_root) = absurd (not_root path at_root)
        where
          not_root : (path : Path) → child path name ≡ root → ⊥
          not_root [] e = none-some _ (sym (ap (λ xs. slice_get xs 0) e))
          not_root (first ∷ path) e = none-some _ (sym (ap (λ xs. slice_get xs 0) e))
      by (inr (above, n, position, entries, at, was, shown, later)) =
          let is : above ≡ path = sym (parent-child above n)
          ∙ (ap parent (sym at) ∙ parent-child path name) in
          let there' =
          subst (λ p. WasTaken r.taken side (ListAt p) (Listed position entries)) is was in
          subst (λ k. k ≤ since (child path name))
          (same_listing path position entries there' directory)
          (later (since (child path name)) refl)
